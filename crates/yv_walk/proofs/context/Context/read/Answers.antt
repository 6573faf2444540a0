use Rattle.std.proofs.Common.{◌≡◌, ◌+◌, ◌++◌, [], ◌∷◌, List, ℕ, map, rules, string_bytes, ap, sym, ◌∙◌, subst, append-nil}
use Rattle.serde_json.specs.Data.{member}
use Rattle.serde_json.specs.View.{view, members_view}
use Rattle.yv_values.specs.Count.{count_up}
use Rattle.yv_nodes.specs.Rows.{below, rank, row_at}
use Rattle.yv_nodes.specs.Tree.{Forest}
use Rattle.yv_schema_tables.specs.Sound.{inside, is_known, member_named, object_trees}
use Rattle.yv_walk.specs.Context.{members_len, unknown_names}
use Rattle.yv_walk.specs.Marks.{mark_at}
use Rattle.yv_walk.specs.MemberNodes.{AreKeys}
use Rattle.yv_walk.specs.Existence.{both, existence_of}
use Rattle.yv_walk.specs.WrittenValues.{keep_first, value_at}
use Rattle.yv_walk.proofs.Joins.{both_none}
use Rattle.yv_walk.proofs.Keys.{ordered_keys}
use Rattle.yv_walk.proofs.MemberValues.{AreHeld, held_at, holds_found, holds_none, holds_unknown}
use Rattle.yv_walk.proofs.UnknownMembers.{counted_more, names_known, names_unknown, none_before}
use Rattle.yv_walk.proofs.MemberNodes.{are_named, are_unnamed, data_inside, found_in, held_row, is_held}
use Rattle.yv_walk.proofs.Single.{next, nothing, unknown}
use Rattle.yv_walk.proofs.context.Context.read.Goals as goal

pub loop-key-init : goal.loop-key-init
loop-key-init c =
    let s = c.args.schema.now in
    let p = c.args.parent in
    let all = members_view c.args.members.now.entries in
    let first = members_view c.into_iter-key-iterator.result in
    let start : c.into_iter-key-iterator.result ≡ c.args.members.now.entries = search rules in
    let same : first ≡ all = ap members_view start in
    let none : map (λ k. k.now) c.new-unknown.result.items ≡ [] = ap (map (λ k. k.now)) c.new-unknown.ensures.items in
    record {
      keys = subst (λ e. AreKeys (members_view e)) (sym start) (ordered_keys c.args.members.now.entries c.iter-key-items.ensures.ordered);
      held = subst (λ ms. AreHeld s p (value_at c.new-values.result) ms all) (sym same) (holds_none s p (value_at c.new-values.result) all c.new-values.ensures);
      marks = λ a stands pass. ap (λ x. both x (existence_of (rank a) (below s a) first)) (c.new-marks.ensures a.0) ∙ ap (existence_of (rank a) (below s a)) same;
      names = ap (λ (ks : List (List ℕ)). ks ++ unknown_names (object_trees s p) first) none ∙ ap (unknown_names (object_trees s p)) same;
      steps = ap (λ (n : ℕ). count_up (n + members_len first)) c.new-lookups.ensures ∙ ap count_up (none_before (members_len first)) ∙ ap (λ ms. count_up (members_len ms)) same;
    }

pub loop-key-preserved-in-Continue-branch-2 : goal.loop-key-preserved-in-Continue-branch-2
loop-key-preserved-in-Continue-branch-2 c =
    let s = c.args.schema.now in
    let p = c.args.parent in
    let sound = c.children-children.ensures.sound in
    let ts : Forest = object_trees s p in
    let rest = members_view c.next.new.self in
    let all = members_view c.args.members.now.entries in
    let key = string_bytes c.in-Some.key.now in
    let d = view c.in-Some.value.now in
    let id = c.in-Some-find.id in
    let text : c.as_str.result.now ≡ key = c.as_str.ensures.value in
    let step : members_view c.loop-key.key-iterator ≡ member key d rest = ap members_view c.in-Some.ensures.steps in
    let keys : AreKeys (member key d rest) = subst AreKeys step c.loop-key.invariant.keys in
    let old = value_at c.loop-key.values in
    let held : AreHeld s p old (member key d rest) all = subst (λ ms. AreHeld s p old ms all) step c.loop-key.invariant.held in
    let is = ap (member_named s (inside s p)) (sym text) ∙ sym c.in-Some-find.ensures.value in
    let names = map (λ k. k.now) c.loop-key.unknown.items in
    record {
      keys = keys.1;
      held = holds_found s p old (value_at c.keep.new.self) key d rest all id is
          (λ n. c.in_ok-keep-in-Some-find.ensures n ∙ ap (λ i. keep_first old i d n) c.number.ensures) held;
      marks = λ a stands pass.
          ap (λ x. both x (existence_of (rank a) (below s a) rest)) (c.in_ok-mark_member-in-Some-find.ensures a (held_row s p a sound c.requires stands pass) pass)
          ∙ next (rank a) (below s a) key d rest id (row_at s id).label.defined.kind (mark_at c.loop-key.marks a.0)
          (are_named s p key id a sound c.requires is c.in-Some-find.ensures.child.is_met stands pass) keys.0
          ∙ ap (λ ms. both (mark_at c.loop-key.marks a.0) (existence_of (rank a) (below s a) ms)) (sym step)
          ∙ c.loop-key.invariant.marks a stands pass;
      names = names_known names (unknown_names ts all) ts key d rest (c.in-Some-find.ensures.knows ∙ ap (is_known ts) text)
          (ap (λ ms. names ++ unknown_names ts ms) (sym step) ∙ c.loop-key.invariant.names);
      steps = counted_more c.loop-key.lookups c.find.new.meter (members_len rest) (count_up (members_len all)) c.in-Some-find.ensures.steps
          (ap (λ ms. count_up (c.loop-key.lookups + members_len ms)) (sym step) ∙ c.loop-key.invariant.steps);
    }

pub loop-key-preserved : goal.loop-key-preserved
loop-key-preserved c =
    let s = c.args.schema.now in
    let p = c.args.parent in
    let sound = c.children-children.ensures.sound in
    let ts : Forest = object_trees s p in
    let rest = members_view c.next.new.self in
    let all = members_view c.args.members.now.entries in
    let key = string_bytes c.in-Some.key.now in
    let d = view c.in-Some.value.now in
    let text : c.as_str.result.now ≡ key = c.as_str.ensures.value in
    let step : members_view c.loop-key.key-iterator ≡ member key d rest = ap members_view c.in-Some.ensures.steps in
    let keys : AreKeys (member key d rest) = subst AreKeys step c.loop-key.invariant.keys in
    let values = value_at c.loop-key.values in
    let held : AreHeld s p values (member key d rest) all = subst (λ ms. AreHeld s p values ms all) step c.loop-key.invariant.held in
    let is = ap (member_named s (inside s p)) (sym text) ∙ sym c.in-None-find.ensures.value in
    let names = map (λ k. k.now) c.loop-key.unknown.items in
    record {
      keys = keys.1;
      held = holds_unknown s p values key d rest all is held;
      marks = λ a stands pass.
          ap (both (mark_at c.loop-key.marks a.0)) (sym (unknown (rank a) (below s a) key d rest (are_unnamed s p key a sound c.requires is stands pass)))
          ∙ ap (λ ms. both (mark_at c.loop-key.marks a.0) (existence_of (rank a) (below s a) ms)) (sym step)
          ∙ c.loop-key.invariant.marks a stands pass;
      names = names_unknown names (map (λ k. k.now) c.note.new.unknown.items) (unknown_names ts all) ts key d rest (c.in-None-find.ensures.knows ∙ ap (is_known ts) text)
          (c.in_ok-note-in-None-find.ensures ∙ ap (λ k. names ++ k ∷ []) c.as_str-in-None-find.ensures.value)
          (ap (λ ms. names ++ unknown_names ts ms) (sym step) ∙ c.loop-key.invariant.names);
      steps = counted_more c.loop-key.lookups c.find.new.meter (members_len rest) (count_up (members_len all)) c.in-None-find.ensures.steps
          (ap (λ ms. count_up (c.loop-key.lookups + members_len ms)) (sym step) ∙ c.loop-key.invariant.steps);
    }

pub returns-clause-context : goal.returns-clause-context
returns-clause-context c =
    let s = c.args.schema.now in
    let p = c.args.parent in
    let sound = c.children-children.ensures.sound in
    let all = members_view c.args.members.now.entries in
    let ts : Forest = object_trees s p in
    let step : members_view c.loop-key.key-iterator ≡ members_view [] = ap members_view c.in-None.ensures.steps.0 in
    let values = value_at c.loop-key.values in
    let names = map (λ k. k.now) c.loop-key.unknown.items in
    record {
      values = λ n stands met. held_at s p values all n (subst (λ ms. AreHeld s p values ms all) step c.loop-key.invariant.held)
          (found_in s p n sound c.requires (data_inside s p n (is_held s p n sound stands) met));
      marks = λ a stands pass.
          sym (ap (λ ms. both (mark_at c.loop-key.marks a.0) (existence_of (rank a) (below s a) ms)) step
          ∙ ap (both (mark_at c.loop-key.marks a.0)) (nothing (rank a) (below s a)) ∙ both_none (mark_at c.loop-key.marks a.0))
          ∙ c.loop-key.invariant.marks a stands pass;
      unknown = sym (append-nil names) ∙ ap (λ ms. names ++ unknown_names ts ms) (sym step) ∙ c.loop-key.invariant.names;
    }
