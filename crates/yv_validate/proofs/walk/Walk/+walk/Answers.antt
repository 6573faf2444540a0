use Rattle.std.proofs.Common.{◌≡◌, ◌<◌, ◌≤◌, ℕ, ◌+◌, ◌∷◌, ◌++◌, List, [], true, Bor, Option, is_some, Some, None, option_map, length, length-append, map, min, take, drop, slice_index_or, refl, sym, ap, ◌∙◌, subst, arith, cond}
use Rattle.std.proofs.lemmas.List.{drop_all}
use Rattle.std.proofs.lemmas.Result.{on_ok_weaker}
use Rattle.serde_json.specs.Data.{Data, Members, array, object}
use Rattle.serde_json.specs.declared.value.Value.{Value}
use Rattle.serde_json.proofs.Views.{view-Array, view-Object}
use Rattle.serde_json.specs.View.{view, items_view, members_view}
use Rattle.yv_node_content.specs.Kinds.{is_data, is_operation_or_notification}
use Rattle.yv_node_content.specs.declared.kind.NodeKind.TheVariants as kind
use Rattle.yv_values.specs.Values.{Val}
use Rattle.yv_nodes.specs.declared.node.NodeId.{NodeId}
use Rattle.yv_nodes.specs.Rows.{below, rank, row_at, tree_of}
use Rattle.yv_nodes.specs.Tree.{Tree}
use Rattle.yv_walk.specs.Context.{members_of}
use Rattle.yv_walk.specs.Existence.{any, is_there, passes, existence_of, tree_standing}
use Rattle.yv_walk.specs.declared.existence.Existence.{Existence}
use Rattle.yv_node_keys.specs.Numbers.{default_case_at}
use Rattle.yv_data_leafrefs.specs.Findings.{open_object}
use Rattle.yv_data_leafrefs.specs.InUse.{case_scope, in_use, is_number, scope_in}
use Rattle.yv_data_leafrefs.specs.Meetings.{at, count_entered, entry_met, found_of, in_container, in_no_object, Meeting, at_node, object_met, Spot, top}
use Rattle.yv_data_leafrefs.specs.Place.{Place, step_name}
use Rattle.yv_data_leafrefs.specs.declared.scope.RuleScope.{RuleScope}
use Rattle.yv_data_leafrefs.specs.declared.scope.RuleScope.TheVariants.{Always, InCase, InDefault}
use Rattle.yv_data_faults.specs.declared.fault.FaultKind.TheVariants.{State}
use Rattle.yv_validate.specs.Faults.{array_faults, count_faults, end_faults, flaw_if, leafs_of, state_faults, unique_faults}
use Rattle.yv_validate.specs.InnerMemory.{Remembers, RemembersEach}
use Rattle.yv_data_quiet.specs.NamedLeafs.{is_named, keys_at, uniques_at}
use Rattle.yv_validate.specs.InnerNotes.{GainsBy, list_tuple, noted_at, tuple_in}
use Rattle.yv_data_quiet.specs.Quiet.{IsEmptied}
use Rattle.yv_data_faults.specs.Trails.{places}
use Rattle.yv_validate.specs.InnerWalk.{cases_met, children_met, Closes, container_at, data_met, entries_at, Grows, GrowsWith, inside_at, leaf_at, list_at, next_of, node_at, object_at, one_met, ones_met, plain_at, scope_at, spot_at, ProgressView, progress_view, with_node}
use Rattle.yv_validate.specs.Repeats.{repeat_of}
use Rattle.yv_validate.specs.Values.{leaf_in}
use Rattle.yv_validate.specs.Work.{tuple_work, uniques_work}
use Rattle.yv_validate.proofs.Beneath.{AreKids, ones_drop, ones_start, other_kind}
use Rattle.yv_data_quiet.proofs.Children.{rank_is, split_at}
use Rattle.yv_validate.proofs.NodeKinds.{arm_closes, at_case, at_choice, at_data, at_operation, at_other, choice_closes, data_absent, data_asked, data_left, data_nothing, no_default, other_closes, state_closes}
use Rattle.yv_validate.proofs.ObjectEntry.{container_none, container_open, container_some, object_grows}
use Rattle.yv_validate.proofs.WalkGrowth.{grows_alone, grows_as, grows_nothing, grows_only, grows_with, in_use_other, in_use_unasked, next_behind, not_fewer, turn, visited}
use Rattle.yv_validate.proofs.Items.{end_told, ends, entries_split, entry_grows, many_before, one_more}
use Rattle.yv_validate.proofs.Meeting.{choice_passes, meets_child, meets_object, scope_is}
use Rattle.yv_data_quiet.proofs.ListLeafs.{by_key, by_unique}
use Rattle.yv_validate.proofs.NoteGrowth.{noted_fresh, same_tuple}
use Rattle.yv_validate.proofs.Own.{gains_array, gains_behind, gains_met, gains_none, notes_done, notes_start, notes_turn}
use Rattle.yv_validate.proofs.PassedNodes.{past_notes, past_turn}
use Rattle.yv_validate.proofs.Silent.{emptied_says, one_says, quiet_gains, quiet_grows}
use Rattle.yv_validate.proofs.Steps.{steps_both}
use Rattle.yv_validate.proofs.walk.Walk.+walk.Goals as goal

-- ---- children

pub children-loop-place-init : goal.children-loop-place-init
children-loop-place-init t c =
    let k = c.args.self.now.kind in
    let s = c.args.self.now.schema.now in
    let p = c.args.at.id in
    let kids = c.children-children in
    let cs = kids.result.now in
    let ms = members_of c.args.context.now in
    let of : ℕ → Tree → RuleScope = λ at u. c.args.at.scope in
    let start : ProgressView = progress_view c.args.progress.now in
    let are : AreKids s p cs = record {
      same = kids.ensures.value;
      each = kids.ensures.each;
      trees = kids.ensures.trees;
      sound = kids.ensures.sound;
      numbers = c.child_numbers.ensures s p kids.ensures.sound c.requires.node;
    } in
    record {
      grows = λ outer entry x h. grows_as k s start x _ _ (ones_start k s p cs of (spot_at s c.args.at.path.now c.args.at.position outer entry) (next_of start) ms are) h;
      notes = λ spot next lt. notes_start k s of cs ms spot next c.args.notes.now (children_met k s c.args.at.scope p ms spot next) lt
          (ones_start k s p cs of spot next ms are);
    }

pub children-loop-place-preserved : goal.children-loop-place-preserved
children-loop-place-preserved t c =
    let k = c.args.self.now.kind in
    let s = c.args.self.now.schema.now in
    let p = c.args.at.id in
    let kids = c.children-children in
    let cs = kids.result.now in
    let ms = members_of c.args.context.now in
    let of : ℕ → Tree → RuleScope = λ at u. c.args.at.scope in
    let i = c.loop-place.place in
    let d : NodeId = record { 0 = 0 } in
    let n : NodeId = slice_index_or cs i d in
    let lt = c.loop-place-test.true in
    let left = drop i cs in
    let rest = drop (i + 1) cs in
    let place = c.next_place-place in
    let start : ProgressView = progress_view c.args.progress.now in
    let old : ProgressView = progress_view c.loop-place.progress in
    let mid : ProgressView = progress_view c.meet.new.progress in
    let are : AreKids s p cs = record {
      same = kids.ensures.value;
      each = kids.ensures.each;
      trees = kids.ensures.trees;
      sound = kids.ensures.sound;
      numbers = c.child_numbers.ensures s p kids.ensures.sound c.requires.node;
    } in
    record {
      grows = λ outer entry x later.
          let spot : Spot = spot_at s c.args.at.path.now c.args.at.position outer entry in
          let all : List Meeting = children_met k s c.args.at.scope p ms spot (next_of start) in
          let one : List Meeting = one_met k s (scope_at k s c.args.at.scope n) n ms spot (next_of old) in
          let grows : Grows k s old mid one = c.in_ok-is_passed.ensures.grows outer entry in
          past_turn c.nothing_met.ensures c.met_behind.ensures c.kept_objects_are_entered.ensures k s of ms spot start mid all p cs (i + 1) place.result place.new.meter are place.ensures
          (λ y g. turn c.met_behind.ensures k s start old mid one (ones_met k s of rest ms spot (next_of old + count_entered one)) (ones_met k s of left ms spot (next_of old)) all
          grows (ones_drop k s of spot (next_of old) cs i d ms lt) (c.loop-place.invariant.grows outer entry) y
          (subst (λ (m : ℕ). Grows k s mid y (ones_met k s of rest ms spot m)) (next_behind c.kept_objects_are_entered.ensures k s old mid one grows) g)) x later;
      notes = λ spot next less.
          let all : List Meeting = children_met k s c.args.at.scope p ms spot next in
          past_notes k s of ms spot c.meet.new.notes c.args.notes.now all p cs (i + 1) place.result mid.steps place.new.meter are place.ensures
          (notes_turn k s of n left rest ms spot c.loop-place.notes c.meet.new.notes c.args.notes.now all
          (split_at cs i d lt) (c.loop-place.invariant.notes spot next less) c.in_ok-is_passed.ensures.notes);
    }

pub children-returns-clause-grows : goal.children-returns-clause-grows
children-returns-clause-grows t c =
    let k = c.args.self.now.kind in
    let s = c.args.self.now.schema.now in
    let ms = members_of c.args.context.now in
    let cs = c.children-children.result.now in
    let i = c.loop-place.place in
    let now : ProgressView = progress_view c.loop-place.progress in
    let past : drop i cs ≡ [] = drop_all i cs c.loop-place-test.false in
    λ outer entry. c.loop-place.invariant.grows outer entry now
    (subst (λ (ns : List NodeId). Grows k s now now (ones_met k s (λ at u. c.args.at.scope) ns ms (spot_at s c.args.at.path.now c.args.at.position outer entry) (next_of now)))
    (sym past) (grows_nothing c.nothing_met.ensures k s now))

pub children-returns-clause-notes : goal.children-returns-clause-notes
children-returns-clause-notes t c =
    let k = c.args.self.now.kind in
    let s = c.args.self.now.schema.now in
    let ms = members_of c.args.context.now in
    let cs = c.children-children.result.now in
    let i = c.loop-place.place in
    λ spot next less. notes_done k s (λ at u. c.args.at.scope) (drop i cs) ms spot c.loop-place.notes c.args.notes.now (children_met k s c.args.at.scope c.args.at.id ms spot next)
    (drop_all i cs c.loop-place-test.false) (c.loop-place.invariant.notes spot next less)

-- ---- cases

pub cases-loop-place-init : goal.cases-loop-place-init
cases-loop-place-init t c =
    let k = c.args.self.now.kind in
    let s = c.args.self.now.schema.now in
    let p = c.args.at.id in
    let kids = c.children-children in
    let cs = kids.result.now in
    let ms = members_of c.args.context.now in
    let of = case_scope s p (rank p) (below s p) ms in
    let start : ProgressView = progress_view c.args.progress.now in
    let place = c.pass_quiet-place in
    let le : rank p ≤ length s.nodes = omega (arith, rank_is s p kids.ensures.sound c.requires.node) in
    let are : AreKids s p cs = record {
      same = kids.ensures.value;
      each = kids.ensures.each;
      trees = kids.ensures.trees;
      sound = kids.ensures.sound;
      numbers = c.child_numbers.ensures s p kids.ensures.sound le;
    } in
    record {
      grows = λ outer entry x h.
          let spot : Spot = spot_at s c.args.at.path.now c.args.at.position outer entry in
          past_turn c.nothing_met.ensures c.met_behind.ensures c.kept_objects_are_entered.ensures k s of ms spot start start (cases_met k s p ms spot (next_of start)) p cs 0 place.result place.new.meter are place.ensures
          (λ y g. grows_as k s start y _ _ (ones_start k s p cs of spot (next_of start) ms are) g) x h;
      notes = λ spot next lt. past_notes k s of ms spot c.args.notes.now c.args.notes.now (cases_met k s p ms spot next) p cs 0 place.result start.steps place.new.meter are place.ensures
          (notes_start k s of cs ms spot next c.args.notes.now (cases_met k s p ms spot next) lt (ones_start k s p cs of spot next ms are));
    }

pub cases-loop-place-preserved : goal.cases-loop-place-preserved
cases-loop-place-preserved t c =
    let k = c.args.self.now.kind in
    let s = c.args.self.now.schema.now in
    let p = c.args.at.id in
    let kids = c.children-children in
    let cs = kids.result.now in
    let ms = members_of c.args.context.now in
    let of = case_scope s p (rank p) (below s p) ms in
    let i = c.loop-place.place in
    let d : NodeId = record { 0 = 0 } in
    let n : NodeId = slice_index_or cs i d in
    let lt = c.loop-place-test.true in
    let left = drop i cs in
    let rest = drop (i + 1) cs in
    let place = c.pass_quiet-place-in-loop-place in
    let start : ProgressView = progress_view c.args.progress.now in
    let old : ProgressView = progress_view c.loop-place.progress in
    let mid : ProgressView = progress_view c.meet.new.progress in
    let le : rank p ≤ length s.nodes = omega (arith, rank_is s p kids.ensures.sound c.requires.node) in
    let are : AreKids s p cs = record {
      same = kids.ensures.value;
      each = kids.ensures.each;
      trees = kids.ensures.trees;
      sound = kids.ensures.sound;
      numbers = c.child_numbers.ensures s p kids.ensures.sound le;
    } in
    let meets = meets_child s c.args.context.now p cs i d c.requires.meets kids.ensures.value lt in
    let those : c.existence_of-those.result ≡ tree_standing n.0 (tree_of s n) ms = c.existence_of-those.ensures meets.context meets.stands in
    let scope : c.case_scope-scope.result ≡ of n.0 (tree_of s n) =
    scope_is (any (existence_of (rank p) (below s p) ms)) (default_case_at s.nodes p) n.0 (tree_standing n.0 (tree_of s n) ms) c.fallback-fallback.result c.case_scope-scope.result
    c.fallback-fallback.ensures (c.case_scope-scope.ensures ∙ ap (λ (x : Existence). cond (is_number c.fallback-fallback.result n.0) InDefault (InCase x)) those) in
    record {
      grows = λ outer entry x later.
          let spot : Spot = spot_at s c.args.at.path.now c.args.at.position outer entry in
          let all : List Meeting = cases_met k s p ms spot (next_of start) in
          let at_scope : RuleScope → List Meeting = λ y. one_met k s (scope_at k s y n) n ms spot (next_of old) in
          let one : List Meeting = at_scope (of n.0 (tree_of s n)) in
          let grows : Grows k s old mid one = grows_as k s old mid (at_scope c.case_scope-scope.result) one (ap at_scope scope) (c.in_ok-meet.ensures.grows outer entry) in
          past_turn c.nothing_met.ensures c.met_behind.ensures c.kept_objects_are_entered.ensures k s of ms spot start mid all p cs (i + 1) place.result place.new.meter are place.ensures
          (λ y g. turn c.met_behind.ensures k s start old mid one (ones_met k s of rest ms spot (next_of old + count_entered one)) (ones_met k s of left ms spot (next_of old)) all
          grows (ones_drop k s of spot (next_of old) cs i d ms lt) (c.loop-place.invariant.grows outer entry) y
          (subst (λ (m : ℕ). Grows k s mid y (ones_met k s of rest ms spot m)) (next_behind c.kept_objects_are_entered.ensures k s old mid one grows) g)) x later;
      notes = λ spot next less.
          let all : List Meeting = cases_met k s p ms spot next in
          past_notes k s of ms spot c.meet.new.notes c.args.notes.now all p cs (i + 1) place.result mid.steps place.new.meter are place.ensures
          (notes_turn k s of n left rest ms spot c.loop-place.notes c.meet.new.notes c.args.notes.now all
          (split_at cs i d lt) (c.loop-place.invariant.notes spot next less)
          (subst (λ (y : RuleScope). GainsBy s c.loop-place.notes c.meet.new.notes (one_met k s (scope_at k s y n) n ms)) scope c.in_ok-meet.ensures.notes));
    }

pub cases-returns-clause-grows : goal.cases-returns-clause-grows
cases-returns-clause-grows t c =
    let k = c.args.self.now.kind in
    let s = c.args.self.now.schema.now in
    let p = c.args.at.id in
    let ms = members_of c.args.context.now in
    let of = case_scope s p (rank p) (below s p) ms in
    let cs = c.children-children.result.now in
    let i = c.loop-place.place in
    let now : ProgressView = progress_view c.loop-place.progress in
    let past : drop i cs ≡ [] = drop_all i cs c.loop-place-test.false in
    λ outer entry. c.loop-place.invariant.grows outer entry now
    (subst (λ (ns : List NodeId). Grows k s now now (ones_met k s of ns ms (spot_at s c.args.at.path.now c.args.at.position outer entry) (next_of now)))
    (sym past) (grows_nothing c.nothing_met.ensures k s now))

pub cases-returns-clause-notes : goal.cases-returns-clause-notes
cases-returns-clause-notes t c =
    let k = c.args.self.now.kind in
    let s = c.args.self.now.schema.now in
    let p = c.args.at.id in
    let ms = members_of c.args.context.now in
    let of = case_scope s p (rank p) (below s p) ms in
    let cs = c.children-children.result.now in
    let i = c.loop-place.place in
    λ spot next less. notes_done k s of (drop i cs) ms spot c.loop-place.notes c.args.notes.now (cases_met k s p ms spot next)
    (drop_all i cs c.loop-place-test.false) (c.loop-place.invariant.notes spot next less)

-- ---- objects

pub object-returns-clause-grows : goal.object-returns-clause-grows
object-returns-clause-grows t c =
    let k = c.args.self.now.kind in
    let s = c.args.self.now.schema.now in
    let id = c.args.at.id in
    let path = places s c.args.at.path.now in
    let ms = members_view c.args.members.now.entries in
    let number = c.in_ok-position.position in
    let begun = c.enter-2.new.self in
    let start : ProgressView = record { faults = c.enter.new.faults.items; found = begun; steps = c.enter.new.meter } in
    let walked : ProgressView = progress_view c.inside.new.progress in
    λ outer entry around. object_grows c.object_met.ensures k s id c.args.item path outer entry c.args.at.position number ms (progress_view c.args.progress.now) begun
    c.enter.new.faults.items c.enter.new.meter walked c.leave.new.self around c.in_ok-position.ensures.number
    c.in_ok-position.ensures.positions c.in_ok-position.ensures.indexes c.in_ok-position.ensures.uses c.in_ok-position.ensures.notes
    c.in_ok-context.ensures.faults c.in_ok-context.ensures.steps
    (subst (λ (ds : Members). Grows k s start walked (children_met k s Always id ds (record { path = path; around = number ∷ outer; entry = entry }) (length begun.positions)))
    c.in_ok-context.ensures.members (c.in_ok-inside.ensures.grows outer entry))
    c.leave.ensures.positions c.leave.ensures.indexes c.leave.ensures.uses c.leave.ensures.notes

pub object-returns-clause-notes : goal.object-returns-clause-notes
object-returns-clause-notes t c =
    let k = c.args.self.now.kind in
    let s = c.args.self.now.schema.now in
    subst (λ (ds : Members). GainsBy s c.args.notes.now c.inside.new.notes (children_met k s Always c.args.at.id ds)) c.in_ok-context.ensures.members c.in_ok-inside.ensures.notes

pub inside-returns-in-Some-clause-grows : goal.inside-returns-in-Some-clause-grows
inside-returns-in-Some-clause-grows t c =
    let k = c.args.self.now.kind in
    let s = c.args.self.now.schema.now in
    let p = c.args.at.id in
    let ms = members_of c.args.context.now in
    let old : ProgressView = progress_view c.args.progress.now in
    let is : IsEmptied s p ms c.in-Some.steps = subst (λ (ds : Members). IsEmptied s p ds c.in-Some.steps) (sym c.requires.members) c.in-Some.ensures in
    λ outer entry.
    let spot : Spot = spot_at s c.args.at.path.now c.args.at.position outer entry in
    quiet_grows c.nothing_met.ensures k s old c.visit_all.new.self c.in-Some.steps (children_met k s Always p ms spot (next_of old))
    (emptied_says k s p ms spot (next_of old) c.in-Some.steps is) c.visit_all.ensures

pub inside-returns-in-Some-clause-notes : goal.inside-returns-in-Some-clause-notes
inside-returns-in-Some-clause-notes t c =
    let k = c.args.self.now.kind in
    let s = c.args.self.now.schema.now in
    let p = c.args.at.id in
    let ms = members_of c.args.context.now in
    let is : IsEmptied s p ms c.in-Some.steps = subst (λ (ds : Members). IsEmptied s p ds c.in-Some.steps) (sym c.requires.members) c.in-Some.ensures in
    quiet_gains k s c.args.notes.now c.in-Some.steps (children_met k s Always p ms) (λ spot next. emptied_says k s p ms spot next c.in-Some.steps is)

-- ---- entries

pub entries-loop-index-preserved : goal.entries-loop-index-preserved
entries-loop-index-preserved t c =
    let k = c.args.self.now.kind in
    let s = c.args.self.now.schema.now in
    let id = c.args.at.id in
    let l = (row_at s id).label in
    let leafs = leafs_of s id l in
    let f = list_tuple k s id in
    let xs = c.args.items.now.items in
    let i = c.loop-index.index in
    let x = c.item-item.result in
    let d = view x in
    let done = map view (take i xs) in
    let lt : i < length xs = subst (λ (ys : List Value). i < length ys) c.deref-item-items.ensures.value (omega arith) in
    let is : x ≡ slice_index_or xs i x = c.item-item.is ∙ ap (λ (ys : List Value). slice_index_or ys i x) c.deref-item-items.ensures.value in
    let has = c.in_ok-notes.ensures.tuples in
    let keys : f leafs.keys d ≡ c.in_ok-tuple.tuple = sym has.keys
    ∙ ap (tuple_in s c.in_ok-notes.notes) (sym c.keys-leafs.ensures) ∙ sym c.in_ok-tuple.ensures in
    let stood = c.in_ok-first.ensures.tells in
    let which = c.in_ok-first.first in
    let same : which ≡ repeat_of (f leafs.keys) done d = stood.same (f leafs.keys) done d c.loop-index.invariant.keys keys in
    let earlier : map view (take i c.deref.result.now) ≡ done = ap (λ (ys : List Value). map view (take i ys)) c.deref.ensures.value in
    let first : rank id ≡ id.0 + 1 = rank_is s id c.node-node.ensures.sound c.requires.node in
    let many : length done ≡ i = many_before xs i lt in
    let place : i + 1 ≡ length done + 1 = ap (λ m. m + 1) (sym many) in
    let start : ProgressView = progress_view c.args.progress.now in
    let old : ProgressView = progress_view c.loop-index.progress in
    let mid : ProgressView = progress_view c.entry.new.progress in
    let new : ProgressView = record { faults = c.end_uniques.new.faults.items; found = c.entry.new.progress.found; steps = c.end_uniques.new.meter } in
    let here : ℕ → List Place = λ m. places s c.args.at.path.now ++ record { member = step_name l; item = Some m } ∷ [] in
    let uniques : c.end_uniques.new.faults.items ≡ c.tell_repeat.new.faults.items ++ unique_faults f (here (i + 1)) 1 leafs.uniques done d =
    subst (λ (ds : List Data). c.end_uniques.new.faults.items ≡ c.tell_repeat.new.faults.items ++ unique_faults f (here (i + 1)) 1 leafs.uniques ds d) earlier (c.in_ok-end_uniques.ensures.faults d has) in
    let ended = end_told leafs f (here (i + 1)) done d mid.faults c.tell_repeat.new.faults.items c.end_uniques.new.faults.items which same c.in_ok-tell_repeat.ensures uniques in
    record {
      grows = λ outer entry y later.
          let spot : Spot = spot_at s c.args.at.path.now c.args.at.position outer entry in
          let one : List Meeting = entry_met id l (below s id) spot (next_of old) done d (inside_at k s id) in
          let grows : Grows k s old new one =
          entry_grows c.met_behind.ensures k s id (places s c.args.at.path.now) c.args.at.position outer entry (next_of old) (i + 1) done d old mid new place
          (c.in_ok-notes.ensures.grows outer)
          (ends c.nothing_met.ensures k s id spot done d mid new.faults new.steps first
          (subst (λ (m : ℕ). new.faults ≡ mid.faults ++ end_faults leafs f (here m) done d) place ended)
          (steps_both mid.steps c.stood_before.new.meter new.steps (tuple_work (f leafs.keys d)) (uniques_work f leafs.uniques d)
          (c.in_ok-first.ensures.steps ∙ ap (λ (o : Option (List Val)). min (mid.steps + tuple_work o) 18446744073709551615) (sym keys))
          (c.in_ok-end_uniques.ensures.steps d has))) in
          turn c.met_behind.ensures k s start old new one
          (entries_at k s id (map view (take (i + 1) xs)) (items_view (drop (i + 1) xs)) spot (next_of old + count_entered one))
          (entries_at k s id done (items_view (drop i xs)) spot (next_of old)) (entries_at k s id [] (items_view xs) spot (next_of start))
          grows (entries_split k s id spot (next_of old) xs i x lt is) (c.loop-index.invariant.grows outer entry) y
          (subst (λ (m : ℕ). Grows k s new y (entries_at k s id (map view (take (i + 1) xs)) (items_view (drop (i + 1) xs)) spot m))
          (next_behind c.kept_objects_are_entered.ensures k s old new one grows) later);
      keys = subst (Remembers c.stood_before.new.kept (f leafs.keys)) (sym (one_more xs i x lt is)) (stood.next (f leafs.keys) done d (sym place) c.loop-index.invariant.keys keys);
      uniques = subst (RemembersEach c.end_uniques.new.kept.items f leafs.uniques) (ap (λ (ds : List Data). ds ++ d ∷ []) earlier ∙ sym (one_more xs i x lt is)) (c.in_ok-end_uniques.ensures.keeps d has);
    }

pub entries-returns : goal.entries-returns
entries-returns t c =
    let k = c.args.self.now.kind in
    let s = c.args.self.now.schema.now in
    let id = c.args.at.id in
    let xs = c.args.items.now.items in
    let i = c.loop-index.index in
    let now : ProgressView = progress_view c.loop-index.progress in
    let done = map view (take i xs) in
    let le : length xs ≤ i = subst (λ (ys : List Value). length ys ≤ i) c.deref-item-items.ensures.value (omega (arith, c.loop-index-test.false)) in
    record {
      grows = λ outer entry. c.loop-index.invariant.grows outer entry now
          (subst (λ (ys : List Value). Grows k s now now (entries_at k s id done (items_view ys) (spot_at s c.args.at.path.now c.args.at.position outer entry) (next_of now)))
          (sym (drop_all i xs le)) (grows_nothing c.nothing_met.ensures k s now));
    }

pub entry-returns-in_ok-object-in-Object-clause-tuples : goal.entry-returns-in_ok-object-in-Object-clause-tuples
entry-returns-in_ok-object-in-Object-clause-tuples t c =
    let k = c.args.self.now.kind in
    let s = c.args.self.now.schema.now in
    let id = c.args.at.id in
    let ms = members_view c.in-Object.members.entries in
    let new = c.object.new.notes in
    let value : ℕ → Option Val = leaf_in k s (rank id) (below s id) (object ms) in
    let doc : view c.args.item.now ≡ object ms = ap view c.in-Object.is ∙ view-Object c.in-Object.members in
    let same : (n : ℕ) → is_named s n ≡ true → noted_at s new n ≡ value n = noted_fresh s c.new-notes.result new value
    (c.new-notes.ensures s) (c.in_ok-object-in-Object.ensures.notes top 1 (omega arith)) in
    let keys : List (Option NodeId) = keys_at s id in
    let statement : ℕ → List (Option NodeId) = λ i. slice_index_or (uniques_at s id) i [] in
    record {
      keys = same_tuple (noted_at s new) value keys (λ n e. same n (by_key s id n c.requires.node e)) ∙ ap (list_tuple k s id keys) (sym doc);
      uniques = λ i lt. same_tuple (noted_at s new) value (statement i) (λ n e. same n (by_unique s id i n c.requires.node lt e))
          ∙ ap (list_tuple k s id (statement i)) (sym doc);
    }

pub entry-returns-in_ok-object-in-Object-clause-grows : goal.entry-returns-in_ok-object-in-Object-clause-grows
entry-returns-in_ok-object-in-Object-clause-grows t c =
    let k = c.args.self.now.kind in
    let s = c.args.self.now.schema.now in
    let id = c.args.at.id in
    let old : ProgressView = progress_view c.args.progress.now in
    let ms = members_view c.in-Object.members.entries in
    let doc : view c.args.item.now ≡ object ms = ap view c.in-Object.is ∙ view-Object c.in-Object.members in
    λ outer. subst (λ (d : Data). Grows k s old (progress_view c.object.new.progress) (object_at k s id (Some c.args.place) c.args.at.path.now (c.args.at.position ∷ outer) (next_of old) (next_of old) d))
    (sym doc) (c.in_ok-object-in-Object.ensures.grows (c.args.at.position ∷ outer) (next_of old) refl)

-- ---- containers

pub container-children-requires : goal.container-children-requires
container-children-requires t c =
    let s = c.args.self.now.schema.now in
    let id = c.args.at.id in
    let sound = c.node-node.ensures.sound in
    let first : rank id ≡ id.0 + 1 = rank_is s id sound c.requires.node in
    let le : rank id ≤ length s.nodes = omega arith in (
      omega arith,
      record {
        node = le;
        meets = meets_object s c.empty-context.result id c.child_stands.ensures sound le c.requires.object (c.empty-context.ensures.context s) c.empty-context.ensures.parent;
        way = (c.requires.way, c.requires.node);
      },
    )

pub container-returns-then-presence-clause-grows : goal.container-returns-then-presence-clause-grows
container-returns-then-presence-clause-grows t c =
    let k = c.args.self.now.kind in
    let s = c.args.self.now.schema.now in
    let id = c.args.at.id in
    let old : ProgressView = progress_view c.args.progress.now in
    let found = option_map (λ (v : Bor Value). view v.now) c.args.value in
    let none : found ≡ None = ap (option_map (λ (v : Bor Value). view v.now)) c.in-None.is in
    let presence = sym (ap (λ r. r.label.defined.has_presence) c.node-node.ensures.value) ∙ sym c.presence.ensures ∙ c.if-presence.true in
    λ outer entry. grows_as k s old old [] _
    (sym (container_none k s c.args.at.scope id found (spot_at s c.args.at.path.now c.args.at.position outer entry) (next_of old) none presence)) (grows_nothing c.nothing_met.ensures k s old)

pub container-returns-then-presence-clause-notes : goal.container-returns-then-presence-clause-notes
container-returns-then-presence-clause-notes t c =
    let k = c.args.self.now.kind in
    let s = c.args.self.now.schema.now in
    let id = c.args.at.id in
    let found = option_map (λ (v : Bor Value). view v.now) c.args.value in
    let none : found ≡ None = ap (option_map (λ (v : Bor Value). view v.now)) c.in-None.is in
    let presence = sym (ap (λ r. r.label.defined.has_presence) c.node-node.ensures.value) ∙ sym c.presence.ensures ∙ c.if-presence.true in
    gains_none s c.args.notes.now (container_at k s c.args.at.scope id found) (λ spot next. container_none k s c.args.at.scope id found spot next none presence)

pub container-returns-else-presence-clause-grows : goal.container-returns-else-presence-clause-grows
container-returns-else-presence-clause-grows t c =
    let k = c.args.self.now.kind in
    let s = c.args.self.now.schema.now in
    let id = c.args.at.id in
    let old : ProgressView = progress_view c.args.progress.now in
    let new : ProgressView = progress_view c.children.new.progress in
    let found = option_map (λ (v : Bor Value). view v.now) c.args.value in
    let none : found ≡ None = ap (option_map (λ (v : Bor Value). view v.now)) c.in-None.is in
    let plain = sym (ap (λ r. r.label.defined.has_presence) c.node-node.ensures.value) ∙ sym c.presence.ensures ∙ c.if-presence.false in
    on_ok_weaker c.children.result
    (λ h. λ outer entry.
    let spot : Spot = spot_at s c.args.at.path.now c.args.at.position outer entry in
    grows_as k s old new _ _
    (ap (λ (ds : Members). children_met k s c.args.at.scope id ds (in_no_object spot (row_at s id).label) (next_of old)) c.empty-context.ensures.members
    ∙ sym (container_open k s c.args.at.scope id found spot (next_of old) none plain)) (h outer entry))
    c.children.ensures.grows

pub container-returns-else-presence-clause-notes : goal.container-returns-else-presence-clause-notes
container-returns-else-presence-clause-notes t c =
    let k = c.args.self.now.kind in
    let s = c.args.self.now.schema.now in
    let id = c.args.at.id in
    let l = (row_at s id).label in
    let found = option_map (λ (v : Bor Value). view v.now) c.args.value in
    let none : found ≡ None = ap (option_map (λ (v : Bor Value). view v.now)) c.in-None.is in
    let plain = sym (ap (λ r. r.label.defined.has_presence) c.node-node.ensures.value) ∙ sym c.presence.ensures ∙ c.if-presence.false in
    on_ok_weaker c.children.result
    (λ h. gains_met s c.args.notes.now c.children.new.notes
    (λ spot next. children_met k s c.args.at.scope id (members_of c.empty-context.result) (in_no_object spot l) next) (container_at k s c.args.at.scope id found)
    (λ spot next. ap (λ (ds : Members). children_met k s c.args.at.scope id ds (in_no_object spot l) next) c.empty-context.ensures.members
    ∙ sym (container_open k s c.args.at.scope id found spot next none plain))
    (λ spot next lt. h (in_no_object spot l) next lt))
    c.children.ensures.notes

pub container-returns-in-Object-clause-grows : goal.container-returns-in-Object-clause-grows
container-returns-in-Object-clause-grows t c =
    let k = c.args.self.now.kind in
    let s = c.args.self.now.schema.now in
    let id = c.args.at.id in
    let old : ProgressView = progress_view c.args.progress.now in
    let new : ProgressView = progress_view c.object.new.progress in
    let found = option_map (λ (v : Bor Value). view v.now) c.args.value in
    let ms = members_view c.in-Object.members.entries in
    let some : found ≡ Some (object ms) = ap (option_map (λ (v : Bor Value). view v.now)) c.in-Some.is
    ∙ ap (λ (v : Value). Some (view v)) c.in-Object.is ∙ ap (λ (d : Data). Some d) (view-Object c.in-Object.members) in
    on_ok_weaker c.object.result
    (λ h. λ outer entry. grows_as k s old new _ _
    (sym (container_some k s c.args.at.scope id found (spot_at s c.args.at.path.now c.args.at.position outer entry) (next_of old) (object ms) some)) (h (c.args.at.position ∷ outer) entry refl))
    c.object.ensures.grows

pub container-returns-in-Object-clause-notes : goal.container-returns-in-Object-clause-notes
container-returns-in-Object-clause-notes t c =
    let k = c.args.self.now.kind in
    let s = c.args.self.now.schema.now in
    let id = c.args.at.id in
    let l = (row_at s id).label in
    let found = option_map (λ (v : Bor Value). view v.now) c.args.value in
    let ms = members_view c.in-Object.members.entries in
    let some : found ≡ Some (object ms) = ap (option_map (λ (v : Bor Value). view v.now)) c.in-Some.is
    ∙ ap (λ (v : Value). Some (view v)) c.in-Object.is ∙ ap (λ (d : Data). Some d) (view-Object c.in-Object.members) in
    on_ok_weaker c.object.result
    (λ h. gains_met s c.args.notes.now c.object.new.notes
    (λ spot next. object_met id None (below s id) (in_container spot next l) next (object ms) (inside_at k s id)) (container_at k s c.args.at.scope id found)
    (λ spot next. sym (container_some k s c.args.at.scope id found spot next (object ms) some))
    (λ spot next lt. h (in_container spot next l) (next + 1) (omega (arith, lt))))
    c.object.ensures.notes

-- ---- data nodes

pub data-returns-in-Container-clause-grows : goal.data-returns-in-Container-clause-grows
data-returns-in-Container-clause-grows t c =
    let k = c.args.self.now.kind in
    let s = c.args.self.now.schema.now in
    let id = c.args.at.id in
    let old : ProgressView = progress_view c.args.progress.now in
    let new : ProgressView = progress_view c.container.new.progress in
    let found = option_map (λ (v : Bor Value). view v.now) c.args.value in
    let is : (row_at s id).label.defined.kind ≡ kind.Container = sym (ap (λ r. r.label.defined.kind) c.node-node.ensures.value) ∙ sym c.kind.ensures ∙ c.in-Container.is in
    let asked = sym c.is_asked.ensures ∙ c.if-not-is_asked.false in
    on_ok_weaker c.container.result
    (λ h. λ ms writes outer entry. arm_closes c.default_met.ensures c.nothing_met.ensures c.met_behind.ensures k s c.args.at.scope id ms found
    (spot_at s c.args.at.path.now c.args.at.position outer entry) (next_of old) old new kind.Container is asked (λ e. cc) (λ e. cc) writes (grows_alone k s old new _ (h outer entry)))
    c.container.ensures.grows

pub data-returns-in-Container-clause-notes : goal.data-returns-in-Container-clause-notes
data-returns-in-Container-clause-notes t c =
    let k = c.args.self.now.kind in
    let s = c.args.self.now.schema.now in
    let id = c.args.at.id in
    let l = (row_at s id).label in
    let found = option_map (λ (v : Bor Value). view v.now) c.args.value in
    let is : l.defined.kind ≡ kind.Container = sym (ap (λ r. r.label.defined.kind) c.node-node.ensures.value) ∙ sym c.kind.ensures ∙ c.in-Container.is in
    let asked = sym c.is_asked.ensures ∙ c.if-not-is_asked.false in
    on_ok_weaker c.container.result
    (λ h. λ ms writes. gains_behind s c.args.notes.now c.container.new.notes (data_met k s c.args.at.scope id found) (node_at s c.args.at.scope id ms)
    (λ spot. ap (λ K. in_use K l c.args.at.scope (found_of (node_at s c.args.at.scope id ms spot))) is ∙ in_use_other kind.Container l c.args.at.scope (found_of (node_at s c.args.at.scope id ms spot)) (λ e. cc) (λ e. cc))
    (gains_met s c.args.notes.now c.container.new.notes (container_at k s c.args.at.scope id found) (data_met k s c.args.at.scope id found)
    (λ spot next. data_asked k s c.args.at.scope id found spot next kind.Container is asked) h))
    c.container.ensures.notes

pub data-returns-in-Leaf-clause-grows : goal.data-returns-in-Leaf-clause-grows
data-returns-in-Leaf-clause-grows t c =
    let k = c.args.self.now.kind in
    let s = c.args.self.now.schema.now in
    let id = c.args.at.id in
    let old : ProgressView = progress_view c.args.progress.now in
    let new : ProgressView = progress_view c.leaf.new.progress in
    let found = option_map (λ (v : Bor Value). view v.now) c.args.value in
    let is : (row_at s id).label.defined.kind ≡ kind.Leaf = sym (ap (λ r. r.label.defined.kind) c.node-node.ensures.value) ∙ sym c.kind.ensures ∙ c.in-Leaf.is in
    let asked = sym c.is_asked.ensures ∙ c.if-not-is_asked.false in
    on_ok_weaker c.leaf.result
    (λ h. λ ms writes outer entry.
    let spot : Spot = spot_at s c.args.at.path.now c.args.at.position outer entry in
    subst (λ (xs : List Meeting). Closes k s old new xs (node_at s c.args.at.scope id ms spot)) (data_asked k s c.args.at.scope id found spot (next_of old) kind.Leaf is asked) (h ms writes outer entry))
    c.leaf.ensures.grows

pub data-returns-in-Leaf-clause-notes : goal.data-returns-in-Leaf-clause-notes
data-returns-in-Leaf-clause-notes t c =
    let k = c.args.self.now.kind in
    let s = c.args.self.now.schema.now in
    let id = c.args.at.id in
    let found = option_map (λ (v : Bor Value). view v.now) c.args.value in
    let is : (row_at s id).label.defined.kind ≡ kind.Leaf = sym (ap (λ r. r.label.defined.kind) c.node-node.ensures.value) ∙ sym c.kind.ensures ∙ c.in-Leaf.is in
    let asked = sym c.is_asked.ensures ∙ c.if-not-is_asked.false in
    on_ok_weaker c.leaf.result
    (λ h. λ ms writes. gains_met s c.args.notes.now c.leaf.new.notes (with_node (leaf_at s id found) (node_at s c.args.at.scope id ms))
    (with_node (data_met k s c.args.at.scope id found) (node_at s c.args.at.scope id ms))
    (λ spot next. ap (λ (xs : List Meeting). xs ++ at_node (node_at s c.args.at.scope id ms spot) ∷ []) (data_asked k s c.args.at.scope id found spot next kind.Leaf is asked)) (h ms writes))
    c.leaf.ensures.notes

pub data-returns-in-LeafList-clause-grows : goal.data-returns-in-LeafList-clause-grows
data-returns-in-LeafList-clause-grows t c =
    let k = c.args.self.now.kind in
    let s = c.args.self.now.schema.now in
    let id = c.args.at.id in
    let old : ProgressView = progress_view c.args.progress.now in
    let new : ProgressView = progress_view c.leaf_list.new.progress in
    let found = option_map (λ (v : Bor Value). view v.now) c.args.value in
    let is : (row_at s id).label.defined.kind ≡ kind.LeafList = sym (ap (λ r. r.label.defined.kind) c.node-node.ensures.value) ∙ sym c.kind.ensures ∙ c.in-LeafList.is in
    let asked = sym c.is_asked.ensures ∙ c.if-not-is_asked.false in
    on_ok_weaker c.leaf_list.result
    (λ h. λ ms writes outer entry.
    let spot : Spot = spot_at s c.args.at.path.now c.args.at.position outer entry in
    subst (λ (xs : List Meeting). Closes k s old new xs (node_at s c.args.at.scope id ms spot)) (data_asked k s c.args.at.scope id found spot (next_of old) kind.LeafList is asked) (h ms writes outer entry))
    c.leaf_list.ensures.grows

pub data-returns-in-LeafList-clause-notes : goal.data-returns-in-LeafList-clause-notes
data-returns-in-LeafList-clause-notes t c =
    let k = c.args.self.now.kind in
    let s = c.args.self.now.schema.now in
    let id = c.args.at.id in
    let found = option_map (λ (v : Bor Value). view v.now) c.args.value in
    let is : (row_at s id).label.defined.kind ≡ kind.LeafList = sym (ap (λ r. r.label.defined.kind) c.node-node.ensures.value) ∙ sym c.kind.ensures ∙ c.in-LeafList.is in
    on_ok_weaker c.leaf_list.result
    (λ h. λ ms writes. gains_array k s c.args.notes.now id c.args.at.scope ms kind.LeafList found is tt)
    c.leaf_list.ensures.grows

pub data-returns-in-List-clause-grows : goal.data-returns-in-List-clause-grows
data-returns-in-List-clause-grows t c =
    let k = c.args.self.now.kind in
    let s = c.args.self.now.schema.now in
    let id = c.args.at.id in
    let old : ProgressView = progress_view c.args.progress.now in
    let new : ProgressView = progress_view c.list.new.progress in
    let found = option_map (λ (v : Bor Value). view v.now) c.args.value in
    let is : (row_at s id).label.defined.kind ≡ kind.List = sym (ap (λ r. r.label.defined.kind) c.node-node.ensures.value) ∙ sym c.kind.ensures ∙ c.in-List.is in
    let asked = sym c.is_asked.ensures ∙ c.if-not-is_asked.false in
    on_ok_weaker c.list.result
    (λ h. λ ms writes outer entry. arm_closes c.default_met.ensures c.nothing_met.ensures c.met_behind.ensures k s c.args.at.scope id ms found
    (spot_at s c.args.at.path.now c.args.at.position outer entry) (next_of old) old new kind.List is asked (λ e. cc) (λ e. cc) writes (h outer entry))
    c.list.ensures.grows

pub data-returns-in-List-clause-notes : goal.data-returns-in-List-clause-notes
data-returns-in-List-clause-notes t c =
    let k = c.args.self.now.kind in
    let s = c.args.self.now.schema.now in
    let id = c.args.at.id in
    let found = option_map (λ (v : Bor Value). view v.now) c.args.value in
    let is : (row_at s id).label.defined.kind ≡ kind.List = sym (ap (λ r. r.label.defined.kind) c.node-node.ensures.value) ∙ sym c.kind.ensures ∙ c.in-List.is in
    on_ok_weaker c.list.result
    (λ h. λ ms writes. gains_array k s c.args.notes.now id c.args.at.scope ms kind.List found is tt)
    c.list.ensures.grows

pub data-returns-in-Anydata-clause-grows : goal.data-returns-in-Anydata-clause-grows
data-returns-in-Anydata-clause-grows t c =
    let k = c.args.self.now.kind in
    let s = c.args.self.now.schema.now in
    let id = c.args.at.id in
    let old : ProgressView = progress_view c.args.progress.now in
    let found = option_map (λ (v : Bor Value). view v.now) c.args.value in
    let is : (row_at s id).label.defined.kind ≡ kind.Anydata = sym (ap (λ r. r.label.defined.kind) c.node-node.ensures.value) ∙ sym c.kind.ensures ∙ c.in-Anydata.is in
    let asked = sym c.is_asked.ensures ∙ c.if-not-is_asked.false in
    on_ok_weaker c.anydata.result
    (λ h. λ ms writes outer entry. arm_closes c.default_met.ensures c.nothing_met.ensures c.met_behind.ensures k s c.args.at.scope id ms found
    (spot_at s c.args.at.path.now c.args.at.position outer entry) (next_of old) old _ kind.Anydata is asked (λ e. cc) (λ e. cc) writes (grows_only c.nothing_met.ensures k s old c.anydata.new.faults.items _ h))
    c.anydata.ensures

pub data-returns-in-Anydata-clause-notes : goal.data-returns-in-Anydata-clause-notes
data-returns-in-Anydata-clause-notes t c =
    let k = c.args.self.now.kind in
    let s = c.args.self.now.schema.now in
    let id = c.args.at.id in
    let found = option_map (λ (v : Bor Value). view v.now) c.args.value in
    let is : (row_at s id).label.defined.kind ≡ kind.Anydata = sym (ap (λ r. r.label.defined.kind) c.node-node.ensures.value) ∙ sym c.kind.ensures ∙ c.in-Anydata.is in
    on_ok_weaker c.anydata.result
    (λ h. λ ms writes. gains_array k s c.args.notes.now id c.args.at.scope ms kind.Anydata found is tt)
    c.anydata.ensures

pub data-returns-in-Anyxml-clause-grows : goal.data-returns-in-Anyxml-clause-grows
data-returns-in-Anyxml-clause-grows t c =
    let k = c.args.self.now.kind in
    let s = c.args.self.now.schema.now in
    let id = c.args.at.id in
    let old : ProgressView = progress_view c.args.progress.now in
    let found = option_map (λ (v : Bor Value). view v.now) c.args.value in
    let is : (row_at s id).label.defined.kind ≡ kind.Anyxml = sym (ap (λ r. r.label.defined.kind) c.node-node.ensures.value) ∙ sym c.kind.ensures ∙ c.in-Anyxml.is in
    let asked = sym c.is_asked.ensures ∙ c.if-not-is_asked.false in
    on_ok_weaker c.anyxml.result
    (λ h. λ ms writes outer entry. arm_closes c.default_met.ensures c.nothing_met.ensures c.met_behind.ensures k s c.args.at.scope id ms found
    (spot_at s c.args.at.path.now c.args.at.position outer entry) (next_of old) old _ kind.Anyxml is asked (λ e. cc) (λ e. cc) writes (grows_only c.nothing_met.ensures k s old c.anyxml.new.faults.items _ h))
    c.anyxml.ensures

pub data-returns-in-Anyxml-clause-notes : goal.data-returns-in-Anyxml-clause-notes
data-returns-in-Anyxml-clause-notes t c =
    let k = c.args.self.now.kind in
    let s = c.args.self.now.schema.now in
    let id = c.args.at.id in
    let found = option_map (λ (v : Bor Value). view v.now) c.args.value in
    let is : (row_at s id).label.defined.kind ≡ kind.Anyxml = sym (ap (λ r. r.label.defined.kind) c.node-node.ensures.value) ∙ sym c.kind.ensures ∙ c.in-Anyxml.is in
    on_ok_weaker c.anyxml.result
    (λ h. λ ms writes. gains_array k s c.args.notes.now id c.args.at.scope ms kind.Anyxml found is tt)
    c.anyxml.ensures

pub data-returns-in_default : goal.data-returns-in_default
data-returns-in_default t c =
    let s = c.args.self.now.schema.now in
    let is : c.kind.result ≡ (row_at s c.args.at.id).label.defined.kind = c.kind.ensures ∙ ap (λ r. r.label.defined.kind) c.node-node.ensures.value in
    absurd (other_kind (row_at s c.args.at.id).label.defined.kind c.requires.«data» (λ e. c.in_default.not-Container (is ∙ e)) (λ e. c.in_default.not-Leaf (is ∙ e)) (λ e. c.in_default.not-LeafList (is ∙ e))
    (λ e. c.in_default.not-List (is ∙ e)) (λ e. c.in_default.not-Anydata (is ∙ e)) (λ e. c.in_default.not-Anyxml (is ∙ e)))

-- ---- state

pub state-returns-in-Some-clause-grows : goal.state-returns-in-Some-clause-grows
state-returns-in-Some-clause-grows t c =
    let k = c.args.self.now.kind in
    let s = c.args.self.now.schema.now in
    let id = c.args.at.id in
    let old : ProgressView = progress_view c.args.progress.now in
    let found = option_map (λ (v : Bor Value). view v.now) c.args.value in
    let d = view c.in-Some.written.now in
    let some : found ≡ Some d = ap (option_map (λ (v : Bor Value). view v.now)) c.in-Some.is in
    let is : c.kind-kind.result ≡ (row_at s id).label.defined.kind = c.kind-kind.ensures ∙ ap (λ r. r.label.defined.kind) c.node.ensures.value in
    let there : c.is_there-exists.result ≡ is_there (row_at s id).label.defined.kind d = c.is_there-exists.ensures ∙ ap (λ K. is_there K d) is in
    on_ok_weaker c.tell_if.result
    (λ h. λ ms writes outer entry.
    let spot : Spot = spot_at s c.args.at.path.now c.args.at.position outer entry in
    let m = node_at s c.args.at.scope id ms spot in
    let own : c.tell_if.new.faults.items ≡ old.faults ++ state_faults m.label.defined.kind m found =
    h ∙ ap (λ b. old.faults ++ flaw_if b State (at spot m.label None)) there ∙ ap (λ (o : Option Data). old.faults ++ state_faults m.label.defined.kind m o) (sym some) in
    state_closes c.default_met.ensures c.nothing_met.ensures c.met_behind.ensures k s c.args.at.scope id ms found spot (next_of old) old _ [] c.requires.nothing_asked writes
    (data_left k s c.args.at.scope id d spot (next_of old) c.requires.«data» c.requires.nothing_asked ∙ ap (λ (o : Option Data). data_met k s c.args.at.scope id o spot (next_of old)) (sym some))
    (grows_only c.nothing_met.ensures k s old c.tell_if.new.faults.items _ own))
    c.tell_if.ensures

pub state-returns-in-Some-clause-notes : goal.state-returns-in-Some-clause-notes
state-returns-in-Some-clause-notes t c =
    let k = c.args.self.now.kind in
    let s = c.args.self.now.schema.now in
    let id = c.args.at.id in
    let l = (row_at s id).label in
    let found = option_map (λ (v : Bor Value). view v.now) c.args.value in
    let d = view c.in-Some.written.now in
    let some : found ≡ Some d = ap (option_map (λ (v : Bor Value). view v.now)) c.in-Some.is in
    on_ok_weaker c.tell_if.result
    (λ h. λ ms writes. gains_behind s c.args.notes.now c.args.notes.now (data_met k s c.args.at.scope id found) (node_at s c.args.at.scope id ms)
    (λ spot. in_use_unasked l.defined.kind l c.args.at.scope (found_of (node_at s c.args.at.scope id ms spot)) c.requires.nothing_asked)
    (gains_none s c.args.notes.now (data_met k s c.args.at.scope id found)
    (λ spot next. ap (λ (o : Option Data). data_met k s c.args.at.scope id o spot next) some ∙ sym (data_left k s c.args.at.scope id d spot next c.requires.«data» c.requires.nothing_asked))))
    c.tell_if.ensures

pub state-returns-in-Container-clause-grows : goal.state-returns-in-Container-clause-grows
state-returns-in-Container-clause-grows t c =
    let k = c.args.self.now.kind in
    let s = c.args.self.now.schema.now in
    let id = c.args.at.id in
    let old : ProgressView = progress_view c.args.progress.now in
    let new : ProgressView = progress_view c.container.new.progress in
    let found = option_map (λ (v : Bor Value). view v.now) c.args.value in
    let none : found ≡ None = ap (option_map (λ (v : Bor Value). view v.now)) c.in-None.is in
    let is : (row_at s id).label.defined.kind ≡ kind.Container = sym (c.kind-kind.ensures ∙ ap (λ r. r.label.defined.kind) c.node.ensures.value) ∙ c.in-Container.is in
    on_ok_weaker c.container.result
    (λ h. λ ms writes outer entry.
    let spot : Spot = spot_at s c.args.at.path.now c.args.at.position outer entry in
    let m = node_at s c.args.at.scope id ms spot in
    state_closes c.default_met.ensures c.nothing_met.ensures c.met_behind.ensures k s c.args.at.scope id ms found spot (next_of old) old new
    (container_at k s c.args.at.scope id None spot (next_of old)) c.requires.nothing_asked writes
    (data_absent k s c.args.at.scope id spot (next_of old) kind.Container is ∙ ap (λ (o : Option Data). data_met k s c.args.at.scope id o spot (next_of old)) (sym none))
    (subst (λ (o : Option Data). GrowsWith k s old new (container_at k s c.args.at.scope id None spot (next_of old)) (state_faults m.label.defined.kind m o)) (sym none)
    (grows_alone k s old new _ (h outer entry))))
    c.container.ensures.grows

pub state-returns-in-Container-clause-notes : goal.state-returns-in-Container-clause-notes
state-returns-in-Container-clause-notes t c =
    let k = c.args.self.now.kind in
    let s = c.args.self.now.schema.now in
    let id = c.args.at.id in
    let l = (row_at s id).label in
    let found = option_map (λ (v : Bor Value). view v.now) c.args.value in
    let none : found ≡ None = ap (option_map (λ (v : Bor Value). view v.now)) c.in-None.is in
    let is : l.defined.kind ≡ kind.Container = sym (c.kind-kind.ensures ∙ ap (λ r. r.label.defined.kind) c.node.ensures.value) ∙ c.in-Container.is in
    on_ok_weaker c.container.result
    (λ h. λ ms writes. gains_behind s c.args.notes.now c.container.new.notes (data_met k s c.args.at.scope id found) (node_at s c.args.at.scope id ms)
    (λ spot. in_use_unasked l.defined.kind l c.args.at.scope (found_of (node_at s c.args.at.scope id ms spot)) c.requires.nothing_asked)
    (gains_met s c.args.notes.now c.container.new.notes (container_at k s c.args.at.scope id None) (data_met k s c.args.at.scope id found)
    (λ spot next. data_absent k s c.args.at.scope id spot next kind.Container is ∙ ap (λ (o : Option Data). data_met k s c.args.at.scope id o spot next) (sym none)) h))
    c.container.ensures.notes

pub state-returns-in_default : goal.state-returns-in_default
state-returns-in_default t c =
    let k = c.args.self.now.kind in
    let s = c.args.self.now.schema.now in
    let id = c.args.at.id in
    let l = (row_at s id).label in
    let old : ProgressView = progress_view c.args.progress.now in
    let found = option_map (λ (v : Bor Value). view v.now) c.args.value in
    let none : found ≡ None = ap (option_map (λ (v : Bor Value). view v.now)) c.in-None.is in
    let other : l.defined.kind ≡ kind.Container → ⊥ = λ e. c.in_default.not-Container (c.kind-kind.ensures ∙ ap (λ r. r.label.defined.kind) c.node.ensures.value ∙ e) in
    record {
      grows = λ ms writes outer entry.
          let spot : Spot = spot_at s c.args.at.path.now c.args.at.position outer entry in
          let m = node_at s c.args.at.scope id ms spot in
          state_closes c.default_met.ensures c.nothing_met.ensures c.met_behind.ensures k s c.args.at.scope id ms found spot (next_of old) old old [] c.requires.nothing_asked writes
          (data_nothing k s c.args.at.scope id spot (next_of old) c.requires.«data» other ∙ ap (λ (o : Option Data). data_met k s c.args.at.scope id o spot (next_of old)) (sym none))
          (subst (λ (o : Option Data). GrowsWith k s old old [] (state_faults m.label.defined.kind m o)) (sym none)
          (grows_alone k s old old [] (grows_nothing c.nothing_met.ensures k s old)));
      notes = λ ms writes. gains_behind s c.args.notes.now c.args.notes.now (data_met k s c.args.at.scope id found) (node_at s c.args.at.scope id ms)
          (λ spot. in_use_unasked l.defined.kind l c.args.at.scope (found_of (node_at s c.args.at.scope id ms spot)) c.requires.nothing_asked)
          (gains_none s c.args.notes.now (data_met k s c.args.at.scope id found)
          (λ spot next. ap (λ (o : Option Data). data_met k s c.args.at.scope id o spot next) none ∙ sym (data_nothing k s c.args.at.scope id spot next c.requires.«data» other)));
    }

-- ---- choices

pub choice-returns-clause-grows : goal.choice-returns-clause-grows
choice-returns-clause-grows t c =
    let k = c.args.self.now.kind in
    let s = c.args.self.now.schema.now in
    let id = c.args.at.id in
    let ms = members_of c.args.context.now in
    let old : ProgressView = progress_view c.args.progress.now in
    let mid : ProgressView = progress_view c.cases.new.progress in
    let first : rank id ≡ id.0 + 1 = rank_is s id c.node-node.ensures.sound c.requires.node in
    let passed : passes s id ≡ true = choice_passes s id c.node-node.ensures.sound c.requires.node c.requires.kind in
    on_ok_weaker c.end_choice.result
    (λ h. λ outer entry.
    let spot : Spot = spot_at s c.args.at.path.now c.args.at.position outer entry in
    choice_closes c.default_met.ensures c.nothing_met.ensures c.met_behind.ensures k s c.args.at.scope id ms spot old _ (cases_met k s id ms spot (next_of old)) c.count-existing.result c.requires.kind
    first (c.count-existing.ensures c.requires.itself.context c.requires.itself.stands passed)
    (grows_with k s old mid _ c.end_choice.new.faults.items _ (c.in_ok-cases.ensures.grows outer entry) h))
    c.end_choice.ensures

-- ---- a node that is passed over

pub meet-returns-in-Some-clause-grows : goal.meet-returns-in-Some-clause-grows
meet-returns-in-Some-clause-grows t c =
    let k = c.args.self.now.kind in
    let s = c.args.self.now.schema.now in
    let id = c.args.at.id in
    let ms = members_of c.args.context.now in
    let old : ProgressView = progress_view c.args.progress.now in
    let scope = scope_at k s c.args.at.scope id in
    λ outer entry.
    let spot : Spot = spot_at s c.args.at.path.now c.args.at.position outer entry in
    quiet_grows c.nothing_met.ensures k s old c.visit_all.new.self c.in-Some.steps (one_met k s scope id ms spot (next_of old))
    (one_says k s scope id ms spot (next_of old) c.in-Some.steps c.requires.node c.in-Some.ensures) c.visit_all.ensures

pub meet-returns-in-Some-clause-notes : goal.meet-returns-in-Some-clause-notes
meet-returns-in-Some-clause-notes t c =
    let k = c.args.self.now.kind in
    let s = c.args.self.now.schema.now in
    let id = c.args.at.id in
    let ms = members_of c.args.context.now in
    let scope = scope_at k s c.args.at.scope id in
    quiet_gains k s c.args.notes.now c.in-Some.steps (one_met k s scope id ms)
    (λ spot next. one_says k s scope id ms spot next c.in-Some.steps c.requires.node c.in-Some.ensures)

-- ---- nodes

pub node-returns-then-is_operation_or_notification-clause-grows : goal.node-returns-then-is_operation_or_notification-clause-grows
node-returns-then-is_operation_or_notification-clause-grows t c =
    let k = c.args.self.now.kind in
    let s = c.args.self.now.schema.now in
    let id = c.args.at.id in
    let ms = members_of c.args.context.now in
    let old : ProgressView = progress_view c.args.progress.now in
    let is : c.kind-kind.result ≡ (row_at s id).label.defined.kind = c.kind-kind.ensures ∙ ap (λ r. r.label.defined.kind) c.node-node.ensures.value in
    let op = sym (ap is_operation_or_notification is) ∙ sym c.is_operation_or_notification.ensures ∙ c.if-is_operation_or_notification.true in
    λ outer entry. grows_as k s old old [] _ (sym (at_operation k s (scope_at k s c.args.at.scope id) id ms (spot_at s c.args.at.path.now c.args.at.position outer entry) (next_of old) op))
    (grows_nothing c.nothing_met.ensures k s old)

pub node-returns-then-is_operation_or_notification-clause-notes : goal.node-returns-then-is_operation_or_notification-clause-notes
node-returns-then-is_operation_or_notification-clause-notes t c =
    let k = c.args.self.now.kind in
    let s = c.args.self.now.schema.now in
    let id = c.args.at.id in
    let ms = members_of c.args.context.now in
    let is : c.kind-kind.result ≡ (row_at s id).label.defined.kind = c.kind-kind.ensures ∙ ap (λ r. r.label.defined.kind) c.node-node.ensures.value in
    let op = sym (ap is_operation_or_notification is) ∙ sym c.is_operation_or_notification.ensures ∙ c.if-is_operation_or_notification.true in
    gains_none s c.args.notes.now (one_met k s (scope_at k s c.args.at.scope id) id ms) (λ spot next. at_operation k s (scope_at k s c.args.at.scope id) id ms spot next op)

pub node-returns-then-is_data-clause-grows : goal.node-returns-then-is_data-clause-grows
node-returns-then-is_data-clause-grows t c =
    let k = c.args.self.now.kind in
    let s = c.args.self.now.schema.now in
    let id = c.args.at.id in
    let ms = members_of c.args.context.now in
    let old : ProgressView = progress_view c.args.progress.now in
    let new : ProgressView = progress_view c.«data».new.progress in
    let found = option_map (λ (v : Bor Value). view v.now) c.value-value.result in
    let is : c.kind-kind.result ≡ (row_at s id).label.defined.kind = c.kind-kind.ensures ∙ ap (λ r. r.label.defined.kind) c.node-node.ensures.value in
    let plain = sym (ap is_operation_or_notification is) ∙ sym c.is_operation_or_notification.ensures ∙ c.if-is_operation_or_notification.false in
    let one = sym (ap is_data is) ∙ sym c.is_data.ensures ∙ c.if-is_data.true in
    let writes = sym (c.value-value.ensures s c.requires.meets.context c.requires.meets.stands one) in
    let scope : c.narrow-scope.result ≡ scope_at k s c.args.at.scope id = c.narrow-scope.ensures
    ∙ ap (λ b. scope_in k b c.args.at.scope) (c.config.ensures ∙ ap (λ r. r.label.is_config) c.node-node.ensures.value) in
    on_ok_weaker c.«data».result
    (λ h. λ outer entry.
    let spot : Spot = spot_at s c.args.at.path.now c.args.at.position outer entry in
    subst (λ (y : RuleScope). Grows k s old new (one_met k s y id ms spot (next_of old))) scope
    (grows_as k s old new _ _ (at_data k s c.narrow-scope.result id ms found spot (next_of old) plain one writes)
    (visited k s old c.visit.new.meter new _ (node_at s c.narrow-scope.result id ms spot) c.visit.ensures (h ms writes outer entry))))
    c.«data».ensures.grows

pub node-returns-then-is_data-clause-notes : goal.node-returns-then-is_data-clause-notes
node-returns-then-is_data-clause-notes t c =
    let k = c.args.self.now.kind in
    let s = c.args.self.now.schema.now in
    let id = c.args.at.id in
    let ms = members_of c.args.context.now in
    let found = option_map (λ (v : Bor Value). view v.now) c.value-value.result in
    let is : c.kind-kind.result ≡ (row_at s id).label.defined.kind = c.kind-kind.ensures ∙ ap (λ r. r.label.defined.kind) c.node-node.ensures.value in
    let plain = sym (ap is_operation_or_notification is) ∙ sym c.is_operation_or_notification.ensures ∙ c.if-is_operation_or_notification.false in
    let one = sym (ap is_data is) ∙ sym c.is_data.ensures ∙ c.if-is_data.true in
    let writes = sym (c.value-value.ensures s c.requires.meets.context c.requires.meets.stands one) in
    let scope : c.narrow-scope.result ≡ scope_at k s c.args.at.scope id = c.narrow-scope.ensures
    ∙ ap (λ b. scope_in k b c.args.at.scope) (c.config.ensures ∙ ap (λ r. r.label.is_config) c.node-node.ensures.value) in
    on_ok_weaker c.«data».result
    (λ h. subst (λ (y : RuleScope). GainsBy s c.args.notes.now c.«data».new.notes (one_met k s y id ms)) scope
    (gains_met s c.args.notes.now c.«data».new.notes (with_node (data_met k s c.narrow-scope.result id found) (node_at s c.narrow-scope.result id ms)) (one_met k s c.narrow-scope.result id ms)
    (λ spot next. at_data k s c.narrow-scope.result id ms found spot next plain one writes) (h ms writes)))
    c.«data».ensures.notes

pub node-returns-in-Choice-clause-grows : goal.node-returns-in-Choice-clause-grows
node-returns-in-Choice-clause-grows t c =
    let k = c.args.self.now.kind in
    let s = c.args.self.now.schema.now in
    let id = c.args.at.id in
    let ms = members_of c.args.context.now in
    let old : ProgressView = progress_view c.args.progress.now in
    let new : ProgressView = progress_view c.choice.new.progress in
    let as_kind : (row_at s id).label.defined.kind ≡ kind.Choice = sym (c.kind-kind.ensures ∙ ap (λ r. r.label.defined.kind) c.node-node.ensures.value) ∙ c.in-Choice.is in
    let scope : c.narrow-scope.result ≡ scope_at k s c.args.at.scope id = c.narrow-scope.ensures
    ∙ ap (λ b. scope_in k b c.args.at.scope) (c.config.ensures ∙ ap (λ r. r.label.is_config) c.node-node.ensures.value) in
    on_ok_weaker c.choice.result
    (λ h. λ outer entry.
    let spot : Spot = spot_at s c.args.at.path.now c.args.at.position outer entry in
    subst (λ (y : RuleScope). Grows k s old new (one_met k s y id ms spot (next_of old))) scope
    (grows_as k s old new _ _ (at_choice k s c.narrow-scope.result id ms spot (next_of old) as_kind)
    (visited k s old c.visit.new.meter new _ (node_at s c.narrow-scope.result id ms spot) c.visit.ensures (h outer entry))))
    c.choice.ensures.grows

pub node-returns-in-Choice-clause-notes : goal.node-returns-in-Choice-clause-notes
node-returns-in-Choice-clause-notes t c =
    let k = c.args.self.now.kind in
    let s = c.args.self.now.schema.now in
    let id = c.args.at.id in
    let l = (row_at s id).label in
    let ms = members_of c.args.context.now in
    let as_kind : l.defined.kind ≡ kind.Choice = sym (c.kind-kind.ensures ∙ ap (λ r. r.label.defined.kind) c.node-node.ensures.value) ∙ c.in-Choice.is in
    let scope : c.narrow-scope.result ≡ scope_at k s c.args.at.scope id = c.narrow-scope.ensures
    ∙ ap (λ b. scope_in k b c.args.at.scope) (c.config.ensures ∙ ap (λ r. r.label.is_config) c.node-node.ensures.value) in
    on_ok_weaker c.choice.result
    (λ h. subst (λ (y : RuleScope). GainsBy s c.args.notes.now c.choice.new.notes (one_met k s y id ms)) scope
    (gains_met s c.args.notes.now c.choice.new.notes (with_node (cases_met k s id ms) (node_at s c.narrow-scope.result id ms)) (one_met k s c.narrow-scope.result id ms)
    (λ spot next. at_choice k s c.narrow-scope.result id ms spot next as_kind)
    (gains_behind s c.args.notes.now c.choice.new.notes (cases_met k s id ms) (node_at s c.narrow-scope.result id ms)
    (λ spot. no_default l.defined.kind l c.narrow-scope.result (found_of (node_at s c.narrow-scope.result id ms spot)) (ap is_data as_kind)) h)))
    c.choice.ensures.notes

pub node-returns-in-Case-clause-grows : goal.node-returns-in-Case-clause-grows
node-returns-in-Case-clause-grows t c =
    let k = c.args.self.now.kind in
    let s = c.args.self.now.schema.now in
    let id = c.args.at.id in
    let ms = members_of c.args.context.now in
    let old : ProgressView = progress_view c.args.progress.now in
    let new : ProgressView = progress_view c.children.new.progress in
    let as_kind : (row_at s id).label.defined.kind ≡ kind.Case = sym (c.kind-kind.ensures ∙ ap (λ r. r.label.defined.kind) c.node-node.ensures.value) ∙ c.in-Case.is in
    let scope : c.narrow-scope.result ≡ scope_at k s c.args.at.scope id = c.narrow-scope.ensures
    ∙ ap (λ b. scope_in k b c.args.at.scope) (c.config.ensures ∙ ap (λ r. r.label.is_config) c.node-node.ensures.value) in
    on_ok_weaker c.children.result
    (λ h. λ outer entry.
    let spot : Spot = spot_at s c.args.at.path.now c.args.at.position outer entry in
    subst (λ (y : RuleScope). Grows k s old new (one_met k s y id ms spot (next_of old))) scope
    (grows_as k s old new _ _ (at_case k s c.narrow-scope.result id ms spot (next_of old) as_kind)
    (visited k s old c.visit.new.meter new _ (node_at s c.narrow-scope.result id ms spot) c.visit.ensures (other_closes c.default_met.ensures c.nothing_met.ensures c.met_behind.ensures k s c.narrow-scope.result id ms spot (record { faults = old.faults; found = old.found; steps = c.visit.new.meter }) new _ (ap is_data as_kind) (λ e. cc) (h outer entry)))))
    c.children.ensures.grows

pub node-returns-in-Case-clause-notes : goal.node-returns-in-Case-clause-notes
node-returns-in-Case-clause-notes t c =
    let k = c.args.self.now.kind in
    let s = c.args.self.now.schema.now in
    let id = c.args.at.id in
    let l = (row_at s id).label in
    let ms = members_of c.args.context.now in
    let as_kind : l.defined.kind ≡ kind.Case = sym (c.kind-kind.ensures ∙ ap (λ r. r.label.defined.kind) c.node-node.ensures.value) ∙ c.in-Case.is in
    let scope : c.narrow-scope.result ≡ scope_at k s c.args.at.scope id = c.narrow-scope.ensures
    ∙ ap (λ b. scope_in k b c.args.at.scope) (c.config.ensures ∙ ap (λ r. r.label.is_config) c.node-node.ensures.value) in
    on_ok_weaker c.children.result
    (λ h. subst (λ (y : RuleScope). GainsBy s c.args.notes.now c.children.new.notes (one_met k s y id ms)) scope
    (gains_met s c.args.notes.now c.children.new.notes (with_node (children_met k s c.narrow-scope.result id ms) (node_at s c.narrow-scope.result id ms)) (one_met k s c.narrow-scope.result id ms)
    (λ spot next. at_case k s c.narrow-scope.result id ms spot next as_kind)
    (gains_behind s c.args.notes.now c.children.new.notes (children_met k s c.narrow-scope.result id ms) (node_at s c.narrow-scope.result id ms)
    (λ spot. no_default l.defined.kind l c.narrow-scope.result (found_of (node_at s c.narrow-scope.result id ms spot)) (ap is_data as_kind)) h)))
    c.children.ensures.notes

pub node-returns-in_default : goal.node-returns-in_default
node-returns-in_default t c =
    let k = c.args.self.now.kind in
    let s = c.args.self.now.schema.now in
    let id = c.args.at.id in
    let l = (row_at s id).label in
    let ms = members_of c.args.context.now in
    let old : ProgressView = progress_view c.args.progress.now in
    let begun : ProgressView = record { faults = old.faults; found = old.found; steps = c.visit.new.meter } in
    let is : c.kind-kind.result ≡ l.defined.kind = c.kind-kind.ensures ∙ ap (λ r. r.label.defined.kind) c.node-node.ensures.value in
    let plain = sym (ap is_operation_or_notification is) ∙ sym c.is_operation_or_notification.ensures ∙ c.if-is_operation_or_notification.false in
    let none = sym (ap is_data is) ∙ sym c.is_data.ensures ∙ c.if-is_data.false in
    let no_choice : l.defined.kind ≡ kind.Choice → ⊥ = λ e. c.in_default.not-Choice (is ∙ e) in
    let no_case : l.defined.kind ≡ kind.Case → ⊥ = λ e. c.in_default.not-Case (is ∙ e) in
    let y : RuleScope = scope_at k s c.args.at.scope id in
    record {
      grows = λ outer entry.
          let spot : Spot = spot_at s c.args.at.path.now c.args.at.position outer entry in
          grows_as k s old begun _ _ (at_other k s y id ms spot (next_of old) plain none no_choice no_case)
          (visited k s old c.visit.new.meter begun [] (node_at s y id ms spot) c.visit.ensures
          (other_closes c.default_met.ensures c.nothing_met.ensures c.met_behind.ensures k s y id ms spot begun begun [] none no_choice (grows_nothing c.nothing_met.ensures k s begun)));
      notes = gains_met s c.args.notes.now c.args.notes.now (with_node (λ spot next. []) (node_at s y id ms)) (one_met k s y id ms)
          (λ spot next. at_other k s y id ms spot next plain none no_choice no_case)
          (gains_behind s c.args.notes.now c.args.notes.now (λ spot next. []) (node_at s y id ms)
          (λ spot. no_default l.defined.kind l y (found_of (node_at s y id ms spot)) none) (gains_none s c.args.notes.now (λ spot next. []) (λ spot next. refl)));
    }

-- ---- lists

pub list-returns-in-None : goal.list-returns-in-None
list-returns-in-None t c =
    let k = c.args.self.now.kind in
    let s = c.args.self.now.schema.now in
    let id = c.args.at.id in
    let old : ProgressView = progress_view c.args.progress.now in
    let found = option_map (λ (v : Bor Value). view v.now) c.args.value in
    let none : found ≡ None = ap (option_map (λ (v : Bor Value). view v.now)) c.in-None.is in
    record {
      grows = on_ok_weaker c.end_array.result
          (λ h. λ outer entry.
          let spot : Spot = spot_at s c.args.at.path.now c.args.at.position outer entry in
          subst (λ (o : Option Data). GrowsWith k s old (record { faults = c.end_array.new.faults.items; found = old.found; steps = old.steps }) (list_at k s id o spot (next_of old)) (array_faults (plain_at s c.args.at.scope id c.args.at.path.now) o)) (sym none)
          (grows_only c.nothing_met.ensures k s old c.end_array.new.faults.items _ h))
          c.end_array.ensures;
    }

pub list-returns-in_ok-entries-in-Array : goal.list-returns-in_ok-entries-in-Array
list-returns-in_ok-entries-in-Array t c =
    let k = c.args.self.now.kind in
    let s = c.args.self.now.schema.now in
    let id = c.args.at.id in
    let old : ProgressView = progress_view c.args.progress.now in
    let mid : ProgressView = progress_view c.entries.new.progress in
    let found = option_map (λ (v : Bor Value). view v.now) c.args.value in
    let ds = items_view c.in-Array.items.items in
    let some : found ≡ Some (array ds) = ap (option_map (λ (v : Bor Value). view v.now)) c.in-Some.is
    ∙ ap (λ (v : Value). Some (view v)) c.in-Array.is ∙ ap (λ (d : Data). Some d) (view-Array c.in-Array.items) in
    record {
      grows = on_ok_weaker c.end_array-in-Array.result
          (λ h. λ outer entry.
          let spot : Spot = spot_at s c.args.at.path.now c.args.at.position outer entry in
          let m = plain_at s c.args.at.scope id c.args.at.path.now in
          subst (λ (o : Option Data). GrowsWith k s old (record { faults = c.end_array-in-Array.new.faults.items; found = mid.found; steps = mid.steps }) (list_at k s id o spot (next_of old)) (array_faults m o)) (sym some)
          (grows_with k s old mid _ c.end_array-in-Array.new.faults.items _ (c.in_ok-entries-in-Array.ensures.grows outer entry)
          (h ∙ ap (λ n. mid.faults ++ count_faults m n) c.count_of.ensures)))
          c.end_array-in-Array.ensures;
    }

pub object-leave-requires : goal.object-leave-requires
object-leave-requires t c =
    let begun = c.enter-2.new.self in
    let start : ProgressView = record { faults = c.enter.new.faults.items; found = begun; steps = c.enter.new.meter } in
    omega (
      arith,
      c.in_ok-position.ensures.number,
      ap length c.in_ok-position.ensures.positions,
      length-append c.args.progress.now.found.positions (open_object c.args.at.position c.args.at.id.0 c.args.item ∷ []),
      not_fewer start (progress_view c.inside.new.progress) (c.in_ok-inside.ensures.grows [] 0),
    )
