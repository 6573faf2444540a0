use Rattle.std.proofs.Common.{◌≡◌, ◌+◌, ◌<◌, ◌≤◌, ℕ, List, false, true, get_or, length, subst, sym, ap, ◌∙◌, arith}
use Rattle.std.proofs.lemmas.List.{get_or_default}
use Rattle.yv_nodes.specs.Rows.{children_of, tree_of}
use Rattle.yv_nodes.specs.declared.node.NodeId.{NodeId}
use Rattle.yv_walk.specs.Context.{members_of, parent_of}
use Rattle.yv_walk.specs.InnerNextExisting.{Ascend}
use Rattle.yv_walk.specs.Existence.{any, child_exists, stands_in, tree_standing}
use Rattle.yv_walk.proofs.Above.{rank_within}
use Rattle.yv_walk.proofs.AscendingNodes.{passed_on}
use Rattle.yv_walk.proofs.Places.{children_ascend, unkept_places}
use Rattle.yv_walk.proofs.Stands.{inner_stands}
use Rattle.yv_walk.proofs.context.Context.next_existing.Goals as goal

pub pass_unkept-place-requires : goal.pass_unkept-place-requires
pass_unkept-place-requires c =
    let s = c.args.schema.now in
    let kids = c.children-children.ensures in
    subst (λ (cs : List NodeId). Ascend cs) (sym kids.value) (children_ascend s c.args.id kids.sound (rank_within s c.args.id c.requires))

pub loop-place-init : goal.loop-place-init
loop-place-init c =
    let s = c.args.schema.now in
    let kids = c.children-children in
    record {
      behind = c.pass_unkept-place.ensures.behind;
      passed = λ context stands pass. unkept_places s c.args.self.now c.args.id kids.result.now c.args.from c.pass_unkept-place.result kids.ensures.sound c.requires context stands pass
          kids.ensures.value c.pass_unkept-place.ensures.unkept;
    }

pub returns-then-any-clause-exists : goal.returns-then-any-clause-exists
returns-then-any-clause-exists c = λ context stands pass.
    let s = c.args.schema.now in
    let id = c.args.id in
    let kids = c.children-children in
    let at : ℕ = c.loop-place.place in
    let lt : at < length (children_of s id) = subst (λ (cs : List NodeId). at < length cs) kids.ensures.value c.loop-place-test.true in
    let zero : NodeId = record { 0 = 0 } in
    let x : NodeId = get_or kids.result.now at zero in
    let child : x ≡ get_or (children_of s id) at id = ap (λ (cs : List NodeId). get_or cs at zero) kids.ensures.value ∙ get_or_default (children_of s id) at zero id lt in
    let here : stands_in s (parent_of c.args.self.now) x ≡ true =
    ap (λ (n : NodeId). stands_in s (parent_of c.args.self.now) n) child ∙ inner_stands s (parent_of c.args.self.now) id at id kids.ensures.sound stands pass lt in
    ap (λ (n : NodeId). any (tree_standing n.0 (tree_of s n) (members_of c.args.self.now))) (sym child) ∙ sym (ap any (c.existence_of.ensures context here)) ∙ sym c.any.ensures ∙ c.if-any.true

pub returns-then-any-clause-others : goal.returns-then-any-clause-others
returns-then-any-clause-others c = λ context stands pass at low high.
    let s = c.args.schema.now in
    let lt : c.loop-place.place < length (children_of s c.args.id) = subst (λ (cs : List NodeId). c.loop-place.place < length cs) c.children-children.ensures.value c.loop-place-test.true in
    c.loop-place.invariant.passed context stands pass at low high (omega (arith, high, lt))

pub pass_unkept-place-requires-in-loop-place : goal.pass_unkept-place-requires-in-loop-place
pass_unkept-place-requires-in-loop-place c =
    let s = c.args.schema.now in
    let kids = c.children-children.ensures in
    subst (λ (cs : List NodeId). Ascend cs) (sym kids.value) (children_ascend s c.args.id kids.sound (rank_within s c.args.id c.requires))

pub loop-place-preserved : goal.loop-place-preserved
loop-place-preserved c =
    let s = c.args.schema.now in
    let id = c.args.id in
    let ms = members_of c.args.self.now in
    let p = parent_of c.args.self.now in
    let kids = c.children-children in
    let at : ℕ = c.loop-place.place in
    let next = c.pass_unkept-place-in-loop-place in
    let lt : at < length (children_of s id) = subst (λ (cs : List NodeId). at < length cs) kids.ensures.value c.loop-place-test.true in
    let zero : NodeId = record { 0 = 0 } in
    let x : NodeId = get_or kids.result.now at zero in
    let child : x ≡ get_or (children_of s id) at id = ap (λ (cs : List NodeId). get_or cs at zero) kids.ensures.value ∙ get_or_default (children_of s id) at zero id lt in
    record {
      behind = omega (arith, c.loop-place.invariant.behind, next.ensures.behind);
      passed = λ context stands pass.
          let here : stands_in s p x ≡ true = ap (λ (n : NodeId). stands_in s p n) child ∙ inner_stands s p id at id kids.ensures.sound stands pass lt in
          let none : child_exists s id ms at ≡ false =
          ap (λ (n : NodeId). any (tree_standing n.0 (tree_of s n) ms)) (sym child) ∙ sym (ap any (c.existence_of.ensures context here)) ∙ sym c.any.ensures ∙ c.if-any.false in
          passed_on (λ q. q < length (children_of s id) → child_exists s id ms q ≡ false) c.args.from at next.result
          (c.loop-place.invariant.passed context stands pass) (λ within. none)
          (unkept_places s c.args.self.now id kids.result.now (at + 1) next.result kids.ensures.sound c.requires context stands pass kids.ensures.value next.ensures.unkept);
    }

pub returns-clause-others : goal.returns-clause-others
returns-clause-others c = λ context stands pass at low high.
    let s = c.args.schema.now in
    let past : length (children_of s c.args.id) ≤ c.loop-place.place =
    omega (arith, c.loop-place-test.false, ap (λ (cs : List NodeId). length cs) c.children-children.ensures.value) in
    c.loop-place.invariant.passed context stands pass at low (omega (arith, high, past)) high
