use Rattle.std.proofs.Common.{◌≡◌, ◌+◌, ◌-◌, ◌≤◌, ℕ, List, cond, drop, length, true, ap, ◌∙◌, subst, arith}
use Rattle.yv_nodes.specs.Rows.{AreTrees, children_of, rank}
use Rattle.yv_nodes.specs.declared.node.NodeId.{NodeId}
use Rattle.yv_walk.specs.Context.{members_of}
use Rattle.yv_walk.specs.Existence.{child_exists}
use Rattle.yv_walk.proofs.Above.{rank_within}
use Rattle.yv_walk.proofs.ExistingChildren.{count_all, count_drop, count_of}
use Rattle.yv_walk.proofs.Places.{count_past, none_left, place_small}
use Rattle.yv_walk.proofs.context.Context.count_existing.Goals as goal

pub overflow_add-total : goal.overflow_add-total
overflow_add-total c =
    let s = c.args.schema.now in
    let small = place_small s c.args.id c.in-Some.place c.children-children.ensures.sound (rank_within s c.args.id c.requires) c.in-Some.ensures.within in
    omega (arith, small, c.in-Some.ensures.behind, c.loop-place.invariant.few)

pub overflow_add-from : goal.overflow_add-from
overflow_add-from c =
    let s = c.args.schema.now in
    let small = place_small s c.args.id c.in-Some.place c.children-children.ensures.sound (rank_within s c.args.id c.requires) c.in-Some.ensures.within in
    omega (arith, small)

pub loop-place-preserved : goal.loop-place-preserved
loop-place-preserved c =
    let s = c.args.schema.now in
    let id = c.args.id in
    let ms = members_of c.args.self.now in
    let kids = c.children-children.ensures in
    let cs : List NodeId = children_of s id in
    let trees : AreTrees s cs = subst (λ (ns : List NodeId). AreTrees s ns) kids.value kids.trees in
    let le : rank id ≤ length s.nodes = rank_within s id c.requires in
    let from : ℕ = c.loop-place.from in
    let place : ℕ = c.in-Some.place in
    let many : ℕ = place - from in
    let rest : ℕ = count_of s (drop (place + 1) cs) ms in
    let next : from + many ≡ place = omega (arith, c.in-Some.ensures.behind) in
    record {
      few = omega (arith, c.in-Some.ensures.behind, c.loop-place.invariant.few);
      within = omega (arith, c.in-Some.ensures.within);
      told = λ context stands pass.
          let past : count_of s (drop from cs) ms ≡ count_of s (drop (from + many) cs) ms =
          count_past many s id from ms kids.sound le trees (omega (arith, next, c.in-Some.ensures.within))
          (λ at low high. c.in-Some.ensures.others context stands pass at low (omega (arith, next, high))) in
          let here : child_exists s id ms place ≡ true = c.in-Some.ensures.exists context stands pass in
          let first : count_of s (drop place cs) ms ≡ 1 + rest = count_drop s id place id ms kids.sound le trees c.in-Some.ensures.within ∙ ap (λ b. cond b 1 0 + rest) here in
          omega (arith, past, ap (λ (n : ℕ). count_of s (drop n cs) ms) next, first, c.loop-place.invariant.told context stands pass);
    }

pub returns : goal.returns
returns c = λ context stands pass.
    let s = c.args.schema.now in
    let id = c.args.id in
    let ms = members_of c.args.self.now in
    let kids = c.children-children.ensures in
    let cs : List NodeId = children_of s id in
    let trees : AreTrees s cs = subst (λ (ns : List NodeId). AreTrees s ns) kids.value kids.trees in
    let le : rank id ≤ length s.nodes = rank_within s id c.requires in
    let from : ℕ = c.loop-place.from in
    let many : ℕ = length cs - from in
    let end : from + many ≡ length cs = omega (arith, c.loop-place.invariant.within) in
    let past : count_of s (drop from cs) ms ≡ count_of s (drop (from + many) cs) ms =
    count_past many s id from ms kids.sound le trees (omega (arith, end)) (λ at low high. c.in_default.ensures.others context stands pass at low (omega (arith, end, high))) in
    let none : count_of s (drop (from + many) cs) ms ≡ 0 = none_left s cs (from + many) ms (omega (arith, end)) in
    let total : c.loop-place.total ≡ count_of s cs ms = omega (arith, past, none, c.loop-place.invariant.told context stands pass) in
    total ∙ count_all s id ms kids.sound le
