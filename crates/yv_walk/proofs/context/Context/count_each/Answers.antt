use Rattle.std.proofs.Common.{◌≡◌, ◌+◌, ◌<◌, ℕ, List, [], drop, length, get_or, slice_index_or, cond, true, ap, sym, ◌∙◌, subst, arith}
use Rattle.std.proofs.lemmas.List.{drop_all}
use Rattle.yv_nodes.specs.declared.node.NodeId.{NodeId}
use Rattle.yv_nodes.specs.Rows.{AreTrees, children_of, tree_of}
use Rattle.yv_walk.specs.Context.{members_of, parent_of}
use Rattle.yv_walk.specs.Existence.{any, stands_in, tree_standing}
use Rattle.yv_walk.proofs.Above.{rank_within}
use Rattle.yv_walk.proofs.ExistingChildren.{count_all, count_drop, count_of, more_false, more_true}
use Rattle.yv_walk.proofs.Stands.{inner_stands}
use Rattle.yv_walk.proofs.context.Context.count_each.Goals as goal
use Rattle.yv_walk.proofs.context.Context.count_each.Goals.{then-any, else-any}

pub loop-child-preserved : goal.loop-child-preserved
loop-child-preserved c =
    let s = c.args.schema.now in
    let p = parent_of c.args.self.now in
    let id = c.args.id in
    let ms = members_of c.args.self.now in
    let d : NodeId = record { 0 = 0 } in
    let i = c.loop-child.child-index in
    let items = c.children-child-items.result.now in
    let sound = c.children-child-items.ensures.sound in
    let same : items ≡ children_of s id = c.children-child-items.ensures.value in
    let child = slice_index_or items i d in
    let is_child : get_or (children_of s id) i d ≡ child = ap (λ (xs : List NodeId). get_or xs i d) (sym same) in
    let lt : i < length (children_of s id) = subst (λ (xs : List NodeId). i < length xs) same c.loop-child-test.true in
    let trees : AreTrees s (children_of s id) = subst (λ (xs : List NodeId). AreTrees s xs) same c.children-child-items.ensures.trees in
    let le_id = rank_within s id c.requires in
    let total = c.loop-child.total in
    let rest = count_of s (drop (i + 1) (children_of s id)) ms in
    let all = count_of s (children_of s id) ms in
    record {
      within = elim c.if-any.branch [
        | then-any w ↦ omega arith
        | else-any w ↦ omega arith
      ];
      told = λ context stands pass.
          let met : c.any.result ≡ any (tree_standing child.0 (tree_of s child) ms) = c.any.ensures
          ∙ ap any (c.existence_of.ensures context (subst (λ (n : NodeId). stands_in s p n ≡ true) is_child (inner_stands s p id i d sound stands pass lt))) in
          let same_any : any (tree_standing (get_or (children_of s id) i d).0 (tree_of s (get_or (children_of s id) i d)) ms) ≡ c.any.result =
          ap (λ (n : NodeId). any (tree_standing n.0 (tree_of s n) ms)) is_child ∙ sym met in
          let whole : total + (cond c.any.result 1 0 + rest) ≡ all =
          ap (λ b. total + (cond b 1 0 + rest)) (sym same_any) ∙ ap (λ (n : ℕ). total + n) (sym (count_drop s id i d ms sound le_id trees lt))
          ∙ c.loop-child.invariant.told context stands pass in
          elim c.if-any.branch [
            | then-any w ↦ more_true total rest c.if-any.total all c.any.result whole w.if-any.true w.total-is
            | else-any w ↦ more_false total rest c.if-any.total all c.any.result whole w.if-any.false w.total-is
          ];
    }

pub returns : goal.returns
returns c = λ context stands pass.
    let s = c.args.schema.now in
    let id = c.args.id in
    let ms = members_of c.args.self.now in
    let i = c.loop-child.child-index in
    let same = c.children-child-items.ensures.value in
    let past : drop i (children_of s id) ≡ [] = subst (λ (xs : List NodeId). drop i xs ≡ []) same (drop_all i c.children-child-items.result.now c.loop-child-test.false) in
    let total = c.loop-child.total in
    let none : total + count_of s (drop i (children_of s id)) ms ≡ total + 0 = ap (λ (xs : List NodeId). total + count_of s xs ms) past in
    let number : total ≡ total + 0 = omega arith in
    number ∙ sym none ∙ c.loop-child.invariant.told context stands pass ∙ count_all s id ms c.children-child-items.ensures.sound (rank_within s id c.requires)
