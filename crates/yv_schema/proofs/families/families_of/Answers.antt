use Rattle.std.proofs.Common.{◌≡◌, ◌∙◌, ap, sym, arith, length, List, None}
use Rattle.std.proofs.lemmas.List.{drop_all}
use Rattle.yv_expand.specs.Tree.{Node}
use Rattle.yv_schema.specs.InnerChildren.{Lists, hang_all, lists_in}
use Rattle.yv_schema.proofs.ChildPlacement.{hung_all}
use Rattle.yv_schema.proofs.families.families_of.Goals as goal

pub returns-clause-top : goal.returns-clause-top
returns-clause-top c = λ t is. (
    let start : Lists = lists_in c.in_ok-families.families in
    let all = hung_all t start c.in_ok-families.ensures.top (c.in_ok-families.ensures.each ∙ ap length is ∙ c.a_tree_is_listed_whole.ensures None 0 t) c.in_ok-families.ensures.below in
    let done : lists_in c.loop-number.families ≡ hang_all 0 c.args.nodes.now start =
    ap (λ (xs : List Node). hang_all c.loop-number.number xs (lists_in c.loop-number.families)) (sym (drop_all c.loop-number.number c.args.nodes.now (omega (arith, c.loop-number-test.false)))) ∙ c.loop-number.invariant in
    ap (λ (l : Lists). l.top) (done ∙ ap (λ (xs : List Node). hang_all 0 xs start) is) ∙ all.0)

pub returns-clause-below : goal.returns-clause-below
returns-clause-below c = λ t is. (
    let start : Lists = lists_in c.in_ok-families.families in
    let all = hung_all t start c.in_ok-families.ensures.top (c.in_ok-families.ensures.each ∙ ap length is ∙ c.a_tree_is_listed_whole.ensures None 0 t) c.in_ok-families.ensures.below in
    let done : lists_in c.loop-number.families ≡ hang_all 0 c.args.nodes.now start =
    ap (λ (xs : List Node). hang_all c.loop-number.number xs (lists_in c.loop-number.families)) (sym (drop_all c.loop-number.number c.args.nodes.now (omega (arith, c.loop-number-test.false)))) ∙ c.loop-number.invariant in
    ap (λ (l : Lists). l.below) (done ∙ ap (λ (xs : List Node). hang_all 0 xs start) is) ∙ all.1)
