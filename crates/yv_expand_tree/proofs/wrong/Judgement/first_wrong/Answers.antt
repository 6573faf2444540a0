use Rattle.std.proofs.Common.{◌∙◌}
use Rattle.yv_link_scopes.specs.Views.{lent_in}
use Rattle.yv_expand_refines.specs.Targets.{all_meant}
use Rattle.yv_expand_tree.proofs.TreeJudgements.{deep_same, least_standing, misplaced_same, refines_same, untargeted_same}
use Rattle.yv_expand_tree.proofs.wrong.Judgement.first_wrong.Goals as goal

pub returns : goal.returns
returns c = λ final items augments full_tree tree changes missing. (
    let files = lent_in c.args.self.now.rows.now in
    least_standing files final c.first_too_deep-deep.result c.in_ok-refine.refine c.args.missing c.first_untargeted.result c.first_misplaced-misplaced.result
    c.in_ok-imposed.imposed c.lesser-missing.result c.lesser.result c.lesser-augment.result c.lesser-2.result c.lesser-3.result
    c.lesser-missing.ensures c.lesser.ensures c.lesser-augment.ensures c.lesser-2.ensures c.lesser-3.ensures
    (deep_same files final c.deref.result.now c.deref-2.result.now (c.deref.ensures.value ∙ full_tree.spots) (c.deref-2.ensures.value ∙ tree)
    c.first_too_deep-deep.result c.first_too_deep-deep.ensures)
    (refines_same files final c.deref-3.result.now c.deref-4.result.now (c.deref-3.ensures.value ∙ full_tree.spots) (c.deref-4.ensures.value ∙ tree)
    (all_meant c.args.self.now.full_tree.now.refined) c.in_ok-refine.refine full_tree.refined c.in_ok-refine.ensures)
    missing
    (untargeted_same files final c.args.self.now.full_tree.now.spots.items c.args.self.now.full_tree.now.tree.items full_tree.spots tree
    c.first_untargeted.result (c.first_untargeted.ensures _ final.items final.state full_tree))
    (misplaced_same files final c.deref-5.result.now c.deref-6.result.now (c.deref-5.ensures.value ∙ full_tree.spots) (c.deref-6.ensures.value ∙ tree)
    c.first_misplaced-misplaced.result c.first_misplaced-misplaced.ensures)
    (c.in_ok-imposed.ensures final items augments full_tree tree changes))
