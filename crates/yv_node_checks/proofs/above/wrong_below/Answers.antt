use Rattle.std.proofs.Common.{◌≡◌, ◌∷◌, ap, ◌∙◌, true}
use Rattle.yv_text_statement.specs.declared.refusal.Code.TheVariants as code
use Rattle.yv_text_statement.specs.declared.refusal.Refusal.{Refusal}
use Rattle.yv_text_statement.specs.Order.{Stands}
use Rattle.yv_text_statement.proofs.Least.{least_lesser}
use Rattle.yv_nodes.specs.Tree.{Label}
use Rattle.yv_nodes.specs.Refusals.{refusal_of}
use Rattle.yv_node_checks.specs.Above.{AtNearest, is_misconfigured, is_misfit, is_misplaced, lacks_key, line}
use Rattle.yv_node_checks.specs.InnerAncestry.{ancestry_of}
use Rattle.yv_node_checks.proofs.Here.{least_here}
use Rattle.yv_node_checks.proofs.above.wrong_below.Goals as goal

pub returns : goal.returns
returns c = λ p l a n.
    let o : c.below-own.result ≡ ancestry_of (line p) = c.below-own.ensures p.above a ∙ ap (λ (m : Label). ancestry_of (m ∷ p.above)) l in
    let config = least_here code.BadConfig _ p.label _ (is_misconfigured p) _ c.refusal_if-config.ensures l (c.is_misconfigured.ensures p l n o) in
    let operation = least_here code.BadOperation _ p.label _ (is_misplaced p) _ c.refusal_if-operation.ensures l (c.is_misplaced.ensures p l a n) in
    let keyless = least_here code.BadKey _ p.label _ (lacks_key p) _ c.refusal_if-keyless.ensures l (c.lacks_key.ensures p l) in
    let misfit = rw (c.is_misfit.ensures p l n o) at (c.at_nearest-misfit.ensures p.above n) in
    let P : Refusal → Type 0 = λ f. Stands (is_misconfigured p ≡ true) (refusal_of code.BadConfig p.label) f in
    let Q : Refusal → Type 0 = λ f. Stands (is_misplaced p ≡ true) (refusal_of code.BadOperation p.label) f in
    let R : Refusal → Type 0 = λ f. Stands (lacks_key p ≡ true) (refusal_of code.BadKey p.label) f in
    let S : Refusal → Type 0 = λ f. AtNearest p.above (is_misfit p) f in
    let first = least_lesser P Q _ _ _ c.lesser.ensures config operation in
    let second = least_lesser R S _ _ _ c.lesser-2.ensures keyless misfit in
    least_lesser _ _ _ _ _ c.lesser-3.ensures first second
