use Rattle.std.proofs.Common.{◌≡◌, ◌⊎◌, ◌+◌, sym, ap, ◌∙◌, true, arith, List, is_some}
use Rattle.std.specs.List.{slice_get}
use Rattle.yv_text_statement.specs.declared.refusal.Code.TheVariants as code
use Rattle.yv_text_statement.specs.declared.refusal.Refusal.{Refusal}
use Rattle.yv_text_statement.specs.Order.{Stands}
use Rattle.yv_text_statement.proofs.Least.{least_lesser}
use Rattle.yv_node_content.specs.Definition.{own_default}
use Rattle.yv_nodes.specs.Tree.{Label}
use Rattle.yv_nodes.specs.Refusals.{refusal_of}
use Rattle.yv_nodes.specs.Places.{Place}
use Rattle.yv_nodes.specs.Rows.{Row}
use Rattle.yv_nodes.specs.Numbers.{numbers_from}
use Rattle.yv_node_checks.proofs.Spots.{IsNumbered, is_numbered}
use Rattle.yv_node_checks.specs.Mandatory.{default_case, has_unfit_default, is_caseless, is_needed_in, is_overruled}
use Rattle.yv_node_checks.specs.InnerBelow.{case_among, is_undone_at}
use Rattle.yv_node_checks.proofs.Here.{least_here}
use Rattle.yv_node_checks.proofs.Below.{found_by}
use Rattle.yv_node_checks.proofs.mandatory.wrong_default.Goals as goal

pub returns : goal.returns
returns c = λ ts i p are known at there its.
    let rows = c.args.nodes.now in
    let row : IsNumbered ts i c.args.node.now = is_numbered ts i c.args.node.now (ap (λ (rs : List Row). slice_get rs i) (sym are) ∙ at) in
    let same : row.spot.place ≡ p = let e = row.at_place in cc (e, there) in
    let label : c.args.node.now.label ≡ p.label = ap (λ (r : Row). r.label) row.is ∙ ap (λ (q : Place). q.label) same in
    let l : Label = row.spot.place.label in
    let inner = found_by rows ts c.args.below.now 0 are known l.module_file (own_default l.defined) (i + 1) row.spot.place.kids (omega arith) row.known.sit in
    let case_is : c.args.case ≡ case_among rows l.module_file (own_default l.defined) (numbers_from (i + 1) row.spot.place.kids) =
    its ∙ ap (λ (r : Row). case_among rows r.label.module_file (own_default r.label.defined) r.children) row.is
    ∙ ap (case_among rows l.module_file (own_default l.defined)) row.known.children in
    let present = ap is_some case_is ∙ inner.present ∙ ap (λ (q : Place). is_some (default_case q)) same in
    let undone_is = c.is_undone.ensures ∙ ap (is_undone_at rows c.args.below.now) case_is ∙ inner.undone ∙ ap (λ (q : Place). is_needed_in (default_case q)) same in
    let overruled = least_here code.BadMandatory _ p.label _ (is_overruled p.label) _ c.refusal_if-overruled.ensures label (c.is_overruled.ensures ∙ ap is_overruled label) in
    let undone = least_here code.BadMandatory _ p.label _ (is_needed_in (default_case p)) _ c.refusal_if-undone.ensures label undone_is in
    let caseless = least_here code.BadDefault _ p.label _ (is_caseless p.label (is_some (default_case p))) _ c.refusal_if-caseless.ensures label
    (c.is_caseless.ensures ∙ ap (λ (m : Label). is_caseless m c.is_some.result) label ∙ ap (is_caseless p.label) (c.is_some.ensures ∙ present)) in
    let unfit = least_here code.BadDefault _ p.label _ (has_unfit_default p.label) _ c.refusal_if-unfit.ensures label (c.has_unfit_default.ensures ∙ ap has_unfit_default label) in
    let P : Refusal → Type 0 = λ f. Stands (is_overruled p.label ≡ true) (refusal_of code.BadMandatory p.label) f in
    let Q : Refusal → Type 0 = λ f. Stands (is_needed_in (default_case p) ≡ true) (refusal_of code.BadMandatory p.label) f in
    let R : Refusal → Type 0 = λ f. Stands (is_caseless p.label (is_some (default_case p)) ≡ true) (refusal_of code.BadDefault p.label) f in
    let S : Refusal → Type 0 = λ f. Stands (has_unfit_default p.label ≡ true) (refusal_of code.BadDefault p.label) f in
    let both = least_lesser P Q _ _ _ c.lesser.ensures overruled undone in
    let others = least_lesser R S _ _ _ c.lesser-2.ensures caseless unfit in
    least_lesser (λ f. P f ⊎ Q f) (λ f. R f ⊎ S f) _ _ _ c.lesser-3.ensures both others
