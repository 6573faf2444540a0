use Rattle.std.proofs.Common.{◌≡◌, List, Option, Some, IfSome, sym, subst}
use Rattle.std.specs.List.{slice_get}
use Rattle.yv_node_content.specs.Definition.{own_default}
use Rattle.yv_nodes.specs.declared.node.NodeId.{NodeId}
use Rattle.yv_nodes.specs.Rows.{Row}
use Rattle.yv_node_checks.specs.InnerNamesakes.{NamesDefault}
use Rattle.yv_node_checks.proofs.Namesakes.{case_named}
use Rattle.yv_node_checks.proofs.mandatory.next_case.Goals as goal

pub default_case-requires : goal.default_case-requires
default_case-requires c =
    let rows : List Row = c.args.nodes.now.rows in
    let cases : List (Option NodeId) = c.args.cases.now in
    let P : Option NodeId → Type 0 = λ o. IfSome o (λ case. slice_get cases c.first_alike-first.result.0 ≡ Some (Some case)) in
    subst (λ (r : Row). NamesDefault rows (own_default r.label.defined) c.kept_case.result) (sym c.get.ensures)
    (case_named rows c.first_alike-first.result.0 c.args.next.0 cases c.requires.cases c.first_alike-first.ensures.alike c.kept_case.result (λ case e. subst P e c.kept_case.ensures))
