use Rattle.std.proofs.Common.{◌≡◌, IfOk, sym, ap, ◌∙◌, subst}
use Rattle.serde_json.specs.Data.{Data, object}
use Rattle.serde_json.proofs.Views.{view-Object}
use Rattle.serde_json.specs.View.{members_view, view}
use Rattle.yv_nodes.specs.Rows.{Rows}
use Rattle.yv_validate.specs.Faults.{faults}
use Rattle.yv_validate.proofs.validator.Validator.validate.Goals as goal

pub returns-in-Object-clause-faults : goal.returns-in-Object-clause-faults
returns-in-Object-clause-faults c =
    let doc : view c.args.document.now ≡ object (members_view c.in-Object.members.entries) = ap view c.in-Object.is ∙ view-Object c.in-Object.members in
    let of_rows = subst (λ (d : Data). IfOk c.document.result (λ r. r.faults.items ≡ faults c.args.kind c.self.inside.schema.now d)) (sym doc) c.document.ensures.faults in
    subst (λ (s : Rows). IfOk c.document.result (λ r. r.faults.items ≡ faults c.args.kind s (view c.args.document.now))) c.self.view_is of_rows
