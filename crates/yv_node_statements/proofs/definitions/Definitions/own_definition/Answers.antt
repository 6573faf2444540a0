use Rattle.std.proofs.Common.{◌≡◌, Some, sym, ◌∙◌}
use Rattle.std.specs.List.{slice_get}
use Rattle.std.proofs.lemmas.Result.{IfOk-weaker}
use Rattle.yv_node_statements.proofs.definitions.Definitions.own_definition.Goals as goal

pub returns-in-Some-Node : goal.returns-in-Some-Node
returns-in-Some-Node c =
    let self = c.args.self.now in
    let at : slice_get self.kept.items c.args.number ≡ Some c.in-Some-Node.field-0.now =
    sym c.in-Some-Node.ensures in
    let is = (self.kept_so c.args.number c.in-Some-Node.field-0.now at).0 c.in-Some-Node.definition c.in-Some-Node.field-0-is in
    IfOk-weaker c.share.result _ _ (λ d e. e ∙ is) c.share.ensures
