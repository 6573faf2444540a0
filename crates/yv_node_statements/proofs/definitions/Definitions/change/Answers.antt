use Rattle.std.proofs.Common.{◌≡◌, Some, sym, ap, ◌∙◌}
use Rattle.std.specs.List.{slice_get}
use Rattle.std.proofs.lemmas.Result.{on_ok_weaker}
use Rattle.yv_node_statements.specs.InnerChanges.{Change, apply_change}
use Rattle.yv_node_statements.proofs.definitions.Definitions.change.Goals as goal

pub returns-in-Some-Refine : goal.returns-in-Some-Refine
returns-in-Some-Refine c =
    let self = c.args.self.now in
    let at : slice_get self.kept.items c.args.number ≡ Some c.in-Some-Refine.field-0.now =
    sym c.in-Some-Refine.ensures in
    let is = (self.kept_so c.args.number c.in-Some-Refine.field-0.now at).1 c.in-Some-Refine.changes c.in-Some-Refine.field-0-is in
    on_ok_weaker c.change.result (λ e. e ∙ ap (λ (p : Change). apply_change p c.args.definition.now) (c.deref.ensures ∙ is)) c.change.ensures
