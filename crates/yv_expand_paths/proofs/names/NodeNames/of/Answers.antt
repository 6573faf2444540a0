use Rattle.std.proofs.Common.{◌∙◌, ap}
use Rattle.std.specs.List.{slice_get}
use Rattle.yv_expand_paths.proofs.PathReading.{number_read}
use Rattle.yv_expand_paths.proofs.names.NodeNames.of.Goals as goal

pub returns : goal.returns
returns c = λ rows are. c.number_at.ensures ∙ ap (λ l. slice_get l c.args.statement) c.deref.ensures.value ∙ number_read rows c.args.self.now.numbers.items c.args.statement are.own
