use Rattle.std.proofs.Common.{◌∙◌, ap}
use Rattle.yv_text_path.specs.InnerStates.{names_among}
use Rattle.yv_text_path.specs.declared.state.State.TheVariants.{Start}
use Rattle.yv_text_path.proofs.PathsRead.{path_names}
use Rattle.yv_text_path.proofs.names.predicate_names.Goals as goal

pub returns : goal.returns
returns c bare names p = ap (names_among Start) c.new.ensures ∙ path_names p
