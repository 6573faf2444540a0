use Rattle.std.proofs.Common.{sym, ◌∙◌, ap}
use Rattle.std.specs.List.{slice_get}
use Rattle.std.specs.Option.{option_copied}
use Rattle.yv_link_definitions.proofs.BuiltIns.{begin_nowhere}
use Rattle.yv_link_definitions.proofs.built_in.is_built_in.Goals as goal

pub returns-in-None : goal.returns-in-None
returns-in-None c = sym (begin_nowhere c.args.name.now (ap (λ l. slice_get l 0) (sym c.as_bytes.ensures.value) ∙ sym c.first.ensures.value ∙ ap option_copied c.in-None.is))
