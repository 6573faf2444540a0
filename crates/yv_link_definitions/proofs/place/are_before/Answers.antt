use Rattle.std.proofs.Common.{sym, ◌∙◌, ap}
use Rattle.std.specs.Option.{option_copied}
use Rattle.yv_link_definitions.proofs.PlaceSearch.{all_before}
use Rattle.yv_link_definitions.proofs.place.are_before.Goals as goal

pub returns-in-Some : goal.returns-in-Some
returns-in-Some c = λ is. all_before c.args.places.now c.requires c.in-Some.last.now c.args.file c.args.offset (sym c.last.ensures.value ∙ ap option_copied c.in-Some.is) (sym c.is_before.ensures ∙ is)
