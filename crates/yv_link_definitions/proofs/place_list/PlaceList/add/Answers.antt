use Rattle.std.proofs.Common.{◌∙◌, ap}
use Rattle.yv_link_definitions.specs.Lookups.{lookup_in}
use Rattle.yv_link_definitions.proofs.FirstStatements.{kept}
use Rattle.yv_link_definitions.proofs.place_list.PlaceList.add.Goals as goal

pub returns : goal.returns
returns c f o = ap (λ ps. lookup_in ps f o) c.in_ok-push.ensures.items ∙ kept c.args.self.now.places.items c.args.place f o
