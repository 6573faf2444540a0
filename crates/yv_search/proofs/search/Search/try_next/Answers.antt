use Rattle.std.proofs.Common.{◌<◌, ◌∙◌, length, refl, ap, arith}
use Rattle.std.specs.Option.{option_map}
use Rattle.std.proofs.lemmas.Option.{slice_get-map}
use Rattle.yv_search.specs.InnerWants.{want}
use Rattle.yv_search.proofs.ListSteps.{get_same}
use Rattle.yv_search.proofs.SearchSteps.{want_tried}
use Rattle.yv_search.proofs.search.Search.try_next.Goals as goal

pub returns-clause-tries : goal.returns-clause-tries
returns-clause-tries c = λ listing s at.
    let inside : c.args.self.now.cursor < length c.as_slice-wants.result.now = omega (arith, c.requires, ap length c.as_slice-wants.ensures.value) in
    want_tried listing c.args.self.now _ s (want c.index-wants-at.result) _ at refl refl refl
    (slice_get-map want c.args.self.now.wants.items c.args.self.now.cursor
    ∙ ap (option_map want) (get_same c.as_slice-wants.result.now c.args.self.now.wants.items c.args.self.now.cursor c.index-wants-at.result c.as_slice-wants.ensures.value inside c.index-wants-at.is))
    (c.in_ok-found.ensures listing at.index)
