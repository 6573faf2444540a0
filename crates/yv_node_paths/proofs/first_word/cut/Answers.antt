use Rattle.std.proofs.Common.{◌≡◌, Some, ap, ◌∙◌, position}
use Rattle.std.proofs.lemmas.Str.{IsCharBoundary-before_ascii, IsCharBoundary-after_ascii}
use Rattle.yv_text_if_feature.specs.Bytes.{is_blank}
use Rattle.yv_node_paths.proofs.Cuts.{place_in, place_small}
use Rattle.yv_node_paths.proofs.first_word.cut.Goals as goal

pub range-requires-clause-end_boundary : goal.range-requires-clause-end_boundary
range-requires-clause-end_boundary c =
    let text = c.args.text.now in
    let is : Some c.in-Some.at ≡ position is_blank text = c.in-Some.ensures ∙ ap (position is_blank) c.as_bytes.ensures.value in
    IsCharBoundary-before_ascii text c.in-Some.at (place_in text c.in-Some.at is) (place_small text c.in-Some.at is)

pub range_from-requires : goal.range_from-requires
range_from-requires c =
    let text = c.args.text.now in
    let is : Some c.in-Some.at ≡ position is_blank text = c.in-Some.ensures ∙ ap (position is_blank) c.as_bytes.ensures.value in
    λ _. IsCharBoundary-after_ascii text c.in-Some.at c.utf8.text (place_in text c.in-Some.at is) (place_small text c.in-Some.at is)
