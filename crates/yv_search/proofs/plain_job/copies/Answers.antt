use Rattle.std.proofs.Common.{◌≡◌, ◌∙◌, ◌++◌, List, ℕ, [], ◌∷◌, map, take, string_bytes, sym, ap}
use Rattle.std.proofs.lemmas.List.{map-append}
use Rattle.yv_search.proofs.ListSteps.{get_map, take_next}
use Rattle.yv_search.proofs.plain_job.copies.Goals as goal

pub loop-name-preserved : goal.loop-name-preserved
loop-name-preserved c =
    let all : List (List ℕ) = map string_bytes c.args.given.now in
    ap (map string_bytes) c.in_ok-push.ensures.items
    ∙ map-append string_bytes c.loop-name.names.items (c.in_ok-from_str.field-0 ∷ [])
    ∙ ap (λ l. l ++ string_bytes c.in_ok-from_str.field-0 ∷ []) c.loop-name.invariant
    ∙ ap (λ b. take c.loop-name.name-index all ++ b ∷ []) (c.in_ok-from_str.ensures.ok ∙ c.as_str.ensures.value)
    ∙ sym (take_next all c.loop-name.name-index (string_bytes c.name-item.result) (get_map string_bytes c.args.given.now c.loop-name.name-index c.name-item.result c.loop-name-test.true c.name-item.is))
