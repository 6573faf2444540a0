use Rattle.std.proofs.Common.{◌≡◌, ◌<◌, ℕ, true, List, length, subst, sym, ◌∙◌, arith}
use Rattle.std.specs.List.{slice_index}
use Rattle.yv_batch.specs.InnerPieces.{IsPlace}
use Rattle.memchr.specs.Find.{is_byte}
use Rattle.yv_batch.proofs.PieceLemmas.{place_found, place_none}
use Rattle.yv_batch.proofs.pieces.Pieces.count_before.Goals as goal

pub returns-in-Some : goal.returns-in-Some
returns-in-Some g c =
    subst (λ (xs : List ℕ). IsPlace c.args.end xs c.in-Some.place) c.bytes_at_hand.ensures
    (place_found c.args.end c.bytes_at_hand.result.now c.in-Some.place (λ k lt. c.in-Some.ensures.0.before k (omega arith) lt) c.in-Some.ensures.0.high c.in-Some.ensures.1)

pub returns-in-None : goal.returns-in-None
returns-in-None g c =
    subst (λ (xs : List ℕ). IsPlace c.args.end xs (length c.bytes_at_hand-in-None.result.now)) c.bytes_at_hand-in-None.ensures
    (place_none c.args.end c.bytes_at_hand-in-None.result.now
    (λ k lt. subst (λ (xs : List ℕ). is_byte c.args.end (slice_index xs k) ≡ true → ⊥) (c.bytes_at_hand.ensures ∙ sym c.bytes_at_hand-in-None.ensures)
    (c.in-None.ensures k (omega arith) (subst (λ (xs : List ℕ). k < length xs) (c.bytes_at_hand-in-None.ensures ∙ sym c.bytes_at_hand.ensures) lt))))
