-- Lists that go on from another.
use Rattle.std.proofs.Common.{◌≡◌, ℕ, ◌+◌, ◌-◌, ◌≤◌, List, ◌++◌, length, take, sym, ◌∙◌, ap, arith}
use Rattle.std.proofs.Math.Seq.{take-append_seam, take-append-add}

-- what is a front of a list, and no shorter than an earlier front, goes on from this by the first
-- of what comes behind it
pub front_taken : (xs rest front all : List ℕ) → xs ++ rest ≡ front ++ all → length front ≤ length xs → xs ≡ front ++ take (length xs - length front) all
front_taken xs rest front all same longer =
    let count : ℕ = length xs - length front in
    let long : length xs ≡ length front + count = omega arith in
    sym (take-append_seam xs rest) ∙ ap (take (length xs)) same ∙ ap (λ n. take n (front ++ all)) long ∙ take-append-add front all count
