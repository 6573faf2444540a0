use Rattle.std.proofs.Common.{◌≡◌, ◌≢◌, ◌<◌, ◌≤◌, ◌+◌, ◌-◌, ◌∙◌, List, ℕ, length, get_or, sym, ap, arith, inl, inr}
use Rattle.std.proofs.lemmas.Bool.{cases_lt}
use Rattle.std.proofs.lemmas.List.{get_or_past}
use Rattle.yv_note_text.specs.Alike.{AreExchanged}

-- what follows two neighbours is the same, if the ends are
after : (one other : List ℕ) (end k : ℕ) → length one ≡ length other
    → ((k : ℕ) → k < end → get_or one (length one - 1 - k) 0 ≡ get_or other (length other - 1 - k) 0)
    → length one - end ≤ k → k < length one → get_or one k 0 ≡ get_or other k 0
after one other end k size finish low high =
    let near : length one - 1 - k < end = omega arith in
    let first : length one - 1 - (length one - 1 - k) ≡ k = omega arith in
    let second : length other - 1 - (length one - 1 - k) ≡ k = omega arith in
    sym (ap (λ i. get_or one i 0) first) ∙ finish (length one - 1 - k) near ∙ ap (λ i. get_or other i 0) second

past : (one other : List ℕ) (k : ℕ) → length one ≡ length other → length one ≤ k → get_or one k 0 ≡ get_or other k 0
past one other k size high =
    let also : length other ≤ k = omega arith in
    get_or_past one k 0 high ∙ sym (get_or_past other k 0 also)

-- names that begin alike and end alike, with two neighbours between that are exchanged
pub exchanged : (one other : List ℕ) (front end : ℕ) → length one ≡ length other → length one ≡ front + end + 2
    → get_or one front 0 ≡ get_or other (front + 1) 0 → get_or one (front + 1) 0 ≡ get_or other front 0
    → ((k : ℕ) → k < front → get_or one k 0 ≡ get_or other k 0)
    → ((k : ℕ) → k < end → get_or one (length one - 1 - k) 0 ≡ get_or other (length other - 1 - k) 0)
    → AreExchanged one other
exchanged one other front end size count first second begin finish = record {
  place = front;
  within = omega arith;
  size = size;
  first = first;
  second = second;
  rest = λ k here there. elim (cases_lt k front) [
    | inl low ↦ begin k low
    | inr high ↦ elim (cases_lt k (length one)) [
      | inl within ↦ after one other end k size finish (omega arith) within
      | inr beyond ↦ past one other k size beyond
    ]
  ];
}
