-- How a name is like another one.
use Rattle.std.specs.Prelude.{◌≡◌, ◌≢◌, ◌≤◌, ◌<◌, ◌+◌, ◌-◌, ◌⊎◌, ◌++◌, ℕ, List, length, slice_index, Option, Some, None}
use Rattle.yv_note_text.specs.declared.likeness.Likeness.{Likeness}
use Rattle.yv_note_text.specs.declared.likeness.Likeness.TheVariants.{Same, OneApart, TwoApart, Longer}

-- the names begin alike and end alike, and between those parts each has at most so many bytes
pub record AreApart (most : ℕ) (one other : List ℕ) : Type 0 where
  pub front : ℕ
  pub end : ℕ
  pub within_one : front + end ≤ length one
  pub within_other : front + end ≤ length other
  pub begin : (k : ℕ) → k < front → slice_index one k ≡ slice_index other k
  pub finish : (k : ℕ) → k < end → slice_index one (length one - 1 - k) ≡ slice_index other (length other - 1 - k)
  pub one_between : length one ≤ front + end + most
  pub other_between : length other ≤ front + end + most

-- the names differ only in that two neighbours are exchanged
pub record AreExchanged (one other : List ℕ) : Type 0 where
  pub place : ℕ
  pub within : place + 1 < length one
  pub size : length one ≡ length other
  pub first : slice_index one place ≡ slice_index other (place + 1)
  pub second : slice_index one (place + 1) ≡ slice_index other place
  pub rest : (k : ℕ) → k ≢ place → k ≢ place + 1 → slice_index one k ≡ slice_index other k

-- the name has 3 to 64 bytes
abbrev pub HasFitLength : List ℕ → Type 0
HasFitLength name = (3 ≤ length name) × (length name ≤ 64)

-- both names have 3 to 64 bytes
abbrev pub HaveFitLengths : List ℕ → List ℕ → Type 0
HaveFitLengths one other = HasFitLength one × HasFitLength other

-- one difference: a byte that is left out, that is added or that is another one, or two neighbours
-- that are exchanged
abbrev pub AreOneApart : List ℕ → List ℕ → Type 0
AreOneApart one other = HaveFitLengths one other × (AreApart 1 one other ⊎ AreExchanged one other)

-- two differences next to one another, in names of which one has at least 6 bytes
abbrev pub AreTwoApart : List ℕ → List ℕ → Type 0
AreTwoApart one other = HaveFitLengths one other × AreApart 2 one other × ((6 ≤ length one) ⊎ (6 ≤ length other))

-- the one name is the front of the other
abbrev pub IsFront : List ℕ → List ℕ → Type 0
IsFront one other = HaveFitLengths one other × ((more : List ℕ) × (other ≡ one ++ more))

-- the first of these likenesses that a name has to the one that was written; none, if it has none
abbrev pub IsLikeness : List ℕ → List ℕ → Option Likeness → Type 0
IsLikeness written name (Some Same) = written ≡ name
IsLikeness written name (Some OneApart) = (written ≢ name) × AreOneApart written name
IsLikeness written name (Some TwoApart) = (written ≢ name) × ¬ AreOneApart written name × AreTwoApart written name
IsLikeness written name (Some Longer) =
    (written ≢ name) × ¬ AreOneApart written name × ¬ AreTwoApart written name × IsFront written name
IsLikeness written name None =
    (written ≢ name) × ¬ AreOneApart written name × ¬ AreTwoApart written name × ¬ IsFront written name
