-- What a compilation keeps of the patterns that it has built.
use Rattle.std.specs.Prelude.{◌≡◌, ◌+◌, ℕ, List, [], ◌∷◌, max, min}
use Rattle.std.specs.List.{Contains}
use Rattle.std.specs.List.Sorted.{IsPermutation}

-- the sources of those that are built, and how many bytes are left for others
pub record StoreView : Type 0 where
  pub sources : List (List ℕ)
  pub room : ℕ

-- the limits on the bytes of its tables that are tried for a pattern
abbrev pub tried_limits : List ℕ
tried_limits =
    128 ∷ 256 ∷ 512 ∷ 1024 ∷ 2048 ∷ 4096 ∷ 8192 ∷ 16384 ∷ 32768 ∷ 65536 ∷ 131072 ∷ 262144 ∷ 524288
    ∷ 1048576 ∷ 2097152 ∷ 4194304 ∷ 8388608 ∷ 10485760 ∷ []

-- what a pattern that is built under a limit is charged: the limit, and 8 KiB at least, but never
-- more than the room that is left
abbrev pub charge : (room limit : ℕ) → ℕ
charge room limit = min (max (min limit room) 8192) room

-- the source joins the others, and its pattern is charged one of the limits
pub record IsAdded (old : StoreView) (source : List ℕ) (new : StoreView) : Type 0 where
  pub sources : IsPermutation (source ∷ old.sources) new.sources
  pub limit : ℕ
  pub is_tried : Contains tried_limits limit
  pub room : new.room + charge old.room limit ≡ old.room

-- the pattern of the source is kept: where it was before, nothing changes; otherwise it is added
pub data IsKept (old : StoreView) (source : List ℕ) (new : StoreView) : Type 0 where
  again : Contains old.sources source → new ≡ old → IsKept old source new
  first : (Contains old.sources source → ⊥) → IsAdded old source new → IsKept old source new
