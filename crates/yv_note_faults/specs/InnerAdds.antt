-- Only private clauses cite this: parts of notes.
use Rattle.std.specs.Prelude.{◌≡◌, ◌≤◌, ◌&&◌, Bool, ℕ, List, [], ◌∷◌, ◌++◌, codes, length, nat_lt, take, if◌then◌else◌}
use Rattle.yv_data_faults.specs.Flaw.{Flaw}
use Rattle.yv_note_faults.specs.Line.{Begins, keys_text, like_text}

-- what is said of a fault behind its place
pub record IsSaid (f : Flaw) (said : List ℕ) : Type 0 where
  pub front : List ℕ
  pub keys : List ℕ
  pub likes : ℕ
  pub advice : List ℕ
  pub begins : Begins f front
  pub is : said ≡ front ++ keys_text keys ++ like_text likes ++ codes ": " ++ advice

-- to some faults others were added, as long as there were fewer than so many
pub record PicksMarked (most : ℕ) (old others new : List Flaw) : Type 0 where
  pub picks : take most (old ++ others) ≡ take most new
  pub bound : length old ≤ most → length new ≤ most

-- a fault was added where it is picked and there were fewer than so many
abbrev pub AddsIf : (most : ℕ) → (is_picked : Bool) → Flaw → (old new : List Flaw) → Type 0
AddsIf most is_picked f old new =
    new ≡ (if is_picked && nat_lt (length old) most then old ++ f ∷ [] else old)
