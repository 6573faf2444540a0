-- Only private clauses cite this: sequences, each of which goes on by a run from an earlier one, or
-- from nothing.
use Rattle.std.specs.Prelude.{◌≡◌, ◌<◌, ◌⊎◌, ℕ, List, [], ◌∷◌, ◌++◌, length, Option, Some, IfSome, slice_get, slice_index_or}
use Rattle.yv_expand_refines.specs.Changes.{sequence_at}
use Rattle.yv_expand_refines.specs.declared.joints.Joint.{Joint}

-- the next sequence, where these come before it
abbrev pub join : (runs : List (List ℕ)) → List (List ℕ) → Joint → List ℕ
join runs sequences j = sequence_at sequences j.front ++ slice_index_or runs j.run []

abbrev pub joined_from : (runs : List (List ℕ)) → List (List ℕ) → List Joint → List (List ℕ)
joined_from runs sequences [] = sequences
joined_from runs sequences (j ∷ js) = joined_from runs (sequences ++ join runs sequences j ∷ []) js

-- all sequences
abbrev pub sequences_of : (runs : List (List ℕ)) → List Joint → List (List ℕ)
sequences_of runs js = joined_from runs [] js

-- each sequence goes on by one of so many runs, from an earlier sequence; and each item has one of
-- them, or none
pub record AreJoined (count : ℕ) (js : List Joint) (of : List (Option ℕ)) : Type 0 where
  pub runs : (place : ℕ) (j : Joint) → slice_get js place ≡ Some j → j.run < count
  pub fronts : (place : ℕ) (j : Joint) → slice_get js place ≡ Some j
      → IfSome j.front (λ front. front < place)
  pub items : (item : ℕ) (place : ℕ) → slice_get of item ≡ Some (Some place) → place < length js

-- a sequence was made after the others, or none was
abbrev pub Grows : Joint → (old new : List Joint) → Type 0
Grows j old new = (new ≡ old) ⊎ (new ≡ old ++ j ∷ [])
