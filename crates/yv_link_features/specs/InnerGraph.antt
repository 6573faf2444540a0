-- Only private clauses cite this: the conditions of each statement, and what each depends on, as
-- lists of numbers.
use Rattle.std.specs.Prelude.{◌≡◌, ◌↔◌, ℕ, ◌<◌, true, List, [], ◌∷◌, ◌++◌, length, map, Option, Some, None}
use Rattle.std.specs.Prelude.{slice_get, slice_index_or}
use Rattle.std.specs.List.{Contains}
use Rattle.std.specs.declared.vec.Vec.{Vec}
use Rattle.std.specs.declared.alloc.Global.{Global}
use Rattle.yv_base_graph.specs.Graph.{IsOrderBy}
use Rattle.yv_text_if_feature.specs.Tokens.{tokens}
use Rattle.yv_link_scopes.specs.Rows.{Row, name_in}
use Rattle.yv_link_features.specs.Meaning.{Meaning}
use Rattle.yv_link_features.specs.Value.{Assignment, HasValue}
use Rattle.yv_link_features.specs.On.{is_if_feature_of}
use Rattle.yv_link_features.specs.Depends.{LeadsTo}
use Rattle.yv_link_features.specs.InnerNames.{meant_among}

-- number i is a condition of statement k
abbrev pub IsIfFeatureAt : List Row → ℕ → ℕ → Type 0
IsIfFeatureAt rows k i = (q : Row) × (slice_get rows i ≡ Some q) × (is_if_feature_of k q ≡ true)

-- the numbers in a list of lists
abbrev pub numbers_at : List (Vec ℕ Global) → ℕ → List ℕ
numbers_at lists k = slice_index_or (map (λ v. v.items) lists) k []

-- a list for each statement, with the numbers of its conditions, as far as the first n statements
-- go
pub record ListsUpTo (rows : List Row) (n : ℕ) (lists : List (Vec ℕ Global)) : Type 0 where
  pub each : length lists ≡ length rows
  pub exact : (k i : ℕ) → Contains (numbers_at lists k) i ↔ ((i < n) × IsIfFeatureAt rows k i)

-- a list for each statement, with the numbers of its conditions
pub record AreLists (rows : List Row) (lists : List (Vec ℕ Global)) : Type 0 where
  pub each : length lists ≡ length rows
  pub exact : (k i : ℕ) → Contains (numbers_at lists k) i ↔ IsIfFeatureAt rows k i

abbrev pub meant_in : Meaning → Option Row → List ℕ
meant_in means None = []
meant_in means (Some q) = meant_among means q.file (tokens (name_in q))

-- the features that the numbered conditions name
abbrev pub meant_from : Meaning → List Row → List ℕ → List ℕ
meant_from means rows [] = []
meant_from means rows (i ∷ is) = meant_in means (slice_get rows i) ++ meant_from means rows is

-- for each statement, the features that its conditions name
abbrev pub steps_of : Meaning → List Row → List (Vec ℕ Global) → List (List ℕ)
steps_of means rows lists = map (λ v. meant_from means rows v.items) lists

-- the numbered condition has the value true
abbrev pub IsTrueAt : Meaning → List Row → Assignment → ℕ → Type 0
IsTrueAt means rows on i =
    (q : Row) → slice_get rows i ≡ Some q → HasValue means on q.file (name_in q) true

-- the numbered conditions have
abbrev pub AllTrue : Meaning → List Row → Assignment → List ℕ → Type 0
AllTrue means rows on conditions = (i : ℕ) → Contains conditions i → IsTrueAt means rows on i

-- all statements, each once and after all that it leads to
abbrev pub IsOrderOf : Meaning → List Row → List ℕ → Type 0
IsOrderOf means rows order = IsOrderBy (LeadsTo means rows) (length rows) order
