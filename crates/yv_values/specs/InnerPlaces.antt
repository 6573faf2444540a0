-- Only private clauses cite this: an index as its keys, each with its places.
use Rattle.std.specs.Prelude.{ℕ, ◌<◌, List, [], ◌∷◌, ◌++◌, length, map, ⊤}
use Rattle.yv_values.specs.InnerKeys.{key_of}
use Rattle.yv_values.specs.Pairs.{Pair, Keeps}
use Rattle.yv_values.specs.Values.{Val}
use Rattle.yv_values.specs.declared.key.Key.{Key}
use Rattle.yv_values.specs.declared.places.PlaceList.{PlaceList}
use Rattle.yv_values.specs.declared.places.PlaceList.TheVariants.{One, Many}

-- the places that are kept, one alone or in a list
abbrev pub places_of : PlaceList → List ℕ
places_of (One place) = place ∷ []
places_of (Many places) = places.value.items

-- a key with each of these places
abbrev pub pairs_at : List Val → List ℕ → List Pair
pairs_at key places = map (λ p. record { key = key; place = p }) places

-- the pairs of all keys
abbrev pub pairs_of : List (Key × List ℕ) → List Pair
pairs_of [] = []
pairs_of (e ∷ es) = pairs_at (key_of e.0) e.1 ++ pairs_of es

-- each key has a place, and none is there twice
abbrev pub AreApart : List (Key × List ℕ) → Type 0
AreApart [] = ⊤
AreApart (e ∷ es) =
    (0 < length e.1) × ((p : ℕ) → Keeps (pairs_of es) (key_of e.0) p → ⊥) × AreApart es
