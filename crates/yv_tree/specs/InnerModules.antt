-- Only private clauses cite this: modules by the numbers of their files.
use Rattle.std.specs.Prelude.{◌≡◌, ℕ, ◌+◌, ◌==◌, List, [], ◌∷◌, ◌++◌, Option, Some, None, Ok, Err, Result, if◌then◌else◌}
use Rattle.std.specs.BTreeMap.{BTreeMap, get}
use Rattle.std.specs.Ordering.{nat_cmp}
use Rattle.yv_nodes.specs.Rows.{Module}
use Rattle.yv_tree.specs.declared.diagrams.Missing.{Missing}

-- the place of the first of these modules that has this number, where they begin with the place
-- `first`
abbrev pub place_from : (first : ℕ) → List Module → (module_file : ℕ) → Option ℕ
place_from first [] module_file = None
place_from first (m ∷ ms) module_file =
    if m.module_file == module_file then Some first else place_from (first + 1) ms module_file

-- a map has the place of the first module of each number
abbrev pub ArePlaces : List Module → BTreeMap ℕ ℕ → Type 0
ArePlaces modules places =
    (module_file : ℕ) → get nat_cmp places module_file ≡ place_from 0 modules module_file

-- modules behind others that were found, where none is missing
abbrev pub behind_found : List Module → Result (List Module) Missing → Result (List Module) Missing
behind_found found (Err e) = Err e
behind_found found (Ok ms) = Ok (found ++ ms)
