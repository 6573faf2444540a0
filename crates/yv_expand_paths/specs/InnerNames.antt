-- Only private clauses cite this: numbers by name, as they are kept.
use Rattle.std.specs.Prelude.{ℕ, List, if◌then◌else◌, Option, Some, None}
use Rattle.std.specs.Ordering.{nat_cmp}
use Rattle.std.specs.Cmp.Lexicographic.{slice_cmp}
use Rattle.std.specs.BTreeMap.{BTreeMap, get_by}
use Rattle.std.specs.Str.{bytes_eq}
use Rattle.std.specs.Borrow.{Bor}
use Rattle.yv_expand_paths.specs.declared.table.Table.{Table}
use Rattle.yv_link_scopes.specs.InnerPlaces.{first_some}

abbrev pub lookup_in : BTreeMap (Bor (List ℕ)) ℕ → List ℕ → Option ℕ
lookup_in m name = get_by (λ k. slice_cmp nat_cmp name k.now) m

abbrev pub table_of : Table → List ℕ → Option ℕ
table_of table = lookup_in table.map

-- the first number of a name is kept
abbrev pub keep_first : (List ℕ → Option ℕ) → List ℕ → ℕ → List ℕ → Option ℕ
keep_first table name number n =
    first_some (table n) (if bytes_eq name n then Some number else None)
