-- Only private clauses cite this: names in the order of their first use.
use Rattle.std.specs.Prelude.{◌≡◌, ℕ, ◌+◌, List, [], ◌∷◌, length, Option, Some, None, if◌then◌else◌}
use Rattle.std.specs.List.{slice_get, slice_index_or}
use Rattle.std.specs.Option.{option_map}
use Rattle.std.specs.Str.{bytes_eq}
use Rattle.std.specs.BTreeMap.{BTreeMap, get_by}
use Rattle.std.specs.Ordering.{nat_cmp}
use Rattle.std.specs.Cmp.Lexicographic.{slice_cmp}
use Rattle.std.specs.Rc.{rc_str_bytes}
use Rattle.std.specs.declared.rc.RcStr.{RcStr}
use Rattle.std.specs.declared.alloc.Global.{Global}
use Rattle.yv_nodes.specs.Alike.{untyped_at}
use Rattle.yv_nodes.specs.Rows.{Row, blank_row}
use Rattle.yv_schema_tables.specs.declared.names.NameTable.{NameTable}

-- what a map has at a name
abbrev pub get_by_name : {X : Type 0} → BTreeMap (RcStr Global) X → List ℕ → Option X
get_by_name table name = get_by (λ k. slice_cmp nat_cmp name (rc_str_bytes k)) table

-- how many names come before this one, where it is among them
abbrev pub number_in : List (List ℕ) → List ℕ → Option ℕ
number_in [] text = None
number_in (name ∷ names) text =
    if bytes_eq name text then Some 0 else option_map (λ n. n + 1) (number_in names text)

-- the names with one more after them, where it isn't among them
abbrev pub with_name : List (List ℕ) → List ℕ → List (List ℕ)
with_name [] text = text ∷ []
with_name (name ∷ names) text =
    if bytes_eq name text then name ∷ names else name ∷ with_name names text

-- these names and then those of nodes, each at its first use
abbrev pub with_names : List (List ℕ) → List Row → List (List ℕ)
with_names names [] = names
with_names names (row ∷ rows) = with_names (with_name names row.label.defined.name) rows

-- the names of nodes, in order of first use
abbrev pub names_of : List Row → List (List ℕ)
names_of rows = with_names [] rows

-- the numbers of these names are known by name
pub record HaveNumbers (names : List (List ℕ)) (found : NameTable) : Type 0 where
  pub each : (text : List ℕ) → get_by_name found.numbers text ≡ number_in names text
  pub counted : found.count ≡ length names

-- for each node the number of its name
pub record AreOfNodes (rows : List Row) (numbers : List ℕ) : Type 0 where
  pub each : length numbers ≡ length rows
  pub gives : (i number : ℕ) → slice_get numbers i ≡ Some number
      → number_in (names_of rows) (slice_index_or rows i blank_row).label.defined.name ≡ Some number

-- of the first nodes the numbers of their names among these
abbrev pub AreNumbersOf : (names : List (List ℕ)) → List Row → (numbers : List ℕ) → Type 0
AreNumbersOf names rows numbers = (i number : ℕ) → slice_get numbers i ≡ Some number
    → number_in names (untyped_at rows i).name ≡ Some number
