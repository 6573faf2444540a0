-- Only private clauses cite this: names of nodes as numbers.
use Rattle.std.specs.Prelude.{◌≡◌, ◌<◌, ℕ, List, if◌then◌else◌, Option, Some, None, slice_get}
use Rattle.std.specs.List.{slice_index_or}
use Rattle.std.specs.Option.{option_map}
use Rattle.std.specs.Ordering.{nat_cmp}
use Rattle.std.specs.Cmp.Lexicographic.{slice_cmp}
use Rattle.std.specs.BTreeMap.{BTreeMap, get_by}
use Rattle.std.specs.Str.{bytes_eq}
use Rattle.std.specs.Borrow.{Bor}
use Rattle.yv_node_content.specs.Steps.{Step}
use Rattle.yv_nodes.specs.Rows.{Row}
use Rattle.yv_node_leafrefs.specs.declared.names.NameTable.{NameTable}
use Rattle.yv_node_leafrefs.specs.declared.strides.Stride.{Stride}

-- a number for each name
abbrev pub NameNumbers : Type 0
NameNumbers = List ℕ → Option ℕ

abbrev pub lookup_in : BTreeMap (Bor (List ℕ)) ℕ → NameNumbers
lookup_in m name = get_by (λ k. slice_cmp nat_cmp name k.now) m

abbrev pub told_of : NameTable → NameNumbers
told_of names = lookup_in names.map

-- the number given to a statement
abbrev pub given_to : NameTable → ℕ → Option ℕ
given_to names s = get_by (nat_cmp s) names.given

abbrev pub first_some : Option ℕ → Option ℕ → Option ℕ
first_some None b = b
first_some (Some a) b = Some a

-- the first number of a name is kept
abbrev pub keep_first : NameNumbers → List ℕ → ℕ → NameNumbers
keep_first told name number n = first_some (told n) (if bytes_eq name n then Some number else None)

-- each number is that of a node of this name among the first n
abbrev pub AreOfNodes : List Row → ℕ → NameNumbers → Type 0
AreOfNodes rows n told =
    (name : List ℕ) (k : ℕ) → told name ≡ Some k → (k < n) × (r : Row) × (slice_get rows k ≡ Some r)
    × (r.label.defined.name ≡ name)

-- these are the numbers of the names of the first n nodes
abbrev pub AreNumbers : List Row → ℕ → NameNumbers → List ℕ → Type 0
AreNumbers rows n told numbers =
    (c : ℕ) (r : Row) → c < n → slice_get rows c ≡ Some r
    → told r.label.defined.name ≡ Some (slice_index_or numbers c 0)

-- the number that a statement is given is that of the name of one of its nodes
abbrev pub AreGiven : List Row → (statements : List ℕ) → NameNumbers → (ℕ → Option ℕ) → Type 0
AreGiven rows statements told given =
    (s k : ℕ) → given s ≡ Some k → (c : ℕ) × (r : Row) × (slice_get statements c ≡ Some s)
    × (slice_get rows c ≡ Some r)
    × (told r.label.defined.name ≡ Some k)

-- what is known once the names of the first n nodes are numbered
pub record AreNumbered (rows : List Row) (statements : List ℕ) (n : ℕ)
    (names : NameTable) : Type 0 where
  pub told : AreOfNodes rows n (told_of names)
  pub given : AreGiven rows statements (told_of names) (given_to names)

abbrev pub stride_with : Option ℕ → Option ℕ → Option Stride
stride_with module_file number =
    option_map (λ name. record { module_file = module_file; name = name }) number

-- a step with the number of its name: None too where no node has that
abbrev pub stride_of : NameNumbers → Option Step → Option Stride
stride_of told None = None
stride_of told (Some s) = stride_with s.module_file (told s.name)
