-- To which built-in types the types lead, along typedefs (RFC 7950, sections 4.2.4, 7.3 and 7.4).
use Rattle.std.specs.Prelude.{◌≡◌, ◌↔◌, ℕ, ◌+◌, ◌<◌, ◌==◌, ◌&&◌, ◌⊎◌, nat_lt, Bool, true, List, [], ◌∷◌, ◌++◌, length, take, Option, Some, codes, if◌then◌else◌, slice_get, slice_index}
use Rattle.std.specs.List.{Contains}
use Rattle.std.specs.Str.{bytes_eq}
use Rattle.yv_link_scopes.specs.Files.{Briefs}
use Rattle.yv_link_scopes.specs.Rows.{Row, name_in}
use Rattle.yv_link_scopes.specs.declared.kind.NameKind.TheVariants.{Typedef}
use Rattle.yv_link_definitions.specs.BuiltIn.{is_built_in}
use Rattle.yv_link_definitions.specs.Refers.{Refers, is_type}

-- a type of this number is in a block: a root, which is its own block, isn't in it
abbrev pub is_inner : ℕ → Row → Bool
is_inner n r = is_type r && nat_lt r.scope n

-- a numbered statement is a `type` in this block
abbrev pub is_type_in : ℕ → ℕ → Row → Bool
is_type_in block n r = is_inner n r && (r.scope == block)

-- the numbers of the types in a block, among these statements
abbrev pub types_from : ℕ → ℕ → List Row → List ℕ
types_from block n [] = []
types_from block n (r ∷ rs) =
    (if is_type_in block n r then n ∷ [] else []) ++ types_from block (n + 1) rs

-- the types in a block, in order
abbrev pub types_in : List Row → ℕ → List ℕ
types_in rows block = types_from block 0 rows

-- the type of a definition: the first in its block
abbrev pub type_of : List Row → ℕ → Option ℕ
type_of rows definition = slice_get (types_in rows definition) 0

-- a type that names this built-in type
abbrev pub is_kind : List ℕ → Row → Bool
is_kind name r = is_type r && bytes_eq (name_in r) name

-- a type names the built-in type `union`
abbrev pub is_union : Row → Bool
is_union r = is_kind (codes "union") r

-- a type names the built-in type `leafref`
abbrev pub is_leafref : Row → Bool
is_leafref r = is_kind (codes "leafref") r

-- type k names a typedef, the type of which is j
pub record Follows (files : Briefs) (rows : List Row) (k j : ℕ) : Type 0 where
  pub definition : ℕ
  pub refers : Refers files rows Typedef k definition
  pub stands : type_of rows definition ≡ Some j

-- b is the type statement that names the built-in type to which type k leads along typedefs: k
-- itself where it names one
pub data HasBase (files : Briefs) (rows : List Row) : ℕ → ℕ → Type 0 where
  built_in : {k : ℕ} {r : Row} → slice_get rows k ≡ Some r → is_type r ≡ true
      → is_built_in (name_in r) ≡ true → HasBase files rows k k
  through_typedef : {k j b : ℕ} → Follows files rows k j → HasBase files rows j b
      → HasBase files rows k b

-- the built-in type to which type k leads has this name
pub record HasKind (files : Briefs) (rows : List Row) (k : ℕ) (name : List ℕ) : Type 0 where
  pub base : ℕ
  pub leads : HasBase files rows k base
  pub statement : Row
  pub at : slice_get rows base ≡ Some statement
  pub named : name_in statement ≡ name

-- type m is a member of union k (section 9.12)
pub record IsMember (rows : List Row) (k m : ℕ) : Type 0 where
  pub outer : Row
  pub at : slice_get rows k ≡ Some outer
  pub is : is_union outer ≡ true
  pub member : Row
  pub member_at : slice_get rows m ≡ Some member
  pub member_is : is_type_in k m member ≡ true

-- type k takes its values from type j
abbrev pub RestsOn : Briefs → List Row → ℕ → ℕ → Type 0
RestsOn files rows k j = Follows files rows k j ⊎ IsMember rows k j

-- the numbered statement is a type
abbrev pub IsTypeAt : List Row → ℕ → Type 0
IsTypeAt rows k = (r : Row) × (slice_get rows k ≡ Some r) × (is_type r ≡ true)

-- all types, each once and after those on which it rests
pub record IsOrderOfTypes (files : Briefs) (rows : List Row) (order : List ℕ) : Type 0 where
  pub exact : (a : ℕ) → Contains order a ↔ IsTypeAt rows a
  pub once : (i j : ℕ) → i < length order → j < length order
      → slice_index order i ≡ slice_index order j → i ≡ j
  pub behind : (i b : ℕ) → i < length order → RestsOn files rows (slice_index order i) b
      → Contains (take i order) b
