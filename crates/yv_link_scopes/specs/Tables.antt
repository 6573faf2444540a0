-- Where the names of a kind stand first.
use Rattle.std.specs.Prelude.{ℕ, ◌==◌, ◌&&◌, Bool, List, Option, codes}
use Rattle.std.specs.Ordering.{nat_cmp, ordering_then}
use Rattle.std.specs.Cmp.Lexicographic.{slice_cmp}
use Rattle.std.specs.BTreeMap.{BTreeMap, get_by}
use Rattle.std.specs.Str.{bytes_eq}
use Rattle.std.specs.Borrow.{Bor}
use Rattle.yv_link_scopes.specs.Names.{first_where}
use Rattle.yv_link_scopes.specs.Files.{has_word}
use Rattle.yv_link_scopes.specs.Rows.{Row, name_in}
use Rattle.yv_link_scopes.specs.declared.places.NamePlaces.{NamePlaces}
use Rattle.yv_link_scopes.specs.declared.kind.NameKind.{NameKind}
use Rattle.yv_link_scopes.specs.declared.kind.NameKind.TheVariants.{Prefix, Include, Typedef, Grouping, Feature, Identity, Extension}

-- a number for each name in a numbered block
abbrev pub Table : Type 0
Table = ℕ → List ℕ → Option ℕ

-- the table that a map of the code is
abbrev pub lookup_in : BTreeMap (ℕ × Bor (List ℕ)) ℕ → Table
lookup_in m scope name =
    get_by (λ k. ordering_then (nat_cmp scope k.0) (slice_cmp nat_cmp name k.1.now)) m

-- what is looked up in places
abbrev pub table_of : NamePlaces → Table
table_of places = lookup_in places.map

-- whether two names in blocks are one
abbrev pub is_same : ℕ → List ℕ → ℕ → List ℕ → Bool
is_same s n scope name = (scope == s) && bytes_eq name n

-- the keyword of the definitions of a kind
abbrev pub word_of : NameKind → List ℕ
word_of Prefix = codes "prefix"
word_of Include = codes "include"
word_of Typedef = codes "typedef"
word_of Grouping = codes "grouping"
word_of Feature = codes "feature"
word_of Identity = codes "identity"
word_of Extension = codes "extension"

-- a prefix and an include count for their file, all else is in a block
abbrev pub place_of_kind : NameKind → Row → ℕ
place_of_kind Prefix r = r.file
place_of_kind Include r = r.file
place_of_kind _ r = r.scope

-- the first statement of a kind with a name
abbrev pub first_of : NameKind → List Row → Table
first_of kind rows s n =
    first_where (λ (r : Row). has_word (word_of kind) r.head
    && is_same s n (place_of_kind kind r) (name_in r)) rows
