-- Which path a type has as a leafref, and whether an instance is required (RFC 7950, sections 9.9.2
-- and 9.9.3).
use Rattle.std.specs.Prelude.{◌≡◌, ℕ, Bool, true, List, map, Option, Some, None, codes, slice_get}
use Rattle.std.specs.List.{find}
use Rattle.std.specs.Option.{option_and_then, option_map, unwrap_or}
use Rattle.std.specs.Str.{bytes_eq}
use Rattle.yv_text_statement.specs.Tree.{Tree, trees, name_of}
use Rattle.yv_link_scopes.specs.Files.{Files, brief_of, has_word}
use Rattle.yv_link_scopes.specs.Rows.{Row}
use Rattle.yv_link_scopes.specs.RowList.{rows_of, statements_of}
use Rattle.yv_type_chains.specs.Types.{Follows, is_leafref}
use Rattle.yv_text_statement.specs.TextInFile.{TextInFile}
use Rattle.yv_types.specs.declared.path.PathText.{PathText}
use Rattle.yv_types.specs.declared.leafref_path.TypeLeafref.{TypeLeafref}
use Rattle.yv_types.specs.Defaults.{written_in}

-- the first substatement with a keyword
abbrev pub first_in : List ℕ → Tree → Option Tree
first_in word t = find (λ (c : Tree). has_word word c.head) (trees t.children)

-- the argument of a statement is `true`
abbrev pub says_true : Tree → Bool
says_true t = bytes_eq (name_of t.head) (codes "true")

-- what the first `require-instance` in the block of a statement says: whether it is "true"
abbrev pub required_in : Tree → Option Bool
required_in t = option_map says_true (first_in (codes "require-instance") t)

-- the same of the numbered statement
abbrev pub required_at : Files → ℕ → Option Bool
required_at files k = option_and_then required_in (slice_get (statements_of files) k)

-- the text of the first `path` in the block of a statement
abbrev pub path_in : ℕ → Tree → Option TextInFile
path_in file t = option_map (written_in file) (first_in (codes "path") t)

-- the same of the numbered statement, with the file in which it is written: prefixes in it are
-- those of this file
abbrev pub path_at : Files → ℕ → Option TextInFile
path_at files k =
    option_and_then (λ (r : Row). option_and_then (path_in r.file)
    (slice_get (statements_of files) k)) (slice_get (rows_of files) k)

-- a text and its file, as they are lent
abbrev pub written_of : PathText → TextInFile
written_of path = record { text = path.text.now; file = path.file }

-- the numbered statement is `type leafref`
abbrev pub IsLeafrefAt : Files → ℕ → Type 0
IsLeafrefAt files k = (r : Row) × (slice_get (rows_of files) k ≡ Some r) × (is_leafref r ≡ true)

-- type k names a typedef, the type of which is j
abbrev pub FollowsIn : Files → ℕ → ℕ → Type 0
FollowsIn files k j = Follows (map brief_of files) (rows_of files) k j

-- type k names leafref itself: the path is its own, and an instance is required unless it says
-- otherwise
abbrev pub own_at : Files → ℕ → TypeLeafref
own_at files k = record { origin = k; is_required = unwrap_or (required_at files k) true }

-- type k is derived from one of which this holds: it has its path, and what itself says of
-- instances goes before
abbrev pub derived_at : Files → ℕ → TypeLeafref → TypeLeafref
derived_at files k base =
    record { origin = base.origin; is_required = unwrap_or (required_at files k) base.is_required }

-- What type k says as a leafref: `origin` is the statement `type leafref` whose path it has, and
-- `is_required` whether an instance is required. None where it leads to no leafref.
pub data HasReferral (files : Files) : ℕ → Option TypeLeafref → Type 0 where
  built_in : {k : ℕ} → IsLeafrefAt files k → HasReferral files k (Some (own_at files k))
  through_typedef : {k j : ℕ} {found : Option TypeLeafref} → FollowsIn files k j
      → HasReferral files j found
      → HasReferral files k (option_map (derived_at files k) found)
  other : {k : ℕ} → (IsLeafrefAt files k → ⊥) → ((j : ℕ) → FollowsIn files k j → ⊥)
      → HasReferral files k None

-- this is what the type of this number says as a leafref; nothing, where there is no type
abbrev pub IsReferring : Files → Option ℕ → Option TypeLeafref → Type 0
IsReferring files None found = found ≡ None
IsReferring files (Some k) found = HasReferral files k found
