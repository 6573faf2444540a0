-- What names mean (RFC 7950, sections 5.5 and 6.2.1).
use Rattle.std.specs.Prelude.{◌≡◌, ℕ, ◌≤◌, ◌==◌, ◌&&◌, true, List, Option, Some, None, if◌then◌else◌, slice_get}
use Rattle.std.specs.Option.{option_and_then}
use Rattle.yv_link_scopes.specs.Names.{prefix_of, local_of}
use Rattle.yv_link_scopes.specs.Files.{Briefs, file_named, module_file_at, has_word}
use Rattle.yv_link_scopes.specs.Rows.{Row, name_in}
use Rattle.yv_link_scopes.specs.Tables.{first_of, is_same, place_of_kind, word_of}
use Rattle.yv_link_scopes.specs.declared.kind.NameKind.{NameKind}
use Rattle.yv_link_scopes.specs.declared.kind.NameKind.TheVariants.{Prefix}

-- a block encloses itself, and what is in blocks that it encloses
pub data Encloses (rows : List Row) (outer : ℕ) : ℕ → Type 0 where
  itself : Encloses rows outer outer
  inside : {block : ℕ} {r : Row} → slice_get rows block ≡ Some r → Encloses rows outer r.scope
      → Encloses rows outer block

-- the numbered statement is of the kind, and has the name in the block
abbrev pub IsNamed : NameKind → List Row → ℕ → List ℕ → ℕ → Type 0
IsNamed kind rows block name d =
    (r : Row) × (slice_get rows d ≡ Some r)
    × ((has_word (word_of kind) r.head && is_same block name (place_of_kind kind r) (name_in r))
    ≡ true)

-- it has the name in the block, or in one that encloses the block
abbrev pub IsVisible : NameKind → List Row → ℕ → List ℕ → ℕ → Type 0
IsVisible kind rows block name d =
    (outer : ℕ) × Encloses rows outer block × IsNamed kind rows outer name d

-- the first number of which this holds, or none where it holds of none
abbrev pub IsFirst : (ℕ → Type 0) → Option ℕ → Type 0
IsFirst Holds None = (d : ℕ) → Holds d → ⊥
IsFirst Holds (Some d) = Holds d × ((e : ℕ) → Holds e → d ≤ e)

-- what a name means in a block: the first of its kind that is visible there
abbrev pub Means : NameKind → List Row → ℕ → List ℕ → Option ℕ → Type 0
Means kind rows block name d = IsFirst (IsVisible kind rows block name) d

-- a block is in an earlier one, or in none
abbrev pub AreNested : List Row → Type 0
AreNested rows = (i : ℕ) (r : Row) → slice_get rows i ≡ Some r → r.scope ≤ i

-- the file of the module that a prefix identifies in a file: the module is named by the statement
-- in whose block the prefix is declared, the module's root, an import or a belongs-to
abbrev pub module_of : Briefs → List Row → ℕ → List ℕ → Option ℕ
module_of files rows file prefix =
    option_and_then
    (λ k. option_and_then
    (λ (p : Row). option_and_then (λ (s : Row). file_named files (name_in s))
    (slice_get rows p.scope)) (slice_get rows k))
    (first_of Prefix rows file prefix)

-- the root in whose block a name with this prefix is looked up: that of the file's own module
-- without one
abbrev pub block_of_prefix : Briefs → List Row → ℕ → Option (List ℕ) → Option ℕ
block_of_prefix files rows file None = Some (module_file_at files file)
block_of_prefix files rows file (Some prefix) = module_of files rows file prefix

-- the root in whose block a feature or an identity is looked up by its name: that of the file's
-- module, or of the module that the prefix identifies
abbrev pub block_of : Briefs → List Row → ℕ → List ℕ → Option ℕ
block_of files rows file name = block_of_prefix files rows file (prefix_of name)

-- the block in which a look-up of a definition begins: the statement's own, or the root of another
-- module
abbrev pub start_at : ℕ → ℕ → Option ℕ → Option ℕ
start_at own scope None = None
start_at own scope (Some m) = Some (if m == own then scope else m)

-- that block for a name with this prefix
abbrev pub start_of_prefix : Briefs → List Row → Row → Option (List ℕ) → Option ℕ
start_of_prefix files rows r None = Some r.scope
start_of_prefix files rows r (Some prefix) =
    start_at (module_file_at files r.file) r.scope (module_of files rows r.file prefix)

-- the block in which the name of a typedef or of a grouping is looked up: the statement's own
-- without a prefix, or with that of the file's module, else the other module's root
abbrev pub start_of : Briefs → List Row → ℕ → List ℕ → Option ℕ
start_of files rows number name =
    option_and_then (λ r. start_of_prefix files rows r (prefix_of name)) (slice_get rows number)

-- what a name means from a block on; nothing where there is no block
abbrev pub MeansFrom : NameKind → List Row → List ℕ → Option ℕ → Option ℕ → Type 0
MeansFrom kind rows name None d = d ≡ None
MeansFrom kind rows name (Some block) d = Means kind rows block name d

-- what the name of a typedef or of a grouping means in a numbered statement
abbrev pub MeansIn : Briefs → List Row → NameKind → ℕ → List ℕ → Option ℕ → Type 0
MeansIn files rows kind number name d =
    MeansFrom kind rows (local_of name) (start_of files rows number name) d
