-- Revisions (RFC 7950, sections 7.1.5.1 and 7.1.9).
use Rattle.std.specs.Prelude.{◌≡◌, ◌≢◌, ◌==◌, ◌&&◌, ◌||◌, ℕ, Bool, true, List, map, Option, Some, None, if◌then◌else◌, codes, slice_get, All}
use Rattle.std.specs.List.{filter, Contains}
use Rattle.std.specs.Option.{option_and_then}
use Rattle.std.specs.Ordering.{nat_cmp}
use Rattle.std.specs.Cmp.Lexicographic.{slice_cmp}
use Rattle.std.specs.declared.cmp.Ordering.TheVariants.{Greater}
use Rattle.yv_text_statement.specs.Tree.{Head}
use Rattle.yv_link_scopes.specs.Files.{Briefs, has_word, file_named}
use Rattle.yv_link_scopes.specs.Rows.{Row, name_in}

-- a statement is a `revision` of this file
abbrev pub is_revision : ℕ → Row → Bool
is_revision file r = has_word (codes "revision") r.head && (r.file == file)

-- the dates of a file's revision statements
abbrev pub dates_of : List Row → ℕ → List (List ℕ)
dates_of rows file = map name_in (filter (is_revision file) rows)

-- a date isn't after another; all have one length, so that their bytes are compared
abbrev pub IsUpToDate : List ℕ → List ℕ → Type 0
IsUpToDate d e = slice_cmp nat_cmp d e ≢ Greater

-- one of the dates, and none is greater
abbrev pub IsGreatest : List (List ℕ) → List ℕ → Type 0
IsGreatest dates date = Contains dates date × All (λ d. IsUpToDate d date) dates

-- a statement may have a `revision-date`
abbrev pub takes_date : Head → Bool
takes_date h = has_word (codes "import") h || has_word (codes "include") h

-- the file which an import or an include of this number names
abbrev pub dated_file : Briefs → List Row → ℕ → Option ℕ
dated_file files rows number =
    option_and_then (λ (p : Row). if takes_date p.head then file_named files (name_in p) else None)
    (slice_get rows number)

-- a revision-date that isn't the greatest date of the file which the import or include round it
-- names
abbrev pub IsOtherDate : Briefs → List Row → Row → Type 0
IsOtherDate files rows r =
    (has_word (codes "revision-date") r.head ≡ true)
    × (file : ℕ) × (dated_file files rows r.scope ≡ Some file)
    × (IsGreatest (dates_of rows file) (name_in r) → ⊥)
