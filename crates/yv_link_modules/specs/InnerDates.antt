-- Only private clauses cite this: the greatest dates, while revisions are read.
use Rattle.std.specs.Prelude.{◌≡◌, ◌<◌, ◌&&◌, not, ℕ, Bool, false, List, [], length, Option, Some, None, codes, slice_get}
use Rattle.std.specs.Option.{option_map, option_and_then}
use Rattle.std.specs.Ordering.{nat_cmp}
use Rattle.std.specs.Cmp.Lexicographic.{slice_cmp}
use Rattle.std.specs.Str.{bytes_eq}
use Rattle.std.specs.Borrow.{Bor}
use Rattle.std.specs.declared.cmp.Ordering.{Ordering}
use Rattle.std.specs.declared.cmp.Ordering.TheVariants.{Greater}
use Rattle.yv_link_scopes.specs.Files.{Briefs, has_word}
use Rattle.yv_link_scopes.specs.Rows.{Row, name_in}
use Rattle.yv_link_modules.specs.Dates.{dated_file, dates_of, IsGreatest}

abbrev pub Dates : Type 0
Dates = List (Option (Bor (List ℕ)))

abbrev pub text_of : Option (Bor (List ℕ)) → Option (List ℕ)
text_of date = option_map (λ (d : Bor (List ℕ)). d.now) date

-- the date that is kept for a file
abbrev pub date_at : Dates → ℕ → Option (List ℕ)
date_at dates file = option_and_then text_of (slice_get dates file)

abbrev pub later_date : Ordering → List ℕ → List ℕ → List ℕ
later_date Greater d e = d
later_date _ d e = e

-- the greater of two dates
abbrev pub later : Option (List ℕ) → List ℕ → List ℕ
later None date = date
later (Some d) date = later_date (slice_cmp nat_cmp d date) d date

-- the greatest of some dates, where there are any
abbrev pub IsGreatestOf : List (List ℕ) → Option (List ℕ) → Type 0
IsGreatestOf dates None = dates ≡ []
IsGreatestOf dates (Some d) = IsGreatest dates d

-- for each of n files the greatest of its dates is kept
pub record AreGreatest (n : ℕ) (rows : List Row) (dates : Dates) : Type 0 where
  pub each : length dates ≡ n
  pub greatest : (file : ℕ) → file < n → IsGreatestOf (dates_of rows file) (date_at dates file)

abbrev pub is_date : Option (List ℕ) → List ℕ → Bool
is_date None date = false
is_date (Some d) date = bytes_eq d date

abbrev pub is_other : Dates → List ℕ → Option ℕ → Bool
is_other dates date None = false
is_other dates date (Some file) = not (is_date (date_at dates file) date)

-- by the dates that are kept, a revision-date isn't the revision of its file
abbrev pub is_other_date : Briefs → List Row → Dates → Row → Bool
is_other_date files rows dates r =
    has_word (codes "revision-date") r.head
    && is_other dates (name_in r) (dated_file files rows r.scope)
