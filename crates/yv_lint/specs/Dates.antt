-- The dates of revisions (RFC 7950, section 7.1.9).
use Rattle.std.specs.Prelude.{ℕ, ◌+◌, ◌-◌, ◌*◌, ◌%◌, ◌==◌, ◌&&◌, ◌||◌, not, nat_le, Bool, false, List, [], map, reverse, length, slice_index, Option, Some, None, if◌then◌else◌}
use Rattle.std.specs.List.{find, filter, fold}
use Rattle.std.specs.Ordering.{nat_cmp, is_lt}
use Rattle.std.specs.Cmp.Lexicographic.{slice_cmp}
use Rattle.yv_text_statement.specs.Tree.{Tree, trees}
use Rattle.yv_text_statement.specs.declared.keyword.Keyword.TheVariants as word
use Rattle.yv_link_scopes.specs.Files.{tree_name}
use Rattle.yv_lint.specs.Statements.{has_keyword}
use Rattle.yv_lint.specs.Places.{Place}

-- a year of 366 days, in the Gregorian calendar
abbrev pub is_leap_year : ℕ → Bool
is_leap_year y = y % 4 == 0 && (not (y % 100 == 0) || y % 400 == 0)

-- how many days a month has: April, June, September and November have 30
abbrev pub days_of : (year month : ℕ) → ℕ
days_of year month =
    if month == 2 then (if is_leap_year year then 29 else 28)
    else (if (month == 4 || month == 6) || (month == 9 || month == 11) then 30 else 31)

-- the number that the two digits from a place on write
abbrev pub two_digits : List ℕ → ℕ → ℕ
two_digits text at = 10 * (slice_index text at - 48) + (slice_index text (at + 1) - 48)

-- a date, as `2026-01-31`, is a day of the calendar
abbrev pub is_day : List ℕ → Bool
is_day text =
    let year : ℕ = 100 * two_digits text 0 + two_digits text 2 in
    let month : ℕ = two_digits text 5 in
    let day : ℕ = two_digits text 8 in
    length text == 10 && (nat_le 1 day && nat_le day (days_of year month))

-- a date is before another; all have one length, so that their bytes are compared
abbrev pub is_earlier : List ℕ → List ℕ → Bool
is_earlier a b = is_lt (slice_cmp nat_cmp a b)

-- the last of these statements that is a revision
abbrev pub last_revision : List Tree → Option Tree
last_revision ts = find (has_keyword word.Revision) (reverse ts)

-- a date isn't before that of a revision that may be there
abbrev pub is_not_before : List ℕ → Option Tree → Bool
is_not_before date None = false
is_not_before date (Some r) = not (is_earlier date (tree_name r))

-- a revision's date isn't before that of the revision before it
abbrev pub is_unsorted : Place → Bool
is_unsorted p =
    has_keyword word.Revision p.statement
    && is_not_before (tree_name p.statement) (last_revision p.before)

-- a revision's date is no day of the calendar
abbrev pub is_no_day : Tree → Bool
is_no_day t = has_keyword word.Revision t && not (is_day (tree_name t))

-- the dates of a file's revisions
abbrev pub dates_of : Tree → List (List ℕ)
dates_of root = map tree_name (filter (has_keyword word.Revision) (trees root.children))

-- the later one of two dates
abbrev pub later : List ℕ → List ℕ → List ℕ
later a b = if is_earlier a b then b else a

-- the greatest of some dates; no text is before all
abbrev pub greatest : List (List ℕ) → List ℕ
greatest dates = fold later [] dates
