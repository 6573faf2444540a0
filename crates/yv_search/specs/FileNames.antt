-- Names of files: `N.yang` and `N@DATE.yang`.
use Rattle.std.specs.Prelude.{ℕ, ◌+◌, ◌-◌, ◌==◌, ◌&&◌, Bool, List, [], ◌∷◌, length, Option, Some, None, if◌then◌else◌, take, drop, codes, slice_index, slice_range, position}
use Rattle.std.specs.List.{list_any, list_all, ends_with}
use Rattle.std.specs.Option.{option_and_then}
use Rattle.std.specs.Bool.{nat_eq}
use Rattle.yv_text_if_feature.specs.Bytes.{is_digit, dash}
use Rattle.yv_search.specs.Listing.{slash}

-- what the name of a file says: the name of a module or submodule, and perhaps the date of a
-- revision
pub record FileName : Type 0 where
  pub name : List ℕ
  pub date : Option (List ℕ)

-- the last part of a path, which comes after its last `/`
abbrev pub last_part : List ℕ → List ℕ
last_part [] = []
last_part (b ∷ bs) = if list_any (λ c. c == slash) (b ∷ bs) then last_part bs else b ∷ bs

-- dddd-dd-dd, d a digit
abbrev pub is_date : List ℕ → Bool
is_date text =
    nat_eq (length text) 10
    && (list_all is_digit (take 4 text)
    && (nat_eq (slice_index text 4) dash
    && (list_all is_digit (slice_range text 5 7)
    && (nat_eq (slice_index text 7) dash && list_all is_digit (slice_range text 8 10)))))

-- what is before the ending `.yang`, where there is that
abbrev pub stem : List ℕ → Option (List ℕ)
stem part =
    if ends_with nat_eq part (codes ".yang") then Some (take (length part - 5) part) else None

-- a name, with what comes after the first `@` (64) as its date
abbrev pub with_date : List ℕ → Option ℕ → Option FileName
with_date text None = Some (record { name = text; date = None })
with_date text (Some at) =
    if is_date (drop (at + 1) text)
    then Some (record { name = take at text; date = Some (drop (at + 1) text) }) else None

-- the name and the date of a text before `.yang`
abbrev pub named_stem : List ℕ → Option FileName
named_stem text = with_date text (position (λ b. b == 64) text)

-- the name and the date that the last part of a path writes, if it does
abbrev pub name_in_path : List ℕ → Option FileName
name_in_path path = option_and_then named_stem (stem (last_part path))
