-- Which file is chosen for a name.
use Rattle.std.specs.Prelude.{ℕ, ◌==◌, ◌&&◌, Bool, true, false, List, [], ◌∷◌, Option, Some, None, if◌then◌else◌}
use Rattle.std.specs.Option.{option_and_then}
use Rattle.std.specs.Ordering.{nat_cmp}
use Rattle.std.specs.Cmp.Lexicographic.{slice_cmp}
use Rattle.std.specs.Str.{bytes_eq}
use Rattle.std.specs.declared.cmp.Ordering.{Ordering}
use Rattle.std.specs.declared.cmp.Ordering.TheVariants.{Greater}
use Rattle.yv_search.specs.FileNames.{FileName, name_in_path}
use Rattle.yv_search.specs.Listing.{ListedFile}
use Rattle.yv_search.specs.Wants.{Want}

-- a file that may be chosen, and the date in its name
pub record Candidate : Type 0 where
  pub file : ListedFile
  pub date : Option (List ℕ)

-- where a date is wanted, a file with it or one without a date may be chosen, else each
abbrev pub suits : Option (List ℕ) → Option (List ℕ) → Bool
suits None date = true
suits (Some d) None = true
suits (Some d) (Some e) = bytes_eq d e

-- a file with the name that is wanted, and a date that suits
abbrev pub candidate_named : Want → ListedFile → FileName → Option Candidate
candidate_named w f n =
    if bytes_eq n.name w.name && suits w.date n.date
    then Some (record { file = f; date = n.date }) else None

-- a file as a candidate, if it is one
abbrev pub candidate : Want → ListedFile → Option Candidate
candidate w f = option_and_then (candidate_named w f) (name_in_path f.path)

-- a comparison says "greater"
abbrev pub is_greater : Ordering → Bool
is_greater Greater = true
is_greater _ = false

-- a date is later than another; all have one length, so that their bytes are compared; each date
-- counts as later than none
abbrev pub is_later : Option (List ℕ) → Option (List ℕ) → Bool
is_later None e = false
is_later (Some d) None = true
is_later (Some d) (Some e) = is_greater (slice_cmp nat_cmp d e)

-- what is chosen in place of an earlier file: only one of the same folder, with a later date
abbrev pub is_better : Candidate → Candidate → Bool
is_better d c = (d.file.folder == c.file.folder) && is_later d.date c.date

-- a candidate, or in its place what is chosen of those after it
abbrev pub better_of : Option Candidate → Option Candidate → Option Candidate
better_of None later = later
better_of (Some c) None = Some c
better_of (Some c) (Some d) = Some (if is_better d c then d else c)

-- the file that is chosen of these: of the first folder that has a candidate the one with the
-- latest date, of several alike the first
abbrev pub choice_of : Want → List ListedFile → Option Candidate
choice_of w [] = None
choice_of w (f ∷ fs) = better_of (candidate w f) (choice_of w fs)
