-- Only private clauses cite this: the files of a listing, by name.
use Rattle.std.specs.Prelude.{ℕ, List, [], ◌∷◌, ◌++◌, map, Option, Some, None, if◌then◌else◌}
use Rattle.std.specs.Option.{option_map, option_map_or}
use Rattle.std.specs.Borrow.{Bor}
use Rattle.std.specs.Ordering.{nat_cmp}
use Rattle.std.specs.Cmp.Lexicographic.{slice_cmp}
use Rattle.std.specs.Str.{bytes_eq}
use Rattle.std.specs.BTreeMap.{get_by}
use Rattle.yv_search.specs.FileNames.{FileName, name_in_path}
use Rattle.yv_search.specs.Listing.{ListedFile}
use Rattle.yv_search.specs.Choice.{Candidate, suits, better_of}
use Rattle.yv_search.specs.declared.file_name.FileName.{FileName as FileNameValue}
use Rattle.yv_search.specs.declared.index.File.{File}
use Rattle.yv_search.specs.declared.index.Row.{Row}
use Rattle.yv_search.specs.declared.index.Index.{Index}

-- a text of the code that may be there
abbrev pub text_of : Option (Bor (List ℕ)) → Option (List ℕ)
text_of text = option_map (λ (d : Bor (List ℕ)). d.now) text

-- what a name of a file says, of the code
abbrev pub name_of_file : FileNameValue → FileName
name_of_file n = record { name = n.name.now; date = text_of n.date }

abbrev pub listed_of : File → ListedFile
listed_of f = record { folder = f.folder; folder_name = f.folder_name.now; path = f.path.now }

abbrev pub candidate_of : Row → Candidate
candidate_of r = record { file = listed_of r.file; date = text_of r.date }

-- the files that are kept for a name
abbrev pub rows_at : Index → List ℕ → List Row
rows_at index name =
    option_map_or (λ rows. rows.items) (get_by (λ k. slice_cmp nat_cmp name k.now) index.groups) []

abbrev pub group_of : Index → List ℕ → List Candidate
group_of index name = map candidate_of (rows_at index name)

-- a file, where it has this name
abbrev pub if_name : List ℕ → ListedFile → Option FileName → List Candidate
if_name name f None = []
if_name name f (Some n) =
    if bytes_eq n.name name then record { file = f; date = n.date } ∷ [] else []

-- the files that have this name
abbrev pub all_named : List ℕ → List ListedFile → List Candidate
all_named name [] = []
all_named name (f ∷ fs) = if_name name f (name_in_path f.path) ++ all_named name fs

-- the choice among files that have the name that is wanted
abbrev pub chosen_of : Option (List ℕ) → List Candidate → Option Candidate
chosen_of date [] = None
chosen_of date (c ∷ cs) = better_of (if suits date c.date then Some c else None) (chosen_of date cs)
