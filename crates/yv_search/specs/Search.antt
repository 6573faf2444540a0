-- Which files are found, step by step.
use Rattle.std.specs.Prelude.{◌≡◌, ℕ, ◌||◌, not, Bool, List, [], ◌∷◌, ◌++◌, Option, None, Some}
use Rattle.std.specs.List.{find, cons_option}
use Rattle.std.specs.Option.{option_and_then}
use Rattle.yv_base_streams.specs.Files.{File}
use Rattle.yv_text_statement.specs.Tree.{Tree}
use Rattle.yv_text_statement.specs.Words.{is_among}
use Rattle.yv_search.specs.Listing.{ListedFile, found_name}
use Rattle.yv_search.specs.Wants.{Want, wants}
use Rattle.yv_search.specs.Choice.{Candidate, choice_of}
use Rattle.yv_search.specs.Roots.{HasRoot}

-- a file, and its root if it has one
pub record RootedFile : Type 0 where
  pub file : File
  pub root : Option Tree

-- what the root of a file wants
abbrev pub wants_of : Option Tree → List Want
wants_of None = []
wants_of (Some root) = wants root

-- what files want, by file and place
abbrev pub all_wants : List RootedFile → List Want
all_wants [] = []
all_wants (f ∷ fs) = wants_of f.root ++ all_wants fs

-- the argument of the root of a file
abbrev pub root_name : Option Tree → Option (List ℕ)
root_name root = option_and_then (λ (t : Tree). t.head.argument) root

-- the arguments of the roots of files
abbrev pub root_names : List RootedFile → List (List ℕ)
root_names [] = []
root_names (f ∷ fs) = cons_option (root_name f.root) (root_names fs)

-- how far a search has come: the files so far, and the names that were looked for
pub record State : Type 0 where
  pub files : List RootedFile
  pub sought : List (List ℕ)

-- a name isn't looked for: a root has it, or it was looked for
abbrev pub is_settled : State → List ℕ → Bool
is_settled s name = is_among (root_names s.files) name || is_among s.sought name

-- the first want, by file and place, of a name that is to be looked for
abbrev pub next : State → Option Want
next s = find (λ (w : Want). not (is_settled s w.name)) (all_wants s.files)

-- the name of a want was looked for
abbrev pub seek : State → List ℕ → State
seek s name = record { files = s.files; sought = s.sought ++ name ∷ [] }

-- one more file
abbrev pub with_file : State → RootedFile → State
with_file s f = record { files = s.files ++ f ∷ []; sought = s.sought }

-- a shelf has for each name the bytes in the file of that name, or none; where it isn't known,
-- anything may be there
abbrev pub Shelf : Type 0
Shelf = Option (List ℕ → Option (List ℕ))

-- the shelf has these bytes at a name, or none
abbrev pub Gives : Shelf → List ℕ → Option (List ℕ) → Type 0
Gives None name bytes = Unit {0}
Gives (Some shelf) name bytes = shelf name ≡ bytes

-- a state asks next for this file of a listing
pub record Asks (listing : List ListedFile) (s : State) (w : Want) (c : Candidate) : Type 0 where
  pub next : next s ≡ Some w
  pub chosen : choice_of w listing ≡ Some c

-- a step of a search: the name of the next want is looked for, and where there is a file for it,
-- its bytes come from the shelf and it comes after the other files
pub data Step (listing : List ListedFile) (shelf : Shelf) : State → State → Type 0 where
  passed : (s : State) (w : Want) → next s ≡ Some w → choice_of w listing ≡ None
      → Step listing shelf s (seek s w.name)
  found : (s : State) (w : Want) (c : Candidate) (f : RootedFile) → Asks listing s w c
      → f.file.name ≡ found_name c.file → Gives shelf f.file.name (Some f.file.bytes)
      → HasRoot f.file.bytes f.root → Step listing shelf s (with_file (seek s w.name) f)

-- finitely many steps
pub data Steps (listing : List ListedFile) (shelf : Shelf) (start : State) : State → Type 0 where
  none_yet : Steps listing shelf start start
  onward : (s t : State) → Steps listing shelf start s → Step listing shelf s t
      → Steps listing shelf start t
