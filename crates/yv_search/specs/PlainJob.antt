-- What a run on files that were searched for is: its names of `--import-only`, and its files with
-- what becomes of each.
use Rattle.std.specs.Prelude.{◌≡◌, ℕ, ◌+◌, ◌||◌, nat_lt, Bool, List, [], ◌∷◌, ◌++◌, drop, Option, None, Some, if◌then◌else◌, codes}
use Rattle.std.specs.List.{AllZip}
use Rattle.yv_base_streams.specs.Files.{File}
use Rattle.yv_text_statement.specs.Tree.{Tree}
use Rattle.yv_text_statement.specs.Words.{is_among}
use Rattle.yv_search.specs.Wants.{module_of}
use Rattle.yv_search.specs.Roots.{HasRoot}
use Rattle.yv_search.specs.Roles.{FileSet, root_module, IsTestOfRequired}

-- the roots of files, one by one
abbrev pub AreRoots : List File → List (Option Tree) → Type 0
AreRoots files roots = AllZip (λ f root. HasRoot f.bytes root) files roots

-- a list, and then a module that isn't required and not in it
abbrev pub with_module : (List ℕ → Bool) → List (List ℕ) → Option (List ℕ) → List (List ℕ)
with_module is_required list None = list
with_module is_required list (Some m) =
    if is_required m || is_among list m then list else list ++ m ∷ []

-- a list, and then by file the modules that are roots, aren't required and aren't in it so far
abbrev pub with_modules : (List ℕ → Bool) → List (List ℕ) → List (Option Tree) → List (List ℕ)
with_modules is_required list [] = list
with_modules is_required list (r ∷ rs) =
    with_modules is_required (with_module is_required list (root_module r)) rs

-- the names of `--import-only` with which a run of all files, listed, is that of the search: the
-- given names, and then the modules of found files that aren't required
pub record IsImportOnly (files : List File) (named : ℕ) (given names : List (List ℕ)) : Type 0 where
  pub roots : List (Option Tree)
  pub are : AreRoots files roots
  pub is_required : List ℕ → Bool
  pub tells : IsTestOfRequired (record { roots = roots; named = named; import_only = given }) is_required
  pub names_are : names ≡ with_modules is_required given (drop named roots)

-- implemented if required, else imported
abbrev pub use_of : Bool → List ℕ
use_of is_required = if is_required then codes "implemented" else codes "imported"

-- what becomes of a file of this module; one without a module counts by whether it was named
abbrev pub use_of_module : (List ℕ → Bool) → Bool → Option (List ℕ) → List ℕ
use_of_module is_required is_named None = use_of is_named
use_of_module is_required is_named (Some m) = use_of (is_required m)

-- what becomes of a file with this root
abbrev pub word_for : (List ℕ → Bool) → Bool → Option Tree → List ℕ
word_for is_required is_named None = codes "unread"
word_for is_required is_named (Some root) = use_of_module is_required is_named (module_of root)

-- a line: a word, a blank and the file's name
abbrev pub line_of : List ℕ → List ℕ → List ℕ
line_of word name = word ++ 32 ∷ name ++ 10 ∷ []

-- the lines of files, the first of which has this number
abbrev pub lines_from : (List ℕ → Bool) → (named number : ℕ) → List File → List (Option Tree) → List ℕ
lines_from is_required named number [] rs = []
lines_from is_required named number (f ∷ fs) [] = []
lines_from is_required named number (f ∷ fs) (r ∷ rs) =
    line_of (word_for is_required (nat_lt number named) r) f.name
    ++ lines_from is_required named (number + 1) fs rs

-- the text of the command `files`: a line for each file, with what becomes of it
pub record IsFilesText (files : List File) (named : ℕ) (given : List (List ℕ)) (text : List ℕ)
    : Type 0 where
  pub roots : List (Option Tree)
  pub are : AreRoots files roots
  pub is_required : List ℕ → Bool
  pub tells : IsTestOfRequired (record { roots = roots; named = named; import_only = given }) is_required
  pub text_is : text ≡ lines_from is_required named 0 files roots
