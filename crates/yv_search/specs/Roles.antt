-- Which modules are implemented, and which only lend definitions.
use Rattle.std.specs.Prelude.{◌≡◌, ℕ, Bool, true, false, List, Option, None, Some, take, if◌then◌else◌, codes}
use Rattle.std.specs.List.{list_any, Contains}
use Rattle.yv_text_statement.specs.Tree.{Tree}
use Rattle.yv_text_statement.specs.Words.{is_among}
use Rattle.yv_search.specs.Wants.{has_word, module_of}
use Rattle.yv_search.specs.Prefixes.{is_text}
use Rattle.yv_search.specs.Statements.{Leads, LeadsLent, Borrows}

-- the roots of the files in order, how many files were named, and the names of `--import-only`
pub record FileSet : Type 0 where
  pub roots : List (Option Tree)
  pub named : ℕ
  pub import_only : List (List ℕ)

-- the module that is the root of a file
abbrev pub root_module : Option Tree → Option (List ℕ)
root_module None = None
root_module (Some root) = if has_word (codes "module") root then root.head.argument else None

-- a file has this module as its root
abbrev pub is_there : List (Option Tree) → List ℕ → Bool
is_there roots m = list_any (λ root. is_text m (root_module root)) roots

-- a module has this file: with such a root
pub record HasFile (roots : List (Option Tree)) (m : List ℕ) (root : Tree) : Type 0 where
  pub among : Contains roots (Some root)
  pub module_is : module_of root ≡ Some m

-- a module may be required on account of another: a file has it as its root, and `--import-only`
-- doesn't name it
pub record MayBeLedTo (f : FileSet) (m : List ℕ) : Type 0 where
  pub there : is_there f.roots m ≡ true
  pub free : is_among f.import_only m ≡ false

-- what a module is to others
pub data Role : Type 0 where
  -- it is implemented
  Implemented : Role
  -- it lends its typedefs and groupings
  Lender : Role

-- a module has a role
pub data Has (f : FileSet) : Role → List ℕ → Type 0 where
  -- the module of each named file is required
  of_named : (root : Tree) (m : List ℕ) → HasFile (take f.named f.roots) m root
      → is_among f.import_only m ≡ false → Has f Implemented m
  -- what a required module leads to
  led_to : (root : Tree) (x m : List ℕ) → Has f Implemented x → HasFile f.roots x root
      → Leads root m → MayBeLedTo f m → Has f Implemented m
  -- what the typedefs and groupings of a lender lead to
  by_lender : (root : Tree) (x m : List ℕ) → Has f Lender x → HasFile f.roots x root
      → LeadsLent root m → MayBeLedTo f m → Has f Implemented m
  -- a required module or a lender borrows from lenders
  lends : (role : Role) (root : Tree) (x m : List ℕ) → Has f role x → HasFile f.roots x root
      → Borrows root m → Has f Lender m

-- a module is required
abbrev pub IsRequired : FileSet → List ℕ → Type 0
IsRequired f m = Has f Implemented m

-- a module is a lender
abbrev pub IsLender : FileSet → List ℕ → Type 0
IsLender f m = Has f Lender m

-- a test tells of each module whether it is required
pub record IsTestOfRequired (f : FileSet) (test : List ℕ → Bool) : Type 0 where
  pub sound : (m : List ℕ) → test m ≡ true → IsRequired f m
  pub complete : (m : List ℕ) → IsRequired f m → test m ≡ true
