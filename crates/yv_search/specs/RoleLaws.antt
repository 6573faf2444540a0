-- Required modules and lenders as the least sets.
use Rattle.std.specs.Prelude.{◌≡◌, ℕ, Bool, true, false, List, take}
use Rattle.yv_text_statement.specs.Tree.{Tree}
use Rattle.yv_text_statement.specs.Words.{is_among}
use Rattle.yv_search.specs.Statements.{Leads, LeadsLent, Borrows}
use Rattle.yv_search.specs.Roles.{FileSet, HasFile, MayBeLedTo, IsRequired, IsLender}

-- two sets of modules that are closed under the rules of what is required and what lends
pub record AreClosed (f : FileSet) (is_required is_lender : List ℕ → Bool) : Type 0 where
  pub of_named : (root : Tree) (m : List ℕ) → HasFile (take f.named f.roots) m root
      → is_among f.import_only m ≡ false → is_required m ≡ true
  pub led_to : (root : Tree) (x m : List ℕ) → is_required x ≡ true → HasFile f.roots x root
      → Leads root m → MayBeLedTo f m → is_required m ≡ true
  pub by_lender : (root : Tree) (x m : List ℕ) → is_lender x ≡ true → HasFile f.roots x root
      → LeadsLent root m → MayBeLedTo f m → is_required m ≡ true
  pub lends : (root : Tree) (x m : List ℕ) → is_required x ≡ true → HasFile f.roots x root
      → Borrows root m → is_lender m ≡ true
  pub lends_on : (root : Tree) (x m : List ℕ) → is_lender x ≡ true → HasFile f.roots x root
      → Borrows root m → is_lender m ≡ true

-- sets hold all that is required, and all lenders
pub record HoldRoles (f : FileSet) (is_required is_lender : List ℕ → Bool) : Type 0 where
  pub required : (m : List ℕ) → IsRequired f m → is_required m ≡ true
  pub lenders : (m : List ℕ) → IsLender f m → is_lender m ≡ true

-- the module of a named file
abbrev pub IsOfNamed : FileSet → List ℕ → Type 0
IsOfNamed f m = (root : Tree) × HasFile (take f.named f.roots) m root
