-- Required modules and lenders are the least sets.
use Rattle.std.proofs.Common.{◌≡◌, ◌∙◌, ℕ, List, Bool, true, false, refl, sym}
use Rattle.std.proofs.lemmas.Bool.{false≢true}
use Rattle.yv_text_statement.specs.Tree.{Tree}
use Rattle.yv_search.specs.Statements.{Borrows}
use Rattle.yv_search.specs.Roles.{FileSet, HasFile, Role, Implemented, Lender, Has, of_named, led_to, by_lender, lends, is_there, IsRequired}
use Rattle.yv_search.specs.RoleLaws.{AreClosed, HoldRoles, IsOfNamed}

abbrev in_role : (List ℕ → Bool) → (List ℕ → Bool) → Role → List ℕ → Bool
in_role p q Implemented m = p m
in_role p q Lender m = q m

lent_on : (f : FileSet) (p q : List ℕ → Bool) → AreClosed f p q → (role : Role) (root : Tree) (x m : List ℕ) → in_role p q role x ≡ true → HasFile f.roots x root → Borrows root m → q m ≡ true
lent_on f p q c Implemented root x m h file b = c.lends root x m h file b
lent_on f p q c Lender root x m h file b = c.lends_on root x m h file b

within : (f : FileSet) (p q : List ℕ → Bool) → AreClosed f p q → (role : Role) (m : List ℕ) → Has f role m → in_role p q role m ≡ true
within f p q c _ _ (of_named root m file free) = c.of_named root m file free
within f p q c _ _ (led_to root x m h file l may) = c.led_to root x m (within f p q c Implemented x h) file l may
within f p q c _ _ (by_lender root x m h file l may) = c.by_lender root x m (within f p q c Lender x h) file l may
within f p q c _ _ (lends role root x m h file b) = lent_on f p q c role root x m (within f p q c role x h) file b

pub closed_hold : (f : FileSet) (p q : List ℕ → Bool) → AreClosed f p q → HoldRoles f p q
closed_hold f p q c = record { required = λ m h. within f p q c Implemented m h; lenders = λ m h. within f p q c Lender m h }

named_one : (f : FileSet) (role : Role) (m : List ℕ) → Has f role m → role ≡ Implemented → is_there f.roots m ≡ false → IsOfNamed f m
named_one f _ _ (of_named root m file free) e out = (root, file)
named_one f _ _ (led_to root x m h file l may) e out = absurd (false≢true (sym out ∙ may.there))
named_one f _ _ (by_lender root x m h file l may) e out = absurd (false≢true (sym out ∙ may.there))
named_one f _ _ (lends role root x m h file b) e out = absurd (cc)

pub not_there : (f : FileSet) (m : List ℕ) → is_there f.roots m ≡ false → IsRequired f m → IsOfNamed f m
not_there f m out h = named_one f Implemented m h refl out
