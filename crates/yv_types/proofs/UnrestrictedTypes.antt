-- A type that says nothing but a name has the plain type of the type that it follows.
use Rattle.std.proofs.Common.{◌≡◌, ℕ, [], ◌∷◌, List, map, ap, refl, sym, subst, Some, None, append-nil}
use Rattle.std.specs.Prelude.{Option, codes, true}
use Rattle.std.specs.Borrow.{Bor}
use Rattle.std.specs.List.{find}
use Rattle.std.specs.Option.{is_some, option_map, option_copied}
use Rattle.std.proofs.lemmas.Bool.{false≢true}
use Rattle.yv_text_statement.specs.Tree.{Tree, trees}
use Rattle.yv_text_statement.specs.Selection.{ModuleChoice}
use Rattle.yv_link_scopes.specs.Files.{Files, brief_of}
use Rattle.yv_link_scopes.specs.RowList.{rows_of}
use Rattle.yv_type_chains.specs.Types.{Follows}
use Rattle.yv_type_enums.specs.Types.{Truth}
use Rattle.yv_values.specs.Types.{Plain, wholes, decimals, strings, booleans, names, flags, octets, identities, empties}
use Rattle.yv_type_restrictions.specs.Facets.{AreTests, Leaves, Narrows, child, has_word}
use Rattle.yv_type_restrictions.specs.Types.{HasPlainType, through_typedef, after_restriction}
use Rattle.yv_types.specs.Spaces.{Space, plain_type}
use Rattle.yv_types.specs.InnerTables.{IsUnrestricted}

no_child : (word : List ℕ) (t : Tree) → trees t.children ≡ [] → child word t ≡ None
no_child word t none = ap (λ ts. find (has_word word) ts) none

leaves_all : (digits : Option ℕ) (is : List _) (word : List ℕ) (t : Tree) → trees t.children ≡ [] → Leaves digits is (child word t) is
leaves_all digits is word t none = subst (λ c. Leaves digits is c is) (sym (no_child word t none)) refl

narrows_nothing : (t : Tree) → trees t.children ≡ [] → (p : Plain) → Narrows t p p
narrows_nothing t none (wholes is_text is) = (is, leaves_all None is (codes "range") t none, refl)
narrows_nothing t none (decimals digits is) = (is, leaves_all (Some digits) is (codes "range") t none, refl)
narrows_nothing t none (strings lengths tests) =
    (lengths, [], leaves_all None lengths (codes "length") t none, subst (λ cs. AreTests cs []) (sym none) refl, ap (strings lengths) (sym (append-nil tests)))
narrows_nothing t none booleans = refl
narrows_nothing t none (names ns) = refl
narrows_nothing t none (flags ns) = refl
narrows_nothing t none (octets lengths) = (lengths, leaves_all None lengths (codes "length") t none, refl)
narrows_nothing t none (identities ids) = refl
narrows_nothing t none empties = refl

-- such a type has the list of the type that it follows, if that has a plain type
pub followed_space : (files : Files) (truth : Truth) (choice : ModuleChoice) (k j : ℕ) → IsUnrestricted files k → Follows (map brief_of files) (rows_of files) k j
    → (p : Plain) → HasPlainType files j p → ((qs rs : List Plain) → Space files truth choice j qs → Space files truth choice j rs → qs ≡ rs)
    → (ps : List Plain) → Space files truth choice j ps → Space files truth choice k ps
followed_space files truth choice k j is f p h one ps s =
    subst (Space files truth choice k) (one (p ∷ []) ps (plain_type h) s) (plain_type (after_restriction (through_typedef is.1 f h) (narrows_nothing is.0 is.2 p)))

-- a view of what there is
pub some_of : {A B : Type 0} (g : A → B) (o : Option (Bor A)) → is_some o ≡ true → (b : B) × (option_map g (option_copied o) ≡ Some b)
some_of g None h = absurd (false≢true h)
some_of g (Some a) h = (g a.now, refl)
