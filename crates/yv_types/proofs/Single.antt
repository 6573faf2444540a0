-- A type has one list of plain types.
use Rattle.std.proofs.Common.{◌≡◌, ◌↔◌, ℕ, true, IsTrue, List, [], ◌∷◌, ◌++◌, map, refl, sym, ◌∙◌, ap, subst, Some, codes}
use Rattle.std.specs.Bool.{one_answer}
use Rattle.std.specs.List.{list_any, slice_get}
use Rattle.std.proofs.lemmas.Option.{same_Some}
use Rattle.yv_text_statement.specs.Selection.{ModuleChoice}
use Rattle.yv_link_scopes.specs.Files.{Files, brief_of}
use Rattle.yv_link_scopes.specs.Rows.{Row}
use Rattle.yv_link_scopes.specs.RowList.{rows_of}
use Rattle.yv_type_chains.specs.Types.{Follows, is_kind, is_leafref, is_union, types_in}
use Rattle.yv_values.specs.Identities.{Id, RiseById, is_identity}
use Rattle.yv_values.specs.NameOrder.{Rises, is_named}
use Rattle.yv_values.specs.Types.{Plain, identities}
use Rattle.yv_type_restrictions.specs.Types.{HasPlainType}
use Rattle.yv_type_restrictions.proofs.TypeStatementStep.{HaveRows}
use Rattle.yv_type_enums.specs.Types.{HasNames, NamesView, Truth}
use Rattle.yv_type_identities.specs.Values.{HasValue}
use Rattle.yv_types.specs.Spaces.{Space, Spaces, plain_type, names_type, identityref, leafref, union, through_typedef, none, more, of_kind}
use Rattle.yv_types.proofs.TypeStatementStep.{apart, identityref_built, leafref_built, union_built}
use Rattle.yv_types.proofs.TypeNames.{named_no_kind, plain_no_kind, plain_unnamed, told_once, two_kinds}

-- two lists of texts that rise are one where they have the same texts, and two of identities
abbrev pub TextsAreOne : Type 0
TextsAreOne = (xs ys : List (List ℕ)) → Rises xs → Rises ys → ((s : List ℕ) → is_named xs s ≡ is_named ys s) → xs ≡ ys

abbrev pub IdsAreOne : Type 0
IdsAreOne =
    (xs ys : List Id) → RiseById xs → RiseById ys
    → ((module_name called : List ℕ) → list_any (is_identity module_name called) xs ≡ list_any (is_identity module_name called) ys) → xs ≡ ys

module _ (texts_one : TextsAreOne) (ids_one : IdsAreOne) (heads : HaveRows) (files : Files) (truth : Truth) (choice : ModuleChoice) (once : (k i j : ℕ) → Follows (map brief_of files) (rows_of files) k i → Follows (map brief_of files) (rows_of files) k j → i ≡ j) (plain_one : (k : ℕ) (p q : Plain) → HasPlainType files k p → HasPlainType files k q → p ≡ q) where
  of_faceted : (k : ℕ) (p : Plain) → HasPlainType files k p → (qs : List Plain) → Space files truth choice k qs → p ∷ [] ≡ qs
  of_faceted k p h qs (plain_type {p = q} g) = ap (λ x. x ∷ []) (plain_one k p q h g)
  of_faceted k p h qs (names_type told ns g up same) = absurd (plain_unnamed files truth once heads told h g)
  of_faceted k p h qs (identityref {r = r} at is up ids) = absurd (plain_no_kind files truth once heads r (codes "identityref") h at is identityref_built (λ digits. refl))
  of_faceted k p h qs (leafref {r = r} at is) = absurd (plain_no_kind files truth once heads r (codes "leafref") h at is leafref_built (λ digits. refl))
  of_faceted k p h qs (union {r = r} at is all) = absurd (plain_no_kind files truth once heads r (codes "union") h at is union_built (λ digits. refl))
  of_faceted k p h qs (through_typedef f np nn s) = absurd (np p h)

  module _ (k : ℕ) (told : NamesView) (ns : List (List ℕ)) (h : HasNames files truth k told) (up : Rises ns) (same : (s : List ℕ) → is_named ns s ≡ told.value s) where
    names_same : (other : NamesView) (ms : List (List ℕ)) → HasNames files truth k other → Rises ms → ((s : List ℕ) → is_named ms s ≡ other.value s) → of_kind told.kind ns ≡ of_kind other.kind ms
    names_same other ms g rise agree =
        let t : told ≡ other = told_once files truth once other h g in
        let lists : ns ≡ ms = texts_one ns ms up rise (λ s. same s ∙ ap (λ (x : NamesView). x.value s) t ∙ sym (agree s)) in
        ap (λ (x : NamesView). of_kind x.kind ns) t ∙ ap (of_kind other.kind) lists

    of_listed : (qs : List Plain) → Space files truth choice k qs → of_kind told.kind ns ∷ [] ≡ qs
    of_listed qs (plain_type g) = absurd (plain_unnamed files truth once heads told g h)
    of_listed qs (names_type other ms g rise agree) = ap (λ x. x ∷ []) (names_same other ms g rise agree)
    of_listed qs (identityref {r = r} at is rise ids) = absurd (named_no_kind files truth k told r (codes "identityref") h at is identityref_built refl refl)
    of_listed qs (leafref {r = r} at is) = absurd (named_no_kind files truth k told r (codes "leafref") h at is leafref_built refl refl)
    of_listed qs (union {r = r} at is all) = absurd (named_no_kind files truth k told r (codes "union") h at is union_built refl refl)
    of_listed qs (through_typedef f np nn s) = absurd (nn told h)

  -- a type that names a built-in type
  module _ (k : ℕ) (r : Row) (at : slice_get (rows_of files) k ≡ Some r) where
    row_is : (word : List ℕ) (s : Row) → slice_get (rows_of files) k ≡ Some s → is_kind word s ≡ true → is_kind word r ≡ true
    row_is word s there is = subst (λ (x : Row). is_kind word x ≡ true) (same_Some s r (sym there ∙ at)) is

    of_identityref : is_kind (codes "identityref") r ≡ true → (ids : List Id) → RiseById ids → ((module_name called : List ℕ) → IsTrue (list_any (is_identity module_name called) ids) ↔ HasValue truth choice files k module_name called) → (qs : List Plain) → Space files truth choice k qs → identities ids ∷ [] ≡ qs
    of_identityref is ids up has qs (plain_type g) = absurd (plain_no_kind files truth once heads r (codes "identityref") g at is identityref_built (λ digits. refl))
    of_identityref is ids up has qs (names_type told ns g rise agree) = absurd (named_no_kind files truth k told r (codes "identityref") g at is identityref_built refl refl)
    of_identityref is ids up has qs (identityref {ids = js} there too rise held) = ap (λ x. identities x ∷ []) (ids_one ids js up rise (λ module_name called. one_answer (list_any (is_identity module_name called) ids) (list_any (is_identity module_name called) js) (has module_name called) (held module_name called)))
    of_identityref is ids up has qs (leafref {r = s} there other) = absurd (two_kinds (codes "identityref") (codes "leafref") r refl is (row_is (codes "leafref") s there other))
    of_identityref is ids up has qs (union {r = s} there other all) = absurd (two_kinds (codes "identityref") (codes "union") r refl is (row_is (codes "union") s there other))
    of_identityref is ids up has qs (through_typedef {j = j} f np nn s) = absurd (apart files k j r (codes "identityref") identityref_built at is f)

    of_leafref : is_leafref r ≡ true → (qs : List Plain) → Space files truth choice k qs → [] ≡ qs
    of_leafref is qs (plain_type g) = absurd (plain_no_kind files truth once heads r (codes "leafref") g at is leafref_built (λ digits. refl))
    of_leafref is qs (names_type told ns g rise agree) = absurd (named_no_kind files truth k told r (codes "leafref") g at is leafref_built refl refl)
    of_leafref is qs (identityref {r = s} there other rise held) = absurd (two_kinds (codes "leafref") (codes "identityref") r refl is (row_is (codes "identityref") s there other))
    of_leafref is qs (leafref there too) = refl
    of_leafref is qs (union {r = s} there other all) = absurd (two_kinds (codes "leafref") (codes "union") r refl is (row_is (codes "union") s there other))
    of_leafref is qs (through_typedef {j = j} f np nn s) = absurd (apart files k j r (codes "leafref") leafref_built at is f)

    of_union : is_union r ≡ true → (ps : List Plain) → ((rs : List Plain) → Spaces files truth choice (types_in (rows_of files) k) rs → ps ≡ rs) → (qs : List Plain) → Space files truth choice k qs → ps ≡ qs
    of_union is ps rest qs (plain_type g) = absurd (plain_no_kind files truth once heads r (codes "union") g at is union_built (λ digits. refl))
    of_union is ps rest qs (names_type told ns g rise agree) = absurd (named_no_kind files truth k told r (codes "union") g at is union_built refl refl)
    of_union is ps rest qs (identityref {r = s} there other rise held) = absurd (two_kinds (codes "union") (codes "identityref") r refl is (row_is (codes "identityref") s there other))
    of_union is ps rest qs (leafref {r = s} there other) = absurd (two_kinds (codes "union") (codes "leafref") r refl is (row_is (codes "leafref") s there other))
    of_union is ps rest qs (union there too all) = rest qs all
    of_union is ps rest qs (through_typedef {j = j} f np nn s) = absurd (apart files k j r (codes "union") union_built at is f)

  of_derived : (k j : ℕ) → Follows (map brief_of files) (rows_of files) k j → ((p : Plain) → HasPlainType files k p → ⊥) → ((told : NamesView) → HasNames files truth k told → ⊥) → (ps : List Plain) → ((rs : List Plain) → Space files truth choice j rs → ps ≡ rs) → (qs : List Plain) → Space files truth choice k qs → ps ≡ qs
  of_derived k j f np nn ps rest qs (plain_type g) = absurd (np _ g)
  of_derived k j f np nn ps rest qs (names_type told ns g rise agree) = absurd (nn told g)
  of_derived k j f np nn ps rest qs (identityref {r = r} at is rise held) = absurd (apart files k j r (codes "identityref") identityref_built at is f)
  of_derived k j f np nn ps rest qs (leafref {r = r} at is) = absurd (apart files k j r (codes "leafref") leafref_built at is f)
  of_derived k j f np nn ps rest qs (union {r = r} at is all) = absurd (apart files k j r (codes "union") union_built at is f)
  of_derived k j f np nn ps rest qs (through_typedef {j = i} g no_plain no_names s) = rest qs (subst (λ n. Space files truth choice n qs) (once k i j g f) s)

  mutual
    pub space_once : {k : ℕ} {ps : List Plain} (qs : List Plain) → Space files truth choice k ps → Space files truth choice k qs → ps ≡ qs
    space_once {k} qs (plain_type {p = p} h) s = of_faceted k p h qs s
    space_once {k} qs (names_type told ns h up same) s = of_listed k told ns h up same qs s
    space_once {k} qs (identityref {r = r} {ids = ids} at is up has) s = of_identityref k r at is ids up has qs s
    space_once {k} qs (leafref {r = r} at is) s = of_leafref k r at is qs s
    space_once {k} qs (union {r = r} {ps = ps} at is all) s = of_union k r at is ps (λ rs g. spaces_once rs all g) qs s
    space_once {k} qs (through_typedef {j = j} {ps = ps} f np nn t) s = of_derived k j f np nn ps (λ rs g. space_once rs t g) qs s

    spaces_once : {ms : List ℕ} {ps : List Plain} (qs : List Plain) → Spaces files truth choice ms ps → Spaces files truth choice ms qs → ps ≡ qs
    spaces_once qs none none = refl
    spaces_once qs (more {ps = ps} {qs = rest} h all is) (more {ps = us} {qs = vs} g them too) =
        is ∙ ap (λ xs. xs ++ rest) (space_once us h g) ∙ ap (λ xs. us ++ xs) (spaces_once vs all them) ∙ sym too
