-- What is told of a type's names is one, and a type that has some has no plain type of its own.
use Rattle.std.proofs.Common.{◌≡◌, ℕ, ◌⊎◌, inl, inr, Bool, true, false, cond, List, map, refl, sym, ◌∙◌, ap, subst, Some, None, codes}
use Rattle.std.specs.List.{slice_get}
use Rattle.std.specs.Option.{option_map}
use Rattle.std.specs.Str.{bytes_eq}
use Rattle.std.proofs.lemmas.Bool.{false≢true}
use Rattle.std.proofs.lemmas.Option.{same_Some, slice_get-map}
use Rattle.std.proofs.lemmas.Slice.Eq.{bytes_eq-Decides}
use Rattle.yv_text_statement.specs.Tree.{Head, Tree, name_of}
use Rattle.yv_link_scopes.specs.Files.{Files, brief_of}
use Rattle.yv_link_scopes.specs.Rows.{Row, name_in}
use Rattle.yv_link_scopes.specs.RowList.{rows_of, statements_of}
use Rattle.yv_link_definitions.specs.BuiltIn.{is_built_in}
use Rattle.yv_link_definitions.specs.Refers.{is_type}
use Rattle.yv_type_chains.specs.Types.{Follows, is_kind}
use Rattle.yv_base_numbers.specs.declared.numbering.NumberKind.{NumberKind}
use Rattle.yv_base_numbers.specs.declared.numbering.NumberKind.TheVariants.{Enumeration, Bits}
use Rattle.yv_values.specs.Types.{Plain}
use Rattle.yv_type_restrictions.specs.BuiltIn.{built_in}
use Rattle.yv_type_restrictions.specs.Types.{HasPlainType, IsTypeAt, StartsFrom as StartsPlain, named_type, after_restriction, first as first_plain, through_typedef as derived_plain}
use Rattle.yv_type_restrictions.proofs.BuiltInNames.{has_digits}
use Rattle.yv_type_restrictions.proofs.TypeStatementStep.{HaveRows, apart as plain_apart}
use Rattle.yv_type_enums.specs.Types.{HasNames, Start, StartsFrom, NamesView, Truth, from_base, first, from, kind_in, from_entries, new, names_of_start}
use Rattle.yv_types.proofs.TypeStatementStep.{apart, both_true}

-- the name of a type of a kind
pub name_is : (word : List ℕ) (r : Row) → is_kind word r ≡ true → name_in r ≡ word
name_is word r is = (bytes_eq-Decides (name_in r) word).0 (both_true (is_type r) (bytes_eq (name_in r) word) is)

-- a type is of one kind
pub two_kinds : (u w : List ℕ) (r : Row) → bytes_eq u w ≡ false → is_kind u r ≡ true → is_kind w r ≡ true → ⊥
two_kinds u w r differ one other =
    let same : u ≡ w = sym (name_is u r one) ∙ name_is w r other in
    false≢true (sym differ ∙ (bytes_eq-Decides u w).1 same)

kind_by : (a b : Bool) (kind : NumberKind) → cond a (Some Enumeration) (cond b (Some Bits) None) ≡ Some kind → (a ≡ true) ⊎ (b ≡ true)
kind_by true b kind e = inl refl
kind_by false true kind e = inr refl
kind_by false false kind e = absurd (cc)

kind_word : (r : Row) (kind : NumberKind) → kind_in r ≡ Some kind → (is_kind (codes "enumeration") r ≡ true) ⊎ (is_kind (codes "bits") r ≡ true)
kind_word r kind e = kind_by (is_kind (codes "enumeration") r) (is_kind (codes "bits") r) kind e

enumeration_built : is_built_in (codes "enumeration") ≡ true
unfolding is_built_in
enumeration_built = refl

bits_built : is_built_in (codes "bits") ≡ true
unfolding is_built_in
bits_built = refl

no_plain : (p : Plain) → None ≡ Some p → ⊥
no_plain p e = cc

module _ (files : Files) (truth : Truth) where
  pub names_by : {k : ℕ} {told : NamesView} → HasNames files truth k told → (s : Start) × (r : Row) × (t : Tree) × StartsFrom files truth k s × (slice_get (rows_of files) k ≡ Some r) × (slice_get (statements_of files) k ≡ Some t) × (told ≡ names_of_start truth r.file t s)
  names_by (from_entries {s = s} {r = r} {t = t} from_s at there is) = (s, r, t, from_s, at, there, is)

  abbrev IsNew : ℕ → Start → Type 0
  IsNew k s = (r : Row) × (kind : NumberKind) × (slice_get (rows_of files) k ≡ Some r) × (kind_in r ≡ Some kind) × (s ≡ new kind)

  abbrev IsDerived : ℕ → Start → Type 0
  IsDerived k s = (j : ℕ) × (base : NamesView) × Follows (map brief_of files) (rows_of files) k j × HasNames files truth j base × (s ≡ from base)

  starts_by : {k : ℕ} {s : Start} → StartsFrom files truth k s → IsNew k s ⊎ IsDerived k s
  starts_by (first {r = r} {kind = kind} at e) = inl (r, kind, at, e, refl)
  starts_by (from_base {j = j} {base = base} f h) = inr (j, base, f, h, refl)

  -- a new type follows none
  new_apart : (k j : ℕ) (r : Row) (kind : NumberKind) → slice_get (rows_of files) k ≡ Some r → kind_in r ≡ Some kind → Follows (map brief_of files) (rows_of files) k j → ⊥
  new_apart k j r kind at e f = elim (kind_word r kind e) [
    | inl is ↦ apart files k j r (codes "enumeration") enumeration_built at is f
    | inr is ↦ apart files k j r (codes "bits") bits_built at is f
  ]

  -- a type with names is no other type by its own name
  pub named_no_kind : (k : ℕ) (told : NamesView) (r : Row) (word : List ℕ) → HasNames files truth k told → slice_get (rows_of files) k ≡ Some r → is_kind word r ≡ true → is_built_in word ≡ true → bytes_eq word (codes "enumeration") ≡ false → bytes_eq word (codes "bits") ≡ false → ⊥
  named_no_kind k told r word h at is known one two =
      let g = names_by h in
      elim (starts_by g.3) [
        | inl n ↦
            let same : n.0 ≡ r = same_Some n.0 r (sym n.2 ∙ at) in
            elim (kind_word r n.1 (ap kind_in (sym same) ∙ n.3)) [
              | inl e ↦ two_kinds word (codes "enumeration") r one is e
              | inr b ↦ two_kinds word (codes "bits") r two is b
            ]
        | inr d ↦ apart files k d.0 r word known at is d.2
      ]

  module _ (once : (k i j : ℕ) → Follows (map brief_of files) (rows_of files) k i → Follows (map brief_of files) (rows_of files) k j → i ≡ j) where
    mutual
      -- one thing is told of a type
      pub told_once : {k : ℕ} {told : NamesView} (other : NamesView) → HasNames files truth k told → HasNames files truth k other → told ≡ other
      told_once {k} {told} other (from_entries {s = s} {r = r} {t = t} start at there is) h =
          let g = names_by h in
          let row_same : r ≡ g.1 = same_Some r g.1 (sym at ∙ g.4) in
          let tree_same : t ≡ g.2 = same_Some t g.2 (sym there ∙ g.5) in
          let start_same : s ≡ g.0 = start_once g.0 start g.3 in
          is ∙ ap (λ (x : Row). names_of_start truth x.file t s) row_same ∙ ap (λ (x : Tree). names_of_start truth g.1.file x s) tree_same ∙ ap (names_of_start truth g.1.file g.2) start_same ∙ sym g.6

      start_once : {k : ℕ} {s : Start} (other : Start) → StartsFrom files truth k s → StartsFrom files truth k other → s ≡ other
      start_once {k} {s} other (first {r = r} {kind = kind} at e) h = elim (starts_by h) [
        | inl n ↦
            let row_same : r ≡ n.0 = same_Some r n.0 (sym at ∙ n.2) in
            ap new (same_Some kind n.1 (sym e ∙ ap kind_in row_same ∙ n.3)) ∙ sym n.4
        | inr d ↦ absurd (new_apart k d.0 r kind at e d.2)
      ]
      start_once {k} {s} other (from_base {j = j} {base = base} f names) h = elim (starts_by h) [
        | inl n ↦ absurd (new_apart k j n.0 n.1 n.2 n.3 f)
        | inr d ↦
            let here : HasNames files truth j d.1 = subst (λ i. HasNames files truth i d.1) (once k d.0 j d.2 f) d.3 in
            ap from (told_once d.1 names here) ∙ sym d.4
      ]

    module _ (heads : HaveRows) where
      head_same : (k : ℕ) (t : Tree) (r : Row) → slice_get (statements_of files) k ≡ Some t → slice_get (rows_of files) k ≡ Some r → t.head ≡ r.head
      head_same k t r there at = same_Some t.head r.head (
          sym (ap (option_map (λ (u : Tree). u.head)) there)
          ∙ sym (slice_get-map (λ (u : Tree). u.head) (statements_of files) k)
          ∙ ap (λ (l : List Head). slice_get l k) (heads files)
          ∙ slice_get-map (λ (x : Row). x.head) (rows_of files) k
          ∙ ap (option_map (λ (x : Row). x.head)) at)

      -- a type that names a built-in type without a plain type of its own narrows none by its name
      first_no_kind : (k : ℕ) (t : Tree) (p : Plain) (r : Row) (word : List ℕ) → IsTypeAt files k t → named_type t ≡ Some p → slice_get (rows_of files) k ≡ Some r → is_kind word r ≡ true → ((digits : ℕ) → built_in word digits ≡ None) → ⊥
      first_no_kind k t p r word here e at is none =
          let name : name_of t.head ≡ word = ap name_of (head_same k t r here.0 at) ∙ name_is word r is in
          let given : (d : ℕ) × (built_in (name_of t.head) d ≡ Some p) = has_digits t p e in
          no_plain p (sym (none given.0) ∙ ap (λ n. built_in n given.0) (sym name) ∙ given.1)

      start_no_kind : {k : ℕ} {t : Tree} {p : Plain} (r : Row) (word : List ℕ) → StartsPlain files k t p → slice_get (rows_of files) k ≡ Some r → is_kind word r ≡ true → is_built_in word ≡ true → ((digits : ℕ) → built_in word digits ≡ None) → ⊥
      start_no_kind {k} {t} {p} r word (first_plain here e) at is known none = first_no_kind k t p r word here e at is none
      start_no_kind {k} {t} {p} r word (derived_plain {j = j} here f h) at is known none = apart files k j r word known at is f

      pub plain_no_kind : {k : ℕ} {p : Plain} (r : Row) (word : List ℕ) → HasPlainType files k p → slice_get (rows_of files) k ≡ Some r → is_kind word r ≡ true → is_built_in word ≡ true → ((digits : ℕ) → built_in word digits ≡ None) → ⊥
      plain_no_kind r word (after_restriction s n) at is known none = start_no_kind r word s at is known none

      first_no_name : (k : ℕ) (t : Tree) (p : Plain) (r : Row) (kind : NumberKind) → IsTypeAt files k t → named_type t ≡ Some p → slice_get (rows_of files) k ≡ Some r → kind_in r ≡ Some kind → ⊥
      first_no_name k t p r kind here e at is = elim (kind_word r kind is) [
        | inl one ↦ first_no_kind k t p r (codes "enumeration") here e at one (λ digits. refl)
        | inr two ↦ first_no_kind k t p r (codes "bits") here e at two (λ digits. refl)
      ]

      mutual
        -- a type with a plain type of its own has no names
        pub plain_unnamed : {k : ℕ} {p : Plain} (told : NamesView) → HasPlainType files k p → HasNames files truth k told → ⊥
        plain_unnamed told (after_restriction s n) h = start_unnamed told s h

        start_unnamed : {k : ℕ} {t : Tree} {p : Plain} (told : NamesView) → StartsPlain files k t p → HasNames files truth k told → ⊥
        start_unnamed {k} {t} {p} told (first_plain here e) h = elim (starts_by (names_by h).3) [
          | inl n ↦ first_no_name k t p n.0 n.1 here e n.2 n.3
          | inr d ↦ plain_apart files k t here heads d.0 p d.2 e
        ]
        start_unnamed {k} {t} {p} told (derived_plain {j = j} here f plain) h = elim (starts_by (names_by h).3) [
          | inl n ↦ new_apart k j n.0 n.1 n.2 n.3 f
          | inr d ↦ plain_unnamed d.1 plain (subst (λ i. HasNames files truth i d.1) (once k d.0 j d.2 f) d.3)
        ]
