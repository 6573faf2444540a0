-- What one type statement tells.
use Rattle.std.proofs.Common.{◌≡◌, ℕ, ◌<◌, ◌≤◌, ◌↔◌, ◌⊎◌, inl, inr, ◌&&◌, Bool, true, false, cond, not, List, length, map, get_or, refl, sym, ◌∙◌, ap, subst, arith, Option, Some, None, codes}
use Rattle.std.specs.Prelude.{Result, Ok, Err, IfOk}
use Rattle.std.specs.List.{slice_get}
use Rattle.std.specs.Option.{option_map}
use Rattle.std.specs.Str.{bytes_eq}
use Rattle.std.proofs.lemmas.Bool.{false≢true}
use Rattle.std.proofs.lemmas.List.{length-map}
use Rattle.std.proofs.lemmas.Option.{same_Some, slice_get-map, slice_get_read, slice_get_within}
use Rattle.std.proofs.lemmas.Slice.Eq.{bytes_eq-Decides}
use Rattle.yv_text_statement.specs.Tree.{Tree}
use Rattle.yv_text_statement.specs.declared.refusal.Refusal.{Refusal}
use Rattle.yv_text_statement.proofs.Least.{least_same}
use Rattle.yv_link_scopes.specs.Files.{Files}
use Rattle.yv_link_scopes.specs.Rows.{Row, name_in}
use Rattle.yv_link_scopes.specs.RowList.{rows_of, statements_of}
use Rattle.yv_link_definitions.specs.BuiltIn.{is_built_in}
use Rattle.yv_link_definitions.specs.Refers.{is_type}
use Rattle.yv_type_chains.specs.Types.{IsTypeAt, is_kind}
use Rattle.yv_base_numbers.specs.declared.numbering.NumberKind.{NumberKind}
use Rattle.yv_base_numbers.specs.declared.numbering.NumberKind.TheVariants.{Enumeration, Bits}
use Rattle.yv_type_enums.specs.Types.{Truth, NamesView, Start, new, from, names_of_start, IsFaultBy, kind_in, StartsFrom, HasNames, first, from_base, from_entries}
use Rattle.yv_type_enums.specs.TypeNames.{told_of}
use Rattle.yv_type_enums.specs.InnerSteps.{BadAt, IsFollowed, IsRead, IsStep}
use Rattle.yv_type_enums.specs.declared.table.TypeNames.{TypeNames}
use Rattle.yv_type_enums.proofs.Faulty.{fault_by}

pub no_told : (x : NamesView) → None ≡ Some x → ⊥
no_told x e = cc

no_kind : (k : NumberKind) → None ≡ Some k → ⊥
no_kind k e = cc

no_number : (j : ℕ) → None ≡ Some j → ⊥
no_number j e = cc

no_tree : (t : Tree) → None ≡ Some t → ⊥
no_tree t e = cc

both_first : (a b : Bool) → (a && b) ≡ true → a ≡ true
both_first true b h = refl
both_first false b h = absurd (false≢true h)

both_true : (a b : Bool) → (a && b) ≡ true → b ≡ true
both_true true b h = h
both_true false b h = absurd (false≢true h)

not_both : (b : Bool) → b ≡ true → not b ≡ true → ⊥
not_both true h g = false≢true g
not_both false h g = false≢true h

-- the view of a list's item
pub row_read : {A B : Type 0} (f : A → B) (xs : List A) (ys : List B) (k : ℕ) (x : A) → map f xs ≡ ys → k < length xs → x ≡ get_or xs k x → slice_get ys k ≡ Some (f x)
row_read f xs ys k x e h is = ap (λ l. slice_get l k) (sym e) ∙ slice_get-map f xs k ∙ ap (option_map f) (slice_get_read xs (length xs) k x refl h is)

-- what holds of each answer
pub if_ok : {A E : Type 0} (P Q : A → Type 0) (r : Result A E) → ((s : A) → P s → Q s) → IfOk r P → IfOk r Q
if_ok P Q (Ok s) f h = f s h
if_ok P Q (Err e) f h = h

named_is : (word : List ℕ) (r : Row) → is_built_in word ≡ true → is_kind word r ≡ true → is_built_in (name_in r) ≡ true
named_is word r built is =
    let same : name_in r ≡ word = (bytes_eq-Decides (name_in r) word).0 (both_true (is_type r) (bytes_eq (name_in r) word) is) in
    rw (same) built

by_kind : (P : Type 0) (kind : NumberKind) (a b : Bool) → (a ≡ true → P) → (b ≡ true → P) → cond a (Some Enumeration) (cond b (Some Bits) None) ≡ Some kind → P
by_kind P kind true b f g e = f refl
by_kind P kind false true f g e = g refl
by_kind P kind false false f g e = absurd (no_kind kind e)

words : is_built_in (codes "enumeration") ≡ true
unfolding is_built_in
words = refl

words_too : is_built_in (codes "bits") ≡ true
unfolding is_built_in
words_too = refl

kind_built : (r : Row) (kind : NumberKind) → kind_in r ≡ Some kind → is_built_in (name_in r) ≡ true
kind_built r kind e = by_kind (is_built_in (name_in r) ≡ true) kind (is_kind (codes "enumeration") r) (is_kind (codes "bits") r) (named_is (codes "enumeration") r words) (named_is (codes "bits") r words_too) e

kind_type : (r : Row) (kind : NumberKind) → kind_in r ≡ Some kind → is_type r ≡ true
kind_type r kind e = by_kind (is_type r ≡ true) kind (is_kind (codes "enumeration") r) (is_kind (codes "bits") r) (both_first (is_type r) (bytes_eq (name_in r) (codes "enumeration"))) (both_first (is_type r) (bytes_eq (name_in r) (codes "bits"))) e

module _ (files : Files) (truth : Truth) where
  pub lists_by : {k : ℕ} {x : NamesView} → HasNames files truth k x → (s : Start) × (r : Row) × (t : Tree) × StartsFrom files truth k s × (slice_get (rows_of files) k ≡ Some r) × (slice_get (statements_of files) k ≡ Some t) × (x ≡ names_of_start truth r.file t s)
  lists_by (from_entries {s = s} {r = r} {t = t} b row tree e) = (s, r, t, b, row, tree, e)

  pub starts_by : {k : ℕ} {s : Start} → StartsFrom files truth k s → ((r : Row) × (kind : NumberKind) × (slice_get (rows_of files) k ≡ Some r) × (kind_in r ≡ Some kind) × (s ≡ new kind)) ⊎ ((j : ℕ) × (base : NamesView) × IsFollowed files k j × HasNames files truth j base × (s ≡ from base))
  starts_by (first {r = r} {kind = kind} row e) = inl (r, kind, row, e, refl)
  starts_by (from_base {j = j} {base = base} f h) = inr (j, base, f, h, refl)

  pub starts_type : {k : ℕ} {s : Start} → StartsFrom files truth k s → IsTypeAt (rows_of files) k
  starts_type (first {r = r} {kind = kind} row e) = (r, row, kind_type r kind e)
  starts_type (from_base f h) = (f.refers.statement, f.refers.at, both_first (is_type f.refers.statement) (not (is_built_in (name_in f.refers.statement))) f.refers.names)

  -- what has names told is a type
  pub lists_type : {k : ℕ} {x : NamesView} → HasNames files truth k x → IsTypeAt (rows_of files) k
  lists_type h = let p = lists_by h in starts_type p.3

  -- nothing is told of such a statement
  abbrev pub HasNone : ℕ → Type 0
  HasNone k = (s : Start) (r : Row) (t : Tree) → StartsFrom files truth k s → slice_get (rows_of files) k ≡ Some r → slice_get (statements_of files) k ≡ Some t → ⊥

  step_none : (k : ℕ) → HasNone k → IsStep files truth k None None
  step_none k out = record {
    exact = λ x. (λ e. absurd (no_told x e), λ h. absurd (let p = lists_by h in out p.0 p.1 p.2 p.3 p.4 p.5));
    least = λ f h. out h.2.0 h.0 h.2.1 h.2.2 h.1 h.2.3;
  }

  pub step_nothing : (k : ℕ) (names : Option TypeNames) (fault : Option Refusal) → names ≡ None → fault ≡ None → HasNone k → IsStep files truth k (option_map told_of names) fault
  step_nothing k names fault e g out = rw (e, g) (step_none k out)

  -- a number past the rows is no type's
  pub out_past : {E : Type 0} (entries : List E) (view : E → Row) (k : ℕ) → map view entries ≡ rows_of files → length entries ≤ k → HasNone k
  out_past entries view k e past s r t b row tree =
      let within : k < length (rows_of files) = slice_get_within (rows_of files) k r row in
      let rows : length entries ≡ length (rows_of files) = sym (length-map entries view) ∙ ap length e in
      omega (arith, within, rows, past)

  -- nor is a number without a statement
  pub out_none : (k : ℕ) → None ≡ slice_get (statements_of files) k → HasNone k
  out_none k none s r t b row tree = no_tree t (none ∙ tree)

  -- what names a built-in type follows none
  apart : (k j : ℕ) (r : Row) (kind : NumberKind) → slice_get (rows_of files) k ≡ Some r → kind_in r ≡ Some kind → IsFollowed files k j → ⊥
  apart k j r kind row e f =
      let same : f.refers.statement ≡ r = same_Some f.refers.statement r (sym f.refers.at ∙ row) in
      let built : is_built_in (name_in f.refers.statement) ≡ true = subst (λ (x : Row). is_built_in (name_in x) ≡ true) (sym same) (kind_built r kind e) in
      not_both (is_built_in (name_in f.refers.statement)) built (both_true (is_type f.refers.statement) (not (is_built_in (name_in f.refers.statement))) f.refers.names)

  module _ (k : ℕ) where
    -- what a type takes its names from being known
    pub step_by : (r : Row) (t : Tree) (s : Start) (told : Option NamesView) (fault : Option Refusal) → slice_get (rows_of files) k ≡ Some r → slice_get (statements_of files) k ≡ Some t → StartsFrom files truth k s → ((u : Start) → StartsFrom files truth k u → u ≡ s) → IsRead truth r.file t s told fault → IsStep files truth k told fault
    step_by r t s told fault row tree b one read = record {
      exact = λ x. (
        λ e. from_entries b row tree (same_Some x (names_of_start truth r.file t s) (sym e ∙ read.tells)),
        λ h.
            let p = lists_by h in
            let su : p.0 ≡ s = one p.0 p.3 in
            let sr : p.1 ≡ r = same_Some p.1 r (sym p.4 ∙ row) in
            let st : p.2 ≡ t = same_Some p.2 t (sym p.5 ∙ tree) in
            read.tells ∙ ap Some (sym (p.6 ∙ ap (λ (y : Row). names_of_start truth y.file p.2 p.0) sr ∙ ap (λ (y : Tree). names_of_start truth r.file y p.0) st ∙ ap (names_of_start truth r.file t) su)),
      );
      least = least_same (λ f. IsFaultBy r.file t s (Some f)) (BadAt files truth k) fault to back (fault_by r.file t s fault read.first);
    }
      where
        to : (f : Refusal) → IsFaultBy r.file t s (Some f) → BadAt files truth k f
        to f h = (r, row, (s, t, b, tree, h))

        back : (f : Refusal) → BadAt files truth k f → IsFaultBy r.file t s (Some f)
        back f h =
            let b = h.2 in
            let su : b.0 ≡ s = one b.0 b.2 in
            let sr : h.0 ≡ r = same_Some h.0 r (sym h.1 ∙ row) in
            let st : b.1 ≡ t = same_Some b.1 t (sym b.3 ∙ tree) in
            subst (λ (y : Start). IsFaultBy r.file t y (Some f)) su
            (subst (λ (y : Tree). IsFaultBy r.file y b.0 (Some f)) st
            (subst (λ (y : Row). IsFaultBy y.file b.1 b.0 (Some f)) sr b.4))

    module _ (o : Option ℕ) (follows : (j : ℕ) → (o ≡ Some j) ↔ IsFollowed files k j) where
      -- a new type
      pub one_new : (r : Row) (kind : NumberKind) → slice_get (rows_of files) k ≡ Some r → kind_in r ≡ Some kind → (u : Start) → StartsFrom files truth k u → u ≡ new kind
      one_new r kind row e u b = elim (starts_by b) [
        | inl p ↦
            let sr : p.0 ≡ r = same_Some p.0 r (sym p.2 ∙ row) in
            let sk : p.1 ≡ kind = same_Some p.1 kind (sym p.3 ∙ ap kind_in sr ∙ e) in
            p.4 ∙ ap new sk
        | inr q ↦ absurd (apart k q.0 r kind row e q.2)
      ]

      -- a type of another kind
      pub out_other : (r : Row) → slice_get (rows_of files) k ≡ Some r → kind_in r ≡ None → o ≡ None → HasNone k
      out_other r row e none u x t b at tree = elim (starts_by b) [
        | inl p ↦ let sr : p.0 ≡ r = same_Some p.0 r (sym p.2 ∙ row) in no_kind p.1 (sym e ∙ ap kind_in (sym sr) ∙ p.3)
        | inr q ↦ no_number q.0 (sym none ∙ (follows q.0).1 q.2)
      ]

      module _ (j : ℕ) (is : o ≡ Some j) (known : Option NamesView) (knows : (x : NamesView) → (known ≡ Some x) ↔ HasNames files truth j x) where
        followed : IsFollowed files k j
        followed = (follows j).0 is

        -- a derived type
        pub from_known : (x : NamesView) → known ≡ Some x → StartsFrom files truth k (from x)
        from_known x e = from_base followed ((knows x).0 e)

        base_is : (i : ℕ) (x : NamesView) → IsFollowed files k i → HasNames files truth i x → known ≡ Some x
        base_is i x f h =
            let same : i ≡ j = same_Some i j (sym ((follows i).1 f) ∙ is) in
            (knows x).1 (subst (λ n. HasNames files truth n x) same h)

        pub one_derived : (x : NamesView) → known ≡ Some x → (u : Start) → StartsFrom files truth k u → u ≡ from x
        one_derived x e u b = elim (starts_by b) [
          | inl p ↦ absurd (apart k j p.0 p.1 p.2 p.3 followed)
          | inr q ↦ q.4 ∙ ap from (same_Some q.1 x (sym (base_is q.0 q.1 q.2 q.3) ∙ e))
        ]

        pub out_unknown : known ≡ None → HasNone k
        out_unknown e u r t b at tree = elim (starts_by b) [
          | inl p ↦ apart k j p.0 p.1 p.2 p.3 followed
          | inr q ↦ no_told q.1 (sym e ∙ base_is q.0 q.1 q.2 q.3)
        ]
