-- What one type statement leaves.
use Rattle.std.proofs.Common.{◌≡◌, ℕ, ◌<◌, ◌≤◌, ◌↔◌, ◌⊎◌, inl, inr, ◌&&◌, Bool, true, false, not, List, length, map, get_or, refl, sym, ◌∙◌, ap, subst, arith, Option, Some, None, codes}
use Rattle.std.specs.Prelude.{Result, Ok, Err, IfOk}
use Rattle.std.specs.List.{slice_get}
use Rattle.std.specs.Option.{option_map}
use Rattle.std.proofs.lemmas.Bool.{false≢true}
use Rattle.std.proofs.lemmas.List.{length-map}
use Rattle.std.proofs.lemmas.Option.{same_Some, slice_get-map, slice_get_read, slice_get_within}
use Rattle.yv_text_statement.specs.Order.{IsLeast}
use Rattle.yv_text_statement.specs.Tree.{Head, Tree, name_of}
use Rattle.yv_text_statement.specs.declared.refusal.Refusal.{Refusal}
use Rattle.yv_text_statement.proofs.Least.{least_same}
use Rattle.yv_link_scopes.specs.Files.{Files, has_word as is_word}
use Rattle.yv_link_scopes.specs.Rows.{Row}
use Rattle.yv_link_scopes.specs.RowList.{rows_of, statements_of}
use Rattle.yv_link_definitions.specs.BuiltIn.{is_built_in}
use Rattle.yv_link_definitions.specs.Refers.{is_type}
use Rattle.yv_type_chains.specs.Types.{IsTypeAt as IsTypeRow}
use Rattle.yv_values.specs.Types.{Plain, plain_of}
use Rattle.yv_values.specs.declared.plain.PlainType.{PlainType}
use Rattle.yv_type_restrictions.specs.Facets.{Narrows, has_word}
use Rattle.yv_type_restrictions.specs.FacetRefusals.{BadFacets}
use Rattle.yv_type_restrictions.specs.Types.{named_type, IsTypeAt, StartsFrom, HasPlainType, first, through_typedef, after_restriction}
use Rattle.yv_type_restrictions.specs.InnerSteps.{BadAt, IsFollowed, IsLeft, IsStep}
use Rattle.yv_type_restrictions.proofs.BuiltInNames.{names_built_in}

no_type : (p : Plain) → None ≡ Some p → ⊥
no_type p e = cc

no_number : (j : ℕ) → None ≡ Some j → ⊥
no_number j e = cc

no_head : (h : Head) → Some h ≡ None → ⊥
no_head h e = cc

no_tree : (t : Tree) → None ≡ Some t → ⊥
no_tree t e = cc

both_true : (a b : Bool) → (a && b) ≡ true → b ≡ true
both_true true b h = h
both_true false b h = absurd (false≢true h)

not_both : (b : Bool) → b ≡ true → not b ≡ true → ⊥
not_both true h g = false≢true g
not_both false h g = false≢true h

-- the view of a list's item
pub row_read : {A B : Type 0} (f : A → B) (xs : List A) (ys : List B) (k : ℕ) (x : A) → map f xs ≡ ys → k < length xs → x ≡ get_or xs k x → slice_get ys k ≡ Some (f x)
row_read f xs ys k x e h is = ap (λ l. slice_get l k) (sym e) ∙ slice_get-map f xs k ∙ ap (option_map f) (slice_get_read xs (length xs) k x refl h is)

-- one type is left of each
abbrev pub LeavesOne : Type 0
LeavesOne = (t : Tree) (p q r : Plain) → Narrows t p q → Narrows t p r → q ≡ r

pub left_some : LeavesOne → (file : ℕ) (t : Tree) (b q : Plain) (fault : Option Refusal) → Narrows t b q → IsLeast (BadFacets file t b) fault → IsLeft file t (Some b) (Some q) fault
left_some one file t b q fault n l = record {
  left = λ r. (
    λ e. (b, refl, subst (Narrows t b) (same_Some q r e) n),
    λ h. ap Some (one t b q r n (subst (λ (p : Plain). Narrows t p r) (sym (same_Some b h.0 h.1)) h.2)),
  );
  least = least_same (BadFacets file t b) (λ f. (p : Plain) × (Some b ≡ Some p) × BadFacets file t p f) fault
      (λ f h. (b, refl, h))
      (λ f h. subst (λ (p : Plain). BadFacets file t p f) (sym (same_Some b h.0 h.1)) h.2) l;
}

-- what holds of each answer
pub if_ok : {A E : Type 0} (P Q : A → Type 0) (r : Result A E) → ((s : A) → P s → Q s) → IfOk r P → IfOk r Q
if_ok P Q (Ok s) f h = f s h
if_ok P Q (Err e) f h = h

pub left_none : (file : ℕ) (t : Tree) → IsLeft file t None None None
left_none file t = record {
  left = λ r. (λ e. absurd (no_type r e), λ h. absurd (no_type h.0 h.1));
  least = λ f h. no_type h.0 h.1;
}

-- a statement of a number has the head of its row
abbrev pub HaveRows : Type 0
HaveRows = (files : Files) → map (λ (t : Tree). t.head) (statements_of files) ≡ map (λ (r : Row). r.head) (rows_of files)

module _ (files : Files) where
  pub left_by : {k : ℕ} {q : Plain} → HasPlainType files k q → (t : Tree) × (p : Plain) × StartsFrom files k t p × Narrows t p q
  left_by (after_restriction {t = t} {p = p} s n) = (t, p, s, n)

  pub starts_at : {k : ℕ} {t : Tree} {p : Plain} → StartsFrom files k t p → IsTypeAt files k t
  starts_at (first here e) = here
  starts_at (through_typedef here f h) = here

  pub starts_by : {k : ℕ} {t : Tree} {p : Plain} → StartsFrom files k t p → (named_type t ≡ Some p) ⊎ ((j : ℕ) × IsFollowed files k j × HasPlainType files j p)
  starts_by (first here e) = inl e
  starts_by (through_typedef {j = j} here f h) = inr (j, f, h)

  head_there : HaveRows → (k : ℕ) (t : Tree) → IsTypeAt files k t → Some t.head ≡ option_map (λ (r : Row). r.head) (slice_get (rows_of files) k)
  head_there heads k t here =
      sym (ap (option_map (λ (u : Tree). u.head)) here.0)
      ∙ sym (slice_get-map (λ (u : Tree). u.head) (statements_of files) k)
      ∙ ap (λ (l : List Head). slice_get l k) (heads files)
      ∙ slice_get-map (λ (r : Row). r.head) (rows_of files) k

  -- the row of a type is one
  type_row : HaveRows → (k : ℕ) (t : Tree) (o : Option Row) → IsTypeAt files k t → slice_get (rows_of files) k ≡ o → IsTypeRow (rows_of files) k
  type_row heads k t (Some r) here at =
      let same : t.head ≡ r.head = same_Some t.head r.head (head_there heads k t here ∙ ap (option_map (λ (x : Row). x.head)) at) in
      (r, at, ap (is_word (codes "type")) (sym same) ∙ here.1)
  type_row heads k t None here at = absurd (no_head t.head (head_there heads k t here ∙ ap (option_map (λ (x : Row). x.head)) at))

  pub starts_type : HaveRows → {k : ℕ} {t : Tree} {p : Plain} → StartsFrom files k t p → IsTypeRow (rows_of files) k
  starts_type heads {k} {t} s = type_row heads k t (slice_get (rows_of files) k) (starts_at s) refl

  -- what has a plain type is a type
  pub plain_type : HaveRows → {k : ℕ} {q : Plain} → HasPlainType files k q → IsTypeRow (rows_of files) k
  plain_type heads h = starts_type heads (left_by h).2

  -- what isn't a type has no plain type, and nothing is wrong with it
  pub step_none : (k : ℕ) → ((t : Tree) → IsTypeAt files k t → ⊥) → IsStep files k None None
  step_none k out = record {
    exact = λ q. (λ e. absurd (no_type q e), λ h. absurd (let p = left_by h in out p.0 (starts_at p.2)));
    least = λ f h. out h.2.0 (starts_at h.2.2);
  }

  pub step_nothing : (k : ℕ) (plain : Option PlainType) (fault : Option Refusal) → plain ≡ None → fault ≡ None → ((t : Tree) → IsTypeAt files k t → ⊥) → IsStep files k (option_map plain_of plain) fault
  step_nothing k plain fault e g out = rw (e, g) (step_none k out)

  -- a number past the rows is no type's
  pub out_beyond : HaveRows → (k : ℕ) → length (rows_of files) ≤ k → (t : Tree) → IsTypeAt files k t → ⊥
  out_beyond heads k past t here =
      let within : k < length (statements_of files) = slice_get_within (statements_of files) k t here.0 in
      let trees : length (statements_of files) ≡ length (rows_of files) = sym (length-map (statements_of files) (λ (u : Tree). u.head)) ∙ ap length (heads files) ∙ length-map (rows_of files) (λ (r : Row). r.head) in
      omega (arith, within, trees, past)

  pub out_past : HaveRows → {E : Type 0} (entries : List E) (view : E → Row) (k : ℕ) → map view entries ≡ rows_of files → length entries ≤ k → (t : Tree) → IsTypeAt files k t → ⊥
  out_past heads entries view k e past =
      let rows : length entries ≡ length (rows_of files) = sym (length-map entries view) ∙ ap length e in
      out_beyond heads k (omega (arith, rows, past))

  -- a number without a statement is none either
  pub out_none : (k : ℕ) → None ≡ slice_get (statements_of files) k → (t : Tree) → IsTypeAt files k t → ⊥
  out_none k none t here = no_tree t (none ∙ here.0)

  -- nor is that of another statement
  pub out_other : (k : ℕ) (u : Tree) → Some u ≡ slice_get (statements_of files) k → has_word (codes "type") u ≡ false → (t : Tree) → IsTypeAt files k t → ⊥
  out_other k u at out t here =
      let same : u ≡ t = same_Some u t (at ∙ here.0) in
      false≢true (sym out ∙ ap (has_word (codes "type")) same ∙ here.1)

  module _ (k : ℕ) (t : Tree) (here : IsTypeAt files k t) where
    one_tree : (u : Tree) → IsTypeAt files k u → u ≡ t
    one_tree u at = same_Some u t (sym at.0 ∙ here.0)

    -- what the statement narrows being known
    pub step_by : (r : Row) (base plain : Option Plain) (fault : Option Refusal) → slice_get (rows_of files) k ≡ Some r → ((p : Plain) → (base ≡ Some p) ↔ StartsFrom files k t p) → IsLeft r.file t base plain fault → IsStep files k plain fault
    step_by r base plain fault row from l = record {
      exact = λ q. (
        λ e. let h = (l.left q).0 e in after_restriction ((from h.0).0 h.1) h.2,
        λ h.
            let g = left_by h in
            let same : g.0 ≡ t = one_tree g.0 (starts_at g.2) in
            let s : StartsFrom files k t g.1 = subst (λ (u : Tree). StartsFrom files k u g.1) same g.2 in
            (l.left q).1 (g.1, (from g.1).1 s, subst (λ (u : Tree). Narrows u g.1 q) same g.3),
      );
      least = least_same (λ f. (p : Plain) × (base ≡ Some p) × BadFacets r.file t p f) (BadAt files k) fault to back l.least;
    }
      where
        to : (f : Refusal) → ((p : Plain) × (base ≡ Some p) × BadFacets r.file t p f) → BadAt files k f
        to f h = (r, row, (t, h.0, (from h.0).0 h.1, h.2))

        back : (f : Refusal) → BadAt files k f → (p : Plain) × (base ≡ Some p) × BadFacets r.file t p f
        back f h =
            let s : h.0 ≡ r = same_Some h.0 r (sym h.1 ∙ row) in
            let b = h.2 in
            let same : b.0 ≡ t = one_tree b.0 (starts_at b.2) in (
              b.1,
              (from b.1).1 (subst (λ (u : Tree). StartsFrom files k u b.1) same b.2),
              subst (λ (x : Row). BadFacets x.file t b.1 f) s (subst (λ (u : Tree). BadFacets h.0.file u b.1 f) same b.3),
            )

    module _ (heads : HaveRows) where
      head_of : (r : Row) → slice_get (rows_of files) k ≡ Some r → t.head ≡ r.head
      head_of r at = same_Some t.head r.head (
          sym (ap (option_map (λ (u : Tree). u.head)) here.0)
          ∙ sym (slice_get-map (λ (u : Tree). u.head) (statements_of files) k)
          ∙ ap (λ (l : List Head). slice_get l k) (heads files)
          ∙ slice_get-map (λ (x : Row). x.head) (rows_of files) k
          ∙ ap (option_map (λ (x : Row). x.head)) at)

      -- a type that names a built-in type follows none
      pub apart : (j : ℕ) (p : Plain) → IsFollowed files k j → named_type t ≡ Some p → ⊥
      apart j p f e =
          let same : t.head ≡ f.refers.statement.head = head_of f.refers.statement f.refers.at in
          let out : not (is_built_in (name_of t.head)) ≡ true = ap (λ (h : Head). not (is_built_in (name_of h))) same ∙ both_true (is_type f.refers.statement) _ f.refers.names in
          not_both (is_built_in (name_of t.head)) (names_built_in t p e) out

      pub starts_named : (o : Option ℕ) → ((j : ℕ) → (o ≡ Some j) ↔ IsFollowed files k j) → o ≡ None → (p : Plain) → (named_type t ≡ Some p) ↔ StartsFrom files k t p
      starts_named o follows none p = (
        λ e. first here e,
        λ s. elim (starts_by s) [
          | inl e ↦ e
          | inr h ↦ absurd (no_number h.0 (sym none ∙ (follows h.0).1 h.1))
        ],
      )

      pub starts_derived : (o : Option ℕ) (j : ℕ) (base : Option Plain) → ((i : ℕ) → (o ≡ Some i) ↔ IsFollowed files k i) → o ≡ Some j → ((p : Plain) → (base ≡ Some p) ↔ HasPlainType files j p) → (p : Plain) → (base ≡ Some p) ↔ StartsFrom files k t p
      starts_derived o j base follows is known p = (
        λ e. through_typedef here ((follows j).0 is) ((known p).0 e),
        λ s. elim (starts_by s) [
          | inl e ↦ absurd (apart j p ((follows j).0 is) e)
          | inr h ↦
              let same : h.0 ≡ j = same_Some h.0 j (sym ((follows h.0).1 h.1) ∙ is) in
              (known p).1 (subst (λ i. HasPlainType files i p) same h.2)
        ],
      )

-- a type has one plain type
module _ (heads : HaveRows) (one : LeavesOne) (files : Files) (once : (k i j : ℕ) → IsFollowed files k i → IsFollowed files k j → i ≡ j) where
  mutual
    pub plain_once : {k : ℕ} {p : Plain} (q : Plain) → HasPlainType files k p → HasPlainType files k q → p ≡ q
    plain_once {k} {p} q (after_restriction {t = t} {p = b} s n) h =
        let g = left_by files h in
        let same : g.0 ≡ t = one_tree files k t (starts_at files s) g.0 (starts_at files g.2) in
        let from : b ≡ g.1 = start_once g.1 s (subst (λ (u : Tree). StartsFrom files k u g.1) same g.2) in
        one t g.1 p q (subst (λ (x : Plain). Narrows t x p) from n) (subst (λ (u : Tree). Narrows u g.1 q) same g.3)

    start_once : {k : ℕ} {t : Tree} {p : Plain} (q : Plain) → StartsFrom files k t p → StartsFrom files k t q → p ≡ q
    start_once {k} {t} {p} q (first here e) s = elim (starts_by files s) [
      | inl d ↦ same_Some p q (sym e ∙ d)
      | inr h ↦ absurd (apart files k t here heads h.0 p h.1 e)
    ]
    start_once {k} {t} {p} q (through_typedef {j = j} here f h) s = elim (starts_by files s) [
      | inl d ↦ absurd (apart files k t here heads j q f d)
      | inr g ↦ plain_once q h (subst (λ i. HasPlainType files i q) (once k g.0 j g.1 f) g.2)
    ]
