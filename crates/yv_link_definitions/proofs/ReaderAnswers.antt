-- What readers are told.
use Rattle.std.proofs.Common.{◌≡◌, ℕ, ◌+◌, ◌<◌, ◌≤◌, ◌↔◌, inl, inr, zero, suc, List, [], ◌∷◌, ◌++◌, length, map, Option, Some, None, refl, sym, ◌∙◌, ap, subst, arith}
use Rattle.std.specs.List.{slice_get}
use Rattle.std.specs.Option.{option_and_then}
use Rattle.std.specs.Prelude.{IfSome}
use Rattle.std.proofs.lemmas.Bool.{cases_lt}
use Rattle.std.proofs.lemmas.Option.{same_Some, slice_get_within}
use Rattle.yv_link_scopes.specs.Files.{Briefs, Files, brief_of}
use Rattle.yv_link_scopes.specs.Rows.{Row}
use Rattle.yv_link_scopes.specs.RowList.{rows_of}
use Rattle.yv_link_definitions.specs.Refers.{RefersTo}
use Rattle.yv_link_definitions.specs.References.{RefersAt, number_at, ref_of}
use Rattle.yv_link_definitions.specs.InnerPlaces.{ref_in}
use Rattle.yv_link_definitions.specs.Meanings.{AreNames, definition_in, meant_in}
use Rattle.yv_link_definitions.specs.declared.references.DefRef.{DefRef}
use Rattle.yv_link_definitions.specs.declared.meaning_table.Names.{Names}
use Rattle.yv_link_definitions.proofs.DefinitionGraph.{pushed_at}
use Rattle.yv_link_definitions.proofs.MeantDefinitions.{meant_definition, meant_within}

-- one more meaning
inner_some : (o : Option (Option ℕ)) (d : ℕ) → option_and_then (λ m. m) o ≡ Some d → o ≡ Some (Some d)
inner_some None d e = absurd (let bad : None ≡ Some d = e in cc)
inner_some (Some m) d e = ap Some e

kept_at : {A : Type 0} (xs : List A) (y x : A) (k : ℕ) → slice_get xs k ≡ Some x → slice_get (xs ++ y ∷ []) k ≡ Some x
kept_at [] y x k e = cc
kept_at (z ∷ xs) y x zero e = e
kept_at (z ∷ xs) y x (suc k) e = kept_at xs y x k e

last_at : {A : Type 0} (xs : List A) (y : A) → slice_get (xs ++ y ∷ []) (length xs) ≡ Some y
last_at [] y = refl
last_at (x ∷ xs) y = last_at xs y

abbrev pub Meant : Briefs → List Row → ℕ → List (Option ℕ) → Type 0
Meant files rows n xs = (k d : ℕ) → (option_and_then (λ m. m) (slice_get xs k) ≡ Some d) ↔ ((k < n) × RefersTo files rows k d)

pub meant_more : (files : Briefs) (rows : List Row) (n : ℕ) (xs ys : List (Option ℕ)) (o : Option ℕ) → length xs ≡ n → ys ≡ xs ++ o ∷ [] → ((d : ℕ) → (o ≡ Some d) ↔ RefersTo files rows n d) → Meant files rows n xs → Meant files rows (n + 1) ys
meant_more files rows n xs ys o len is gives old k d = (to, from)
  where
    to : option_and_then (λ m. m) (slice_get ys k) ≡ Some d → (k < n + 1) × RefersTo files rows k d
    to e = elim (pushed_at xs o (Some d) k (ap (λ l. slice_get l k) (sym is) ∙ inner_some (slice_get ys k) d e)) [
      | inl at ↦ let p = (old k d).0 (ap (option_and_then (λ m. m)) at) in (omega (arith, p.0), p.1)
      | inr (at, same) ↦
          let here : n ≡ k = sym len ∙ sym at in
          (omega arith, subst (λ j. RefersTo files rows j d) here ((gives d).0 same))
    ]

    from : (k < n + 1) × RefersTo files rows k d → option_and_then (λ m. m) (slice_get ys k) ≡ Some d
    from h = elim (cases_lt k n) [
      | inl l ↦ ap (option_and_then (λ m. m)) (ap (λ l. slice_get l k) is ∙ kept_at xs o (Some d) k (inner_some (slice_get xs k) d ((old k d).1 (l, h.1))))
      | inr up ↦
          let here : k ≡ n = omega (arith, h.0, up) in
          let given : o ≡ Some d = (gives d).1 (subst (λ j. RefersTo files rows j d) here h.1) in
          ap (option_and_then (λ m. m)) (ap (λ l. slice_get l k) is ∙ ap (slice_get (xs ++ o ∷ [])) (here ∙ sym len) ∙ last_at xs o) ∙ given
    ]

pub meant_all : (files : Briefs) (rows : List Row) (n : ℕ) (xs : List (Option ℕ)) → length rows ≤ n → Meant files rows n xs → (k d : ℕ) → (option_and_then (λ m. m) (slice_get xs k) ≡ Some d) ↔ RefersTo files rows k d
meant_all files rows n xs past h k d = (
  λ e. ((h k d).0 e).1,
  λ r. (h k d).1 ((let w = slice_get_within rows k r.1.statement r.1.at in omega (arith, w, past)), r),
)

-- what is meant has a number of 32 bits
pub meant_fits : (files : Briefs) (rows : List Row) (n : ℕ) (o : Option ℕ) → length rows ≤ 4294967293 → ((d : ℕ) → (o ≡ Some d) ↔ RefersTo files rows n d) → IfSome o (λ d. d < 4294967296)
meant_fits files rows n None few gives = tt
meant_fits files rows n (Some d) few gives = let w = meant_within files rows _ n d ((gives d).0 refl).1 in omega (arith, w, few)

from_both : (o : Option ℕ) (f : ℕ → Option DefRef) (ref : DefRef) → option_and_then f o ≡ Some ref → (d : ℕ) × (o ≡ Some d) × (f d ≡ Some ref)
from_both None f ref e = absurd (let bad : None ≡ Some ref = e in cc)
from_both (Some d) f ref e = (d, refl, e)

module _ (files : Files) (names : Names) (t : AreNames files names) where
  -- what is told of the statement of a number
  pub told : (word : List ℕ) (file offset number : ℕ) (o : Option DefRef) → number_at (rows_of files) word file offset ≡ Some number → o ≡ definition_in names number → (ref : DefRef) → (o ≡ Some ref) ↔ RefersAt files word file offset ref
  told word file offset number o stands is ref = (to, from)
    where
      at_definition : (d : ℕ) → RefersTo (map brief_of files) (rows_of files) number d → (r : Row) × (slice_get (rows_of files) d ≡ Some r) × (ref_in names.definitions d ≡ Some (ref_of r))
      at_definition d h =
          let p = meant_definition (map brief_of files) (rows_of files) number d h in
          (p.0, p.1, t.refs d p.0 p.1 p.2)

      to : o ≡ Some ref → RefersAt files word file offset ref
      to e =
          let p = from_both (meant_in names number) (ref_in names.definitions) ref (sym is ∙ e) in
          let refers = (t.meant number p.0).0 p.1 in
          let q = at_definition p.0 refers in
          record {
            number = number;
            stands = stands;
            meant = p.0;
            refers = refers;
            definition = q.0;
            at = q.1;
            is = same_Some ref (ref_of q.0) (sym p.2 ∙ q.2);
          }

      from : RefersAt files word file offset ref → o ≡ Some ref
      from h =
          let same : h.number ≡ number = same_Some h.number number (sym h.stands ∙ stands) in
          let refers : RefersTo (map brief_of files) (rows_of files) number h.meant = subst (λ k. RefersTo (map brief_of files) (rows_of files) k h.meant) same h.refers in
          let q = at_definition h.meant refers in
          let one : q.0 ≡ h.definition = same_Some q.0 h.definition (sym q.1 ∙ h.at) in
          is
          ∙ ap (option_and_then (ref_in names.definitions)) ((t.meant number h.meant).1 refers)
          ∙ q.2
          ∙ ap Some (ap ref_of one ∙ sym h.is)
