-- The base of a type.
use Rattle.std.proofs.Common.{◌≡◌, ℕ, ◌↔◌, ◌⊎◌, inl, inr, not, Bool, true, false, List, refl, sym, ◌∙◌, ap, subst, Option, Some, None}
use Rattle.std.proofs.lemmas.Bool.{false≢true}
use Rattle.std.proofs.lemmas.Option.{same_Some}
use Rattle.yv_link_scopes.specs.Files.{Briefs}
use Rattle.yv_link_scopes.specs.Rows.{Row, name_in}
use Rattle.yv_link_definitions.specs.BuiltIn.{is_built_in}
use Rattle.yv_type_chains.specs.Types.{Follows, HasBase, IsTypeAt, built_in, through_typedef}
use Rattle.yv_type_chains.specs.InnerBase.{NamesBuiltIn}
use Rattle.yv_base_tables.specs.Slots.{at}
use Rattle.yv_type_chains.specs.InnerTables.{AreFollowed}
use Rattle.yv_type_chains.proofs.FollowedTypes.{names_type}

not_both : (b : Bool) → b ≡ true → not b ≡ true → ⊥
not_both true h g = false≢true g
not_both false h g = false≢true h

pub no_number : (d : ℕ) → None ≡ Some d → ⊥
no_number d e = cc

module _ (files : Briefs) (rows : List Row) where
  pub base_by : {k b : ℕ} → HasBase files rows k b → (NamesBuiltIn rows k × (k ≡ b)) ⊎ ((j : ℕ) × Follows files rows k j × HasBase files rows j b)
  base_by (built_in {r = r} here is named) = inl (record { statement = r; at = here; is = is; named = named }, refl)
  base_by (through_typedef {j = j} f h) = inr (j, f, h)

  pub base_type : {k b : ℕ} → HasBase files rows k b → IsTypeAt rows k
  base_type {k} (built_in {r = r} here is named) = (r, here, is)
  base_type {k} (through_typedef {j = j} f h) = (f.refers.statement, f.refers.at, (names_type files rows k f.definition f.refers.statement f.refers.at f.refers).0)

  -- what names a built-in type follows none
  pub apart : (k j : ℕ) → NamesBuiltIn rows k → Follows files rows k j → ⊥
  apart k j n f = not_both (is_built_in (name_in n.statement)) n.named (names_type files rows k f.definition n.statement n.at f.refers).1

  pub base_itself : (k : ℕ) → NamesBuiltIn rows k → (b : ℕ) → (Some k ≡ Some b) ↔ HasBase files rows k b
  base_itself k n b = (
    λ e. subst (HasBase files rows k) (same_Some k b e) (built_in n.at n.is n.named),
    λ h. elim (base_by h) [ inl p ↦ ap Some p.1 | inr q ↦ absurd (apart k q.0 n q.1) ],
  )

  module _ (follows : List (Option ℕ)) (told : AreFollowed files rows follows) where
    pub base_none : (k : ℕ) → (NamesBuiltIn rows k → ⊥) → at follows k ≡ None → (b : ℕ) → (None ≡ Some b) ↔ HasBase files rows k b
    base_none k out none b = (
      λ e. absurd (no_number b e),
      λ h. elim (base_by h) [ inl p ↦ absurd (out p.0) | inr q ↦ absurd (no_number q.0 (sym none ∙ (told k q.0).1 q.1)) ],
    )

    pub base_along : (k j : ℕ) (o : Option ℕ) (bases : List (Option ℕ)) → (NamesBuiltIn rows k → ⊥) → at follows k ≡ Some j → o ≡ at bases j → ((i : ℕ) → Follows files rows k i → (b : ℕ) → (at bases i ≡ Some b) ↔ HasBase files rows i b) → (b : ℕ) → (o ≡ Some b) ↔ HasBase files rows k b
    base_along k j o bases out is e known b = (
      λ h. through_typedef ((told k j).0 is) ((known j ((told k j).0 is) b).0 (sym e ∙ h)),
      λ h. elim (base_by h) [
        | inl p ↦ absurd (out p.0)
        | inr q ↦
            let same : q.0 ≡ j = same_Some q.0 j (sym ((told k q.0).1 q.1) ∙ is) in
            e ∙ ap (at bases) (sym same) ∙ (known q.0 q.1 b).1 q.2
      ],
    )
