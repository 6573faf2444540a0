-- One refine more, which is refused or isn't.
use Rattle.std.proofs.Common.{inl, inr, ◌≡◌, ℕ, true, List, [], ◌∷◌, ◌++◌, refl, sym, ◌∙◌, ap, subst, Some, None}
use Rattle.std.specs.List.{Contains}
use Rattle.std.proofs.lemmas.Bool.{false≢true}
use Rattle.std.proofs.lemmas.List.Elements.{Contains-append_left, Contains-push, Contains-push_cases}
use Rattle.std.proofs.lemmas.Option.{same_Some}
use Rattle.yv_text_statement.specs.declared.refusal.Code.{Code}
use Rattle.yv_text_statement.specs.declared.refusal.Code.TheVariants as code
use Rattle.yv_link_scopes.specs.Files.{Files}
use Rattle.yv_expand_refines.specs.Targets.{RefineMeaning}
use Rattle.yv_expand_uses.specs.declared.spot.Spot.{Spot}
use Rattle.yv_expand_changes.specs.Changes.{is_fit_at_item}
use Rattle.yv_expand_changes.specs.Refusals.{IsUnfit}
use Rattle.yv_expand_definition.specs.Gives.{Wrong}
use Rattle.yv_expand_laws.specs.RefusedRefines.{IsRefused, Refuse}
use Rattle.yv_expand_laws.proofs.FoundItems.{not_none}

module _ (files : Files) (spots : List Spot) where
  pub none_refused : (old : List Wrong) → Refuse files spots [] old old
  none_refused old e = ((λ h. inl h), (λ h. elim h [ inl a ↦ a | inr b ↦ absurd b ]))

  -- it is fit for the item that it means
  pub fits : (x : RefineMeaning) (i : ℕ) (xs : List RefineMeaning) (old last : List Wrong) → x.target ≡ Some i → is_fit_at_item files spots x.refine i ≡ true → Refuse files spots xs old last
      → Refuse files spots (x ∷ xs) old last
  fits x i xs old last target fit more e = (
    (λ h. elim ((more e).0 h) [ inl a ↦ inl a | inr b ↦ inr (inr b) ]),
    (λ h. (more e).1 (elim h [ inl a ↦ inl a | inr (inl r) ↦ absurd (never r) | inr (inr b) ↦ inr b ])),
  )
    where
      never : IsRefused files spots x e → ⊥
      never (k, inl (c, none)) = not_none (sym none ∙ target)
      never (k, inr (c, u)) =
          let same : u.item ≡ i = same_Some u.item i (sym u.target ∙ target) in false≢true (sym u.unfit ∙ (ap (is_fit_at_item files spots x.refine) same ∙ fit))

  abbrev so : Code → ℕ → Wrong
  so c k = record { code = c; statement = k }

  wrong_is : (e : Wrong) (c : Code) (k : ℕ) → e.code ≡ c → e.statement ≡ k → so c k ≡ e
  wrong_is e c k p q = sym (ap (λ (z : Code). so z e.statement) p ∙ ap (λ (z : ℕ). so c z) q)

  one_refused : (x : RefineMeaning) (c : Code) (xs : List RefineMeaning) (old last : List Wrong) → Refuse files spots xs (old ++ so c x.refine ∷ []) last
      → IsRefused files spots x (so c x.refine) → ((e : Wrong) → IsRefused files spots x e → so c x.refine ≡ e) → Refuse files spots (x ∷ xs) old last
  one_refused x c xs old last more is only e = (
    (λ h. elim ((more e).0 h) [
      | inl a ↦ elim (Contains-push_cases old (so c x.refine) e a) [ inl b ↦ inl b | inr same ↦ inr (inl (subst (IsRefused files spots x) same is)) ]
      | inr b ↦ inr (inr b)
    ]),
    (λ h. (more e).1 (elim h [
      | inl a ↦ inl (Contains-append_left old (so c x.refine ∷ []) e a)
      | inr (inl r) ↦ inl (subst (Contains (old ++ so c x.refine ∷ [])) (only e r) (Contains-push old (so c x.refine)))
      | inr (inr b) ↦ inr b
    ])),
  )

  -- it isn't fit
  pub unfit : (x : RefineMeaning) (xs : List RefineMeaning) (old last : List Wrong) → IsUnfit files spots x → Refuse files spots xs (old ++ so code.BadRefine x.refine ∷ []) last
      → Refuse files spots (x ∷ xs) old last
  unfit x xs old last u more = one_refused x code.BadRefine xs old last more (refl, inr (refl, u)) only
    where
      only : (e : Wrong) → IsRefused files spots x e → so code.BadRefine x.refine ≡ e
      only e (k, inl (c, none)) = absurd (not_none (sym none ∙ u.target))
      only e (k, inr (c, v)) = wrong_is e code.BadRefine x.refine c k

  -- it means no item
  pub means_none : (x : RefineMeaning) (xs : List RefineMeaning) (old last : List Wrong) → x.target ≡ None → Refuse files spots xs (old ++ so code.RefineTarget x.refine ∷ []) last
      → Refuse files spots (x ∷ xs) old last
  means_none x xs old last none more = one_refused x code.RefineTarget xs old last more (refl, inl (refl, none)) only
    where
      only : (e : Wrong) → IsRefused files spots x e → so code.RefineTarget x.refine ≡ e
      only e (k, inl (c, n)) = wrong_is e code.RefineTarget x.refine c k
      only e (k, inr (c, u)) = absurd (not_none (sym none ∙ u.target))
