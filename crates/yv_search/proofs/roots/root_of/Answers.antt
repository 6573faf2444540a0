use Rattle.std.proofs.Common.{◌≡◌, ◌∙◌, List, ℕ, Bool, true, false, refl, sym, subst, inl, inr, Option, Some, None, if◌then◌else◌, ap}
use Rattle.std.proofs.lemmas.Bool.{false≢true}
use Rattle.yv_text_statement.specs.Tree.{Tree}
use Rattle.yv_source.specs.Legal.{IsLegalFile}
use Rattle.yv_source.specs.Answer.{IsSpelled}
use Rattle.yv_source.proofs.Once.{one_spelled}
use Rattle.yv_search.specs.Wants.{is_root}
use Rattle.yv_search.specs.Roots.{HasRoot}
use Rattle.yv_search.proofs.roots.root_of.Goals as goal

spelled_root : (text : List ℕ) (t : Tree) → IsLegalFile text → IsSpelled text t → HasRoot text (if is_root t then Some t else None)
spelled_root text t legal spelled = by (is_root t) refl
  where
    by : (b : Bool) → is_root t ≡ b → HasRoot text (if b then Some t else None)
    by true e = record { legal = legal; spelled = spelled; is_root = e }
    by false e = λ u h. false≢true (sym e ∙ ap is_root (one_spelled text t u spelled h.spelled) ∙ h.is_root)

pub returns-in-Ok : goal.returns-in-Ok
returns-in-Ok c =
    subst (λ (o : Option Tree). HasRoot c.args.source.now.text o) (sym c.if_root.ensures)
    (spelled_root c.args.source.now.text c.in-Ok.statement c.in-Ok.ensures.legal c.in-Ok.ensures.spells)

pub returns-in_default : goal.returns-in_default
returns-in_default c = λ t h.
    elim (c.parse.ensures.only_spelled t h.spelled) [
      | inl e ↦ absurd (cc)
      | inr e ↦ c.in_default.not-NoMemory (cc)
    ]
