-- Which nodes are left is one.
use Rattle.std.proofs.Common.{◌≡◌, ◌↔◌, ◌&&◌, ℕ, Bool, true, false, if◌then◌else◌, IsTrue, List, [], ◌∷◌, refl, ◌∙◌, ap}
use Rattle.std.specs.List.{list_all}
use Rattle.std.proofs.lemmas.Bool.{false≢true}
use Rattle.yv_expand_definition.specs.Remains.{remains}
use Rattle.yv_expand_definition.specs.Nodes.{Forest, if_feature_statements, node, none}

-- two answers to one question
pub same_answer : (a b : Bool) (P : Type 0) → IsTrue a ↔ P → IsTrue b ↔ P → a ≡ b
same_answer true true P p q = refl
same_answer false false P p q = refl
same_answer true false P p q = absurd (false≢true (q.1 (p.0 refl)))
same_answer false true P p q = absurd (false≢true (p.1 (q.0 refl)))

module _ (on other : ℕ → Bool) (same : (k : ℕ) → on k ≡ other k) where
  all_same : (ks : List ℕ) → list_all on ks ≡ list_all other ks
  all_same [] = refl
  all_same (k ∷ ks) = ap (λ (b : Bool). b && list_all on ks) (same k) ∙ ap (λ (b : Bool). other k && b) (all_same ks)

  pub left_same : (f : Forest) → remains on f ≡ remains other f
  left_same none = refl
  left_same (node g below behind) =
      ap (λ (b : Bool). if b then node g (remains on below) (remains on behind) else remains on behind) (all_same (if_feature_statements g))
      ∙ (ap (λ x. if list_all other (if_feature_statements g) then node g x (remains on behind) else remains on behind) (left_same below)
      ∙ ap (λ x. if list_all other (if_feature_statements g) then node g (remains other below) x else x) (left_same behind))
