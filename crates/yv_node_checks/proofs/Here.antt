-- Refusals that stand at a node by a test.
use Rattle.std.proofs.Common.{◌≡◌, Bool, true, cond, sym, ap, ◌∙◌, subst, Option, Some, None}
use Rattle.yv_text_statement.specs.declared.refusal.Code.{Code}
use Rattle.yv_text_statement.specs.declared.refusal.Refusal.{Refusal}
use Rattle.yv_text_statement.specs.Order.{IsLeast, Stands}
use Rattle.yv_text_statement.proofs.Least.{least_refused}
use Rattle.yv_nodes.specs.Tree.{Label}
use Rattle.yv_nodes.specs.Refusals.{refusal_of}

-- a node is refused where the test says so
pub least_here : (code : Code) (l m : Label) (b bad : Bool) (o : Option Refusal) → o ≡ cond b (Some (refusal_of code l)) None → l ≡ m → b ≡ bad → IsLeast (Stands (bad ≡ true) (refusal_of code m)) o
least_here code l m b bad o e same test =
    let is : o ≡ cond bad (Some (refusal_of code m)) None = e ∙ ap (λ (c : Bool). cond c (Some (refusal_of code l)) None) test ∙ ap (λ (n : Label). cond bad (Some (refusal_of code n)) None) same in
    subst (λ (x : Option Refusal). IsLeast (Stands (bad ≡ true) (refusal_of code m)) x) (sym is) (least_refused (bad ≡ true) bad (refusal_of code m) (λ h. h) (λ h. h))
