-- Rules of a set, and rules that are named.
use Rattle.std.proofs.Common.{◌≡◌, ◌∙◌, sym, ap₂, subst, refl, Bool, true, false, is_some, IsTrue, List, [], ◌∷◌, ℕ, cond, filter, Option, Some, None, IfSome, MatchOption}
use Rattle.yv_job.specs.Asks.{IsRulesFor}
use Rattle.yv_job.specs.Requests.{rules_of}
use Rattle.yv_lint.specs.RuleChoice.{asked_in}
use Rattle.yv_lint.specs.RuleNames.{are_names, is_named}
use Rattle.yv_lint.specs.Rules.{all_rules}
use Rattle.yv_lint.specs.declared.rule.Rule.{Rule}
use Rattle.yv_lint.specs.declared.rules.Rules.{Rules}

filter_same : (p q : Rule → Bool) (rs : List Rule) → ((r : Rule) → p r ≡ q r) → filter p rs ≡ filter q rs
filter_same p q [] e = refl
filter_same p q (r ∷ rs) e = ap₂ (λ (b : Bool) (xs : List Rule). cond b (r ∷ xs) xs) (e r) (filter_same p q rs e)

filter_all : (p : Rule → Bool) (rs : List Rule) → ((r : Rule) → p r ≡ true) → filter p rs ≡ rs
filter_all p [] e = refl
filter_all p (r ∷ rs) e = ap₂ (λ (b : Bool) (xs : List Rule). cond b (r ∷ xs) xs) (e r) (filter_all p rs e)

-- a set of all rules, where no names are given
pub every_rule : (value : Option (List ℕ)) (r : Rules) → value ≡ None → ((rule : Rule) → IsTrue (asked_in r rule)) → IsRulesFor value (rules_of r)
every_rule value r is e = subst (λ v. IsRulesFor v (rules_of r)) (sym is) (filter_all (asked_in r) all_rules e)

-- a set that was read of a list of names, if it was
read_rules : (t : List ℕ) (o : Option Rules) → is_some o ≡ are_names t → IfSome o (λ r. (rule : Rule) → asked_in r rule ≡ is_named t rule)
    → MatchOption o ((rs : List Rule) → IsRulesFor (Some t) rs → ⊥) (λ r. IsRulesFor (Some t) (rules_of r))
read_rules t None known asked = λ rs h. let e : false ≡ true = known ∙ h.0 in cc
read_rules t (Some r) known asked = (sym known, filter_same (asked_in r) (is_named t) all_rules asked)

pub named_rules : (value : Option (List ℕ)) (t : List ℕ) (o : Option Rules) → value ≡ Some t → is_some o ≡ are_names t → IfSome o (λ r. (rule : Rule) → asked_in r rule ≡ is_named t rule)
    → MatchOption o ((rs : List Rule) → IsRulesFor value rs → ⊥) (λ r. IsRulesFor value (rules_of r))
named_rules value t o is known asked =
    subst (λ v. MatchOption o ((rs : List Rule) → IsRulesFor v rs → ⊥) (λ r. IsRulesFor v (rules_of r))) (sym is) (read_rules t o known asked)
