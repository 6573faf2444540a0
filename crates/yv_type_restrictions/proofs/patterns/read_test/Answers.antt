use Rattle.std.proofs.Common.{◌≡◌, rules, ℕ, List, true, codes, refl, sym, subst}
use Rattle.yv_text_statement.specs.Order.{IsLeast, refusal_at}
use Rattle.yv_text_statement.specs.Tree.{name_of}
use Rattle.yv_text_statement.specs.declared.refusal.Code.TheVariants as code
use Rattle.yv_text_statement.specs.declared.refusal.Refusal.{Refusal}
use Rattle.yv_text_statement.specs.declared.refusal.Stop.{Stop}
use Rattle.yv_text_statement.specs.declared.refusal.Stop.TheVariants as stop
use Rattle.yv_text_statement.proofs.Least.{least_refused}
use Rattle.yv_pattern.specs.Spells.{IsRefusedAs}
use Rattle.yv_type_restrictions.specs.Facets.{has_word, IsOutside}
use Rattle.yv_type_restrictions.specs.FacetRefusals.{BadPattern}
use Rattle.yv_type_restrictions.proofs.patterns.read_test.Goals as goal

is_outside : (text read : List ℕ) (why : Stop) (r : Refusal) → read ≡ text → why ≡ stop.Fault r → IsRefusedAs read why → IsOutside text
is_outside text read why r same is refused = subst IsOutside same (subst (IsRefusedAs read) is refused).1

pub returns-in-Err-Fault-clause-test : goal.returns-in-Err-Fault-clause-test
returns-in-Err-Fault-clause-test c =
    λ word. is_outside _ _ _ _ c.text_of.ensures c.in-Err-Fault.field-0-is c.in-Err-Fault.ensures.refuses

pub returns-in-Err-Fault-clause-fault : goal.returns-in-Err-Fault-clause-fault
returns-in-Err-Fault-clause-fault c =
    let text : List ℕ = name_of c.args.statement.now.head in
    let outside = is_outside text _ _ _ c.text_of.ensures c.in-Err-Fault.field-0-is c.in-Err-Fault.ensures.refuses in
    let word : has_word (codes "pattern") c.args.statement.now ≡ true = search rules in
    subst (IsLeast (BadPattern c.args.file c.args.statement.now)) (sym c.refusal_if.ensures)
    (least_refused ((has_word (codes "pattern") c.args.statement.now ≡ true) × IsOutside text) true (refusal_at code.BadPattern c.args.file c.args.statement.now.head) (λ _. (word, outside)) (λ _. refl))
