use Rattle.std.proofs.Common.{◌≡◌, ℕ, List, subst}
use Rattle.yv_text_statement.specs.declared.refusal.Refusal.{Refusal}
use Rattle.yv_text_statement.specs.declared.refusal.Stop.{Stop}
use Rattle.yv_text_statement.specs.declared.refusal.Stop.TheVariants as stop
use Rattle.yv_pattern.specs.Spells.{IsRefusedAs}
use Rattle.yv_note_patterns.specs.PatternFailure.{IsOfDialect}
use Rattle.yv_note_patterns.proofs.patterns.is_of_dialect.Goals as goal

-- a text that is refused is no pattern
outside : (text : List ℕ) (e : Stop) (refusal : Refusal) → e ≡ stop.Fault refusal → IsRefusedAs text e → IsOfDialect text → ⊥
outside text e refusal is refused pattern = (subst (IsRefusedAs text) is refused).1 pattern.0 pattern.1

pub returns-in-Err-Fault-clause-not : goal.returns-in-Err-Fault-clause-not
returns-in-Err-Fault-clause-not c = λ not_is. outside _ _ _ c.in-Err-Fault.field-0-is c.in-Err-Fault.ensures.refuses
