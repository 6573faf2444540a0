-- Only private clauses cite this: why the reading of patterns has no answer.
use Rattle.std.specs.Prelude.{⊤}
use Rattle.yv_text_statement.specs.declared.refusal.Stop.{Stop}
use Rattle.yv_text_statement.specs.declared.refusal.Stop.TheVariants.{Fault, PatternBuild, NoMemory}

-- no file is refused, and a pattern isn't built only where P holds
abbrev pub StopsWhere : Type 0 → Stop → Type 0
StopsWhere P (Fault r) = ⊥
StopsWhere P PatternBuild = P
StopsWhere P NoMemory = ⊤
