-- Only private clauses cite this: what a search for a pattern answers.
use Rattle.std.specs.Prelude.{List}
use Rattle.std.specs.declared.option.Option.{Option}
use Rattle.std.specs.declared.option.Option.TheVariants.{None, Some}
use Rattle.yv_link_scopes.specs.Rows.{Row}
use Rattle.yv_note_patterns.specs.PatternFailure.{AreNoPatterns, IsPatternAmong}

-- a statement is a pattern among these, and nothing is the answer only where there is none
abbrev pub FindsPattern : List Row → Option Row → Type 0
FindsPattern rows (Some r) = IsPatternAmong rows r
FindsPattern rows None = AreNoPatterns rows
