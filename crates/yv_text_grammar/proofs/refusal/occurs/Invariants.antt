use Rattle.yv_text_grammar.specs.Table.{occurs_in}
use Rattle.std.proofs.Common.{◌≡◌, map, drop}
use Rattle.yv_text_grammar.specs.InnerEntries.{row}
use Rattle.yv_text_grammar.proofs.refusal.occurs.Given as goal

abbrev pub invariant-loop-row : goal.invariant-loop-row
invariant-loop-row l = occurs_in (map row (drop l.row-index l.rows)) l.keyword ≡ occurs_in (map row l.rows) l.keyword
