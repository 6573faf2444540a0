use Rattle.std.proofs.Common.{◌≡◌, not, ◌&&◌, map, drop}
use Rattle.std.specs.List.{list_any}
use Rattle.yv_text_grammar.specs.InnerEntries.{row}
use Rattle.yv_text_grammar.specs.InnerKeywordSet.{is_marked}
use Rattle.yv_text_grammar.specs.Table.{is_one}
use Rattle.yv_text_grammar.proofs.refusal.lacks_child.Given as goal

abbrev pub invariant-loop-row : goal.invariant-loop-row
invariant-loop-row l = list_any (λ r. is_one r.1 && not (is_marked l.seen r.0)) (map row (drop l.row-index l.rows)) ≡ list_any (λ r. is_one r.1 && not (is_marked l.seen r.0)) (map row l.rows)
