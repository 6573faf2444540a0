use Rattle.std.proofs.Common.{◌≡◌, drop, map}
use Rattle.yv_text_statement.specs.InnerKeywords.{entry}
use Rattle.yv_text_statement.specs.Keywords.{keyword_in}
use Rattle.yv_text_statement.proofs.keyword.find.Given as goal

abbrev pub invariant-loop-name : goal.invariant-loop-name
invariant-loop-name l = keyword_in (map entry (drop l.name-index l.names)) l.text ≡ keyword_in (map entry l.names) l.text
