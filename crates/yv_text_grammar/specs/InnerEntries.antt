-- Only private clauses cite this: what the code's tables hold.
use Rattle.yv_text_statement.specs.declared.keyword.Keyword.{Keyword}
use Rattle.yv_text_grammar.specs.declared.table.Occurs.{Occurs}
use Rattle.yv_text_grammar.specs.declared.table.Row.{Row}

abbrev pub row : Row → Keyword × Occurs
row r = (r.child, r.occurs)
