-- Only private clauses cite this: what the code's table holds.
use Rattle.std.specs.Prelude.{ℕ, List}
use Rattle.yv_text_statement.specs.declared.keyword.Keyword.{Keyword}
use Rattle.yv_text_statement.specs.declared.keyword.Name.{Name}

abbrev pub entry : Name → List ℕ × Keyword
entry n = (n.0.now, n.1)
