-- A refusal at the statement that defines a node.
use Rattle.yv_text_statement.specs.declared.refusal.Code.{Code}
use Rattle.yv_text_statement.specs.declared.refusal.Refusal.{Refusal}
use Rattle.yv_nodes.specs.Tree.{Label}

-- a refusal at the statement of a node
abbrev pub refusal_of : Code → Label → Refusal
refusal_of c l =
    record { code = c; file = l.defined.file; offset = l.defined.offset; line = l.defined.line }
