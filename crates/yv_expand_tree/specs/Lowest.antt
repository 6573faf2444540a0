-- Nodes below which none is (RFC 7950, sections 7.6, 7.7, 7.10 and 7.11).
use Rattle.std.specs.Prelude.{Bool, true, false}
use Rattle.yv_expand_statements.specs.declared.statement_kind.StatementKind.{StatementKind}
use Rattle.yv_expand_statements.specs.declared.statement_kind.StatementKind.TheVariants as kind

-- a leaf, leaf-list, anydata or anyxml
abbrev pub is_lowest : StatementKind → Bool
is_lowest kind.Leaf = true
is_lowest kind.LeafList = true
is_lowest kind.Anydata = true
is_lowest kind.Anyxml = true
is_lowest _ = false
