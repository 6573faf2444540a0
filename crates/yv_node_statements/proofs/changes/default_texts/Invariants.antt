use Rattle.std.proofs.Common.{◌≡◌, ◌++◌, drop, map}
use Rattle.yv_text_statement.specs.TextInFile.{written_of}
use Rattle.yv_node_statements.specs.InnerChanges.{defaults_among}
use Rattle.yv_node_statements.proofs.changes.default_texts.Given as goal

-- with those of the statements behind, these are all
abbrev pub invariant-loop-child : goal.invariant-loop-child
invariant-loop-child l = map written_of l.texts.items ++ defaults_among l.file (drop l.child-index l.child-items) ≡ defaults_among l.file l.child-items
