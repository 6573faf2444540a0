use Rattle.std.proofs.Common.{List, IfOk, sym, ap, ◌∙◌, subst}
use Rattle.yv_text_statement.specs.Order.{IsLeast}
use Rattle.yv_nodes.specs.Tree.{Label}
use Rattle.yv_nodes.specs.declared.node.NodeId.{NodeId}
use Rattle.yv_schema_tables.specs.InnerTables.{IsDirectory, Namesakes, labels_at}
use Rattle.yv_schema_tables.proofs.Members.{numbers_within, told_labels}
use Rattle.yv_schema_tables.proofs.table.Family.of.Goals as goal

pub from_nodes-requires : goal.from_nodes-requires
from_nodes-requires c = record { names = c.requires.names; numbers = numbers_within c.args.nodes.now.rows c.args.numbers.now c.requires.trees }

pub returns-then-are_data-clause-directory : goal.returns-then-are_data-clause-directory
returns-then-are_data-clause-directory c =
    let rows = c.args.nodes.now.rows in
    subst (λ (ns : List NodeId). IfOk c.from_nodes.result (λ family. IsDirectory rows c.args.around ns family.directory)) (sym (c.are_data.ensures.inside c.if-are_data.true)) c.from_nodes.ensures.directory

pub returns-then-are_data-clause-duplicates : goal.returns-then-are_data-clause-duplicates
returns-then-are_data-clause-duplicates c =
    let rows = c.args.nodes.now.rows in
    let is = ap (labels_at rows) (sym (c.are_data.ensures.tells c.if-are_data.true)) ∙ told_labels rows c.args.numbers.now c.requires.trees in
    subst (λ (ls : List Label). IfOk c.from_nodes.result (λ family. IsLeast (Namesakes ls) family.duplicate)) is c.from_nodes.ensures.duplicates
