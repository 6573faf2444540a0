use Rattle.std.proofs.Common.{List, IfOk, sym, ap, ◌∙◌, subst}
use Rattle.yv_text_statement.specs.Order.{IsLeast}
use Rattle.yv_nodes.specs.Tree.{Label}
use Rattle.yv_nodes.specs.declared.node.NodeId.{NodeId}
use Rattle.yv_schema_tables.specs.InnerTables.{Namesakes, labels_at}
use Rattle.yv_schema_tables.proofs.ChildDirectories.{same_nodes}
use Rattle.yv_schema_tables.proofs.Members.{inside_within, told_labels, told_within}
use Rattle.yv_schema_tables.proofs.table.Family.of_opened_nodes.Goals as goal

pub from_nodes-requires : goal.from_nodes-requires
from_nodes-requires c = record {
  names = c.requires.names;
  numbers = rw (c.deref.ensures.value, c.in_ok-opened.ensures.inside) (inside_within c.args.nodes.now.rows c.args.numbers.now c.requires.trees);
}

pub from_nodes-requires-2 : goal.from_nodes-requires-2
from_nodes-requires-2 c = record {
  names = c.requires.names;
  numbers = rw (c.deref-2.ensures.value, c.in_ok-opened.ensures.tells) (told_within c.args.nodes.now.rows c.args.numbers.now c.requires.trees);
}

pub from_nodes-requires-3 : goal.from_nodes-requires-3
from_nodes-requires-3 c = record {
  names = c.requires.names;
  numbers = rw (c.deref-3.ensures.value, c.in_ok-opened.ensures.inside) (inside_within c.args.nodes.now.rows c.args.numbers.now c.requires.trees);
}

pub returns-then-eq-clause-duplicates : goal.returns-then-eq-clause-duplicates
returns-then-eq-clause-duplicates c =
    let rows = c.args.nodes.now.rows in
    let same = same_nodes c.in_ok-opened.opened.told.items c.in_ok-opened.opened.inside.items (sym c.eq.ensures ∙ c.if-eq.true) in
    let is = ap (λ (ns : List NodeId). labels_at rows ns) (c.deref.ensures.value ∙ sym same ∙ c.in_ok-opened.ensures.tells) ∙ told_labels rows c.args.numbers.now c.requires.trees in
    subst (λ (ls : List Label). IfOk c.from_nodes.result (λ family. IsLeast (Namesakes ls) family.duplicate)) is c.from_nodes.ensures.duplicates

pub returns-clause-duplicates : goal.returns-clause-duplicates
returns-clause-duplicates c =
    let is = ap (λ (ns : List NodeId). labels_at c.args.nodes.now.rows ns) (c.deref-2.ensures.value ∙ c.in_ok-opened.ensures.tells) ∙ told_labels c.args.nodes.now.rows c.args.numbers.now c.requires.trees in
    rw (← is) c.in_ok-duplicate.ensures.duplicates
