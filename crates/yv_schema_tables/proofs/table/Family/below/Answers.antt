use Rattle.std.proofs.Common.{◌≡◌, List, IfOk, true, false, sym, ap, ◌∙◌, subst}
use Rattle.yv_text_statement.specs.Order.{IsLeast}
use Rattle.yv_node_content.specs.Kinds.{is_case, is_choice}
use Rattle.yv_nodes.specs.declared.node.NodeId.{NodeId}
use Rattle.yv_nodes.specs.Tree.{Label}
use Rattle.yv_schema_tables.specs.DuplicateNodes.{names_that_differ}
use Rattle.yv_schema_tables.specs.InnerSits.{family_in, pick_trees}
use Rattle.yv_schema_tables.specs.InnerTables.{Namesakes, labels_at}
use Rattle.yv_schema_tables.proofs.Members.{family_choice, family_other, numbers_have, numbers_within}
use Rattle.yv_schema_tables.proofs.table.Family.below.Goals as goal

pub from_nodes-requires : goal.from_nodes-requires
from_nodes-requires c = record { names = c.requires.names; numbers = rw c.children.ensures (numbers_within c.args.nodes.now.rows c.args.node.now.children c.requires.trees) }

pub returns-then-is_choice-clause-duplicates : goal.returns-then-is_choice-clause-duplicates
returns-then-is_choice-clause-duplicates c =
    let rows = c.args.nodes.now.rows in
    let row = c.args.node.now in
    let choice : is_choice row.label.defined.kind ≡ true = ap is_choice (sym c.kind.ensures) ∙ sym c.is_choice.ensures ∙ c.if-is_choice.true in
    let is : labels_at rows c.children.result.now ≡ family_in rows row =
    ap (labels_at rows) c.children.ensures ∙ numbers_have rows row.children c.requires.trees ∙ sym (family_choice row.label.defined.kind (pick_trees rows row.children) choice) in
    rw (← is) c.in_ok-cases.ensures.duplicates

pub returns-clause-duplicates : goal.returns-clause-duplicates
returns-clause-duplicates c =
    let rows = c.args.nodes.now.rows in
    let row = c.args.node.now in
    let choice : is_choice row.label.defined.kind ≡ false = ap is_choice (sym c.kind.ensures) ∙ sym c.is_choice.ensures ∙ c.if-is_choice.false in
    let case : is_case row.label.defined.kind ≡ false = ap is_case (sym c.kind-2.ensures) ∙ sym c.is_case.ensures ∙ c.if-is_case.false in
    let is : names_that_differ (pick_trees rows c.children-2.result.now) ≡ family_in rows row =
    ap (λ (ns : List NodeId). names_that_differ (pick_trees rows ns)) c.children-2.ensures ∙ sym (family_other row.label.defined.kind (pick_trees rows row.children) choice case) in
    subst (λ (ls : List Label). IfOk c.of.result (λ family. IsLeast (Namesakes ls) family.duplicate)) is c.of.ensures.duplicates
