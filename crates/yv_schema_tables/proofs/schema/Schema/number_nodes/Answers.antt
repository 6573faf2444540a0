use Rattle.std.proofs.Common.{◌≡◌, ◌≤◌, refl, length, Option, Some, None, subst, arith}
use Rattle.yv_text_statement.specs.declared.refusal.Refusal.{Refusal}
use Rattle.yv_text_statement.specs.Order.{IsLeast}
use Rattle.yv_node_keys.specs.LeafTargets.{AreLeafTargets}
use Rattle.yv_nodes.specs.Rows.{WithinLimit}
use Rattle.yv_schema_tables.specs.DuplicateNodes.{HasDuplicate}
use Rattle.yv_schema_tables.specs.Bad.{BadRows}
use Rattle.yv_schema_tables.proofs.RefusalAbsence.{both_none}
use Rattle.yv_schema_tables.proofs.SchemaFromNodes.{built_bad, built_duplicate, built_of, built_rows, built_top, kept_made, whole_made}
use Rattle.yv_schema_tables.proofs.schema.Schema.number_nodes.Goals as goal

pub of-requires : goal.of-requires
of-requires c =
    let nodes = c.args.nodes in
    let are = c.requires.numbers in
    let bounded : length nodes.rows ≤ nodes.limit = subst (λ (v : WithinLimit). length v.rows ≤ v.limit) c.nodes.view_is c.nodes.invariant.0 in
    let built = built_of nodes.limit c.args.modules.items nodes.rows c.args.top.items c.args.links are.trees c.requires.modules are (omega (arith, bounded)) bounded are.rows are.top_is in
    record { names = rw c.deref-2.ensures.value c.in_ok-named.ensures.numbers; trees = rw c.deref-3.ensures.value (built_top nodes.limit c.args.modules.items are.trees nodes.rows c.args.top.items built) }

pub node_tables-requires : goal.node_tables-requires
node_tables-requires c =
    let nodes = c.args.nodes in
    let are = c.requires.numbers in
    let bounded : length nodes.rows ≤ nodes.limit = subst (λ (v : WithinLimit). length v.rows ≤ v.limit) c.nodes.view_is c.nodes.invariant.0 in
    let built = built_of nodes.limit c.args.modules.items nodes.rows c.args.top.items c.args.links are.trees c.requires.modules are (omega (arith, bounded)) bounded are.rows are.top_is in
    record { names = rw c.deref-4.ensures.value c.in_ok-named.ensures.numbers; trees = built_rows nodes.limit c.args.modules.items are.trees nodes.rows c.args.top.items built }

-- the directories, and the leafs that lists name, where nothing is refused
pub invariant_of-result : goal.invariant_of-result
invariant_of-result c =
    let nodes = c.args.nodes in
    let modules = c.args.modules.items in
    let top = c.args.top.items in
    let are = c.requires.numbers in
    let bounded : length nodes.rows ≤ nodes.limit = subst (λ (v : WithinLimit). length v.rows ≤ v.limit) c.nodes.view_is c.nodes.invariant.0 in
    let built = built_of nodes.limit modules nodes.rows top c.args.links are.trees c.requires.modules are (omega (arith, bounded)) bounded are.rows are.top_is in
    let none = both_none c.lesser-duplicate.result c.in_ok-found.found.fault None c.in-None.ensures refl in
    let first = rw c.deref-3.ensures.value at c.in_ok-at_top.ensures.duplicates in
    let directory = rw c.deref-3.ensures.value at c.in_ok-at_top.ensures.directory in
    let module_files = rw c.deref.ensures.value at c.in_ok-module_files.ensures in
    let clear : IsLeast (HasDuplicate are.trees) None = subst (λ (o : Option Refusal). IsLeast (HasDuplicate are.trees) o) none.0
    (built_duplicate nodes.limit modules are.trees nodes.rows top built c.in_ok-at_top.at_top.duplicate c.in_ok-below.below.duplicate c.lesser-duplicate.result c.lesser-duplicate.ensures first c.in_ok-below.ensures.duplicates) in
    let leafs : AreLeafTargets nodes.rows c.in_ok-found.found.targets = c.in_ok-found.ensures.targets none.1 in
    record {
      kept = kept_made nodes.limit modules are.trees nodes.rows top built clear (c.targets_are_leafs.ensures nodes.rows c.in_ok-found.found.targets leafs) c.args.notes.items c.args.links are.linked c.requires.notes
          c.in_ok-module_files.module_files c.in_ok-named.named.names c.in_ok-at_top.at_top.directory c.in_ok-below.below.directories.items module_files c.in_ok-named.ensures.names directory c.in_ok-below.ensures.directories;
      named_leafs = leafs;
    }

pub returns-in-Some-clause-refusal : goal.returns-in-Some-clause-refusal
returns-in-Some-clause-refusal c = λ ts rows top_is.
    let nodes = c.args.nodes in
    let modules = c.args.modules.items in
    let top = c.args.top.items in
    let bounded : length nodes.rows ≤ nodes.limit = subst (λ (v : WithinLimit). length v.rows ≤ v.limit) c.nodes.view_is c.nodes.invariant.0 in
    let built = built_of nodes.limit modules nodes.rows top c.args.links ts c.requires.modules c.requires.numbers (omega (arith, bounded)) bounded rows top_is in
    let first = rw c.deref-3.ensures.value at c.in_ok-at_top.ensures.duplicates in
    let found : IsLeast (BadRows ts) (Some c.in-Some.refusal) =
    built_bad nodes.limit modules ts nodes.rows top built c.in_ok-at_top.at_top.duplicate c.in_ok-below.below.duplicate c.lesser-duplicate.result c.in_ok-found.found.fault (Some c.in-Some.refusal) c.lesser-duplicate.ensures c.in-Some.ensures
    first c.in_ok-below.ensures.duplicates (c.in_ok-found.ensures.fault ts rows) in
    λ r e. let same : c.in-Some.refusal ≡ r = cc in subst (λ (x : Refusal). IsLeast (BadRows ts) (Some x)) same found

pub returns-in-None-clause-schema : goal.returns-in-None-clause-schema
returns-in-None-clause-schema c = λ ts rows top_is.
    let nodes = c.args.nodes in
    let modules = c.args.modules.items in
    let top = c.args.top.items in
    let bounded : length nodes.rows ≤ nodes.limit = subst (λ (v : WithinLimit). length v.rows ≤ v.limit) c.nodes.view_is c.nodes.invariant.0 in
    let built = built_of nodes.limit modules nodes.rows top c.args.links ts c.requires.modules c.requires.numbers (omega (arith, bounded)) bounded rows top_is in
    whole_made nodes.limit modules ts nodes.rows top built c.args.notes.items c.args.links

pub returns-in-None-clause-clear : goal.returns-in-None-clause-clear
returns-in-None-clause-clear c = λ ts rows top_is.
    let nodes = c.args.nodes in
    let modules = c.args.modules.items in
    let top = c.args.top.items in
    let bounded : length nodes.rows ≤ nodes.limit = subst (λ (v : WithinLimit). length v.rows ≤ v.limit) c.nodes.view_is c.nodes.invariant.0 in
    let built = built_of nodes.limit modules nodes.rows top c.args.links ts c.requires.modules c.requires.numbers (omega (arith, bounded)) bounded rows top_is in
    let first = rw c.deref-3.ensures.value at c.in_ok-at_top.ensures.duplicates in
    built_bad nodes.limit modules ts nodes.rows top built c.in_ok-at_top.at_top.duplicate c.in_ok-below.below.duplicate c.lesser-duplicate.result c.in_ok-found.found.fault None c.lesser-duplicate.ensures c.in-None.ensures
    first c.in_ok-below.ensures.duplicates (c.in_ok-found.ensures.fault ts rows)
