use Rattle.std.proofs.Common.{◌≡◌, ◌∙◌, ◌<◌, ℕ, Some, length, get_or, ap, arith}
use Rattle.std.proofs.lemmas.Option.{slice_get-get_or}
use Rattle.yv_nodes.specs.declared.node.NodeId.{NodeId}
use Rattle.yv_nodes.specs.Rows.{Row}
use Rattle.yv_nodes.specs.Tree.{Label}
use Rattle.yv_schema_tables.specs.InnerNames.{names_of, number_in}
use Rattle.yv_schema_tables.specs.InnerTables.{held_at}
use Rattle.yv_schema_tables.proofs.ChildDirectories.{keeps_end, keeps_more}
use Rattle.yv_schema_tables.proofs.table.Family.from_nodes.Goals as goal

pub loop-child-preserved : goal.loop-child-preserved
loop-child-preserved c =
    let rows = c.args.nodes.now.rows in
    let cs = c.args.numbers.now in
    let none : NodeId = record { 0 = 0 } in
    let child : NodeId = get_or cs c.loop-child.child-index none in
    let number : ℕ = get_or c.args.names.now child.0 0 in
    let at = slice_get-get_or cs c.loop-child.child-index none c.loop-child-test.true in
    let label = ap (λ (r : Row). r.label) c.get-node.ensures in
    let within : child.0 < length c.args.names.now = omega (arith, c.requires.numbers c.loop-child.child-index none c.loop-child-test.true, c.requires.names.each) in
    let known : number_in (names_of rows) c.get-node.result.now.label.defined.name ≡ Some number =
    ap (λ (l : Label). number_in (names_of rows) l.defined.name) label ∙ c.requires.names.gives child.0 number (slice_get-get_or c.args.names.now child.0 0 within) in
    keeps_more rows c.args.around cs (held_at c.loop-child.directory) (held_at c.keep_first.new.self) c.loop-child.duplicate c.refusal_if-here.result c.lesser-duplicate.result c.loop-child.child-index
    child c.get-node.result.now.label c.front_of-module_file.result number c.in_ok-repeated.repeated c.loop-child.invariant at label c.front_of-module_file.ensures known c.in_ok-repeated.ensures.repeats c.in_ok-repeated.ensures.keeps
    c.refusal_if-here.ensures c.lesser-duplicate.ensures

pub returns-clause-directory : goal.returns-clause-directory
returns-clause-directory c =
    let all : length c.args.numbers.now ≡ c.loop-child.child-index = omega arith in
    (keeps_end c.args.nodes.now.rows c.args.around c.args.numbers.now (held_at c.loop-child.directory) c.settle.new.self c.loop-child.duplicate c.loop-child.child-index all c.settle.ensures c.loop-child.invariant).0

pub returns-clause-duplicates : goal.returns-clause-duplicates
returns-clause-duplicates c =
    let all : length c.args.numbers.now ≡ c.loop-child.child-index = omega arith in
    (keeps_end c.args.nodes.now.rows c.args.around c.args.numbers.now (held_at c.loop-child.directory) c.settle.new.self c.loop-child.duplicate c.loop-child.child-index all c.settle.ensures c.loop-child.invariant).1
