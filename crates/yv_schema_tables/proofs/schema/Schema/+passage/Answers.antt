use Rattle.std.proofs.Common.{◌≡◌, ◌<◌, ◌≤◌, ◌+◌, ◌-◌, ◌∙◌, drop, length, slice_index_or, ap, arith}
use Rattle.std.proofs.lemmas.List.{drop_all}
use Rattle.std.proofs.lemmas.List.Elements.{All-get_or}
use Rattle.yv_nodes.specs.declared.node.NodeId.{NodeId}
use Rattle.yv_nodes.specs.Tree.{Forest, count, no_trees}
use Rattle.yv_nodes.specs.Rows.{Row, below, forest, rank, row_at}
use Rattle.yv_schema_tables.specs.Sound.{IsChild}
use Rattle.yv_schema_tables.specs.InnerPassage.{beside, one_of, passage_of}
use Rattle.yv_schema_tables.specs.declared.measures.Passage.{Passage}
use Rattle.yv_schema_tables.proofs.SchemaMeasures.{IsSplit, child_rank, is_split, few_measured, measured_all, measured_first, measured_more}
use Rattle.yv_schema_tables.proofs.schema.Schema.+passage.Goals as goal

pub loop-child-init : goal.loop-child-init
loop-child-init t c =
    let s = c.args.self.now in
    measured_first (forest s c.children-child-items.result.now) (below s c.args.parent) (ap (forest s) c.children-child-items.ensures.value) c.requires.small

pub passage-inner-requires : goal.passage-inner-requires
passage-inner-requires t c =
    let s = c.args.self.now in
    let cs = c.children-child-items.result.now in
    let i = c.loop-child.child-index in
    let d : NodeId = record { 0 = 0 } in
    let id = slice_index_or cs i d in
    let child : IsChild s c.args.parent id = All-get_or (IsChild s c.args.parent) cs i d c.loop-child-test.true c.children-child-items.ensures.each in
    let after : rank id ≡ id.0 + 1 = child_rank s c.args.parent id c.children-child-items.ensures.sound child in
    let split : IsSplit (forest s (drop i cs)) (one_of (row_at s id).label (passage_of (below s id))) (below s id) (forest s (drop (i + 1) cs)) =
    is_split (forest s (drop i cs)) (row_at s id).label (below s id) (forest s (drop (i + 1) cs)) (c.children-child-items.ensures.trees i d c.loop-child-test.true) in
    let smaller : length s.nodes - rank id < t = omega (arith, after, child.behind, child.within, c.decreases) in
    let within : rank id ≤ length s.nodes = omega (arith, after, child.within) in
    let small : count (below s id) < 4294967296 = omega (arith, split.counted, c.loop-child.invariant.small) in
    (smaller, (within, small))

pub one_of-one-requires : goal.one_of-one-requires
one_of-one-requires t c =
    let s = c.args.self.now in
    let cs = c.children-child-items.result.now in
    let i = c.loop-child.child-index in
    let d : NodeId = record { 0 = 0 } in
    let id = slice_index_or cs i d in
    let kids : Forest = below s id in
    let split : IsSplit (forest s (drop i cs)) (one_of (row_at s id).label (passage_of kids)) kids (forest s (drop (i + 1) cs)) =
    is_split (forest s (drop i cs)) (row_at s id).label kids (forest s (drop (i + 1) cs)) (c.children-child-items.ensures.trees i d c.loop-child-test.true) in
    omega (arith, c.passage-inner.ensures.few, split.counted, c.loop-child.invariant.small)

pub beside-all-requires : goal.beside-all-requires
beside-all-requires t c =
    let s = c.args.self.now in
    let cs = c.children-child-items.result.now in
    let i = c.loop-child.child-index in
    let d : NodeId = record { 0 = 0 } in
    let id = slice_index_or cs i d in
    let kids : Forest = below s id in
    let split : IsSplit (forest s (drop i cs)) (one_of (row_at s id).label (passage_of kids)) kids (forest s (drop (i + 1) cs)) =
    is_split (forest s (drop i cs)) (row_at s id).label kids (forest s (drop (i + 1) cs)) (c.children-child-items.ensures.trees i d c.loop-child-test.true) in
    omega (arith, c.one_of-one.ensures.few, c.passage-inner.ensures.few, split.counted, c.loop-child.invariant.few, c.requires.small)

pub loop-child-preserved : goal.loop-child-preserved
loop-child-preserved t c =
    let s = c.args.self.now in
    let cs = c.children-child-items.result.now in
    let i = c.loop-child.child-index in
    let d : NodeId = record { 0 = 0 } in
    let id = slice_index_or cs i d in
    let kids : Forest = below s id in
    let split : IsSplit (forest s (drop i cs)) (one_of (row_at s id).label (passage_of kids)) kids (forest s (drop (i + 1) cs)) =
    is_split (forest s (drop i cs)) (row_at s id).label kids (forest s (drop (i + 1) cs)) (c.children-child-items.ensures.trees i d c.loop-child-test.true) in
    let one : c.one_of-one.result ≡ one_of (row_at s id).label (passage_of kids) =
    c.one_of-one.ensures.value ∙ ap (λ (r : Row). one_of r.label c.passage-inner.result) c.node.ensures.value ∙ ap (one_of (row_at s id).label) c.passage-inner.ensures.value in
    measured_more c.loop-child.all (one_of (row_at s id).label (passage_of kids)) c.beside-all.result (forest s (drop i cs)) (below s c.args.parent) kids (forest s (drop (i + 1) cs)) c.loop-child.invariant split (omega (arith, ap (λ (p : Passage). p.met) one, c.one_of-one.ensures.few, c.passage-inner.ensures.few))
    (c.beside-all.ensures ∙ ap (beside c.loop-child.all) one)

pub returns-clause-value : goal.returns-clause-value
returns-clause-value t c =
    let s = c.args.self.now in
    let cs = c.children-child-items.result.now in
    let none : forest s (drop c.loop-child.child-index cs) ≡ no_trees = ap (forest s) (drop_all c.loop-child.child-index cs (omega arith)) in
    measured_all c.loop-child.all (forest s (drop c.loop-child.child-index cs)) (below s c.args.parent) none c.loop-child.invariant

pub returns-clause-few : goal.returns-clause-few
returns-clause-few t c =
    let s = c.args.self.now in
    few_measured c.loop-child.all (forest s (drop c.loop-child.child-index c.children-child-items.result.now)) (below s c.args.parent) c.loop-child.invariant
