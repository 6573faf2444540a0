use Rattle.std.proofs.Common.{◌≡◌, ℕ, ◌+◌, ◌≤◌, List, [], length, get_or, sym, subst, arith, ap, ◌∙◌, ◌++◌, None}
use Rattle.yv_expand.specs.Tree.{Node, count}
use Rattle.yv_nodes.specs.Rows.{Row}
use Rattle.yv_schema.specs.Families.{below_from, lists_of}
use Rattle.yv_schema.specs.InnerRows.{numbers_at, rows_of_items}
use Rattle.yv_schema.proofs.Numbering.{AllBefore, below_before, each_before, numbers_before, parents_first}
use Rattle.yv_schema.proofs.ParentNodes.{length_listed}
use Rattle.yv_schema.proofs.SchemaTreeRows.{rows_whole, top_whole}
use Rattle.yv_schema.proofs.tree.Builder.number_nodes.Goals as goal

pub add_nodes-requires-clause-few : goal.add_nodes-requires-clause-few
add_nodes-requires-clause-few c = omega (arith, ap (length {A = Node}) c.remaining_nodes-left.ensures.own, c.requires.room, c.ranges.limit.fits)

pub add_nodes-requires-clause-parents : goal.add_nodes-requires-clause-parents
add_nodes-requires-clause-parents c =
    let told = c.requires.tells in
    parents_first told.basis c.remaining_nodes-left.result.now (c.remaining_nodes-left.ensures.tells told.basis told.tells)

pub add_nodes-requires-clause-children : goal.add_nodes-requires-clause-children
add_nodes-requires-clause-children c =
    let told = c.requires.tells in
    let own = c.remaining_nodes-left.ensures.own in
    let left = c.remaining_nodes-left.ensures.tells told.basis told.tells in
    let le : 0 + count told.basis.nodes ≤ 4294967296 =
    omega (arith, ap (length {A = Node}) own, ap (length {A = Node}) left, length_listed None 0 told.basis.nodes, c.requires.room, c.ranges.limit.fits) in
    let below : lists_of c.deref.result.now ≡ below_from 0 told.basis.nodes = ap lists_of c.deref.ensures.value ∙ c.in_ok-families.ensures.below told.basis.nodes left in
    λ k. subst (λ (ls : List (List ℕ)). AllBefore 4294967296 (get_or ls k [])) (sym below) (each_before 4294967296 (below_from 0 told.basis.nodes) k (below_before 0 4294967296 told.basis.nodes le))

pub numbers_at-requires : goal.numbers_at-requires
numbers_at-requires c =
    let told = c.requires.tells in
    let own = c.remaining_nodes-left.ensures.own in
    let left = c.remaining_nodes-left.ensures.tells told.basis told.tells in
    let le : 0 + count told.basis.nodes ≤ 4294967296 =
    omega (arith, ap (length {A = Node}) own, ap (length {A = Node}) left, length_listed None 0 told.basis.nodes, c.requires.room, c.ranges.limit.fits) in
    subst (AllBefore 4294967296) (sym (c.deref-2.ensures.value ∙ c.in_ok-families.ensures.top told.basis.nodes left)) (numbers_before 0 4294967296 told.basis.nodes le)

pub returns-clause-rows : goal.returns-clause-rows
returns-clause-rows c = λ b tells module_files.
    let left = c.remaining_nodes-left.ensures.tells b tells in
    let below = ap lists_of c.deref.ensures.value ∙ c.in_ok-families.ensures.below b.nodes left in
    c.in_ok-add_nodes.ensures.rows b tells module_files
    ∙ ap (λ (rs : List Row). rs ++ rows_of_items b (lists_of c.deref.result.now) [] 0 c.remaining_nodes-left.result.now) c.in_ok-nodes.ensures.rows
    ∙ rows_whole b c.remaining_nodes-left.result.now (lists_of c.deref.result.now) left below

pub returns-clause-top : goal.returns-clause-top
returns-clause-top c = λ b tells module_files.
    c.in_ok-top.ensures ∙ ap numbers_at c.deref-2.ensures.value ∙ top_whole b _ (c.in_ok-families.ensures.top b.nodes (c.remaining_nodes-left.ensures.tells b tells))
