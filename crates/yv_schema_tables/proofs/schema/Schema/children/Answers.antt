use Rattle.std.proofs.Common.{◌≡◌, true, false, ap, sym, ◌∙◌}
use Rattle.yv_nodes.specs.Rows.{Row, Rows, children_of, is_root}
use Rattle.yv_schema_tables.proofs.Trees.{children_at_root, children_below, children_trees}
use Rattle.yv_schema_tables.proofs.schema.Schema.children.Goals as goal

pub returns-then-eq-clause-trees : goal.returns-then-eq-clause-trees
returns-then-eq-clause-trees c =
    let root : is_root c.args.parent ≡ true = sym c.eq.ensures ∙ c.if-eq.true in
    let top : c.as_slice.result.now ≡ children_of c.args.self.now c.args.parent =
    c.as_slice.ensures.value ∙ ap (λ (s : Rows). s.top) c.self.view_is ∙ sym (children_at_root c.args.self.now c.args.parent root) in
    children_trees c.args.self.now c.args.parent c.as_slice.result.now (rw c.self.view_is at c.self.invariant.kept.sound) c.requires top

pub returns-else-eq-clause-trees : goal.returns-else-eq-clause-trees
returns-else-eq-clause-trees c =
    let inner : is_root c.args.parent ≡ false = sym c.eq.ensures ∙ c.if-eq.false in
    let own : c.children.result.now ≡ children_of c.args.self.now c.args.parent =
    c.children.ensures ∙ ap (λ (r : Row). r.children) c.node.ensures.value ∙ sym (children_below c.args.self.now c.args.parent inner) in
    children_trees c.args.self.now c.args.parent c.children.result.now c.node.ensures.sound c.requires own
