use Rattle.std.proofs.Common.{◌≡◌, ◌<◌, length, arith, true, false, ap, sym, ◌∙◌}
use Rattle.yv_nodes.specs.declared.node.NodeId.{NodeId}
use Rattle.yv_nodes.specs.Rows.{Row, is_root, row_at}
use Rattle.yv_tree.specs.Diagram.{first_module_file}
use Rattle.yv_tree.proofs.Tops.{at_top, one_up, parent_before}
use Rattle.yv_tree.proofs.draw.Subject.+first.Goals as goal

pub returns-then-eq-clause-value : goal.returns-then-eq-clause-value
returns-then-eq-clause-value t c =
    let s = c.args.self.now.schema.now in
    let up = c.parent-parent.ensures ∙ ap (λ (r : Row). r.parent) c.node.ensures.value in
    let root : is_root (row_at s c.args.id).parent ≡ true = sym (ap is_root up) ∙ (sym c.eq.ensures ∙ c.if-eq.true) in
    let within : c.args.id.0 < length s.nodes = omega arith in
    at_top s c.args.id c.node.ensures.sound within root

pub returns-else-eq-clause-value : goal.returns-else-eq-clause-value
returns-else-eq-clause-value t c =
    let s = c.args.self.now.schema.now in
    let up = c.parent-parent.ensures ∙ ap (λ (r : Row). r.parent) c.node.ensures.value in
    let inner : is_root (row_at s c.args.id).parent ≡ false = sym (ap is_root up) ∙ (sym c.eq.ensures ∙ c.if-eq.false) in
    let within : c.args.id.0 < length s.nodes = omega arith in
    one_up s c.args.id c.node.ensures.sound within inner ∙ ap (first_module_file s) (sym up) ∙ c.first.ensures.value

pub first-requires : goal.first-requires
first-requires t c =
    let s = c.args.self.now.schema.now in
    let up = c.parent-parent.ensures ∙ ap (λ (r : Row). r.parent) c.node.ensures.value in
    let inner : is_root (row_at s c.args.id).parent ≡ false = sym (ap is_root up) ∙ (sym c.eq.ensures ∙ c.if-eq.false) in
    let within : c.args.id.0 < length s.nodes = omega arith in
    let before : (row_at s c.args.id).parent.0 < c.args.id.0 = parent_before s c.args.id c.node.ensures.sound within inner in
    let number : c.parent-parent.result.0 ≡ (row_at s c.args.id).parent.0 = ap (λ (p : NodeId). p.0) up in
    (omega (arith, c.decreases), omega arith)
