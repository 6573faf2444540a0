use Rattle.std.proofs.Common.{◌≡◌, ◌<◌, ◌∙◌, ◌∷◌, [], List, None, Some, length, arith, true, false, ap, sym, ℕ}
use Rattle.yv_nodes.specs.declared.node.NodeId.{NodeId}
use Rattle.yv_nodes.specs.Rows.{Row, is_root, row_at}
use Rattle.yv_tree.specs.Part.{steps_behind}
use Rattle.std.specs.Borrow.{Bor}
use Rattle.std.specs.Option.{option_map}
use Rattle.yv_tree.proofs.Tops.{parent_before}
use Rattle.yv_tree.proofs.Ways.{above_within, behind_parent, behind_top, one_more}
use Rattle.yv_tree_drawing.specs.Steps.{Step}
use Rattle.yv_tree.proofs.draw.Subject.+behind.Goals as goal

pub node-requires : goal.node-requires
node-requires t c =
    let s = c.args.self.now.schema.now in
    let up = c.parent-parent.ensures ∙ ap (λ (r : Row). r.parent) c.node-node.ensures.value in
    let inner : is_root (row_at s c.args.id).parent ≡ false = sym (ap is_root up) ∙ (sym c.eq.ensures ∙ c.if-eq.false) in
    let within : c.args.id.0 < length s.nodes = omega arith in
    let before : (row_at s c.args.id).parent.0 < c.args.id.0 = parent_before s c.args.id c.node-node.ensures.sound within inner in
    let number : c.parent-parent.result.0 ≡ (row_at s c.args.id).parent.0 = ap (λ (p : NodeId). p.0) up in
    omega arith

pub behind-requires : goal.behind-requires
behind-requires t c =
    let s = c.args.self.now.schema.now in
    let up = c.parent-parent.ensures ∙ ap (λ (r : Row). r.parent) c.node-node.ensures.value in
    let inner : is_root (row_at s c.args.id).parent ≡ false = sym (ap is_root up) ∙ (sym c.eq.ensures ∙ c.if-eq.false) in
    let within : c.args.id.0 < length s.nodes = omega arith in
    let before : (row_at s c.args.id).parent.0 < c.args.id.0 = parent_before s c.args.id c.node-node.ensures.sound within inner in
    let number : c.parent-parent.result.0 ≡ (row_at s c.args.id).parent.0 = ap (λ (p : NodeId). p.0) up in
    (omega (arith, c.decreases), omega arith)

pub returns-then-eq : goal.returns-then-eq
returns-then-eq t c =
    let s = c.args.self.now.schema.now in
    let steps = c.args.self.now.below.now in
    let up = c.parent-parent.ensures ∙ ap (λ (r : Row). r.parent) c.node-node.ensures.value in
    let root : is_root (row_at s c.args.id).parent ≡ true = sym (ap is_root up) ∙ (sym c.eq.ensures ∙ c.if-eq.true) in
    let within : c.args.id.0 < length s.nodes = omega arith in
    c.steps_behind.ensures ∙ ap (λ (r : Row). steps_behind None steps (r.label ∷ [])) c.node-node.ensures.value ∙ sym (behind_top s steps c.args.id c.node-node.ensures.sound within root)

pub returns-in_err-behind : goal.returns-in_err-behind
returns-in_err-behind t c =
    let s = c.args.self.now.schema.now in
    let steps = c.args.self.now.below.now in
    let p = c.parent-parent.result in
    let l = (row_at s c.args.id).label in
    let up : p ≡ (row_at s c.args.id).parent = c.parent-parent.ensures ∙ ap (λ (r : Row). r.parent) c.node-node.ensures.value in
    let inner : is_root p ≡ false = sym c.eq.ensures ∙ c.if-eq.false in
    let within : c.args.id.0 < length s.nodes = omega arith in
    let low : p.0 < length s.nodes = above_within s c.args.id p c.node-node.ensures.sound within up inner in
    ap (option_map (λ (x : Bor (List Step)). x.now)) c.from_residual.ensures
    ∙ sym (behind_parent s steps c.args.id p c.node-node.ensures.sound within low (sym up) inner
    ∙ ap (one_more (Some (row_at s p).label.module_file) l) (sym c.in_err-behind.ensures))

pub returns-in_ok-behind : goal.returns-in_ok-behind
returns-in_ok-behind t c =
    let s = c.args.self.now.schema.now in
    let steps = c.args.self.now.below.now in
    let p = c.parent-parent.result in
    let rest = c.in_ok-behind.field-0.now in
    let l = (row_at s c.args.id).label in
    let up : p ≡ (row_at s c.args.id).parent = c.parent-parent.ensures ∙ ap (λ (r : Row). r.parent) c.node-node.ensures.value in
    let inner : is_root p ≡ false = sym c.eq.ensures ∙ c.if-eq.false in
    let within : c.args.id.0 < length s.nodes = omega arith in
    let low : p.0 < length s.nodes = above_within s c.args.id p c.node-node.ensures.sound within up inner in
    let file : c.module_file-above.result ≡ (row_at s p).label.module_file = c.module_file-above.ensures ∙ ap (λ (r : Row). r.label.module_file) c.node.ensures.value in
    c.steps_behind-else-eq.ensures
    ∙ ap (λ (n : ℕ). steps_behind (Some n) rest (c.node-node.result.now.label ∷ [])) file
    ∙ ap (λ (r : Row). steps_behind (Some (row_at s p).label.module_file) rest (r.label ∷ [])) c.node-node.ensures.value
    ∙ sym (behind_parent s steps c.args.id p c.node-node.ensures.sound within low (sym up) inner
    ∙ ap (one_more (Some (row_at s p).label.module_file) l) (sym c.in_ok-behind.ensures))
