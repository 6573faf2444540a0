use Rattle.std.proofs.Common.{◌≡◌, ◌∙◌, ◌&&◌, Bool, List, Some, ap, sym, ℕ, get_or, true, false}
use Rattle.yv_nodes.specs.declared.node.NodeId.{NodeId}
use Rattle.yv_nodes.specs.Rows.{Row, below, forest, row_at, tree_of}
use Rattle.yv_tree.specs.Lines.{has_line}
use Rattle.yv_tree.specs.Part.{leads}
use Rattle.yv_tree.proofs.ShownNodes.{leads_by_none, leads_by_place}
use Rattle.yv_tree.proofs.way.+leads.Goals as goal

pub returns-then-has_line : goal.returns-then-has_line
returns-then-has_line t c =
    let s = c.args.schema.now in
    let d : NodeId = record { 0 = 0 } in
    let id : NodeId = get_or c.args.ids.now c.in-Some-first_place.place d in
    let xs = c.in-Some.others.now in
    let file : c.module_file-module_file.result ≡ (row_at s id).label.module_file = c.module_file-module_file.ensures ∙ ap (λ (r : Row). r.label.module_file) c.node.ensures.value in
    let shown : has_line (tree_of s id) ≡ true = sym c.has_line.ensures ∙ c.if-has_line.true in
    c.leads.ensures ∙ ap (λ (n : ℕ). leads (Some n) xs (forest s c.children.result.now)) file
    ∙ ap (λ (l : List NodeId). leads (Some (row_at s id).label.module_file) xs (forest s l)) c.children.ensures.value
    ∙ sym (leads_by_place s c.args.above c.args.way.now c.in-Some.step.now xs c.args.ids.now c.in-Some-first_place.place d c.in-Some.ensures.cases.0 c.in-Some-first_place.ensures
    ∙ ap (λ (b : Bool). b && leads (Some (row_at s id).label.module_file) xs (below s id)) shown)

pub returns-else-has_line : goal.returns-else-has_line
returns-else-has_line t c =
    let s = c.args.schema.now in
    let d : NodeId = record { 0 = 0 } in
    let id : NodeId = get_or c.args.ids.now c.in-Some-first_place.place d in
    let xs = c.in-Some.others.now in
    let hidden : has_line (tree_of s id) ≡ false = sym c.has_line.ensures ∙ c.if-has_line.false in
    c.if-has_line.false
    ∙ sym (leads_by_place s c.args.above c.args.way.now c.in-Some.step.now xs c.args.ids.now c.in-Some-first_place.place d c.in-Some.ensures.cases.0 c.in-Some-first_place.ensures
    ∙ ap (λ (b : Bool). b && leads (Some (row_at s id).label.module_file) xs (below s id)) hidden)

pub returns-in-None : goal.returns-in-None
returns-in-None t c =
    sym (leads_by_none c.args.schema.now c.args.above c.args.way.now c.in-Some.step.now c.in-Some.others.now c.args.ids.now c.in-Some.ensures.cases.0 c.in-None.ensures)
