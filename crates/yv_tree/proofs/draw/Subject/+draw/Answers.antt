use Rattle.std.proofs.Common.{◌≡◌, ◌∙◌, ◌++◌, ℕ, List, Option, ap, true, false, get_or, subst, sym}
use Rattle.std.proofs.lemmas.List.Elements.{All-get_or}
use Rattle.yv_nodes.specs.declared.node.NodeId.{NodeId}
use Rattle.yv_nodes.specs.Rows.{Row, forest, row_at, tree_of}
use Rattle.yv_schema_tables.specs.Sound.{IsChild}
use Rattle.yv_base_streams.specs.Pages.{Adds}
use Rattle.yv_tree.specs.Columns.{label_width, lacks_case}
use Rattle.yv_tree.specs.Diagram.{text_of}
use Rattle.yv_tree.specs.DrawnNodes.{drawn_nodes, drawn_trees, none_left}
use Rattle.yv_tree.specs.InnerDraw.{form_with, node_lines, sheet_with, trees_text}
use Rattle.yv_tree.specs.InnerMargin.{margin_text}
use Rattle.yv_tree.specs.InnerPart.{trimmed_trees, trimmed_tree}
use Rattle.yv_tree.specs.Lines.{bars, has_line}
use Rattle.yv_tree.proofs.Groups.{adds_parts, with_case, with_levels}
use Rattle.yv_tree.proofs.PendingLines.{end_step, hidden_step, shown_step}
use Rattle.yv_tree.proofs.draw.Subject.+draw.Goals as goal
use Rattle.yv_tree.proofs.draw.Subject.+draw.Goals.{each-then-has_line, each-else-has_line}

pub each-loop-id-preserved : goal.each-loop-id-preserved
each-loop-id-preserved g t c =
    let s = c.args.self.now.schema.now in
    let f = form_with (sheet_with c.args.self.now.modules.now c.args.self.now.own c.args.self.now.columns) c.args.group.now.in_choice c.args.width c.args.left (margin_text c.args.margin.now) c.args.group.now.way.now in
    let p = c.args.group.now.parent in
    let ids = c.args.group.now.ids.now in
    let d : NodeId = record { 0 = 0 } in
    let id : NodeId = get_or ids c.loop-id.id-index d in
    let all = trees_text f (forest s ids) in
    elim c.if-has_line.branch [
      | each-then-has_line w ↦
          let shown : has_line (trimmed_tree f.way (tree_of s id)) ≡ true = sym c.has_line.ensures ∙ w.if-has_line.true in
          rw (w.last-is, w.page-is, w.paper-is) (record {
            text = shown_step s f p c.loop-id.last ids c.loop-id.id-index d
                all (g.P.Paper.output c.args.page.now c.args.paper.now) (g.P.Paper.output c.loop-id.page c.loop-id.paper)
                (g.P.Paper.output w.draw_waiting.new.page w.draw_waiting.new.paper)
                c.requires.trees c.loop-id-test.true c.loop-id.invariant.last shown c.loop-id.invariant.text w.draw_waiting.ensures;
            last = record {
              child = All-get_or (IsChild s p) ids c.loop-id.id-index d c.loop-id-test.true c.requires.children;
              shown = shown;
            };
          })
      | each-else-has_line w ↦
          let hidden : has_line (trimmed_tree f.way (tree_of s id)) ≡ false = sym c.has_line.ensures ∙ w.if-has_line.false in
          rw (w.last-is, w.page-is, w.paper-is) (record {
            text = hidden_step s f p c.loop-id.last ids c.loop-id.id-index d
                all (g.P.Paper.output c.args.page.now c.args.paper.now) (g.P.Paper.output c.loop-id.page c.loop-id.paper)
                c.requires.trees c.loop-id-test.true c.loop-id.invariant.last hidden c.loop-id.invariant.text;
            last = c.loop-id.invariant.last;
          })
    ]

pub each-returns : goal.each-returns
each-returns g t c =
    let s = c.args.self.now.schema.now in
    let f = form_with (sheet_with c.args.self.now.modules.now c.args.self.now.own c.args.self.now.columns) c.args.group.now.in_choice c.args.width c.args.left (margin_text c.args.margin.now) c.args.group.now.way.now in
    let ids = c.args.group.now.ids.now in
    end_step s f c.args.group.now.parent c.loop-id.last ids c.loop-id.id-index (trees_text f (forest s ids))
    (g.P.Paper.output c.args.page.now c.args.paper.now) (g.P.Paper.output c.loop-id.page c.loop-id.paper)
    (g.P.Paper.output c.draw_waiting-2.new.page c.draw_waiting-2.new.paper)
    c.loop-id-test.false c.loop-id.invariant.last c.loop-id.invariant.text c.draw_waiting-2.ensures

pub node-returns-then-lacks_case : goal.node-returns-then-lacks_case
node-returns-then-lacks_case g t c =
    let s = c.args.self.now.schema.now in
    let sheet = sheet_with c.args.self.now.modules.now c.args.self.now.own c.args.self.now.columns in
    let in_choice = c.args.group.now.in_choice in
    let way = c.args.group.now.way.now in
    let margin = margin_text c.args.margin.now in
    let old = g.P.Paper.output c.args.page.now c.args.paper.now in
    let mid = g.P.Paper.output c.case_line.new.page c.case_line.new.paper in
    let new = g.P.Paper.output c.node_lines.new.page c.node_lines.new.paper in
    let lacks : lacks_case sheet in_choice (row_at s c.args.id).label ≡ true =
    sym (c.lacks_case.ensures ∙ ap (λ (r : Row). lacks_case sheet in_choice r.label) c.node-node.ensures.value) ∙ c.if-lacks_case.true in
    let alone : c.label_width-alone.result ≡ label_width sheet (row_at s c.args.id).label =
    c.label_width-alone.ensures ∙ ap (λ (r : Row). label_width sheet r.label) c.node-node.ensures.value in
    adds_parts _ _ _ old mid new (with_case sheet in_choice c.args.width c.args.left margin c.args.follows way s c.args.id lacks) c.case_line.ensures
    (subst (λ (n : ℕ). Adds (text_of (node_lines sheet n c.args.left (margin ++ bars c.args.follows) false (trimmed_tree way (tree_of s c.args.id)))) mid new) alone c.node_lines.ensures)

pub nodes-returns-else-none_left : goal.nodes-returns-else-none_left
nodes-returns-else-none_left g t c =
    let s = c.args.self.now.schema.now in
    let sheet = sheet_with c.args.self.now.modules.now c.args.self.now.own c.args.self.now.columns in
    let in_choice = c.args.group.now.in_choice in
    let margin = margin_text c.args.margin.now in
    let ts = trimmed_trees c.args.group.now.way.now (forest s c.args.group.now.ids.now) in
    let old = g.P.Paper.output c.args.page.now c.args.paper.now in
    let new = g.P.Paper.output c.each.new.page c.each.new.paper in
    let some : none_left c.args.left ≡ false = sym c.none_left.ensures ∙ c.if-none_left.false in
    let same : drawn_nodes sheet in_choice c.args.left margin ts ≡ drawn_trees sheet in_choice c.width.result c.one_less.result margin ts =
    with_levels c.args.self.now.modules.now c.args.self.now.own c.args.self.now.columns in_choice c.width.result c.args.left margin ts some c.width.ensures
    ∙ ap (λ (left : Option ℕ). drawn_trees sheet in_choice c.width.result left margin ts) (sym c.one_less.ensures) in
    subst (λ (l : List ℕ). Adds l old new) (sym (ap text_of same)) c.each.ensures
