use Rattle.std.proofs.Common.{◌∙◌, List, ap, Some}
use Rattle.std.specs.Option.{option_map}
use Rattle.yv_nodes.specs.Rows.{Module}
use Rattle.yv_tree.specs.Diagram.{diagram_lines, module_in, text_of}
use Rattle.yv_tree.proofs.WholeDrawings.{plain_lines}
use Rattle.yv_tree.proofs.tree_diagram.TreeDiagram.of.Goals as goal

pub returns-in_ok-ready-in-Some : goal.returns-in_ok-ready-in-Some
returns-in_ok-ready-in-Some c =
    let s = c.args.schema.now in
    let m = c.in-Some.shown.now in
    ap Some (c.in_ok-ready-in-Some.ensures ∙ ap text_of (plain_lines s m.name m.module_file))
    ∙ ap (option_map (λ (m : Module). text_of (diagram_lines s m.name m.module_file)))
    (c.in-Some.ensures ∙ ap (λ (ms : List Module). module_in ms c.args.name.now) c.modules.ensures)
