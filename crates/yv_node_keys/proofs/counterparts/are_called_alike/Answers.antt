use Rattle.std.proofs.Common.{◌<◌, ◌∙◌, List, arith, length, ap, sym}
use Rattle.yv_nodes.specs.Rows.{Row}
use Rattle.yv_node_keys.proofs.NodeCounterparts.{called_alike}
use Rattle.yv_node_keys.proofs.counterparts.are_called_alike.Goals as goal

pub returns-then-module_file : goal.returns-then-module_file
returns-then-module_file c = λ same.
    let rows : List Row = c.args.nodes.now.rows in
    let within : c.args.one.0 < length rows = omega arith in
    let beside : c.args.other.0 < length rows = omega arith in
    called_alike rows c.args.one c.args.other within beside
    (sym (c.module_file.ensures ∙ ap (λ (r : Row). r.label.module_file) c.get.ensures) ∙ c.if-module_file.true ∙ c.module_file-2.ensures ∙ ap (λ (r : Row). r.label.module_file) c.get-2.ensures)
    (sym c.have_one_name.ensures ∙ same)
