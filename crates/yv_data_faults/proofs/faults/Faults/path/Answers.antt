use Rattle.std.proofs.Common.{sym, ap, ◌∙◌}
use Rattle.yv_nodes.specs.Rows.{row_at}
use Rattle.yv_data_leafrefs.specs.Place.{step_name}
use Rattle.yv_data_faults.specs.InnerPath.{numbers, trail_names, way_names}
use Rattle.yv_data_faults.specs.Trails.{places}
use Rattle.yv_data_faults.proofs.WaySpelling.{more_spelled}
use Rattle.yv_data_faults.proofs.faults.Faults.path.Goals as goal

pub returns-in_ok-entries_to-in-Below-clause-path :
    goal.returns-in_ok-entries_to-in-Below-clause-path
returns-in_ok-entries_to-in-Below-clause-path c =
    let s = c.args.schema.now in
    let outer = c.in-Below.outer.now in
    let member = step_name (row_at s c.in-Below.field-1).label in
    c.of_way-in-Below.ensures
    ∙ more_spelled s outer member c.in-Below.item (way_names c.in_ok-way.way.value) (numbers c.in_ok-entries_to-in-Below.field-0.value)
    (c.in_ok-way.ensures ∙ ap (trail_names s) c.in-Below.is) c.in_ok-entries_to-in-Below.ensures.entries
    ∙ sym (ap (places s) c.in-Below.is)
