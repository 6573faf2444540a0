use Rattle.std.proofs.Common.{None, ap, ◌∙◌}
use Rattle.yv_data_faults.specs.InnerPath.{numbers, way_names}
use Rattle.yv_data_leafrefs.specs.Place.{Place}
use Rattle.yv_data_faults.proofs.WaySpelling.{more_spelled, names_more}
use Rattle.yv_data_faults.proofs.faults.Faults.path_under.Goals as goal

pub returns-clause-path : goal.returns-clause-path
returns-clause-path c =
    let s = c.args.schema.now in
    let t = c.args.trail.now in
    let before = way_names c.in_ok-way.way.value in
    let names = way_names c.in_ok-way-2.way.value in
    c.of_way.ensures
    ∙ more_spelled s t c.args.member.now None names (numbers c.in_ok-around.around.value)
    (names_more s t c.args.member.now c.of_name-step.result.member c.is_entry.result before names
    (ap way_names c.in_ok-way-2.ensures.ok) (ap (λ (p : Place). p.member) c.of_name-step.ensures ∙ c.in_ok-from_str.ensures.ok) c.is_entry.ensures c.in_ok-way.ensures)
    c.in_ok-around.ensures.entries
