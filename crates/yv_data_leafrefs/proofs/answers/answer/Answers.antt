use Rattle.std.proofs.Common.{◌+◌, ◌∙◌, List, Option, sym, subst, ap}
use Rattle.serde_json.specs.Data.{object}
use Rattle.yv_values.specs.Count.{count_up}
use Rattle.yv_nodes.specs.Link.{is_target, Link, link_in}
use Rattle.yv_data_leafrefs.specs.Findings.{Findings, HasMet}
use Rattle.yv_data_leafrefs.specs.InnerAnswers.{count_leafrefs, judge_all, Marks}
use Rattle.yv_data_leafrefs.specs.Meetings.{all_met}
use Rattle.yv_data_leafrefs.proofs.IndexAnswers.{marks_in}
use Rattle.yv_data_leafrefs.proofs.DocumentReport.{added, shown, told}
use Rattle.yv_data_leafrefs.proofs.answers.answer.Goals as goal

pub returns-clause-tells : goal.returns-clause-tells
returns-clause-tells c = λ k ms met.
    let s = c.args.schema.now in
    let found : Findings = record { indexes = c.found.inside.targets; uses = c.found.inside.uses; positions = c.found.inside.positions.items; notes = c.found.inside.notes.items } in
    let seen : HasMet k s ms found = subst (λ (x : Findings). HasMet k s ms x) (sym c.found.view_is) met in
    let marks : Marks = marks_in (is_target s.links) (all_met k s (object ms)) in
    c.in_ok-paths.ensures.tells marks (seen.indexes, seen.uses)
    ∙ ap (λ (links : List (Option Link)). judge_all s (link_in links) marks found.positions found.notes) c.links.ensures.value
    ∙ told k s ms found c.children-nodes.ensures.sound.rows seen

pub returns-clause-steps : goal.returns-clause-steps
returns-clause-steps c = λ k ms met.
    let s = c.args.schema.now in
    let found : Findings = record { indexes = c.found.inside.targets; uses = c.found.inside.uses; positions = c.found.inside.positions.items; notes = c.found.inside.notes.items } in
    let seen : HasMet k s ms found = subst (λ (x : Findings). HasMet k s ms x) (sym c.found.view_is) met in
    shown k s ms found c.args.meter.now c.visit_all.new.self seen
    (added c.args.meter.now c.new-steps.result c.all.new.meter c.steps.result c.visit_all.new.self _ c.new-steps.ensures c.in_ok-paths.ensures.steps c.steps.ensures c.visit_all.ensures
    ∙ ap (λ (links : List (Option Link)). count_up (c.args.meter.now + count_leafrefs (link_in links) found.notes)) c.links.ensures.value)
