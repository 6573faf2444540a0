use Rattle.std.proofs.Common.{◌≡◌, ◌==◌, ◌∷◌, ◌++◌, [], append-nil, false, is_some, refl, cond, Some, None, Option, sym, ap, ◌∙◌}
use Rattle.std.proofs.lemmas.Result.{on_ok_weaker}
use Rattle.serde_json.specs.View.{view}
use Rattle.yv_values.specs.Values.{Val}
use Rattle.yv_nodes.specs.Rows.{row_at}
use Rattle.yv_data_leafrefs.specs.InUse.{value_of}
use Rattle.yv_validate.specs.InnerWalk.{spot_at, progress_view, written_at}
use Rattle.yv_validate.proofs.Items.{read_told, unread_told, writes}
use Rattle.yv_data_leafrefs.specs.Place.{step_name}
use Rattle.yv_data_faults.specs.declared.fault.FaultKind.TheVariants.{Value as Unread}
use Rattle.yv_validate.specs.Faults.{flaw}
use Rattle.yv_data_faults.specs.Trails.{places}
use Rattle.yv_validate.specs.Work.{value_work}
use Rattle.yv_validate.proofs.NoteGrowth.{gains_as, gains_none_at}
use Rattle.yv_validate.proofs.Steps.{plus_none}
use Rattle.yv_validate.proofs.walk.Walk.written_leaf.Goals as goal

pub returns-in-Some-clause-notes : goal.returns-in-Some-clause-notes
returns-in-Some-clause-notes c =
    let s = c.args.self.now.schema.now in
    let id = c.args.at.id in
    let l = (row_at s id).label in
    let d = view c.args.value.now in
    let is : Some c.in-Some.read ≡ value_of l d = sym c.in-Some.is ∙ c.in_ok-read.ensures.value in
    on_ok_weaker c.keep.result
    (λ g. gains_as s c.args.notes.now c.keep.new.self _ _ (g s) (λ n. ap (λ (v : Option Val). cond (id.0 == n) v None) is)) c.keep.ensures

pub returns-in-Some-clause-grows : goal.returns-in-Some-clause-grows
returns-in-Some-clause-grows c =
    let k = c.args.self.now.kind in
    let s = c.args.self.now.schema.now in
    let id = c.args.at.id in
    let l = (row_at s id).label in
    let d = view c.args.value.now in
    let old = progress_view c.args.progress.now in
    let is : Some c.in-Some.read ≡ value_of l d = sym c.in-Some.is ∙ c.in_ok-read.ensures.value in
    on_ok_weaker c.keep.result
    (λ g. λ outer entry.
    let spot = spot_at s c.args.at.path.now c.args.at.position outer entry in
    writes c.value_met.ensures k s id spot None d old c.read.new.progress.faults.items c.read.new.progress.found c.read.new.progress.meter
    (read_told (written_at s id None d spot) old.faults c.read.new.progress.faults.items None (sym (ap is_some is)) refl
    (c.read.ensures.faults ∙ sym (append-nil old.faults)))
    c.in_ok-read.ensures.finds (c.in_ok-read.ensures.steps ∙ plus_none old.steps (value_work l d)))
    c.keep.ensures

pub returns-in-None-clause-grows : goal.returns-in-None-clause-grows
returns-in-None-clause-grows c =
    let k = c.args.self.now.kind in
    let s = c.args.self.now.schema.now in
    let id = c.args.at.id in
    let l = (row_at s id).label in
    let d = view c.args.value.now in
    let old = progress_view c.args.progress.now in
    let is : None ≡ value_of l d = sym c.in-None.is ∙ c.in_ok-read.ensures.value in
    on_ok_weaker c.tell.result
    (λ h. λ outer entry.
    let spot = spot_at s c.args.at.path.now c.args.at.position outer entry in
    writes c.value_met.ensures k s id spot None d old c.tell.new.faults.items c.read.new.progress.found c.read.new.progress.meter
    (unread_told (written_at s id None d spot) old.faults c.tell.new.faults.items (sym (ap is_some is))
    (h ∙ ap (λ fs. fs ++ flaw Unread (places s c.args.at.path.now ++ record { member = step_name l; item = None } ∷ []) ∷ []) c.read.ensures.faults))
    c.in_ok-read.ensures.finds (c.in_ok-read.ensures.steps ∙ plus_none old.steps (value_work l d)))
    c.tell.ensures

pub returns-in-None-clause-notes : goal.returns-in-None-clause-notes
returns-in-None-clause-notes c =
    let s = c.args.self.now.schema.now in
    let id = c.args.at.id in
    let l = (row_at s id).label in
    let d = view c.args.value.now in
    let is : None ≡ value_of l d = sym c.in-None.is ∙ c.in_ok-read.ensures.value in
    on_ok_weaker c.tell.result (λ h. gains_none_at s c.args.notes.now id.0 (value_of l d) (sym is)) c.tell.ensures
