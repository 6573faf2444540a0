use Rattle.std.proofs.Common.{◌≡◌, ◌+◌, ◌++◌, ◌∷◌, [], ℕ, List, Option, true, false, is_some, length, map, min, Some, sym, ap, ◌∙◌, subst}
use Rattle.std.proofs.lemmas.List.{length-map}
use Rattle.std.proofs.lemmas.Result.{on_ok_weaker}
use Rattle.serde_json.specs.View.{view}
use Rattle.yv_values.specs.Values.{Val}
use Rattle.yv_nodes.specs.Rows.{row_at}
use Rattle.yv_data_leafrefs.specs.Findings.{Finds}
use Rattle.yv_data_leafrefs.specs.InUse.{value_of}
use Rattle.yv_data_leafrefs.specs.Place.{Place, step_name}
use Rattle.yv_data_faults.specs.declared.fault.FaultKind.TheVariants.{Duplicate, Value as Unread}
use Rattle.yv_validate.specs.Faults.{flaw, item_tuple, repeat_faults}
use Rattle.yv_data_faults.specs.Flaw.{Flaw}
use Rattle.yv_data_faults.specs.Trails.{places}
use Rattle.yv_validate.specs.InnerWalk.{spot_at, ProgressView, progress_view, value_found, written_at}
use Rattle.yv_validate.specs.Repeats.{repeat_of}
use Rattle.yv_validate.specs.Work.{tuple_work, value_work}
use Rattle.yv_validate.proofs.Items.{read_told, unread_told, writes}
use Rattle.yv_validate.proofs.LeafValues.{alone_is}
use Rattle.yv_validate.proofs.Steps.{steps_both}
use Rattle.yv_validate.proofs.walk.Walk.item.Goals as goal

pub returns-clause-grows : goal.returns-clause-grows
returns-clause-grows c =
    let k = c.args.self.now.kind in
    let s = c.args.self.now.schema.now in
    let id = c.args.at.id in
    let l = (row_at s id).label in
    let before = map view c.args.earlier.now in
    let d = view c.args.item.now in
    let old : ProgressView = progress_view c.args.progress.now in
    let is : c.in_ok-read.read ≡ value_of l d = c.in_ok-read.ensures.value in
    let has : is_some (value_of l d) ≡ true = sym (ap is_some is) ∙ sym c.is_some-is_read.ensures ∙ c.if-not-is_read.false in
    let made : item_tuple l d ≡ c.in_ok-tuple.tuple = alone_is c.node-node.result.now (row_at s id) d c.config.result c.in_ok-read.read c.in_ok-tuple.tuple c.node-node.ensures.value c.config.ensures is c.in_ok-tuple.ensures in
    let first : c.in_ok-first.first ≡ repeat_of (item_tuple l) before d = c.in_ok-first.ensures.tells.same (item_tuple l) before d c.requires.keeps made in
    let many : length c.args.earlier.now + 1 ≡ length before + 1 = ap (λ n. n + 1) (sym (length-map c.args.earlier.now view)) in
    let here : ℕ → List Place = λ n. places s c.args.at.path.now ++ record { member = step_name l; item = Some n } ∷ [] in
    let steps = steps_both old.steps c.read.new.progress.meter c.stood_before.new.meter (value_work l d) (tuple_work (item_tuple l d)) c.in_ok-read.ensures.steps
    (c.in_ok-first.ensures.steps ∙ ap (λ (o : Option (List Val)). min (c.read.new.progress.meter + tuple_work o) 18446744073709551615) (sym made)) in
    on_ok_weaker c.tell_repeat.result
    (λ h. λ outer entry.
    let spot = spot_at s c.args.at.path.now c.args.at.position outer entry in
    writes c.value_met.ensures k s id spot (Some before) d old c.tell_repeat.new.faults.items c.read.new.progress.found c.stood_before.new.meter
    (read_told (written_at s id (Some before) d spot) old.faults c.tell_repeat.new.faults.items c.in_ok-first.first has first
    (h ∙ ap (λ (fs : List Flaw). fs ++ repeat_faults c.in_ok-first.first Duplicate (here (length c.args.earlier.now + 1)) 0) c.read.ensures.faults
    ∙ ap (λ n. old.faults ++ repeat_faults c.in_ok-first.first Duplicate (here n) 0) many))
    (subst (λ n. Finds old.found c.read.new.progress.found (value_found s id c.args.at.position (Some n) (value_of l d))) many c.in_ok-read.ensures.finds) steps)
    c.tell_repeat.ensures

pub returns-then-not-is_read-clause-grows : goal.returns-then-not-is_read-clause-grows
returns-then-not-is_read-clause-grows c =
    let k = c.args.self.now.kind in
    let s = c.args.self.now.schema.now in
    let id = c.args.at.id in
    let l = (row_at s id).label in
    let before = map view c.args.earlier.now in
    let d = view c.args.item.now in
    let old : ProgressView = progress_view c.args.progress.now in
    let is : c.in_ok-read.read ≡ value_of l d = c.in_ok-read.ensures.value in
    let none : is_some (value_of l d) ≡ false = sym (ap is_some is) ∙ sym c.is_some-is_read.ensures ∙ c.if-not-is_read.true in
    let made : item_tuple l d ≡ c.in_ok-tuple.tuple = alone_is c.node-node.result.now (row_at s id) d c.config.result c.in_ok-read.read c.in_ok-tuple.tuple c.node-node.ensures.value c.config.ensures is c.in_ok-tuple.ensures in
    let many : length c.args.earlier.now + 1 ≡ length before + 1 = ap (λ n. n + 1) (sym (length-map c.args.earlier.now view)) in
    let here : ℕ → List Place = λ n. places s c.args.at.path.now ++ record { member = step_name l; item = Some n } ∷ [] in
    let steps = steps_both old.steps c.read.new.progress.meter c.stood_before.new.meter (value_work l d) (tuple_work (item_tuple l d)) c.in_ok-read.ensures.steps
    (c.in_ok-first.ensures.steps ∙ ap (λ (o : Option (List Val)). min (c.read.new.progress.meter + tuple_work o) 18446744073709551615) (sym made)) in
    on_ok_weaker c.tell.result
    (λ h. λ outer entry.
    let spot = spot_at s c.args.at.path.now c.args.at.position outer entry in
    writes c.value_met.ensures k s id spot (Some before) d old c.tell.new.faults.items c.read.new.progress.found c.stood_before.new.meter
    (unread_told (written_at s id (Some before) d spot) old.faults c.tell.new.faults.items none
    (h ∙ ap (λ (fs : List Flaw). fs ++ flaw Unread (here (length c.args.earlier.now + 1)) ∷ []) c.read.ensures.faults
    ∙ ap (λ n. old.faults ++ flaw Unread (here n) ∷ []) many))
    (subst (λ n. Finds old.found c.read.new.progress.found (value_found s id c.args.at.position (Some n) (value_of l d))) many c.in_ok-read.ensures.finds) steps)
    c.tell.ensures

pub returns-clause-keeps : goal.returns-clause-keeps
returns-clause-keeps c =
    let l = (row_at c.args.self.now.schema.now c.args.at.id).label in
    let before = map view c.args.earlier.now in
    let d = view c.args.item.now in
    let made : item_tuple l d ≡ c.in_ok-tuple.tuple = alone_is c.node-node.result.now (row_at c.args.self.now.schema.now c.args.at.id) d c.config.result c.in_ok-read.read c.in_ok-tuple.tuple c.node-node.ensures.value c.config.ensures c.in_ok-read.ensures.value c.in_ok-tuple.ensures in
    let place : length before + 1 ≡ length c.args.earlier.now + 1 = ap (λ n. n + 1) (length-map c.args.earlier.now view) in
    on_ok_weaker c.tell_repeat.result (λ h. c.in_ok-first.ensures.tells.next (item_tuple l) before d place c.requires.keeps made) c.tell_repeat.ensures

pub returns-then-not-is_read-clause-keeps : goal.returns-then-not-is_read-clause-keeps
returns-then-not-is_read-clause-keeps c =
    let l = (row_at c.args.self.now.schema.now c.args.at.id).label in
    let before = map view c.args.earlier.now in
    let d = view c.args.item.now in
    let made : item_tuple l d ≡ c.in_ok-tuple.tuple = alone_is c.node-node.result.now (row_at c.args.self.now.schema.now c.args.at.id) d c.config.result c.in_ok-read.read c.in_ok-tuple.tuple c.node-node.ensures.value c.config.ensures c.in_ok-read.ensures.value c.in_ok-tuple.ensures in
    let place : length before + 1 ≡ length c.args.earlier.now + 1 = ap (λ n. n + 1) (length-map c.args.earlier.now view) in
    on_ok_weaker c.tell.result (λ h. c.in_ok-first.ensures.tells.next (item_tuple l) before d place c.requires.keeps made) c.tell.ensures
