use Rattle.std.proofs.Common.{◌≡◌, ◌++◌, ◌∷◌, [], Bor, Option, Some, None, option_map, sym, ap, ◌∙◌, subst}
use Rattle.std.proofs.lemmas.Result.{on_ok_weaker}
use Rattle.serde_json.specs.Data.{Data}
use Rattle.serde_json.specs.View.{view}
use Rattle.serde_json.specs.declared.value.Value.{Value}
use Rattle.yv_data_leafrefs.specs.Meetings.{at_node, Spot}
use Rattle.yv_validate.specs.InnerNotes.{own_value}
use Rattle.yv_validate.specs.InnerWalk.{Closes, leaf_at, next_of, node_at, spot_at, ProgressView, progress_view}
use Rattle.yv_validate.proofs.NodeKinds.{absent_closes, written_closes}
use Rattle.yv_validate.proofs.NoteGrowth.{gains_as}
use Rattle.yv_validate.proofs.Own.{own_default, own_written}
use Rattle.yv_validate.proofs.walk.Walk.leaf.Goals as goal

pub returns-in_ok-note_default-in-None-clause-grows : goal.returns-in_ok-note_default-in-None-clause-grows
returns-in_ok-note_default-in-None-clause-grows c =
    let k = c.args.self.now.kind in
    let s = c.args.self.now.schema.now in
    let id = c.args.at.id in
    let old : ProgressView = progress_view c.args.progress.now in
    let found = option_map (λ (v : Bor Value). view v.now) c.args.value in
    let none : found ≡ None = ap (option_map (λ (v : Bor Value). view v.now)) c.in-None.is in
    on_ok_weaker c.absent_leaf.result
    (λ h. λ ms writes outer entry.
    let spot : Spot = spot_at s c.args.at.path.now c.args.at.position outer entry in
    subst (λ (o : Option Data). Closes k s old (record { faults = c.absent_leaf.new.faults.items; found = c.note_default.new.found; steps = old.steps }) (leaf_at s id o spot (next_of old)) (node_at s c.args.at.scope id ms spot)) (sym none)
    (absent_closes c.default_met.ensures c.met_behind.ensures c.nothing_met.ensures k s c.args.at.scope id ms spot old c.absent_leaf.new.faults.items c.note_default.new.found
    c.requires.kind c.requires.asks (writes ∙ none) h c.in_ok-note_default-in-None.ensures.finds))
    c.absent_leaf.ensures

pub returns-in_ok-note_default-in-None-clause-notes : goal.returns-in_ok-note_default-in-None-clause-notes
returns-in_ok-note_default-in-None-clause-notes c =
    let s = c.args.self.now.schema.now in
    let id = c.args.at.id in
    let found = option_map (λ (v : Bor Value). view v.now) c.args.value in
    let none : found ≡ None = ap (option_map (λ (v : Bor Value). view v.now)) c.in-None.is in
    on_ok_weaker c.absent_leaf.result
    (λ h. λ ms writes spot next lt. gains_as s c.args.notes.now c.note_default.new.notes _ _ c.in_ok-note_default-in-None.ensures.notes
    (λ n. sym (own_default (node_at s c.args.at.scope id ms spot) n c.requires.kind (writes ∙ none))
    ∙ ap (λ (o : Option Data). own_value spot (leaf_at s id o spot next ++ at_node (node_at s c.args.at.scope id ms spot) ∷ []) n) (sym none)))
    c.absent_leaf.ensures

pub returns-in-Some-clause-grows : goal.returns-in-Some-clause-grows
returns-in-Some-clause-grows c =
    let k = c.args.self.now.kind in
    let s = c.args.self.now.schema.now in
    let id = c.args.at.id in
    let old : ProgressView = progress_view c.args.progress.now in
    let new : ProgressView = progress_view c.written_leaf.new.progress in
    let found = option_map (λ (v : Bor Value). view v.now) c.args.value in
    let d = view c.in-Some.written.now in
    let some : found ≡ Some d = ap (option_map (λ (v : Bor Value). view v.now)) c.in-Some.is in
    on_ok_weaker c.written_leaf.result
    (λ h. λ ms writes outer entry.
    let spot : Spot = spot_at s c.args.at.path.now c.args.at.position outer entry in
    subst (λ (o : Option Data). Closes k s old new (leaf_at s id o spot (next_of old)) (node_at s c.args.at.scope id ms spot)) (sym some)
    (written_closes c.default_met.ensures c.nothing_met.ensures c.met_behind.ensures k s c.args.at.scope id ms d spot (next_of old) old new
    c.requires.kind c.requires.asks (writes ∙ some) (h outer entry)))
    c.written_leaf.ensures.grows

pub returns-in-Some-clause-notes : goal.returns-in-Some-clause-notes
returns-in-Some-clause-notes c =
    let s = c.args.self.now.schema.now in
    let id = c.args.at.id in
    let found = option_map (λ (v : Bor Value). view v.now) c.args.value in
    let d = view c.in-Some.written.now in
    let some : found ≡ Some d = ap (option_map (λ (v : Bor Value). view v.now)) c.in-Some.is in
    on_ok_weaker c.written_leaf.result
    (λ h. λ ms writes spot next lt. gains_as s c.args.notes.now c.written_leaf.new.notes _ _ h
    (λ n. sym (own_written (node_at s c.args.at.scope id ms spot) d n c.requires.kind (writes ∙ some))
    ∙ ap (λ (o : Option Data). own_value spot (leaf_at s id o spot next ++ at_node (node_at s c.args.at.scope id ms spot) ∷ []) n) (sym some)))
    c.written_leaf.ensures.notes
