use Rattle.std.proofs.Common.{◌≡◌, ◌++◌, Bor, Option, Some, None, option_map, sym, ap, ◌∙◌, subst}
use Rattle.std.proofs.lemmas.Result.{on_ok_weaker}
use Rattle.serde_json.specs.Data.{array, Data}
use Rattle.serde_json.proofs.Views.{view-Array}
use Rattle.serde_json.specs.View.{items_view, view}
use Rattle.serde_json.specs.declared.value.Value.{Value}
use Rattle.yv_data_leafrefs.specs.Meetings.{Spot}
use Rattle.yv_validate.specs.Faults.{array_faults, count_faults}
use Rattle.yv_validate.specs.InnerWalk.{GrowsWith, leaf_list_at, next_of, plain_at, spot_at, ProgressView, progress_view}
use Rattle.yv_validate.proofs.WalkGrowth.{grows_only, grows_with}
use Rattle.yv_validate.proofs.walk.Walk.array.Goals as goal

pub returns-in-None : goal.returns-in-None
returns-in-None c =
    let k = c.args.self.now.kind in
    let s = c.args.self.now.schema.now in
    let id = c.args.at.id in
    let old : ProgressView = progress_view c.args.progress.now in
    let found = option_map (λ (v : Bor Value). view v.now) c.args.value in
    let none : found ≡ None = ap (option_map (λ (v : Bor Value). view v.now)) c.in-None.is in
    record {
      grows = on_ok_weaker c.end_array.result
          (λ h. λ outer entry.
          let spot : Spot = spot_at s c.args.at.path.now c.args.at.position outer entry in
          subst (λ (o : Option Data). GrowsWith k s old (record { faults = c.end_array.new.faults.items; found = old.found; steps = old.steps }) (leaf_list_at s id o spot (next_of old)) (array_faults (plain_at s c.args.at.scope id c.args.at.path.now) o)) (sym none)
          (grows_only c.nothing_met.ensures k s old c.end_array.new.faults.items _ h))
          c.end_array.ensures;
    }

pub returns-in_ok-items-in-Array : goal.returns-in_ok-items-in-Array
returns-in_ok-items-in-Array c =
    let k = c.args.self.now.kind in
    let s = c.args.self.now.schema.now in
    let id = c.args.at.id in
    let old : ProgressView = progress_view c.args.progress.now in
    let mid : ProgressView = progress_view c.items.new.progress in
    let found = option_map (λ (v : Bor Value). view v.now) c.args.value in
    let ds = items_view c.in-Array.items.items in
    let some : found ≡ Some (array ds) = ap (option_map (λ (v : Bor Value). view v.now)) c.in-Some.is
    ∙ ap (λ (v : Value). Some (view v)) c.in-Array.is ∙ ap (λ (d : Data). Some d) (view-Array c.in-Array.items) in
    record {
      grows = on_ok_weaker c.end_array-in-Array.result
          (λ h. λ outer entry.
          let spot : Spot = spot_at s c.args.at.path.now c.args.at.position outer entry in
          let m = plain_at s c.args.at.scope id c.args.at.path.now in
          subst (λ (o : Option Data). GrowsWith k s old (record { faults = c.end_array-in-Array.new.faults.items; found = mid.found; steps = mid.steps }) (leaf_list_at s id o spot (next_of old)) (array_faults m o)) (sym some)
          (grows_with k s old mid _ c.end_array-in-Array.new.faults.items _ (c.in_ok-items-in-Array.ensures.grows outer entry)
          (h ∙ ap (λ n. mid.faults ++ count_faults m n) c.count_of.ensures)))
          c.end_array-in-Array.ensures;
    }
