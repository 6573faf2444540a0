use Rattle.std.proofs.Common.{Bor, option_map, sym, ◌∙◌}
use Rattle.std.proofs.lemmas.Result.{on_ok_weaker}
use Rattle.serde_json.specs.View.{view}
use Rattle.serde_json.specs.declared.value.Value.{Value}
use Rattle.yv_data_leafrefs.specs.Meetings.{Spot}
use Rattle.yv_validate.specs.InnerWalk.{next_of, spot_at, ProgressView, progress_view}
use Rattle.yv_validate.proofs.NodeKinds.{empty_closes, items_close}
use Rattle.yv_validate.proofs.walk.Walk.leaf_list.Goals as goal

pub returns-then-takes_defaults : goal.returns-then-takes_defaults
returns-then-takes_defaults c =
    let k = c.args.self.now.kind in
    let s = c.args.self.now.schema.now in
    let id = c.args.at.id in
    let old : ProgressView = progress_view c.args.progress.now in
    let mid : ProgressView = progress_view c.array.new.progress in
    let found = option_map (λ (v : Bor Value). view v.now) c.args.value in
    record {
      grows = on_ok_weaker c.use_defaults.result
          (λ h. λ ms writes outer entry.
          let spot : Spot = spot_at s c.args.at.path.now c.args.at.position outer entry in
          empty_closes c.default_met.ensures c.met_behind.ensures k s c.args.at.scope id ms found spot (next_of old) old mid c.use_defaults.new.found
          c.requires.kind c.requires.asks writes (sym c.takes_defaults.ensures ∙ c.if-takes_defaults.true) (c.in_ok-array.ensures.grows outer entry) h)
          c.use_defaults.ensures;
    }

pub returns : goal.returns
returns c =
    let k = c.args.self.now.kind in
    let s = c.args.self.now.schema.now in
    let id = c.args.at.id in
    let old : ProgressView = progress_view c.args.progress.now in
    let mid : ProgressView = progress_view c.array.new.progress in
    let found = option_map (λ (v : Bor Value). view v.now) c.args.value in
    record {
      grows = λ ms writes outer entry.
          let spot : Spot = spot_at s c.args.at.path.now c.args.at.position outer entry in
          items_close c.default_met.ensures c.nothing_met.ensures c.met_behind.ensures k s c.args.at.scope id ms found spot (next_of old) old mid
          c.requires.kind c.requires.asks writes (sym c.takes_defaults.ensures ∙ c.if-takes_defaults.false) (c.in_ok-array.ensures.grows outer entry);
    }
