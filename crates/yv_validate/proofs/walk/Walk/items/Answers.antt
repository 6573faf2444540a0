use Rattle.std.proofs.Common.{◌≡◌, ◌+◌, ◌<◌, ◌≤◌, ◌∷◌, ◌++◌, [], List, Some, length, map, take, drop, slice_index_or, sym, ap, ◌∙◌, subst, arith}
use Rattle.std.proofs.lemmas.List.{drop_all}
use Rattle.serde_json.specs.Data.{Data}
use Rattle.serde_json.specs.View.{view, items_view}
use Rattle.serde_json.specs.declared.value.Value.{Value}
use Rattle.yv_nodes.specs.Rows.{row_at}
use Rattle.yv_data_leafrefs.specs.Meetings.{Meeting, Spot, at_value}
use Rattle.yv_validate.specs.Faults.{item_tuple}
use Rattle.yv_validate.specs.InnerMemory.{Remembers}
use Rattle.yv_validate.specs.InnerWalk.{Grows, items_at, next_of, spot_at, ProgressView, progress_view, written_at}
use Rattle.yv_validate.proofs.WalkGrowth.{grows_nothing, turn}
use Rattle.yv_validate.proofs.Items.{items_split, one_more}
use Rattle.yv_validate.proofs.walk.Walk.items.Goals as goal

pub loop-index-preserved : goal.loop-index-preserved
loop-index-preserved c =
    let k = c.args.self.now.kind in
    let s = c.args.self.now.schema.now in
    let id = c.args.at.id in
    let l = (row_at s id).label in
    let xs = c.args.items.now.items in
    let i = c.loop-index.index in
    let x = c.item-item.result in
    let d : Data = view x in
    let done = map view (take i xs) in
    let start : ProgressView = progress_view c.args.progress.now in
    let old : ProgressView = progress_view c.loop-index.progress in
    let new : ProgressView = progress_view c.item.new.progress in
    let lt : i < length xs = subst (λ (ys : List Value). i < length ys) c.deref-item-items.ensures.value (omega arith) in
    let is : x ≡ slice_index_or xs i x = c.item-item.is ∙ ap (λ (ys : List Value). slice_index_or ys i x) c.deref-item-items.ensures.value in
    let earlier : map view (take i c.deref.result.now) ≡ done = ap (λ (ys : List Value). map view (take i ys)) c.deref.ensures.value in
    record {
      grows = λ outer entry y later.
          let spot : Spot = spot_at s c.args.at.path.now c.args.at.position outer entry in
          let one : List Data → List Meeting = λ ds. at_value (written_at s id (Some ds) d spot) ∷ [] in
          turn c.met_behind.ensures k s start old new (one done) (items_at s id (map view (take (i + 1) xs)) (items_view (drop (i + 1) xs)) spot (next_of new))
          (items_at s id done (items_view (drop i xs)) spot (next_of old)) (items_at s id [] (items_view xs) spot (next_of start))
          (subst (λ (ds : List Data). Grows k s old new (one ds)) earlier (c.in_ok-item.ensures.grows outer entry))
          (items_split s id spot (next_of old) xs i x lt is) (c.loop-index.invariant.grows outer entry) y later;
      kept = subst (Remembers c.item.new.kept (item_tuple l)) (ap (λ (ds : List Data). ds ++ d ∷ []) earlier ∙ sym (one_more xs i x lt is)) c.in_ok-item.ensures.keeps;
    }

pub returns : goal.returns
returns c =
    let k = c.args.self.now.kind in
    let s = c.args.self.now.schema.now in
    let id = c.args.at.id in
    let xs = c.args.items.now.items in
    let i = c.loop-index.index in
    let now : ProgressView = progress_view c.loop-index.progress in
    let done = map view (take i xs) in
    let le : length xs ≤ i = subst (λ (ys : List Value). length ys ≤ i) c.deref-item-items.ensures.value (omega (arith, c.loop-index-test.false)) in
    record {
      grows = λ outer entry. c.loop-index.invariant.grows outer entry now
          (subst (λ (ys : List Value). Grows k s now now (items_at s id done (items_view ys) (spot_at s c.args.at.path.now c.args.at.position outer entry) (next_of now)))
          (sym (drop_all i xs le)) (grows_nothing c.nothing_met.ensures k s now));
    }
