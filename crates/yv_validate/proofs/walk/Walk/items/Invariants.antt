use Rattle.std.proofs.Common.{ℕ, List, [], map, take, drop}
use Rattle.serde_json.specs.View.{view, items_view}
use Rattle.yv_nodes.specs.Rows.{row_at}
use Rattle.yv_validate.specs.Faults.{item_tuple}
use Rattle.yv_validate.specs.InnerMemory.{Remembers}
use Rattle.yv_validate.specs.InnerWalk.{Grows, items_at, next_of, spot_at, ProgressView, progress_view}
use Rattle.yv_validate.proofs.walk.Walk.items.Given as goal

-- what is met at the items that are left leads to what is met at all; the index knows those that
-- are done
abbrev pub invariant-loop-index : goal.invariant-loop-index
invariant-loop-index l =
    let k = l.self.kind in
    let s = l.self.schema.now in
    let done = map view (take l.index l.items.items) in
    let left = items_view (drop l.index l.items.items) in
    record {
      grows : (outer : List ℕ) (entry : ℕ) (x : ProgressView)
          → Grows k s (progress_view l.progress) x (items_at s l.fn.at.id done left (spot_at s l.fn.at.path.now l.fn.at.position outer entry) (next_of (progress_view l.progress)))
          → Grows k s (progress_view l.initial.progress) x
          (items_at s l.fn.at.id [] (items_view l.items.items) (spot_at s l.fn.at.path.now l.fn.at.position outer entry) (next_of (progress_view l.initial.progress)));
      kept : Remembers l.kept (item_tuple (row_at s l.fn.at.id).label) done;
    }
