use Rattle.std.proofs.Common.{◌<◌, ℕ, ◌+◌, ◌*◌, ◌-◌, List, [], map, length, take, drop}
use Rattle.serde_json.specs.View.{view, items_view}
use Rattle.yv_nodes.specs.Rows.{below, rank, row_at}
use Rattle.yv_walk.specs.Context.{members_of}
use Rattle.yv_data_leafrefs.specs.InUse.{case_scope}
use Rattle.yv_data_leafrefs.specs.Meetings.{Spot}
use Rattle.yv_validate.specs.InnerMemory.{Remembers, RemembersEach}
use Rattle.yv_data_quiet.specs.NamedLeafs.{uniques_at}
use Rattle.yv_validate.specs.InnerNotes.{list_tuple}
use Rattle.yv_validate.specs.InnerWalk.{cases_met, children_met, entries_at, Grows, next_of, ones_met, spot_at, ProgressView, progress_view}
use Rattle.yv_data_quiet.specs.NamedLeafs.{key_leafs}
use Rattle.yv_validate.proofs.Own.{NotesLeft}
use Rattle.yv_validate.proofs.walk.Walk.+walk.Given as goal

-- what is met at the children that are left leads to what is met at all, and so do the values
abbrev pub invariant-children-loop-place : goal.invariant-children-loop-place
invariant-children-loop-place l =
    let k = l.self.kind in
    let s = l.self.schema.now in
    let ms = members_of l.context in
    let left = drop l.place l.children in
    record {
      grows : (outer : List ℕ) (entry : ℕ) (x : ProgressView)
          → Grows k s (progress_view l.progress) x (ones_met k s (λ at t. l.fn.at.scope) left ms (spot_at s l.fn.at.path.now l.fn.at.position outer entry) (next_of (progress_view l.progress)))
          → Grows k s (progress_view l.fn.progress) x
          (children_met k s l.fn.at.scope l.fn.at.id ms (spot_at s l.fn.at.path.now l.fn.at.position outer entry) (next_of (progress_view l.fn.progress)));
      notes : (spot : Spot) (next : ℕ) → spot.entry < next
          → NotesLeft k s (λ at t. l.fn.at.scope) left ms spot l.notes l.initial.notes (children_met k s l.fn.at.scope l.fn.at.id ms spot next);
    }

abbrev pub decreases-children-loop-place : goal.decreases-children-loop-place
decreases-children-loop-place l = length l.children - l.place

-- the same of cases
abbrev pub invariant-cases-loop-place : goal.invariant-cases-loop-place
invariant-cases-loop-place l =
    let k = l.self.kind in
    let s = l.self.schema.now in
    let ms = members_of l.context in
    let of = case_scope s l.fn.at.id (rank l.fn.at.id) (below s l.fn.at.id) ms in
    let left = drop l.place l.children in
    record {
      grows : (outer : List ℕ) (entry : ℕ) (x : ProgressView)
          → Grows k s (progress_view l.progress) x (ones_met k s of left ms (spot_at s l.fn.at.path.now l.fn.at.position outer entry) (next_of (progress_view l.progress)))
          → Grows k s (progress_view l.fn.progress) x
          (cases_met k s l.fn.at.id ms (spot_at s l.fn.at.path.now l.fn.at.position outer entry) (next_of (progress_view l.fn.progress)));
      notes : (spot : Spot) (next : ℕ) → spot.entry < next
          → NotesLeft k s of left ms spot l.notes l.initial.notes (cases_met k s l.fn.at.id ms spot next);
    }

abbrev pub decreases-cases-loop-place : goal.decreases-cases-loop-place
decreases-cases-loop-place l = length l.children - l.place

-- the same of entries; the indexes know the tuples of those that are done
abbrev pub invariant-entries-loop-index : goal.invariant-entries-loop-index
invariant-entries-loop-index l =
    let k = l.self.kind in
    let s = l.self.schema.now in
    let done = map view (take l.index l.items.items) in
    let left = items_view (drop l.index l.items.items) in
    record {
      grows : (outer : List ℕ) (entry : ℕ) (x : ProgressView)
          → Grows k s (progress_view l.progress) x (entries_at k s l.fn.at.id done left (spot_at s l.fn.at.path.now l.fn.at.position outer entry) (next_of (progress_view l.progress)))
          → Grows k s (progress_view l.initial.progress) x
          (entries_at k s l.fn.at.id [] (items_view l.items.items) (spot_at s l.fn.at.path.now l.fn.at.position outer entry) (next_of (progress_view l.initial.progress)));
      keys : Remembers l.keys (list_tuple k s l.fn.at.id (key_leafs s l.fn.at.id (row_at s l.fn.at.id).label)) done;
      uniques : RemembersEach l.uniques.items (list_tuple k s l.fn.at.id) (uniques_at s l.fn.at.id) done;
    }

-- the nodes behind, and the turns that each takes
abbrev pub decreases-children : goal.decreases-children
decreases-children l = 9 * (length l.self.now.schema.now.nodes - rank l.at.id)

abbrev pub decreases-cases : goal.decreases-cases
decreases-cases l = 9 * (length l.self.now.schema.now.nodes - rank l.at.id) + 1

abbrev pub decreases-choice : goal.decreases-choice
decreases-choice l = 9 * (length l.self.now.schema.now.nodes - rank l.at.id) + 2

abbrev pub decreases-meet : goal.decreases-meet
decreases-meet l = 9 * (length l.self.now.schema.now.nodes - l.at.id.0) - 1

abbrev pub decreases-node : goal.decreases-node
decreases-node l = 9 * (length l.self.now.schema.now.nodes - l.at.id.0) - 2

abbrev pub decreases-data : goal.decreases-data
decreases-data l = 9 * (length l.self.now.schema.now.nodes - l.at.id.0) - 3

abbrev pub decreases-state : goal.decreases-state
decreases-state l = 9 * (length l.self.now.schema.now.nodes - l.at.id.0) - 4

abbrev pub decreases-container : goal.decreases-container
decreases-container l = 9 * (length l.self.now.schema.now.nodes - l.at.id.0) - 5

abbrev pub decreases-list : goal.decreases-list
decreases-list l = 9 * (length l.self.now.schema.now.nodes - l.at.id.0) - 4

abbrev pub decreases-entries : goal.decreases-entries
decreases-entries l = 9 * (length l.self.now.schema.now.nodes - l.at.id.0) - 5

abbrev pub decreases-entry : goal.decreases-entry
decreases-entry l = 9 * (length l.self.now.schema.now.nodes - l.at.id.0) - 6

abbrev pub decreases-object : goal.decreases-object
decreases-object l = 9 * (length l.self.now.schema.now.nodes - rank l.at.id) + 2

abbrev pub decreases-inside : goal.decreases-inside
decreases-inside l = 9 * (length l.self.now.schema.now.nodes - rank l.at.id) + 1
