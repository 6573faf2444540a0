use Rattle.std.proofs.Common.{◌↔◌, ◌<◌, ℕ, length}
use Rattle.yv_link_scopes.specs.Views.{rows_in}
use Rattle.yv_link_definitions.specs.Leads.{CountsFor}
use Rattle.yv_link_definitions.proofs.draft.Draft.owner.Given as goal

-- the place counts for the same definition
abbrev pub invariant-loop-outer : goal.invariant-loop-outer
invariant-loop-outer l = record {
  within : l.place < length l.entries;
  same : (d : ℕ) → CountsFor (rows_in l.self.rows.now) l.kind l.place d ↔ CountsFor (rows_in l.self.rows.now) l.kind l.number d;
}

abbrev pub decreases-loop-outer : goal.decreases-loop-outer
decreases-loop-outer l = l.place
