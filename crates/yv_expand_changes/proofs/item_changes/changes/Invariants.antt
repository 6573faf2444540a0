use Rattle.std.proofs.Common.{◌≡◌, take}
use Rattle.yv_link_scopes.specs.Views.{lent_in}
use Rattle.yv_expand_refines.specs.Changes.{each}
use Rattle.yv_expand_refines.specs.Targets.{meant_from}
use Rattle.yv_expand_changes.specs.Changes.{all_changes}
use Rattle.yv_expand_changes.specs.InnerRuns.{AreKnown}
use Rattle.yv_expand_changes.proofs.item_changes.changes.Given as goal

abbrev pub invariant-loop-uses : goal.invariant-loop-uses
invariant-loop-uses l = record {
  known : AreKnown (lent_in l.rows) l.refinements.refine_targets.items l.changes.runs l.known.items;
  each : each l.changes ≡ all_changes (lent_in l.rows) l.spots (meant_from l.refinements.refine_targets.items (take l.uses-index l.refinements.uses.items));
}
