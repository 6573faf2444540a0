use Rattle.std.proofs.Common.{◌≡◌, ℕ, List, Option, ap, subst, sym, ◌∙◌}
use Rattle.yv_link_scopes.specs.Views.{lent_in}
use Rattle.yv_expand_refines.specs.Changes.{each}
use Rattle.yv_expand_refines.specs.declared.targets.RefineTarget.{RefineTarget}
use Rattle.yv_expand_changes.specs.InnerAlike.{AreRuns, noted_from, runs_of, ways_of}
use Rattle.yv_expand_changes.specs.declared.ways.Way.{Way}
use Rattle.yv_expand_changes.proofs.CopyChanges.{copied}
use Rattle.yv_expand_changes.proofs.UsesRuns.{on_ok}
use Rattle.yv_expand_changes.proofs.known_runs.KnownRuns.note.Goals as goal

pub returns-clause-each : goal.returns-clause-each
returns-clause-each c = λ refined known before.
    let files = lent_in c.args.rows.now in
    let spots = c.args.spots.now in
    let targets : List (Option ℕ) = c.args.uses.now.targets.items in
    let refine_targets : List RefineTarget = c.args.refine_targets.now in
    let runs : List (List ℕ) = runs_of files (ways_of spots targets) refine_targets in
    let ways : c.learn.new.self.ways.items ≡ ways_of spots targets = c.in_ok-learn.ensures.ways ∙ c.in_ok-ways.ensures ∙ ap (ways_of spots) c.deref.ensures.value in
    let are : AreRuns c.learn.new.changes.runs c.learn.new.self.numbers.items runs =
    subst (λ (ws : List (Option Way)). AreRuns c.learn.new.changes.runs c.learn.new.self.numbers.items (runs_of files ws refine_targets)) ways (c.in_ok-learn.ensures.knows known)
    in
    let lent : AreRuns c.learn.new.changes.runs c.deref-3.result.now runs = subst (λ (ns : List (Option ℕ)). AreRuns c.learn.new.changes.runs ns runs) (sym c.deref-3.ensures.value) are in
    on_ok c.note_all.result (λ e.
    e ∙ ap (λ (ts : List (Option ℕ)). noted_from 0 ts runs (each c.learn.new.changes)) c.deref-2.ensures.value
    ∙ ap (noted_from 0 targets runs) (c.in_ok-learn.ensures.each ∙ before)
    ∙ copied files spots c.args.uses.now.item targets refine_targets refined)
    (c.note_all.ensures.each runs lent)
