use Rattle.std.proofs.Common.{ℕ, length, sym, ◌∙◌, ap, subst}
use Rattle.yv_expand_refines.proofs.Meaning.{meant_from_more}
use Rattle.yv_expand_refines.specs.Targets.{meant_from}
use Rattle.yv_expand_refines.specs.declared.targets.RefinedUses.{RefinedUses}
use Rattle.yv_expand_uses.specs.InnerRefineTargets.{StandWithin}
use Rattle.yv_expand_uses.proofs.TargetLists.{within_push}
use Rattle.yv_expand_uses.proofs.refine_targets.RefineTargets.note.Goals as goal

pub returns-clause-refine_targets : goal.returns-clause-refine_targets
returns-clause-refine_targets c = λ w are.
    let places : ℕ = length c.args.self.now.refinements.refine_targets.items in
    let u : RefinedUses = record { item = c.args.item; refine_targets = c.args.place; targets = c.args.targets } in
    record {
      known = λ statement module_file number at. (let it = are.known statement module_file number at in record { aimed = it.aimed; at = it.at; is = it.is });
      each = are.each;
      kept = λ number k at. (let it = are.kept number k at in record { within = it.within; stand = it.stand });
      uses = subst (StandWithin places) (sym c.in_ok-push.ensures.items) (within_push places c.args.self.now.refinements.uses.items u are.uses c.requires);
    }

pub returns-clause-means : goal.returns-clause-means
returns-clause-means c =
    let refine_targets = c.args.self.now.refinements.refine_targets.items in
    let u : RefinedUses = record { item = c.args.item; refine_targets = c.args.place; targets = c.args.targets } in
    ap (meant_from refine_targets) c.in_ok-push.ensures.items ∙ meant_from_more refine_targets c.args.self.now.refinements.uses.items u
