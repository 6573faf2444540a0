use Rattle.std.proofs.Common.{arith}
use Rattle.yv_link_identities.proofs.Ways.{next_of_stem}
use Rattle.yv_link_identities.proofs.hierarchy.Hierarchy.stem.Goals as goal

pub loop-only-smaller : goal.loop-only-smaller
loop-only-smaller c = (next_of_stem _ _ _ _ _ _ _ c.args.self.now.graph c.args.self.now.ranked c.loop-only.invariant.within c.index.ensures (omega (arith, c.len.ensures, c.loop-only-test.true)) c.index-in-loop-only.ensures c.index-only.ensures c.if-only-to.false).falls

pub loop-only-preserved : goal.loop-only-preserved
loop-only-preserved c =
    let next = next_of_stem _ _ _ _ _ _ _ c.args.self.now.graph c.args.self.now.ranked c.loop-only.invariant.within c.index.ensures (omega (arith, c.len.ensures, c.loop-only-test.true)) c.index-in-loop-only.ensures c.index-only.ensures c.if-only-to.false in
    record {
      within = next.within;
      ranks = omega (arith, next.falls, c.loop-only.invariant.ranks);
      leads = (λ w. next.to (c.loop-only.invariant.leads.0 w), λ w. c.loop-only.invariant.leads.1 (next.back w));
    }
