use Rattle.std.proofs.Common.{arith}
use Rattle.yv_link_identities.proofs.MeantIdentities.{derived_both}
use Rattle.yv_link_identities.proofs.identity_table.Identities.is_derived.Goals as goal

pub returns : goal.returns
returns c files t =
    derived_both _ _ c.args.self.now.hierarchy.bases.items _ _ _ _ _ t.bases (c.in-Some.ensures.means files t) (c.in-Some-node.ensures.means files t) (omega (arith, c.in-Some.ensures.within, t.bases.each)) (omega (arith, c.in-Some-node.ensures.within, t.bases.each)) c.leads.ensures
