use Rattle.std.proofs.Common.{◌≡◌, ◌<◌, ◌∙◌, length, get_or}
use Rattle.std.proofs.lemmas.Bool.{false≢true}
use Rattle.std.proofs.lemmas.Grind.{get_or_default_zero}
use Rattle.yv_link_identities.proofs.DerivationRanks.{derived_ranked, finding_none, finding_more, finding_all, node_within, least_rises}
use Rattle.yv_link_identities.proofs.Sets.{all_above, no_keys}
use Rattle.yv_link_identities.proofs.hierarchy.Hierarchy.below.Goals as goal

pub add_ranks-requires : goal.add_ranks-requires
add_ranks-requires c =
    derived_ranked _ _ _ _ c.args.self.now.graph c.args.self.now.reversed c.args.self.now.ranked c.args.self.now.placed c.args.base c.index.result.now _ _ c.requires c.index.ensures c.deref-2.ensures.value c.deref.ensures.value

pub loop-rank-init : goal.loop-rank-init
loop-rank-init c =
    finding_none _ _ _ _ c.args.self.now.graph c.args.self.now.reversed c.args.self.now.ranked c.args.self.now.placed c.args.base c.index.result.now _ _ _ c.new-pending.result _ c.requires c.index.ensures c.deref-2.ensures.value c.deref.ensures.value c.new-found.ensures.empty c.new-pending.ensures.empty c.in_ok-add_ranks.ensures

pub add_ranks-requires-in-Some : goal.add_ranks-requires-in-Some
add_ranks-requires-in-Some c =
    let inside : c.in-Some.rank < length c.args.self.now.order.items = (c.loop-rank.invariant.waits c.in-Some.rank c.in-Some.ensures.member).0 in
    let at : c.index-node.result.now ≡ get_or c.args.self.now.order.items c.in-Some.rank 0 = c.index-node.ensures ∙ get_or_default_zero _ _ _ inside in
    let within : c.index-node.result.now < length c.args.self.now.bases.items = node_within _ _ _ _ c.args.self.now.graph c.args.self.now.reversed c.args.self.now.ranked c.args.self.now.placed c.in-Some.rank c.index-node.result.now inside at in
    derived_ranked _ _ _ _ c.args.self.now.graph c.args.self.now.reversed c.args.self.now.ranked c.args.self.now.placed c.index-node.result.now c.index-in-Some.result.now _ _ within c.index-in-Some.ensures c.deref-in-Some-2.ensures.value c.deref-in-Some.ensures.value

pub loop-rank-smaller : goal.loop-rank-smaller
loop-rank-smaller c =
    let inside : c.in-Some.rank < length c.args.self.now.order.items = (c.loop-rank.invariant.waits c.in-Some.rank c.in-Some.ensures.member).0 in
    let at : c.index-node.result.now ≡ get_or c.args.self.now.order.items c.in-Some.rank 0 = c.index-node.ensures ∙ get_or_default_zero _ _ _ inside in
    least_rises _ _ _ _ c.args.self.now.graph c.args.self.now.reversed c.args.self.now.ranked c.args.self.now.placed c.args.base c.in-Some.rank c.index-node.result.now c.index-in-Some.result.now _ _ c.loop-rank.found c.loop-rank.pending c.pop_first.new.self _ c.loop-rank.invariant c.in-Some.ensures.removal c.in-Some.ensures.member (all_above c.pop_first.new.self c.in-Some.rank c.in-Some.ensures.all_above) at c.index-in-Some.ensures c.deref-in-Some-2.ensures.value c.deref-in-Some.ensures.value c.in_ok-add_ranks-2.ensures

pub loop-rank-preserved : goal.loop-rank-preserved
loop-rank-preserved c =
    let inside : c.in-Some.rank < length c.args.self.now.order.items = (c.loop-rank.invariant.waits c.in-Some.rank c.in-Some.ensures.member).0 in
    let at : c.index-node.result.now ≡ get_or c.args.self.now.order.items c.in-Some.rank 0 = c.index-node.ensures ∙ get_or_default_zero _ _ _ inside in
    finding_more _ _ _ _ c.args.self.now.graph c.args.self.now.reversed c.args.self.now.ranked c.args.self.now.placed c.args.base c.in-Some.rank c.index-node.result.now c.index-in-Some.result.now _ _ c.loop-rank.found _ c.loop-rank.pending c.pop_first.new.self _ c.loop-rank.invariant c.in-Some.ensures.member c.in-Some.ensures.updates at c.in_ok-insert.ensures.updates c.index-in-Some.ensures c.deref-in-Some-2.ensures.value c.deref-in-Some.ensures.value c.in_ok-add_ranks-2.ensures

pub returns : goal.returns
returns c =
    finding_all _ _ _ _ c.args.self.now.graph c.args.self.now.reversed c.args.self.now.ranked c.args.self.now.placed c.args.base c.loop-rank.found c.loop-rank.pending c.loop-rank.invariant (no_keys c.loop-rank.pending.keys (λ l. false≢true (c.in_default.ensures.variant.1 l)))
