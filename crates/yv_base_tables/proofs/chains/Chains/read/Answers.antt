use Rattle.std.proofs.Common.{◌≡◌, ℕ, ◌+◌, ◌-◌, ◌<◌, length, refl, subst, arith}
use Rattle.yv_base_tables.specs.InnerChains.{AreChains}
use Rattle.yv_base_tables.proofs.NumberChains.{linked_more}
use Rattle.yv_base_tables.proofs.chains.Chains.read.Goals as goal

pub loop-left-preserved : goal.loop-left-preserved
loop-left-preserved c =
    let k : ℕ = c.loop-left.left - 1 in
    let back : c.loop-left.left ≡ k + 1 = omega (arith, c.loop-left-test.true) in
    let within : k < length c.args.places.now = omega (arith, c.loop-left-test.true, c.loop-left.invariant.within) in
    record {
      within = omega (arith, within);
      linked = linked_more c.args.places.now c.args.count k c.loop-left.chains c.link.new.self (subst (λ (n : ℕ). AreChains c.args.places.now c.args.count n c.loop-left.chains) back c.loop-left.invariant.linked) within _ refl c.link.ensures;
    }
