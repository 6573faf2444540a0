use Rattle.std.proofs.Common.{◌∙◌, ℕ, sym, get_or, arith}
use Rattle.std.proofs.lemmas.Option.{slice_get-get_or}
use Rattle.yv_type_identities.proofs.Meeting.{known_all, meets_all, meets_more}
use Rattle.yv_type_identities.proofs.shared_members.SharedMembers.run_of_all.Goals as goal

pub loop-base-preserved : goal.loop-base-preserved
loop-base-preserved c =
    let k : ℕ × ℕ = get_or c.args.key.now c.loop-base.base-index (0, 0) in
    meets_more c.args.self.now c.args.key.now c.loop-base.base-index k c.loop-base.met c.in_ok-run_of.field-0 c.narrow.result (slice_get-get_or c.args.key.now c.loop-base.base-index (0, 0) c.loop-base-test.true) (sym c.run_of.ensures ∙ c.in_ok-run_of.was) c.narrow.ensures c.loop-base.invariant

pub returns-clause-known : goal.returns-clause-known
returns-clause-known c = known_all c.args.self.now c.args.key.now c.loop-base.base-index c.loop-base.met (omega (arith, c.loop-base-test.false)) c.loop-base.invariant

pub returns-clause-met : goal.returns-clause-met
returns-clause-met c = meets_all c.args.self.now c.args.key.now c.loop-base.base-index c.loop-base.met (omega (arith, c.loop-base-test.false)) c.loop-base.invariant
