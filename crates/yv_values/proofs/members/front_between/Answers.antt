use Rattle.std.proofs.Common.{◌≡◌, List, length, map, arith, Bor}
use Rattle.std.proofs.lemmas.List.{length-map}
use Rattle.yv_values.specs.declared.members.Member.{Member}
use Rattle.yv_values.specs.Identities.{Id, id_of}
use Rattle.yv_values.proofs.NumberedIdentities.{front_all, front_full}
use Rattle.yv_values.proofs.members.front_between.Goals as goal
use Rattle.yv_values.proofs.members.front_between.Goals.{else-loop-entry-test, then-loop-entry-test+then-len-most}

pub returns : goal.returns
returns c =
    let ids : List Id = map (λ (m : Bor Member). id_of m.now) c.loop-entry.front.items in
    let long : length ids ≡ length c.loop-entry.front.items = length-map c.loop-entry.front.items (λ (m : Bor Member). id_of m.now) in
    elim c.loop-entry-test.branch [
      | else-loop-entry-test w ↦ front_all c.args.low c.args.high c.args.most c.loop-entry.entry-index c.args.entries.now ids c.loop-entry.invariant.each (omega (arith, w.loop-entry-test.false)) (omega (arith, long, c.loop-entry.invariant.few))
      | then-loop-entry-test+then-len-most w ↦ front_full c.args.low c.args.high c.args.most c.loop-entry.entry-index c.args.entries.now ids c.loop-entry.invariant.each (let full : length ids ≡ c.args.most = omega (arith, long, w.if-len-most.true, w.len.ensures, c.loop-entry.invariant.few) in full)
    ]
