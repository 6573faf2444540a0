use Rattle.std.proofs.Common.{◌≡◌, ◌+◌, length, arith, refl}
use Rattle.yv_expand_rounds.proofs.Empty.{empty_more, are_empty, pushed_length}
use Rattle.yv_expand_rounds.proofs.places.ItemPlaces.new.Goals as goal

pub loop-preserved : goal.loop-preserved
loop-preserved c = (
  pushed_length c.loop.groups.items c.push.new.self.items c.new.result c.loop.counter c.in_ok-push.ensures.items c.loop.invariant.0,
  empty_more c.loop.groups.items c.push.new.self.items c.new.result c.loop.invariant.1 c.new.ensures c.in_ok-push.ensures.items,
)

pub loop-2-init : goal.loop-2-init
loop-2-init c =
    let count : c.loop.counter ≡ length c.args.labels.items = omega (arith, c.len-end.ensures, c.loop-test.false) in
    let each : length c.push-2.new.self.items ≡ c.loop.counter + 1 =
    pushed_length c.loop.groups.items c.push-2.new.self.items c.new-2.result c.loop.counter c.in_ok-push-2.ensures.items c.loop.invariant.0 in (
      omega (arith, each, count),
      empty_more c.loop.groups.items c.push-2.new.self.items c.new-2.result c.loop.invariant.1 c.new-2.ensures c.in_ok-push-2.ensures.items,
    )

pub loop-2-preserved : goal.loop-2-preserved
loop-2-preserved c =
    let n = length c.args.labels.items + 1 + c.loop-2.counter in
    let each : length c.push-in-loop-2.new.self.items ≡ n + 1 =
    pushed_length c.loop-2.groups.items c.push-in-loop-2.new.self.items c.new-in-loop-2.result n c.in_ok-push-3.ensures.items c.loop-2.invariant.0 in (
      omega (arith, each),
      empty_more c.loop-2.groups.items c.push-in-loop-2.new.self.items c.new-in-loop-2.result c.loop-2.invariant.1 c.new-in-loop-2.ensures
          c.in_ok-push-3.ensures.items,
    )

pub returns-clause-state : goal.returns-clause-state
returns-clause-state c =
    let n = length c.args.labels.items + 1 + c.args.others in
    let each : length c.loop-2.groups.items ≡ n = omega (arith, c.loop-2-test.false, c.loop-2.invariant.0) in
    record { labels_are = refl; groups_are = are_empty c.args.labels.items c.loop-2.groups.items n each c.loop-2.invariant.1 }

pub returns-clause-count : goal.returns-clause-count
returns-clause-count c = omega (arith, c.loop-2-test.false, c.loop-2.invariant.0)
