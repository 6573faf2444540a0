use Rattle.std.proofs.Common.{◌≡◌, ◌<◌, length, sym, ap, ◌∙◌, arith}
use Rattle.yv_expand_rounds.specs.InnerPendingPaths.{last_end}
use Rattle.yv_expand_rounds.proofs.FollowedPaths.{follows_all, follows_more, follows_none, follows_step, last_pushed}
use Rattle.yv_expand_rounds.proofs.places.ItemPlaces.follow.Goals as goal

pub loop-end-init : goal.loop-end-init
loop-end-init c = record {
  end = c.end-end.ensures;
  follows = λ labels groups are leads. follows_none labels groups c.args.path.now c.args.trail.now.ends.items leads;
}

pub loop-end-preserved : goal.loop-end-preserved
loop-end-preserved c = record {
  end = sym (ap last_end c.in_ok-push.ensures.items ∙ last_pushed c.loop-end.trail.ends.items c.in-Some.next);
  follows = λ labels groups are leads.
      let limit : c.len-limit.result ≡ length c.args.self.now.labels.items = omega (arith, c.len-limit.ensures) in
      let here : c.len-in-loop-end.result ≡ length c.loop-end.trail.ends.items = omega (arith, c.len-in-loop-end.ensures) in
      let l : length c.loop-end.trail.ends.items < length c.args.path.now = omega (arith, c.loop-end-test.true, c.len.ensures) in
      follows_more labels groups c.args.path.now c.args.trail.now.ends.items c.loop-end.trail.ends.items c.push.new.self.items c.in-Some.next
      (c.loop-end.invariant.follows labels groups are leads) l
      (follows_step labels groups c.args.path.now c.loop-end.trail.ends.items c.len-limit.result c.len-in-loop-end.result c.loop-end.end _
      (limit ∙ ap length are.labels_are) c.loop-end.invariant.end here (sym (c.step.ensures labels groups are) ∙ c.in-Some.is))
      c.in_ok-push.ensures.items;
}

pub returns-in_default : goal.returns-in_default
returns-in_default c = λ labels groups are leads.
    let limit : c.len-limit.result ≡ length c.args.self.now.labels.items = omega (arith, c.len-limit.ensures) in
    let here : c.len-in-loop-end.result ≡ length c.loop-end.trail.ends.items = omega (arith, c.len-in-loop-end.ensures) in
    follows_all labels groups c.args.path.now c.args.trail.now.ends.items c.loop-end.trail.ends.items (c.loop-end.invariant.follows labels groups are leads)
    (λ l. follows_step labels groups c.args.path.now c.loop-end.trail.ends.items c.len-limit.result c.len-in-loop-end.result c.loop-end.end _
    (limit ∙ ap length are.labels_are) c.loop-end.invariant.end here (sym (c.step.ensures labels groups are) ∙ c.in_default.is))
