use Rattle.std.proofs.Common.{◌≡◌, ℕ, List, false, length, map, replicate, sym, ◌∙◌, ap, arith, refl}
use Rattle.yv_expand_rounds.specs.Turns.{State}
use Rattle.yv_expand_rounds.specs.Rounds.{rounds}
use Rattle.yv_expand_rounds.proofs.PendingPaths.{Runs, are_new, runs_none, runs_more, runs_done}
use Rattle.yv_expand_rounds.proofs.augmentation.Augmentation.run_rounds.Goals as goal

pub loop-waiting-init : goal.loop-waiting-init
loop-waiting-init c = record {
  each = refl;
  trails = c.in_ok-waiting.ensures.trails;
  runs = λ labels st is.
      let count : c.len.result ≡ length c.args.self.now.places.labels.items = omega (arith, c.len.ensures) in
      let shown : c.in_ok-waiting.waiting.hidden.marks.items ≡ replicate (length labels) false =
      c.in_ok-waiting.ensures.hides ∙ ap (λ n. replicate n false) (count ∙ ap length is.places.labels_are) in
      let paths : List (List ℕ) = map (λ p. p.items) c.args.paths.now in
      runs_none labels c.args.first paths st c.in_ok-waiting.waiting c.args.self.now is
      (are_new labels st.groups paths c.in_ok-waiting.waiting c.in_ok-waiting.ensures.new shown);
}

pub loop-waiting-preserved : goal.loop-waiting-preserved
loop-waiting-preserved c = record {
  each = c.in_ok-round.ensures.each ∙ c.loop-waiting.invariant.each;
  trails = c.in_ok-round.ensures.trails ∙ c.loop-waiting.invariant.trails;
  runs = λ labels st old.
      let paths : List (List ℕ) = map (λ p. p.items) c.args.paths.now in
      let r : Runs labels c.args.first paths st c.loop-waiting.waiting c.loop-waiting.self = c.loop-waiting.invariant.runs labels st old in
      let now : State = rounds labels c.args.first paths r.count st in
      runs_more labels c.args.first paths st c.loop-waiting.waiting c.round.new.waiting c.loop-waiting.self c.round.new.self r
      (c.in_ok-round.ensures.state labels now r.is r.wait) (c.in_ok-round.ensures.waits labels now r.is r.wait);
}

pub returns : goal.returns
returns c = λ labels st old.
    let paths : List (List ℕ) = map (λ p. p.items) c.args.paths.now in
    let r : Runs labels c.args.first paths st c.loop-waiting.waiting c.loop-waiting.self = c.loop-waiting.invariant.runs labels st old in
    let now : State = rounds labels c.args.first paths r.count st in
    runs_done labels c.args.first paths st c.loop-waiting.waiting c.loop-waiting.self c.round.new.self r
    (c.in_ok-round.ensures.state labels now r.is r.wait) (sym c.if-branch.false ∙ c.in_ok-round.ensures.any labels now r.is r.wait)
