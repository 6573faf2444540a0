use Rattle.std.proofs.Common.{◌≡◌, ◌≤◌, ◌<◌, ℕ, List, sym, ◌∙◌, ap, map, arith, refl, length, length-set, Some, Vec, Global}
use Rattle.std.specs.List.{slice_get}
use Rattle.std.specs.Option.{option_map}
use Rattle.std.proofs.lemmas.List.{length-map}
use Rattle.std.proofs.lemmas.Option.{slice_get_read, slice_get-map}
use Rattle.yv_expand_rounds.specs.declared.trail.Trail.{Trail}
use Rattle.yv_expand_rounds.specs.InnerState.{count_left}
use Rattle.yv_expand_rounds.specs.InnerPendingPaths.{IsTrail}
use Rattle.yv_expand_rounds.proofs.PendingPaths.{Resumes, resumes_none, resumes_more, resumes_all, resumes_waiting, fewer_or}
use Rattle.yv_expand_rounds.proofs.augmentation.Augmentation.round.Goals as goal

pub loop-index-init : goal.loop-index-init
loop-index-init c = record {
  each = refl;
  trails = refl;
  fewer = omega arith;
  resumes = λ labels st is are. resumes_none labels c.args.first (map (λ p. p.items) c.args.paths.now) st c.args.waiting.now c.args.self.now is are;
}

pub loop-index-preserved : goal.loop-index-preserved
loop-index-preserved c =
    let view : Vec ℕ Global → List ℕ = λ p. p.items in
    let paths : List (List ℕ) = map view c.args.paths.now in
    let i : ℕ = c.loop-index.index in
    let t : Trail = c.index_mut-trail.result.now in
    let at : slice_get paths i ≡ Some c.deref.result.now =
    slice_get-map view c.args.paths.now i
    ∙ ap (option_map view) (slice_get_read c.args.paths.now _ i c.index-paths-index.result refl c.loop-index-test.true c.index-paths-index.is)
    ∙ ap Some (sym c.deref.ensures.value) in
    let within : i < length c.loop-index.waiting.trails.items = omega (arith, c.loop-index-test.true, c.loop-index.invariant.trails, c.requires.trails) in
    let trail_at : slice_get c.loop-index.waiting.trails.items i ≡ Some t =
    slice_get_read c.loop-index.waiting.trails.items _ i t refl within c.index_mut-trail.ensures.value in
    record {
      each = c.in_ok-applied.ensures.each ∙ c.loop-index.invariant.each;
      trails = length-set c.loop-index.waiting.trails.items i c.turn_from_top.new.trail ∙ c.loop-index.invariant.trails;
      fewer = fewer_or c.loop-index.any c.in_ok-applied.applied (count_left c.turn_from_top.new.self.ends.items) (count_left c.loop-index.self.ends.items)
          (count_left c.args.self.now.ends.items) c.in_ok-applied.ensures.leaves c.loop-index.invariant.fewer;
      resumes = λ labels st old are.
          let r : Resumes labels c.args.first paths st i c.loop-index.any c.loop-index.waiting c.loop-index.self = c.loop-index.invariant.resumes labels st old are in
          let own : IsTrail labels r.going.now.groups c.loop-index.waiting.hidden.marks.items c.deref.result.now t.ends.items =
          r.wait.trails i c.deref.result.now t at trail_at in
          resumes_more labels c.args.first paths st i c.loop-index.any c.in_ok-applied.applied c.loop-index.waiting _ c.turn_from_top.new.trail c.loop-index.self
          c.turn_from_top.new.self c.deref.result.now r at
          (c.in_ok-applied.ensures.state labels r.going.now r.going.is own) (c.in_ok-applied.ensures.takes labels r.going.now r.going.is own) refl
          (c.in_ok-applied.ensures.trail labels r.going.now r.going.is r.wait.closed own)
          (c.in_ok-applied.ensures.others labels r.going.now r.going.is r.wait.closed own);
    }

pub returns-clause-state : goal.returns-clause-state
returns-clause-state c = λ labels st old are.
    let view : Vec ℕ Global → List ℕ = λ p. p.items in
    let past : length (map view c.args.paths.now) ≤ c.loop-index.index = omega (arith, length-map c.args.paths.now view, c.loop-index-test.false) in
    (resumes_all labels c.args.first (map view c.args.paths.now) st c.loop-index.index c.loop-index.any c.loop-index.waiting c.loop-index.self past
    (c.loop-index.invariant.resumes labels st old are)).0

pub returns-clause-any : goal.returns-clause-any
returns-clause-any c = λ labels st old are.
    let view : Vec ℕ Global → List ℕ = λ p. p.items in
    let past : length (map view c.args.paths.now) ≤ c.loop-index.index = omega (arith, length-map c.args.paths.now view, c.loop-index-test.false) in
    (resumes_all labels c.args.first (map view c.args.paths.now) st c.loop-index.index c.loop-index.any c.loop-index.waiting c.loop-index.self past
    (c.loop-index.invariant.resumes labels st old are)).1

pub returns-clause-waits : goal.returns-clause-waits
returns-clause-waits c = λ labels st old are.
    let view : Vec ℕ Global → List ℕ = λ p. p.items in
    let past : length (map view c.args.paths.now) ≤ c.loop-index.index = omega (arith, length-map c.args.paths.now view, c.loop-index-test.false) in
    resumes_waiting labels c.args.first (map view c.args.paths.now) st c.loop-index.index c.loop-index.any c.loop-index.waiting c.loop-index.self past
    (c.loop-index.invariant.resumes labels st old are)
