use Rattle.std.proofs.Common.{◌≡◌, ◌<◌, ◌+◌, length, arith, rules, inr, max}
use Rattle.yv_note_text.proofs.Alike.{exchanged}
use Rattle.yv_note_text.proofs.likeness.differences.Goals as goal

pub returns-then-are_exchanged-clause-single : goal.returns-then-are_exchanged-clause-single
returns-then-are_exchanged-clause-single c =
    let same = c.are_exchanged.ensures.0 c.if-are_exchanged.true in
    let count : length c.args.one.now ≡ c.common_front-front.result + c.common_end-end.result + 2 = omega (arith, same.0) in (
      λ small. inr (exchanged c.args.one.now c.args.other.now c.common_front-front.result c.common_end-end.result same.0 count same.1 same.2 c.common_front-front.ensures.same c.common_end-end.ensures.same),
      λ other. omega arith,
    )
