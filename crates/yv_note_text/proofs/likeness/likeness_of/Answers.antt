use Rattle.std.proofs.Common.{◌≤◌, ◌<◌, ◌≡◌, ◌⊎◌, inl, inr, ℕ, max, length, arith}
use Rattle.std.proofs.lemmas.Bool.{both_ways}
use Rattle.yv_note_text.proofs.likeness.likeness_of.Goals as goal
use Rattle.yv_note_text.proofs.likeness.likeness_of.Goals.{else-apart-eq2-via-then-apart-eq2+else-max, else-apart-eq2-via-else-apart-eq2}

short : (m a b : ℕ) → m < 6 → m ≡ max a b → (6 ≤ a) ⊎ (6 ≤ b) → ⊥
short m a b low is (inl long) = omega arith
short m a b low is (inr long) = omega arith

pub returns-then-is_front : goal.returns-then-is_front
returns-then-is_front c = (
  c.requires.other,
  λ one. absurd (let small = c.differences-apart.ensures.single.1 one.1 in omega (arith, small)),
  λ two. elim c.else-apart-eq2.branch [
    | else-apart-eq2-via-then-apart-eq2+else-max w ↦ short w.max.result (length c.args.written.now) (length c.args.name.now) w.if-max.false w.max.ensures two.2
    | else-apart-eq2-via-else-apart-eq2 w ↦ let small = c.differences-apart.ensures.double.1 two.1 in w.if-apart-eq2.false (omega (arith, small))
  ],
  (c.requires.lengths, c.is_front.ensures.0 c.if-is_front.true),
)

pub returns-else-is_front : goal.returns-else-is_front
returns-else-is_front c = (
  c.requires.other,
  λ one. absurd (let small = c.differences-apart.ensures.single.1 one.1 in omega (arith, small)),
  λ two. elim c.else-apart-eq2.branch [
    | else-apart-eq2-via-then-apart-eq2+else-max w ↦ short w.max.result (length c.args.written.now) (length c.args.name.now) w.if-max.false w.max.ensures two.2
    | else-apart-eq2-via-else-apart-eq2 w ↦ let small = c.differences-apart.ensures.double.1 two.1 in w.if-apart-eq2.false (omega (arith, small))
  ],
  λ front. both_ways c.is_front.result c.if-is_front.false (c.is_front.ensures.1 front.1),
)
