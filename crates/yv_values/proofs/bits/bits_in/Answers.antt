use Rattle.std.proofs.Common.{◌<◌, List, ℕ, Bor, length, map, subst, sym}
use Rattle.yv_values.specs.Texts.{words}
use Rattle.yv_values.specs.InnerNames.{Arranges}
use Rattle.yv_values.proofs.BitSets.{bits_arranged}
use Rattle.yv_values.proofs.Fewer.{too_many_words}
use Rattle.yv_values.proofs.bits.bits_in.Goals as goal

pub returns-then-has_more_words : goal.returns-then-has_more_words
returns-then-has_more_words c =
    let more : length c.args.names.now < length (words c.args.text.now) = let m = c.has_more_words.ensures c.if-has_more_words.true in subst (λ n. n < length (words c.args.text.now)) c.len.ensures m in
    sym (too_many_words c.args.names.now c.args.text.now more)

pub returns : goal.returns
returns c =
    let arranged = subst (λ (ws : List (Bor (List ℕ))). Arranges (words c.args.text.now) (map (λ w. w.now) ws)) (sym c.deref.ensures.value) c.in_ok-words.ensures in
    rw (bits_arranged c.args.names.now c.args.text.now (map (λ (w : Bor (List ℕ)). w.now) c.deref.result.now) arranged) c.bits_of.ensures
