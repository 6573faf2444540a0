use Rattle.std.proofs.Common.{◌≡◌, ◌<◌, ◌≤◌, ◌-◌, true, length, take, drop, get_or, length-take, length-drop, sym, ◌∙◌, arith}
use Rattle.std.proofs.lemmas.Bool.{eqb-false}
use Rattle.yv_text_if_feature.specs.Bytes.{is_blank}
use Rattle.yv_text_grammar.proofs.WordCuts.{skip_rest}
use Rattle.yv_text_grammar.proofs.words.skip_blanks.Goals as goal

pub loop-rest-preserved : goal.loop-rest-preserved
loop-rest-preserved c =
    let rest = c.loop-rest.rest.now in
    let long : 0 < length rest = omega (arith, eqb-false (length rest) 0 (sym c.is_empty.ensures ∙ c.loop-rest-test.true)) in
    let blank : is_blank (get_or rest 0 0) ≡ true = sym c.is_blank.ensures ∙ c.if-is_blank.true in
    let shorter : length (take (length rest - 1) (drop 1 rest)) ≤ length c.args.text.now = let before = c.loop-rest.invariant.shorter in simp (length-take, length-drop) (omega arith) in
    record { same = skip_rest rest long blank ∙ c.loop-rest.invariant.same; shorter = shorter }
