use Rattle.std.proofs.Common.{◌≡◌, List, ℕ, Some, refl, subst}
use Rattle.std.specs.List.{slice_get}
use Rattle.std.proofs.lemmas.Option.{slice_get_read}
use Rattle.yv_source.specs.Answer.{IsSpelled}
use Rattle.yv_source.proofs.FileReading.{statements_more}
use Rattle.yv_source.proofs.statements.parse_all.Goals as goal

pub loop-number-preserved : goal.loop-number-preserved
loop-number-preserved c =
    let at : slice_get c.args.texts.now c.loop-number.number ≡ Some c.index-texts-number.result = slice_get_read c.args.texts.now _ c.loop-number.number c.index-texts-number.result refl c.loop-number-test.true c.index-texts-number.is in
    let P : List ℕ → Type 0 = λ l. IsSpelled l c.in-Ok.statement in
    let spells : P c.index-texts-number.result = subst P c.as_str.ensures.value c.in-Ok.ensures in
    statements_more c.args.texts.now c.loop-number.statements.items c.push.new.self.items c.loop-number.number c.index-texts-number.result c.in-Ok.statement at spells c.in_ok-push-in-Ok.ensures.items c.loop-number.invariant
