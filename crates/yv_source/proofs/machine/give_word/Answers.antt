use Rattle.std.proofs.Common.{refl}
use Rattle.yv_source.proofs.Tops.{top_of, word_given}
use Rattle.yv_source.proofs.machine.give_word.Goals as goal

pub returns : goal.returns
returns c =
    let v = c.args.stack.now in
    let top = top_of v.items v.len c.in-Some.statement.now c.lend.new.self v.ok.0 (c.in-Some.ensures.variant.0 refl) c.in-Some.ensures.value in
    word_given c.args.text.now _ _ _ _ top c.lend.ensures
