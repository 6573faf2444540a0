use Rattle.std.proofs.Common.{refl}
use Rattle.std.specs.Cow.{cow_str_bytes}
use Rattle.yv_source.proofs.Tops.{top_of, quoted_given}
use Rattle.yv_source.proofs.machine.give_quoted.Goals as goal

pub returns : goal.returns
returns c =
    let v = c.args.stack.now in
    let top = top_of v.items v.len c.in-Some.statement.now c.extend.new.self v.ok.0 (c.in-Some.ensures.variant.0 refl) c.in-Some.ensures.value in
    quoted_given (cow_str_bytes c.args.text) _ _ _ _ top c.in_ok-extend.ensures.ok
