use Rattle.std.proofs.Common.{refl}
use Rattle.yv_source.proofs.Tops.{top_of, adopted}
use Rattle.yv_source.proofs.machine.finish.Goals as goal

pub returns : goal.returns
returns c =
    let v = c.args.stack.now in
    let top = top_of v.items v.len c.in-Some.parent.now c.adopt.new.self v.ok.0 (c.in-Some.ensures.variant.0 refl) c.in-Some.ensures.value in
    adopted c.args.done _ _ _ _ top c.in_ok-adopt.ensures.ok
