use Rattle.std.proofs.Common.{◌≡◌, length, sym, ap, ◌∙◌, arith}
use Rattle.std.proofs.lemmas.List.{length-map}
use Rattle.yv_data_quiet.specs.NamedLeafs.{uniques_at}
use Rattle.yv_validate.specs.InnerNotes.{list_tuple}
use Rattle.yv_validate.proofs.Each.{each_nothing}
use Rattle.yv_validate.proofs.walk.Walk.no_tuples.Goals as goal

pub returns : goal.returns
returns c =
    let s = c.args.self.now.schema.now in
    let rows = c.uniques-statement-items.result.now in
    let us = uniques_at s c.args.id in
    let many : length us ≡ length rows = sym (ap length c.uniques-statement-items.ensures) ∙ length-map rows _ in
    let same : length c.loop-statement.uniques.items ≡ length us = omega (arith, many, c.loop-statement.invariant.same, c.loop-statement-test.false) in
    each_nothing c.loop-statement.uniques.items (list_tuple c.args.self.now.kind s c.args.id) us same c.loop-statement.invariant.empty
