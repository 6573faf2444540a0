use Rattle.std.proofs.lemmas.Option.{slice_get-get_or}
use Rattle.yv_link_scopes.specs.Views.{lent_in}
use Rattle.yv_expand_changes.proofs.PropertyOverrides.{said_next}
use Rattle.yv_expand_changes.proofs.properties.last_said.Goals as goal

pub loop-number-preserved : goal.loop-number-preserved
loop-number-preserved c =
    let files = lent_in c.args.rows.now in
    said_next files (c.the_last_statement_stands.ensures.more files) c.args.numbers.now c.loop-number.number-index _
    c.known_at.result c.loop-number.said c.over-said.result (slice_get-get_or c.args.numbers.now c.loop-number.number-index _ c.loop-number-test.true) c.known_at.ensures c.over-said.ensures
    c.loop-number.invariant
