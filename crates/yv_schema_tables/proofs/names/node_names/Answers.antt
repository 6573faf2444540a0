use Rattle.std.proofs.Common.{◌≡◌, ℕ, ◌<◌, List, length, take, refl, sym, ap, subst, arith}
use Rattle.std.proofs.lemmas.List.{length-take-le}
use Rattle.std.proofs.lemmas.Option.{slice_get-get_or}
use Rattle.yv_nodes.specs.Rows.{blank_row}
use Rattle.yv_schema_tables.specs.InnerNames.{AreNumbersOf, names_of}
use Rattle.yv_schema_tables.proofs.NameNumbers.{names_count}
use Rattle.yv_schema_tables.proofs.Numbering.{names_next}
use Rattle.yv_schema_tables.proofs.names.node_names.Goals as goal

pub number_next-requires-clause-few : goal.number_next-requires-clause-few
number_next-requires-clause-few c =
    let rows = c.args.nodes.now.rows in
    let i = c.loop-number.number in
    let few : length (take i rows) ≡ i = length-take-le i rows (omega arith) in
    omega (arith, c.loop-number.invariant.named.counted, names_count (take i rows), few, c.requires)

pub loop-number-preserved : goal.loop-number-preserved
loop-number-preserved c =
    let rows = c.args.nodes.now.rows in
    let i = c.loop-number.number in
    let h = c.loop-number.invariant in
    let before : AreNumbersOf (names_of (take i rows)) rows c.deref.result.now = subst (AreNumbersOf (names_of (take i rows)) rows) (sym c.deref.ensures.value) h.gives in
    let at = slice_get-get_or rows i blank_row (omega arith) in
    names_next rows c.loop-number.names c.number_next.new.self c.loop-number.of_nodes.items c.push.new.self.items i c.in_ok-name.name _ h at
    (c.in_ok-name.ensures.names (names_of (take i rows)) h.named before) (c.in_ok-name.ensures.number (names_of (take i rows)) h.named before) c.in_ok-push.ensures.items
