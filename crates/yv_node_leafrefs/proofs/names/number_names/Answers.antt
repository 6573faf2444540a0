use Rattle.std.proofs.Common.{◌≡◌, ◌<◌, ◌+◌, List, ℕ, Some, length, refl, ap, ◌∙◌, arith}
use Rattle.std.proofs.lemmas.Option.{slice_get_read, slice_get-get_or}
use Rattle.std.specs.List.{slice_get}
use Rattle.yv_nodes.specs.Rows.{Row}
use Rattle.yv_node_leafrefs.specs.InnerNames.{told_of}
use Rattle.yv_node_leafrefs.proofs.AncestorPlaces.{longer}
use Rattle.yv_node_leafrefs.proofs.NameNumbers.{numbers_next}
use Rattle.yv_node_leafrefs.proofs.names.number_names.Goals as goal

pub loop-number-preserved : goal.loop-number-preserved
loop-number-preserved c =
    let rows : List Row = c.args.nodes.now in
    let statements : List ℕ = c.args.statements.now in
    let i = c.loop-number.number in
    let r : Row = c.index-nodes-number.result in
    let at : slice_get rows i ≡ Some r = slice_get_read rows _ i r refl c.loop-number-test.true c.index-nodes-number.is in
    let within : i < length statements = omega (arith, c.loop-number-test.true, c.requires.names.each) in
    let by = slice_get-get_or statements i 0 within in
    let known = c.loop-number.invariant in
    record {
      each = ap length c.in_ok-push.ensures.items ∙ longer c.loop-number.numbers.items c.in_ok-given.given ∙ ap (λ k. k + 1) known.each;
      names = c.in_ok-given.ensures.numbers rows statements c.requires.names at by known.names;
      numbers = numbers_next rows i r at (told_of c.loop-number.names) (told_of c.of_node.new.self) c.in_ok-given.ensures.tells c.loop-number.numbers.items c.push.new.self.items c.in_ok-given.given known.each known.numbers
          (c.in_ok-given.ensures.number rows statements c.requires.names at by known.names) c.in_ok-push.ensures.items;
    }
