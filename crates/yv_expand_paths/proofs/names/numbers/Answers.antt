use Rattle.std.proofs.Common.{◌≡◌, ◌+◌, ℕ, List, Some, sym, ◌∙◌, ap}
use Rattle.std.specs.List.{slice_get}
use Rattle.std.specs.Option.{option_map}
use Rattle.std.proofs.lemmas.Option.{slice_get-map}
use Rattle.yv_link_scopes.specs.Rows.{Row, row}
use Rattle.yv_link_scopes.specs.Views.{rows_in}
use Rattle.yv_expand_statements.specs.Names.{node_name}
use Rattle.yv_expand_paths.specs.InnerNameNumbers.{own_names}
use Rattle.yv_expand_paths.specs.InnerNames.{table_of}
use Rattle.yv_expand_paths.proofs.PathReading.{row_read}
use Rattle.yv_expand_paths.proofs.NameTableGrowth.{Told, told_next, numbers_next}
use Rattle.yv_expand_paths.proofs.names.numbers.Goals as goal

pub loop-number-preserved : goal.loop-number-preserved
loop-number-preserved c =
    let rows : List Row = rows_in c.args.rows.now in
    let names : List (List ℕ) = own_names rows in
    let i : ℕ = c.loop-number.number in
    let r : Row = row c.entry-item.result in
    let at : slice_get rows i ≡ Some r = row_read row _ rows i c.entry-item.result c.entries-entry-items.ensures c.loop-number-test.true c.entry-item.is in
    let name : List ℕ = c.node_name.result.now in
    let named : slice_get names i ≡ Some name = slice_get-map (λ r. node_name r.head) rows i ∙ ap (option_map (λ r. node_name r.head)) at ∙ ap Some (sym c.node_name.ensures) in
    let told : Told names (i + 1) (table_of c.keep.new.self) = told_next names i name named (table_of c.loop-number.table) (table_of c.keep.new.self) c.loop-number.invariant.told c.in_ok-given.ensures.tells in
    record {
      told = told;
      numbers = numbers_next names i name named (table_of c.keep.new.self) c.in_ok-given.given c.loop-number.numbers.items c.push.new.self.items told c.in_ok-given.ensures.number c.in_ok-push.ensures.items c.loop-number.invariant.numbers;
    }
