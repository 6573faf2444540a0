use Rattle.std.proofs.Common.{◌≡◌, Some, map, take}
use Rattle.yv_link_scopes.specs.Views.{rows_in}
use Rattle.yv_expand_paths.specs.InnerNameNumbers.{own_names, place_of}
use Rattle.yv_expand_paths.specs.InnerNames.{table_of}
use Rattle.yv_expand_paths.proofs.NameTableGrowth.{Told}
use Rattle.yv_expand_paths.proofs.names.numbers.Given as goal

abbrev pub invariant-loop-number : goal.invariant-loop-number
invariant-loop-number l = record {
  told : Told (own_names (rows_in l.rows)) l.number (table_of l.table);
  numbers : map (λ n. Some n) l.numbers.items ≡ map (place_of (own_names (rows_in l.rows))) (take l.number (own_names (rows_in l.rows)));
}
