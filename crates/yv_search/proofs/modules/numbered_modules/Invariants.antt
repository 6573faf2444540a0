use Rattle.std.proofs.Common.{◌≡◌, ℕ, List, map, take, Some, string_bytes}
use Rattle.std.specs.Option.{option_map}
use Rattle.yv_search.specs.InnerModules.{row_at, number_in, ref_at}
use Rattle.yv_search.proofs.modules.numbered_modules.Given as goal

abbrev pub invariant-loop-number : goal.invariant-loop-number
invariant-loop-number l = (q : List ℕ) → row_at l.table q ≡ option_map (λ n. Some (ref_at l.roots (map string_bytes l.fn.given) q n)) (number_in (take l.number l.roots) q)
