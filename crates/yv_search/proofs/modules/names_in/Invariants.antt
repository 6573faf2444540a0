use Rattle.std.proofs.Common.{◌≡◌, ℕ, List, map, take, string_bytes}
use Rattle.yv_text_statement.specs.Words.{is_among}
use Rattle.yv_search.specs.InnerNames.{has}
use Rattle.yv_search.proofs.modules.names_in.Given as goal

abbrev pub invariant-loop-name : goal.invariant-loop-name
invariant-loop-name l = (q : List ℕ) → has l.names q ≡ is_among (take l.name-index (map string_bytes l.list)) q
