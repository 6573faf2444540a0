-- Only private clauses cite this: the set of bits of a text whose words are given.
use Rattle.std.specs.Prelude.{ℕ, List, ◌&&◌, Option, Some, None, if◌then◌else◌}
use Rattle.std.specs.List.{list_all}
use Rattle.yv_values.specs.Texts.{is_trimmed, is_named, are_distinct, choose}
use Rattle.yv_values.specs.Values.{Val, bits}

abbrev pub bits_of : List (List ℕ) → List ℕ → List (List ℕ) → Option Val
bits_of names s ws =
    if is_trimmed s && (list_all (is_named names) ws && are_distinct ws)
    then Some (bits (choose names ws)) else None
