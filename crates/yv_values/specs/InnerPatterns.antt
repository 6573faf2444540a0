-- Only private clauses cite this: tests as they are shared by types.
use Rattle.std.specs.Prelude.{List, ◌++◌, map}
use Rattle.std.specs.List.{flat_map}
use Rattle.yv_values.specs.Patterns.{Test, test_of}
use Rattle.yv_values.specs.declared.patterns.Block.{Block}
use Rattle.yv_values.specs.declared.patterns.Group.{Group, Own, Pair'}

-- the tests of a group, in order
abbrev pub tests_of : Group → List Test
tests_of (Own own) = map test_of own.items
tests_of (Pair' p first q second) = tests_of first ++ tests_of second

-- those of blocks
abbrev pub tests_in : List Block → List Test
tests_in blocks = flat_map (λ (b : Block). tests_of b.group.value) blocks
