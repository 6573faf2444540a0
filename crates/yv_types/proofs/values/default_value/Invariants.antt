use Rattle.std.proofs.Common.{◌≡◌, drop, map}
use Rattle.yv_values.specs.Types.{plain_of}
use Rattle.yv_values.specs.Scopes.{place_of}
use Rattle.yv_types.specs.Values.{first_value}
use Rattle.yv_types.proofs.values.default_value.Given as goal

abbrev pub invariant-loop-plain : goal.invariant-loop-plain
invariant-loop-plain l =
    first_value (map plain_of (drop l.plain-index l.types)) l.text (place_of l.scope) ≡ first_value (map plain_of l.types) l.text (place_of l.scope)
