-- Which values the members of an object write, by the numbers of their nodes.
use Rattle.std.specs.Prelude.{ℕ, ◌==◌, Option, Some, None, if◌then◌else◌}
use Rattle.std.specs.Option.{option_map}
use Rattle.std.specs.Ordering.{nat_cmp}
use Rattle.std.specs.BTreeMap.{get_by}
use Rattle.serde_json.specs.Data.{Data}
use Rattle.serde_json.specs.View.{view}
use Rattle.yv_walk.specs.declared.written_values.WrittenValues.{WrittenValues}

-- the value at a number
abbrev pub value_at : WrittenValues → ℕ → Option Data
value_at w n = option_map (λ v. view v.now) (get_by (nat_cmp n) w.values)

-- the first of two values that may be there
abbrev pub first_of : Option Data → Option Data → Option Data
first_of None b = b
first_of (Some a) b = Some a

-- with one more value, where the number has none yet
abbrev pub keep_first : (ℕ → Option Data) → ℕ → Data → ℕ → Option Data
keep_first values number d n = first_of (values n) (if number == n then Some d else None)
