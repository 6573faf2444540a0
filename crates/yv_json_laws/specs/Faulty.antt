-- What a fault is about, of what is met where it is.
use Rattle.std.specs.Prelude.{Bool, true, false, Option, Some}
use Rattle.serde_json.specs.Data.{Data}
use Rattle.yv_data_leafrefs.specs.Meetings.{found_of, Meeting, stand, at_value, at_end, at_node}
use Rattle.yv_data_leafrefs.specs.Place.{step_name}
use Rattle.yv_data_faults.specs.declared.fault.FaultKind.{FaultKind}
use Rattle.yv_data_faults.specs.declared.fault.FaultKind.TheVariants.{Unknown, Shape, Value, MissingKey, Duplicate, Unique, Mandatory, Min, Max, Choice, Reference, State}
use Rattle.yv_json_lines.specs.Pointer.{is_choice_at}

-- what is written where something is met; for a node there may be nothing
abbrev pub found_at : Meeting → Option Data
found_at (stand m) = Some m.found
found_at (at_value m) = Some m.found
found_at (at_end m) = Some m.found
found_at (at_node m) = found_of m

-- a fault of this kind may be about something that is missing: a key, what is mandatory, or a list
-- with too few entries
abbrev pub may_be_missing : FaultKind → Bool
may_be_missing Unknown = false
may_be_missing Shape = false
may_be_missing Value = false
may_be_missing MissingKey = true
may_be_missing Duplicate = false
may_be_missing Unique = false
may_be_missing Mandatory = true
may_be_missing Min = true
may_be_missing Max = false
may_be_missing Choice = false
may_be_missing Reference = false
may_be_missing State = false

-- a fault of this kind that is met here is at a choice, by the name that its node has in a path
abbrev pub is_at_choice : FaultKind → Meeting → Bool
is_at_choice kind (at_node m) = is_choice_at kind (step_name m.label)
is_at_choice kind _ = false
