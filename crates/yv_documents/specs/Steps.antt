-- What the validation of a document costs: its steps, and the most that it may take.
use Rattle.std.specs.Prelude.{ℕ, ◌+◌, ◌*◌, List, ◌++◌, Bool, true, false, codes, decimal}
use Rattle.std.specs.declared.option.Option.{Option}
use Rattle.std.specs.declared.option.Option.TheVariants.{None, Some}
use Rattle.serde_json.specs.Data.{Data}
use Rattle.yv_text_statement.specs.declared.document_kind.Kind.{Kind}
use Rattle.yv_values.specs.Count.{count_up}
use Rattle.yv_nodes.specs.Rows.{Rows, whole}
use Rattle.yv_schema_tables.specs.Measures.{measures_of}
use Rattle.yv_schema_tables.specs.declared.measures.Measures.{Measures}
use Rattle.yv_validate.specs.Size.{size}
use Rattle.yv_validate.specs.Work.{work}
use Rattle.yv_json_lines.specs.declared.document.ValidationCost.{ValidationCost}

-- the sum of what is measured, and one more
abbrev pub weight_in : Measures → ℕ
weight_in measures = measures.m + measures.u + measures.w + 1

-- the most steps for each member and item, and for the whole document
abbrev pub weight_of : Rows → ℕ
weight_of s = weight_in (measures_of (whole s))

-- the most steps of a validation, `(n + 1) * (m + u + w + 1)`, or 2^64 - 1 where that is more
abbrev pub bound_of : Rows → Data → ℕ
bound_of s d = count_up ((size d + 1) * weight_of s)

-- the steps that are counted
abbrev pub steps_of : Kind → Rows → Data → ℕ
steps_of k s d = count_up (work k s d)

-- the cost where so many steps were counted
abbrev pub cost_with : Rows → Data → (steps : ℕ) → ValidationCost
cost_with s d steps = record { size = size d; steps = steps; bound = bound_of s d }

-- the cost of the validation of a document of a kind
abbrev pub cost_of : Kind → Rows → Data → ValidationCost
cost_of k s d = cost_with s d (steps_of k s d)

-- the same where measures are asked for
abbrev pub cost_if : (measures : Bool) → Kind → Rows → Data → Option ValidationCost
cost_if false k s d = None
cost_if true k s d = Some (cost_of k s d)

-- the line of a cost: the steps, and the most steps
abbrev pub steps_line : ValidationCost → List ℕ
steps_line cost =
    codes "steps: " ++ (decimal cost.steps ++ (codes " of " ++ decimal cost.bound))
