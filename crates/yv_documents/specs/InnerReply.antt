-- Only private clauses cite this: what is said of a document.
use Rattle.std.specs.Prelude.{ℕ, ◌==◌, Bool, true, false, List, [], ◌∷◌, ◌++◌, map, flat_map, codes, decimal, if◌then◌else◌}
use Rattle.std.specs.declared.option.Option.{Option}
use Rattle.std.specs.declared.option.Option.TheVariants.{None, Some}
use Rattle.yv_data_faults.specs.Flaw.{Flaw}
use Rattle.yv_data_faults.specs.Line.{line_text}
use Rattle.yv_job.specs.declared.job.OutputForm.{OutputForm}
use Rattle.yv_job.specs.declared.job.OutputForm.TheVariants as form
use Rattle.yv_batch.specs.Label.{label_line, label_of}
use Rattle.yv_json_lines.specs.Values.{fault_value, json_line}
use Rattle.yv_json_lines.specs.declared.document.DocumentVerdict.{DocumentVerdict}
use Rattle.yv_json_lines.specs.declared.document.DocumentVerdict.TheVariants as verdict
use Rattle.yv_json_lines.specs.declared.document.ValidationCost.{ValidationCost}
use Rattle.yv_documents.specs.DocumentLines.{cost_lines}
use Rattle.yv_documents.specs.DocumentResults.{results_text}
use Rattle.yv_documents.specs.Steps.{steps_line}
use Rattle.yv_documents.specs.declared.reply.Reply.{Reply}

-- that there are no faults, or how many they are
abbrev pub number_line : ℕ → List ℕ
number_line n = if n == 0 then codes "valid" else codes "faults: " ++ decimal n

-- the line of a verdict
abbrev pub verdict_line : DocumentVerdict → List ℕ
verdict_line (verdict.Validated faults cost) = number_line faults
verdict_line verdict.TooLarge = codes "data: too large"
verdict_line verdict.NotJson = codes "data: not JSON"
verdict_line verdict.CannotRead = codes "data: cannot read"
verdict_line verdict.OutOfMemory = codes "data: out of memory"

-- the cost that is said with it
abbrev pub cost_in : DocumentVerdict → Option ValidationCost
cost_in (verdict.Validated faults cost) = cost
cost_in verdict.TooLarge = None
cost_in verdict.NotJson = None
cost_in verdict.CannotRead = None
cost_in verdict.OutOfMemory = None

-- a cost where measures are asked for
abbrev pub cost_said : (measures : Bool) → ValidationCost → Option ValidationCost
cost_said false cost = None
cost_said true cost = Some cost

-- the line of a cost of a document of this label, where it is said
abbrev pub cost_text : (label : List ℕ) → Option ValidationCost → List ℕ
cost_text label None = []
cost_text label (Some cost) = label_line label (steps_line cost)

-- the lines of faults and of a verdict
abbrev pub reply_lines : List Flaw → DocumentVerdict → List (List ℕ)
reply_lines flaws v = map line_text flaws ++ verdict_line v ∷ cost_lines (cost_in v)

-- what is written of a document of this name and line in a form
abbrev pub reply_text : OutputForm → (name : List ℕ) → (line : Option ℕ) → List Flaw
    → DocumentVerdict → List ℕ
reply_text form.Text name line flaws v =
    flat_map (label_line (label_of name line)) (reply_lines flaws v)
reply_text form.Json name line flaws v = results_text name line flaws v

-- the same of a reply
abbrev pub text_of : OutputForm → (name : List ℕ) → (line : Option ℕ) → Reply → List ℕ
text_of f name line r = reply_text f name line r.faults.now r.verdict

-- how good a document of so many faults is
abbrev pub number_level : ℕ → ℕ
number_level n = if n == 0 then 0 else 1

-- how good a document of this verdict is
abbrev pub verdict_level : DocumentVerdict → ℕ
verdict_level (verdict.Validated faults cost) = number_level faults
verdict_level verdict.TooLarge = 2
verdict_level verdict.NotJson = 2
verdict_level verdict.CannotRead = 3
verdict_level verdict.OutOfMemory = 3

-- the line of a fault of a document of this name and line, as a JSON object
unfoldable pub fault_result : (name : List ℕ) → (line : Option ℕ) → Flaw → List ℕ
fault_result name line f = json_line (fault_value name line f)
