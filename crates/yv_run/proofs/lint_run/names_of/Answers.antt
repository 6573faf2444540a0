use Rattle.std.proofs.Common.{◌∙◌, ℕ, List, ap, map, take, string_bytes}
use Rattle.std.proofs.lemmas.List.{take_all, take_min}
use Rattle.yv_base_streams.specs.declared.input.Input.{Input}
use Rattle.yv_run.proofs.LintLemmas.{first_paths}
use Rattle.yv_run.proofs.lint_run.names_of.Goals as goal

pub returns : goal.returns
returns c =
    let paths : List Input → List (List ℕ) = map (λ (i : Input). string_bytes i.name) in
    let inputs = c.args.inputs.now in
    c.loop-input.invariant
    ∙ ap paths (take_all c.loop-input.input-index (take c.min.result inputs) c.loop-input-test.false)
    ∙ ap (λ (n : ℕ). paths (take n inputs)) c.min.ensures
    ∙ ap paths (take_min c.args.named inputs)
    ∙ first_paths c.args.named inputs
