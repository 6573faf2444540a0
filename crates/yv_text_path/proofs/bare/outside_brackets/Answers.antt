use Rattle.std.proofs.Common.{◌≡◌, ◌++◌, List, ℕ, Some, None, false, string_bytes, sym, ap, ◌∙◌, append_assoc, arith}
use Rattle.std.proofs.lemmas.Str.Pattern.{split_once_first}
use Rattle.yv_text_path.specs.InnerBrackets.{outside}
use Rattle.yv_text_path.proofs.BarePaths.{one_turn, outside_none}
use Rattle.yv_text_path.proofs.bare.outside_brackets.Goals as goal

pub loop-steps-preserved : goal.loop-steps-preserved
loop-steps-preserved c =
    let text = c.loop-steps.rest.now in
    let steps = c.in-Some.steps.now in
    let rest = c.after_bracket-rest.result.now in
    let before = string_bytes c.loop-steps.path in
    let parts = split_once_first 91 text (Some (c.in-Some.steps, c.in-Some.predicate)) c.in-Some.ensures.cases (omega arith) in
    let turn : steps ++ outside false rest ≡ outside false text = one_turn text steps c.in-Some.predicate.now rest parts.0 parts.1 parts.2 c.after_bracket-rest.ensures in (
      c.after_bracket-rest.utf8,
      ap (λ (x : List ℕ). x ++ outside false rest) c.in_ok-push_str.ensures.bytes ∙ append_assoc before steps (outside false rest)
          ∙ ap (λ (x : List ℕ). before ++ x) turn ∙ c.loop-steps.invariant.1,
    )

pub returns : goal.returns
returns c =
    let text = c.loop-steps.rest.now in
    let none : outside false text ≡ text = outside_none text (split_once_first 91 text None c.in_default.ensures.cases (omega arith)) in
    c.in_ok-push_str-2.ensures.bytes ∙ ap (λ (x : List ℕ). string_bytes c.loop-steps.path ++ x) (sym none) ∙ c.loop-steps.invariant.1
