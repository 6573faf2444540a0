use Rattle.std.proofs.Common.{◌∙◌, ◌++◌, ◌∷◌, [], List, ℕ, ap, string_bytes, sym}
use Rattle.std.proofs.lemmas.Result.{IfOk-weaker}
use Rattle.yv_node_statements.specs.Features.{with_single_spaces, with_expressions}
use Rattle.yv_node_statements.proofs.CommaLists.{none_added, one_added}
use Rattle.yv_node_statements.proofs.BlankRuns.{empty_text, spaced_some}
use Rattle.yv_node_statements.proofs.features.push_expression.Goals as goal

pub returns-then-is_empty : goal.returns-then-is_empty
returns-then-is_empty c =
    let text = string_bytes c.args.text.now in
    none_added text ∙ ap (λ (more : List ℕ). with_expressions text (more ∷ [])) (sym (empty_text c.args.expression.now (sym c.is_empty.ensures ∙ c.if-is_empty.true)))

pub returns : goal.returns
returns c =
    let text = string_bytes c.args.text.now in
    let more = c.args.expression.now in
    let some = spaced_some more c.utf8.expression (sym c.is_empty.ensures ∙ c.if-is_empty.false) in
    IfOk-weaker c.push_spaced.result _ _ (λ _ is. is ∙ ap (λ (front : List ℕ). front ++ with_single_spaces more) c.in_ok-push_comma.ensures ∙ one_added text more some) c.push_spaced.ensures
