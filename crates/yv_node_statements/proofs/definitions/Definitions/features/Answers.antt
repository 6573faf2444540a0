use Rattle.std.proofs.Common.{◌+◌, List, ℕ, drop, get_or, string_bytes, sym, ap, ◌∙◌}
use Rattle.std.proofs.lemmas.List.{at_drop_more}
use Rattle.std.proofs.lemmas.Result.{IfOk-weaker}
use Rattle.yv_text_statement.specs.Tree.{trees}
use Rattle.yv_node_statements.specs.Features.{all_expressions, expressions, with_expressions}
use Rattle.yv_node_properties.specs.Statements.{statement_at}
use Rattle.yv_node_statements.specs.Context.{files_in}
use Rattle.yv_node_statements.proofs.Expressions.{no_expressions_at_all}
use Rattle.yv_node_statements.proofs.CommaLists.{expressions_more, separated_one}
use Rattle.yv_node_statements.proofs.definitions.Definitions.features.Goals as goal

pub returns-then-not-gives_features : goal.returns-then-not-gives_features
returns-then-not-gives_features c =
    let files = files_in c.args.self.now in
    let none = no_expressions_at_all files c.args.refines.now (sym c.gives_features.ensures ∙ c.if-not-gives_features.true) in
    IfOk-weaker c.shared_features.result _ _ (λ text is. is ∙ sym (separated_one c.args.own.now.features) ∙ ap (with_expressions c.args.own.now.features) (sym none)) c.shared_features.ensures

pub loop-refine-preserved : goal.loop-refine-preserved
loop-refine-preserved c =
    let files = files_in c.args.self.now in
    let text = string_bytes c.loop-refine.text in
    let refines = c.args.refines.now in
    let i = c.loop-refine.refine-index in
    let own = expressions (trees (statement_at files (get_or refines i 0)).children) in
    let step = at_drop_more (λ (rs : List ℕ). with_expressions text (all_expressions files rs)) refines i 0 c.loop-refine-test.true ∙ expressions_more text own (all_expressions files (drop (i + 1) refines)) in
    ap (λ (front : List ℕ). with_expressions front (all_expressions files (drop (i + 1) refines))) c.in_ok-push_features.ensures ∙ sym step ∙ c.loop-refine.invariant
