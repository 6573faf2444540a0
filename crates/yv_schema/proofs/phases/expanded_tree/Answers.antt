use Rattle.std.proofs.lemmas.Result.{IfOk-weaker}
use Rattle.yv_text_statement.specs.Selection.{selected_of}
use Rattle.yv_link.specs.LinkedFiles.{truth_in}
use Rattle.yv_expand_statements.specs.Truth.{IsTruth}
use Rattle.yv_schema.proofs.ExpandedTree.{TreeLaws, none_refused, on_ok_from, one_refused, shows_tree}
use Rattle.yv_schema.proofs.phases.expanded_tree.Goals as goal

pub final_tree-requires : goal.final_tree-requires
final_tree-requires c =
    let choice = selected_of c.args.selection.now in
    let files = c.requires.files in
    let named = c.requires.named in
    let lent = c.rows.ensures files choice named.clear.are in
    let names = named.are_names in
    rw lent names

pub returns-clause-shows : goal.returns-clause-shows
returns-clause-shows c = λ files named.
    let choice = selected_of c.args.selection.now in
    let lent = c.rows.ensures files choice named.clear.are in
    let laws : TreeLaws = record {
      skipping = c.skipping_refuses_no_more.ensures;
      left_is_schema = c.what_is_left_shows_the_schema.ensures;
      sound = c.files_that_conform_are_sound.ensures;
      roots = c.files_that_conform_have_roots.ensures;
      refusals = c.refusals_of_conforming_files_are_one.ensures;
    } in
    let truth = truth_in c.args.linked.now in
    let is : IsTruth files choice truth = c.linked_files_tell_what_holds.ensures files choice c.args.linked.now named.clear.are in
    let keeps = rw lent at c.final_tree.ensures.keeps in
    IfOk-weaker c.final_tree.result _ _ (λ t kept. shows_tree laws choice files c.args.linked.now c.args.names.now named truth t is kept) (keeps named.are_names)

pub returns-clause-clear : goal.returns-clause-clear
returns-clause-clear c = λ files named.
    let choice = selected_of c.args.selection.now in
    let lent = c.rows.ensures files choice named.clear.are in
    let laws : TreeLaws = record {
      skipping = c.skipping_refuses_no_more.ensures;
      left_is_schema = c.what_is_left_shows_the_schema.ensures;
      sound = c.files_that_conform_are_sound.ensures;
      roots = c.files_that_conform_have_roots.ensures;
      refusals = c.refusals_of_conforming_files_are_one.ensures;
    } in
    let truth = truth_in c.args.linked.now in
    let keeps = rw lent at c.final_tree.ensures.keeps in
    let clear = rw lent at c.final_tree.ensures.clear in
    on_ok_from c.final_tree.result (keeps named.are_names) (clear named.are_names)
    (λ t kept none. none_refused laws choice files c.args.linked.now c.args.names.now named truth t c.args.limit kept none)

pub returns-clause-refusal : goal.returns-clause-refusal
returns-clause-refusal c = λ files named.
    let choice = selected_of c.args.selection.now in
    let lent = c.rows.ensures files choice named.clear.are in
    let laws : TreeLaws = record {
      skipping = c.skipping_refuses_no_more.ensures;
      left_is_schema = c.what_is_left_shows_the_schema.ensures;
      sound = c.files_that_conform_are_sound.ensures;
      roots = c.files_that_conform_have_roots.ensures;
      refusals = c.refusals_of_conforming_files_are_one.ensures;
    } in
    let refusal = rw lent at c.final_tree.ensures.refusal in
    λ r e. one_refused laws choice files c.args.linked.now c.args.names.now named c.args.limit r (refusal named.are_names r e)
