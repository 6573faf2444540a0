use Rattle.std.proofs.Common.{◌≡◌, ◌≤◌, ◌∙◌, ap, arith, length, Some, None}
use Rattle.yv_text_statement.specs.Order.{IsLeast}
use Rattle.yv_text_statement.specs.Selection.{selected_of}
use Rattle.yv_link_scopes.specs.Files.{Files}
use Rattle.yv_link.specs.LinkedFiles.{truth_in}
use Rattle.yv_link.proofs.Phases.{err_again}
use Rattle.yv_expand.specs.Tree.{count}
use Rattle.yv_schema.specs.InnerStages.{RefusesInStagesBeforeTypes}
use Rattle.yv_schema.specs.InnerPhases.{AreClear, AreExpanded, AreNamed, ShowsTree}
use Rattle.yv_schema.proofs.ExpandedTree.{expansion_phase}
use Rattle.yv_schema.proofs.PhaseLemmas.{HavePhases, least_expanded, least_first, least_named}
use Rattle.yv_schema.proofs.phases.of_linked.Goals.{In-Ok, In-Ok-expanded_tree}
use Rattle.yv_schema.proofs.phases.of_linked.Goals as goal

pub returns-in-Err : goal.returns-in-Err
returns-in-Err c = λ files clear.
    let choice = selected_of c.args.selection.now in
    let limit = c.args.limit in
    let phases : HavePhases = record { first = c.links_have_phases.ensures.first; last = c.links_have_phases.ensures.last; expansion = expansion_phase } in
    let rows = c.rows.ensures files choice clear.are in
    let named = rw rows at c.in-Err.ensures.refusal in
    record {
      schema = tt;
      clear = tt;
      refusal = λ r e. least_first choice files limit phases r (least_named choice files limit phases r clear.own clear.links (named r (err_again _ _ e)));
      builds = λ e. absurd (c.in-Err.ensures.builds (err_again _ _ e));
      before = λ e. absurd (c.in-Err.ensures.builds (err_again _ _ e));
    }

named_of : (c : In-Ok) (files : Files) → AreClear (selected_of c.args.selection.now) files c.args.linked.now
    → AreNamed (selected_of c.args.selection.now) files c.args.linked.now c.in-Ok.names
named_of c files clear =
    let rows = c.rows.ensures files (selected_of c.args.selection.now) clear.are in
    let fine = rw rows at c.in-Ok.ensures.clear in
    let names = rw rows at c.in-Ok.ensures.makes in
    record { clear = clear; are_names = names; fine = fine }

pub returns-in-Err-expanded_tree : goal.returns-in-Err-expanded_tree
returns-in-Err-expanded_tree c = λ files clear.
    let choice = selected_of c.args.selection.now in
    let limit = c.args.limit in
    let named : AreNamed choice files c.args.linked.now c.in-Ok.names = named_of (goal.at.returns-in-Err-expanded_tree c).In-Ok files clear in
    let phases : HavePhases = record { first = c.links_have_phases.ensures.first; last = c.links_have_phases.ensures.last; expansion = expansion_phase } in
    record {
      schema = tt;
      clear = tt;
      refusal = λ r e.
          least_first choice files limit phases r (least_expanded choice files limit (Some r) clear.own clear.links named.fine (c.in-Err-expanded_tree.ensures.refusal files named r (err_again _ _ e)));
      builds = λ e. absurd (c.in-Err-expanded_tree.ensures.builds (err_again _ _ e));
      before = λ e. absurd (c.in-Err-expanded_tree.ensures.builds (err_again _ _ e));
    }

pub expanded_tree-requires : goal.expanded_tree-requires
expanded_tree-requires c =
    record { files = c.requires.files; named = named_of (goal.at.expanded_tree-requires c).In-Ok c.requires.files c.requires.clear }

expanded_of : (c : In-Ok-expanded_tree) (files : Files) → AreClear (selected_of c.args.selection.now) files c.args.linked.now
    → AreExpanded (selected_of c.args.selection.now) files c.args.limit c.args.linked.now c.in-Ok.names c.in-Ok-expanded_tree.tree
expanded_of c files clear =
    let choice = selected_of c.args.selection.now in
    let limit = c.args.limit in
    let rows = c.rows.ensures files choice clear.are in
    let fine = rw rows at c.in-Ok.ensures.clear in
    let names = rw rows at c.in-Ok.ensures.makes in
    let named : AreNamed choice files c.args.linked.now c.in-Ok.names = record { clear = clear; are_names = names; fine = fine } in
    let none = c.in-Ok-expanded_tree.ensures.clear files named in
    let before : IsLeast (RefusesInStagesBeforeTypes choice files limit) None = least_expanded choice files limit None clear.own clear.links named.fine none in
    record { clear = clear; are_names = named.are_names; shows = c.in-Ok-expanded_tree.ensures.shows files named; before = before }

pub of_expanded-requires-clause-room : goal.of_expanded-requires-clause-room
of_expanded-requires-clause-room c =
    let choice = selected_of c.args.selection.now in
    let files = c.requires.files in
    let tree = c.in-Ok-expanded_tree.tree in
    let expanded : AreExpanded choice files c.args.limit c.args.linked.now c.in-Ok.names tree =
    expanded_of (goal.at.of_expanded-requires-clause-room c).In-Ok-expanded_tree files c.requires.clear in
    let shows : ShowsTree choice files (truth_in c.args.linked.now) tree = expanded.shows in
    let few = c.nodes_are_within_items.ensures choice files (truth_in c.args.linked.now) shows.kept.final shows.kept.nodes shows.kept.is_final shows.kept.are_left in
    let left : length tree.left ≡ count shows.kept.nodes = ap length shows.kept.left ∙ c.a_tree_is_listed_whole.ensures None 0 shows.kept.nodes in
    let items : length tree.items ≡ length shows.kept.final.items = ap length shows.kept.items in
    let within : length tree.items ≤ tree.limit = c.len-items.ensures.within in
    let limit : tree.limit ≡ c.args.limit = c.in-Ok-expanded_tree.ensures.limit in
    omega (arith, few, left, items, within, limit)

pub of_expanded-requires-clause-gives : goal.of_expanded-requires-clause-gives
of_expanded-requires-clause-gives c =
    record { files = c.requires.files; expanded = expanded_of (goal.at.of_expanded-requires-clause-gives c).In-Ok-expanded_tree c.requires.files c.requires.clear }

pub returns : goal.returns
returns c = λ files clear. c.of_expanded.ensures files (expanded_of (goal.at.returns c).In-Ok-expanded_tree files clear)
