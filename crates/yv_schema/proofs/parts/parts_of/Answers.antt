use Rattle.std.proofs.Common.{◌∙◌, sym, subst, arith}
use Rattle.yv_text_statement.specs.Selection.{selected_of}
use Rattle.yv_link_scopes.specs.Files.{Files}
use Rattle.yv_link_scopes.specs.Views.{lent_in}
use Rattle.yv_schema.specs.InnerModuleNames.{AreModuleNames}
use Rattle.yv_schema.specs.InnerBasis.{leafrefs_of, stated_of}
use Rattle.yv_schema.proofs.BuildRefusals.{both_none, least_other}
use Rattle.yv_schema.proofs.BasisValidity.{modules_in_order, notes_in_order, numbered_in_order}
use Rattle.yv_schema.proofs.ResolvedLeafrefs.{tops_resolved}
use Rattle.yv_schema.proofs.parts.parts_of.Goals as goal

pub number_nodes-requires-clause-tells : goal.number_nodes-requires-clause-tells
number_nodes-requires-clause-tells c = record { basis = c.requires.basis.basis; tells = c.requires.basis.tells }

pub notes-requires-clause-few : goal.notes-requires-clause-few
notes-requires-clause-few c = omega (arith, c.requires.room, c.ranges.limit.fits)

pub notes-requires-clause-tells : goal.notes-requires-clause-tells
notes-requires-clause-tells c = record { basis = c.requires.basis.basis; tells = c.requires.basis.tells }

-- what resolving answers of the basis
pub resolve-requires : goal.resolve-requires
resolve-requires c =
    let told = c.requires.basis in
    let b = told.basis in
    let module_files : AreModuleNames b.files c.in_ok-module_files.module_files = subst (λ (fs : Files). AreModuleNames fs c.in_ok-module_files.module_files) (sym told.of_files) c.in_ok-module_files.ensures in
    record { basis = b; tells = told.tells; of_files = told.of_files; are = c.in_ok-stated.ensures.rows b told.tells module_files }

pub returns-clause-ready : goal.returns-clause-ready
returns-clause-ready c =
    let told = c.requires.basis in
    let b = told.basis in
    let module_files : AreModuleNames b.files c.in_ok-module_files.module_files = subst (λ (fs : Files). AreModuleNames fs c.in_ok-module_files.module_files) (sym told.of_files) c.in_ok-module_files.ensures in
    let answered = c.in_ok-nodes.ensures.answers b told.tells told.of_files (c.in_ok-stated.ensures.rows b told.tells module_files) in
    record {
      modules = modules_in_order (selected_of c.args.selection.now) (lent_in c.args.rows.now) c.in_ok-modules.modules.items c.requires.names c.in_ok-modules.ensures;
      numbers = numbered_in_order (selected_of c.args.selection.now) (lent_in c.args.rows.now) c.args.context.now c.requires.names told
          c.module_files_are_of_modules.ensures c.what_is_left_are_nodes.ensures c.statements_have_their_rows.ensures c.tops_are_typed.ensures c.types_leave_forms.ensures c.in_ok-modules.modules.items _ _ _
          answered.tree answered.is answered.linked c.in_ok-modules.ensures answered.rows (c.in_ok-stated.ensures.top b told.tells module_files);
      notes = notes_in_order (selected_of c.args.selection.now) (lent_in c.args.rows.now) c.args.context.now c.requires.names told
          c.given_nodes_stand_below_their_target.ensures c.no_item_is_left_twice.ensures c.rows_are_typed.ensures c.types_leave_notes.ensures _ _ _ _ c.in_ok-notes.notes.items _
          answered.tree answered.is answered.rows (c.in_ok-notes.ensures.notes b told.tells told.of_files);
    }

pub returns-clause-parts : goal.returns-clause-parts
returns-clause-parts c = λ b tells files.
    let module_files : AreModuleNames b.files c.in_ok-module_files.module_files = subst (λ (fs : Files). AreModuleNames fs c.in_ok-module_files.module_files) (sym files) c.in_ok-module_files.ensures in
    let answered = c.in_ok-nodes.ensures.answers b tells files (c.in_ok-stated.ensures.rows b tells module_files) in
    record {
      tree = answered.tree;
      is = answered.is;
      rows = answered.rows;
      top = c.in_ok-stated.ensures.top b tells module_files ∙ sym (tops_resolved c.tops_are_typed.ensures (leafrefs_of b) (stated_of b) answered.tree answered.is);
      notes = c.in_ok-notes.ensures.notes b tells files;
      wrong = least_other b answered.tree _ _ _ (c.in_ok-least_in_tree.ensures answered.tree answered.rows) answered.fault c.lesser-wrong.ensures;
      links = λ none. answered.links (both_none _ _ _ c.lesser-wrong.ensures none).1;
    }
