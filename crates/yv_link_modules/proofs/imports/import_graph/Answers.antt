use Rattle.std.proofs.Common.{◌≡◌, ◌<◌, ℕ, List, length, refl, sym, ◌∙◌, ap, subst, arith, Some}
use Rattle.std.specs.List.{slice_get}
use Rattle.std.proofs.lemmas.List.{length-map}
use Rattle.yv_link_scopes.specs.Files.{Briefs, brief, brief_of}
use Rattle.yv_link_scopes.specs.Rows.{Row, row}
use Rattle.yv_link_scopes.specs.Views.{files_in, lent_in, rows_in}
use Rattle.yv_link_modules.proofs.Flags.{get_view}
use Rattle.yv_link_modules.specs.InnerImports.{AreImports}
use Rattle.yv_link_modules.proofs.ImportWays.{bare_more, imports_start, imports_more, imports_same}
use Rattle.yv_link_modules.proofs.imports.import_graph.Goals as goal
use Rattle.yv_link_modules.proofs.imports.import_graph.Goals.{in-Some+in_ok-add_edge, in_default}

pub loop-preserved : goal.loop-preserved
loop-preserved c = bare_more c.loop.index c.loop.graph.items c.push.new.self.items c.new.result c.new.ensures.items c.in_ok-push.ensures.items c.loop.invariant

pub loop-entry-init : goal.loop-entry-init
loop-entry-init c =
    let files : Briefs = files_in c.args.rows.now in
    let all : c.loop.index ≡ length files = omega (arith, ap length c.files-items.ensures.each, length-map c.files-items.result.now brief, c.loop-test.false, c.loop.auto.index-end) in
    imports_start files (rows_in c.args.rows.now) 0 c.loop.index c.loop.graph.items all refl c.loop.invariant

pub add_edge-requires : goal.add_edge-requires
add_edge-requires c =
    let files : Briefs = files_in c.args.rows.now in
    let rows : List Row = rows_in c.args.rows.now in
    let r : Row = row c.entry-item.result in
    let at : slice_get rows c.loop-entry.entry-index ≡ Some r = get_view row c.entries-entry-items.result.now rows c.loop-entry.entry-index c.entry-item.result c.entries-entry-items.ensures c.loop-entry-test.true c.entry-item.is in
    let file : r.file < length (lent_in c.args.rows.now) = c.roots_come_first.ensures.files (lent_in c.args.rows.now) c.loop-entry.entry-index r at in
    let module_file = c.modules_are_files.ensures.module_files files r.file (omega (arith, file, length-map (lent_in c.args.rows.now) brief_of)) in
    omega (arith, module_file, c.module_file-module_file.ensures, c.loop-entry.invariant.each)

pub loop-entry-preserved : goal.loop-entry-preserved
loop-entry-preserved c =
    let files : Briefs = files_in c.args.rows.now in
    let rows : List Row = rows_in c.args.rows.now in
    let r : Row = row c.entry-item.result in
    let at : slice_get rows c.loop-entry.entry-index ≡ Some r = get_view row c.entries-entry-items.result.now rows c.loop-entry.entry-index c.entry-item.result c.entries-entry-items.ensures c.loop-entry-test.true c.entry-item.is in
    elim c.match-imported_module.branch [
      | in-Some+in_ok-add_edge w ↦ rw w.graph-is (imports_more files rows c.loop-entry.entry-index r w.in-Some.module w.module_file-module_file.result c.loop-entry.graph.items w.add_edge.new.graph.items at (sym c.imported_module.ensures ∙ w.in-Some.is) w.module_file-module_file.ensures w.in_ok-add_edge.ensures c.loop-entry.invariant)
      | in_default w ↦ rw w.graph-is (imports_same files rows c.loop-entry.entry-index r c.loop-entry.graph.items at (sym c.imported_module.ensures ∙ w.in_default.is) c.loop-entry.invariant)
    ]

pub returns : goal.returns
returns c =
    let rows : List Row = rows_in c.args.rows.now in
    let all : c.loop-entry.entry-index ≡ length rows = omega (arith, ap length c.entries-entry-items.ensures, length-map c.entries-entry-items.result.now row, c.loop-entry-test.false, c.loop-entry.auto.entry-index-end) in
    subst (λ (n : ℕ). AreImports (files_in c.args.rows.now) rows n c.loop-entry.graph.items) all c.loop-entry.invariant
