use Rattle.std.proofs.Common.{◌<◌, ◌≤◌, ℕ, List, length, Some, ◌≡◌, sym, ◌∙◌, ap, arith}
use Rattle.std.specs.List.{slice_get}
use Rattle.std.proofs.lemmas.Option.{slice_get_within}
use Rattle.yv_link_scopes.specs.Files.{Briefs}
use Rattle.yv_link_scopes.specs.Rows.{Row, row}
use Rattle.yv_link_scopes.specs.Views.{files_in, rows_in}
use Rattle.yv_link_definitions.proofs.DefinitionGraph.{longer}
use Rattle.yv_link_definitions.proofs.ReaderAnswers.{meant_fits, meant_more}
use Rattle.yv_link_definitions.proofs.answers.Answers.add.Goals as goal

fits : (rows : List Row) (k : ℕ) (r : Row) → slice_get rows k ≡ Some r → length rows ≤ 4294967293 → k < 4294967296
fits rows k r at few = let w = slice_get_within rows k r at in omega (arith, w, few)

pub narrow-requires : goal.narrow-requires
narrow-requires c = meant_fits (files_in c.args.draft.now.rows.now) (rows_in c.args.draft.now.rows.now) c.args.number c.meaning-meaning.result c.requires.few c.meaning-meaning.ensures

pub add_place-requires : goal.add_place-requires
add_place-requires c = fits (rows_in c.args.draft.now.rows.now) c.args.number (row c.args.entry.now) c.requires.at c.requires.few

pub add_place-requires-2 : goal.add_place-requires-2
add_place-requires-2 c = fits (rows_in c.args.draft.now.rows.now) c.args.number (row c.args.entry.now) c.requires.at c.requires.few

pub returns : goal.returns
returns c =
    let files : Briefs = files_in c.args.draft.now.rows.now in
    let rows : List Row = rows_in c.args.draft.now.rows.now in
    let first = c.requires.first in
    record {
      each = ap length c.in_ok-push.ensures.items ∙ longer c.args.self.now.meanings.items _ ∙ omega (arith, first.each);
      meant = meant_more files rows c.args.number c.args.self.now.meanings.items c.push.new.self.items c.narrow.result first.each c.in_ok-push.ensures.items (λ d. let g = c.meaning-meaning.ensures d in (λ e. g.0 (sym c.narrow.ensures ∙ e), λ h. c.narrow.ensures ∙ g.1 h)) first.meant;
      refs = c.in_ok-add_definition.ensures rows c.requires.at first.refs;
      types = c.in_ok-add_place.ensures rows c.requires.at first.types;
      uses = c.in_ok-add_place-2.ensures rows c.requires.at first.uses;
    }
