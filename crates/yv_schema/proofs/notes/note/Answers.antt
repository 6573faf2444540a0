use Rattle.std.proofs.Common.{◌≡◌, ◌==◌, ◌∙◌, sym, ap, List, [], length, map}
use Rattle.std.proofs.lemmas.Bool.{false≢true}
use Rattle.yv_link_definitions.proofs.Words.{row_read}
use Rattle.yv_link_scopes.specs.Files.{Files, brief_of, module_file_at}
use Rattle.yv_link_scopes.specs.Views.{rows_in}
use Rattle.yv_link_scopes.specs.Rows.{row}
use Rattle.yv_schema.proofs.AugmentNotes.{noted}
use Rattle.yv_schema.proofs.notes.note.Goals as goal

pub returns-clause-note : goal.returns-clause-note
returns-clause-note c = λ b files.
    let entry = c.in-Some-Some.entry.now in
    let at = row_read row c.entries.result.now (rows_in c.args.rows.now) c.args.augment entry c.entries.ensures c.in-Some-Some.ensures.lookup.3.0 c.in-Some-Some.ensures.lookup.1 in
    let filled : c.args.nodes.now ≡ [] → ⊥ = λ none. false≢true (sym c.if-is_empty.false ∙ c.is_empty.ensures ∙ ap (λ (ns : List _). length ns == 0) none) in
    noted b _ (row entry) c.args.target c.in-Some-Some.target c.args.nodes.now _ _ _ _ at c.in-Some-Some.is-1 filled
    (c.module_file_of.ensures ∙ ap (λ (fs : Files). module_file_at (map brief_of fs) entry.file) (sym files))
    (c.in_ok-from_str.ensures.ok ∙ c.name_of.ensures) c.number_at.ensures c.in_ok-numbers_at.ensures
