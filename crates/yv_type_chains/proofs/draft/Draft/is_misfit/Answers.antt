use Rattle.std.proofs.Common.{List, inl, inr, sym, ◌∙◌}
use Rattle.std.proofs.lemmas.Bool.{false≢true}
use Rattle.yv_link_scopes.specs.Files.{Briefs}
use Rattle.yv_link_scopes.specs.Rows.{Row, row}
use Rattle.yv_link_scopes.specs.Views.{files_in, rows_in}
use Rattle.yv_type_chains.proofs.MisfitSubstatements.{misfit_by, misfit_of}
use Rattle.yv_type_chains.proofs.draft.Draft.is_misfit.Goals as goal

pub returns-then-inherited : goal.returns-then-inherited
returns-then-inherited c = λ based.
    let files : Briefs = files_in c.args.self.now.rows.now in
    let rows : List Row = rows_in c.args.self.now.rows.now in (
      λ h. misfit_of files rows c.args.number (row c.args.entry.now) (inl (c.is_inherited-inherited.ensures.0 h)),
      λ m. c.if-inherited.true,
    )

pub returns-else-inherited : goal.returns-else-inherited
returns-else-inherited c = λ based.
    let files : Briefs = files_in c.args.self.now.rows.now in
    let rows : List Row = rows_in c.args.self.now.rows.now in (
      λ h. misfit_of files rows c.args.number (row c.args.entry.now) (inr ((c.is_foreign-foreign.ensures based).0 h)),
      λ m. elim (misfit_by files rows c.args.number (row c.args.entry.now) m) [
        | inl p ↦ absurd (false≢true (sym c.if-inherited.false ∙ c.is_inherited-inherited.ensures.1 p))
        | inr p ↦ (c.is_foreign-foreign.ensures based).1 p
      ],
    )
