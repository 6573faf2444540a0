use Rattle.std.proofs.Common.{List, ℕ, sym, subst}
use Rattle.yv_link_scopes.specs.Views.{files_in, rows_in}
use Rattle.yv_expand.specs.InnerSteps.{AreSettled}
use Rattle.yv_expand.proofs.limit.too_many.Goals as goal

pub returns-clause-refusal : goal.returns-clause-refusal
returns-clause-refusal c = λ h. c.first_past.ensures.refusal (subst (λ (l : List ℕ). AreSettled (files_in c.args.rows.now) (rows_in c.args.rows.now) l) (sym c.deref.ensures.value) (c.in_ok-values.ensures h))

pub returns-clause-fits : goal.returns-clause-fits
returns-clause-fits c = λ h. c.first_past.ensures.fits (subst (λ (l : List ℕ). AreSettled (files_in c.args.rows.now) (rows_in c.args.rows.now) l) (sym c.deref.ensures.value) (c.in_ok-values.ensures h))
