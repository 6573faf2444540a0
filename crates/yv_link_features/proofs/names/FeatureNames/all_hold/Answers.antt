use Rattle.std.proofs.Common.{refl, sym, ◌∙◌, subst, arith, get_or}
use Rattle.std.proofs.lemmas.Bool.{false≢true}
use Rattle.std.proofs.lemmas.List.{take_all}
use Rattle.std.proofs.lemmas.List.Elements.{All-contains_itself}
use Rattle.yv_link_scopes.specs.Views.{rows_in}
use Rattle.yv_link_features.specs.Features.{from_marks}
use Rattle.yv_link_features.specs.InnerGraph.{AllTrue, IsTrueAt}
use Rattle.yv_link_features.specs.InnerNames.{means_in}
use Rattle.yv_link_features.proofs.AssignmentAgreement.{all_more}
use Rattle.yv_link_features.proofs.names.FeatureNames.all_hold.Goals as goal

pub loop-number-preserved : goal.loop-number-preserved
loop-number-preserved c =
    all_more (IsTrueAt (means_in c.args.self.now) (rows_in c.args.self.now.rows.now) (from_marks c.args.on.now)) c.args.conditions.now c.loop-number.number-index c.loop-number-test.true c.loop-number.invariant
    (c.holds-holds.ensures.0 c.if-not-holds.false)

pub returns-then-not-holds : goal.returns-then-not-holds
returns-then-not-holds c = (
  λ e. absurd (false≢true e),
  λ all. absurd (false≢true (sym c.if-not-holds.true ∙ c.holds-holds.ensures.1 (all (get_or c.args.conditions.now c.loop-number.number-index 0) (All-contains_itself c.args.conditions.now c.loop-number.number-index 0 c.loop-number-test.true)))),
)

pub returns : goal.returns
returns c = (
  λ e. subst (λ xs. AllTrue (means_in c.args.self.now) (rows_in c.args.self.now.rows.now) (from_marks c.args.on.now) xs) (take_all c.loop-number.number-index c.args.conditions.now (omega (arith, c.loop-number-test.false))) c.loop-number.invariant,
  λ all. refl,
)
