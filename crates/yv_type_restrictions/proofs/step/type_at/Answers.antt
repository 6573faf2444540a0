use Rattle.std.proofs.Common.{◌≡◌, ◌↔◌, ℕ, Option, Some, sym, ◌∙◌, subst}
use Rattle.std.specs.List.{slice_get}
use Rattle.std.specs.Option.{option_copied, option_map}
use Rattle.yv_text_statement.specs.Tree.{Tree}
use Rattle.yv_link_scopes.specs.Files.{Files}
use Rattle.yv_link_scopes.specs.Rows.{row}
use Rattle.yv_link_scopes.specs.Views.{lent_in, rows_in}
use Rattle.yv_values.specs.Types.{Plain, plain_of}
use Rattle.yv_type_restrictions.specs.Types.{HasPlainType, IsTypeAt, named_type}
use Rattle.yv_type_restrictions.proofs.TypeStatementStep.{if_ok, out_none, out_other, out_past, starts_derived, starts_named, row_read, step_by, step_nothing}
use Rattle.yv_type_restrictions.proofs.step.type_at.Goals as goal

pub returns-in_default-clause-step : goal.returns-in_default-clause-step
returns-in_default-clause-step c = λ told known.
    step_nothing (lent_in c.args.rows.now) c.args.number c.nothing.result.plain c.nothing.result.fault c.nothing.ensures.plain c.nothing.ensures.fault (out_past (lent_in c.args.rows.now) c.statements_have_their_rows.ensures c.entries.result.now row c.args.number c.entries.ensures c.in_default.ensures.lookup.3)

pub returns-in_default-statement-clause-step : goal.returns-in_default-statement-clause-step
returns-in_default-statement-clause-step c = λ told known.
    step_nothing (lent_in c.args.rows.now) c.args.number c.nothing-in_default-statement.result.plain c.nothing-in_default-statement.result.fault c.nothing-in_default-statement.ensures.plain c.nothing-in_default-statement.ensures.fault (out_none (lent_in c.args.rows.now) c.args.number c.in_default-statement.ensures)

pub returns-then-not-is_type-clause-step : goal.returns-then-not-is_type-clause-step
returns-then-not-is_type-clause-step c = λ told known.
    step_nothing (lent_in c.args.rows.now) c.args.number c.nothing-then-not-is_type.result.plain c.nothing-then-not-is_type.result.fault c.nothing-then-not-is_type.ensures.plain c.nothing-then-not-is_type.ensures.fault (out_other (lent_in c.args.rows.now) c.args.number c.in-Some-statement.statement.now c.in-Some-statement.ensures (sym c.is_type.ensures ∙ c.if-not-is_type.true))

pub returns-in-Some-follows-clause-step : goal.returns-in-Some-follows-clause-step
returns-in-Some-follows-clause-step c =
    let files : Files = lent_in c.args.rows.now in
    let k : ℕ = c.args.number in
    let t : Tree = c.in-Some-statement.statement.now in
    let here : IsTypeAt files k t = (sym c.in-Some-statement.ensures, sym c.is_type.ensures ∙ c.if-not-is_type.false) in
    let at : slice_get (rows_in c.args.rows.now) k ≡ Some (row c.in-Some.entry.now) = row_read row c.entries.result.now (rows_in c.args.rows.now) k c.in-Some.entry.now c.entries.ensures c.in-Some.ensures.lookup.3.0 c.in-Some.ensures.lookup.1 in
    let base : Option Plain = option_map plain_of (option_copied c.get-in-Some-follows.result) in
    if_ok _ _ c.left_of.result (λ s l told known. step_by files k t here (row c.in-Some.entry.now) base _ _ at
    (starts_derived files k t here c.statements_have_their_rows.ensures c.follows.result c.in-Some-follows.followed base (c.follows.ensures files told) c.in-Some-follows.is
    (λ p. subst (λ (o : Option Plain). (o ≡ Some p) ↔ HasPlainType files c.in-Some-follows.followed p) (sym c.get-in-Some-follows.ensures)
    (known c.in-Some-follows.followed ((c.follows.ensures files told c.in-Some-follows.followed).0 c.in-Some-follows.is) p)))
    l) c.left_of.ensures.leaves

pub returns-in-None-clause-step : goal.returns-in-None-clause-step
returns-in-None-clause-step c =
    let files : Files = lent_in c.args.rows.now in
    let k : ℕ = c.args.number in
    let t : Tree = c.in-Some-statement.statement.now in
    let here : IsTypeAt files k t = (sym c.in-Some-statement.ensures, sym c.is_type.ensures ∙ c.if-not-is_type.false) in
    let at : slice_get (rows_in c.args.rows.now) k ≡ Some (row c.in-Some.entry.now) = row_read row c.entries.result.now (rows_in c.args.rows.now) k c.in-Some.entry.now c.entries.ensures c.in-Some.ensures.lookup.3.0 c.in-Some.ensures.lookup.1 in
    if_ok _ _ c.from_built_in.result (λ s l told known. step_by files k t here (row c.in-Some.entry.now) (named_type t) _ _ at
    (starts_named files k t here c.statements_have_their_rows.ensures c.follows.result (c.follows.ensures files told) c.in-None.is)
    l) c.from_built_in.ensures.leaves
