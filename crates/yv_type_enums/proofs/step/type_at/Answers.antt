use Rattle.std.proofs.Common.{◌≡◌, ◌↔◌, ℕ, Option, Some, None, sym, ◌∙◌, ap, subst}
use Rattle.std.specs.List.{slice_get}
use Rattle.std.specs.Option.{option_copied, option_map}
use Rattle.yv_text_statement.specs.Tree.{Tree}
use Rattle.yv_link_scopes.specs.Files.{Files}
use Rattle.yv_link_scopes.specs.Rows.{Row, row}
use Rattle.yv_link_scopes.specs.Views.{lent_in, rows_in}
use Rattle.yv_link.specs.LinkedFiles.{truth_in}
use Rattle.yv_type_enums.specs.Types.{Truth, NamesView, HasNames, kind_in, new, from, first}
use Rattle.yv_type_enums.specs.TypeNames.{told_of}
use Rattle.yv_type_enums.proofs.TypeStatementStep.{from_known, if_ok, one_derived, one_new, out_none, out_other, out_past, out_unknown, row_read, step_by, step_nothing}
use Rattle.yv_type_enums.proofs.step.type_at.Goals as goal

pub returns-in_default : goal.returns-in_default
returns-in_default c = λ told known.
    step_nothing (lent_in c.args.rows.now) (truth_in c.args.linked.now) c.args.number c.nothing.result.names c.nothing.result.fault c.nothing.ensures.names c.nothing.ensures.fault (out_past (lent_in c.args.rows.now) (truth_in c.args.linked.now) c.entries.result.now row c.args.number c.entries.ensures c.in_default.ensures.lookup.3)

pub returns-in_default-statement : goal.returns-in_default-statement
returns-in_default-statement c = λ told known.
    step_nothing (lent_in c.args.rows.now) (truth_in c.args.linked.now) c.args.number c.nothing-in_default-statement.result.names c.nothing-in_default-statement.result.fault c.nothing-in_default-statement.ensures.names c.nothing-in_default-statement.ensures.fault (out_none (lent_in c.args.rows.now) (truth_in c.args.linked.now) c.args.number c.in_default-statement.ensures)

pub returns-in-Some-get : goal.returns-in-Some-get
returns-in-Some-get c =
    let files : Files = lent_in c.args.rows.now in
    let truth : Truth = truth_in c.args.linked.now in
    let k : ℕ = c.args.number in
    let t : Tree = c.in-Some-statement.statement.now in
    let r : Row = row c.in-Some.entry.now in
    let at : slice_get (rows_in c.args.rows.now) k ≡ Some r = row_read row c.entries.result.now (rows_in c.args.rows.now) k c.in-Some.entry.now c.entries.ensures c.in-Some.ensures.lookup.3.0 c.in-Some.ensures.lookup.1 in
    let known : Option NamesView = option_map told_of (option_copied c.get-in-Some-follows.result) in
    let here : known ≡ Some (told_of c.in-Some-get.base.now) = ap (λ o. option_map told_of (option_copied o)) c.in-Some-get.is in
    if_ok _ _ c.derive.result (λ s l told table.
    let knows : (x : NamesView) → (known ≡ Some x) ↔ HasNames files truth c.in-Some-follows.followed x =
    λ x. subst (λ (o : Option NamesView). (o ≡ Some x) ↔ HasNames files truth c.in-Some-follows.followed x) (sym c.get-in-Some-follows.ensures)
    (table c.in-Some-follows.followed ((c.follows.ensures files told c.in-Some-follows.followed).0 c.in-Some-follows.is) x) in
    step_by files truth k r t (from (told_of c.in-Some-get.base.now)) _ _ at (sym c.in-Some-statement.ensures)
    (from_known files truth k c.follows.result (c.follows.ensures files told) c.in-Some-follows.followed c.in-Some-follows.is known knows (told_of c.in-Some-get.base.now) here)
    (one_derived files truth k c.follows.result (c.follows.ensures files told) c.in-Some-follows.followed c.in-Some-follows.is known knows (told_of c.in-Some-get.base.now) here)
    l) c.derive.ensures

pub returns-in-None-get : goal.returns-in-None-get
returns-in-None-get c = λ told table.
    let files : Files = lent_in c.args.rows.now in
    let truth : Truth = truth_in c.args.linked.now in
    let k : ℕ = c.args.number in
    let known : Option NamesView = option_map told_of (option_copied c.get-in-Some-follows.result) in
    let here : known ≡ None = ap (λ o. option_map told_of (option_copied o)) c.in-None-get.is in
    let knows : (x : NamesView) → (known ≡ Some x) ↔ HasNames files truth c.in-Some-follows.followed x =
    λ x. subst (λ (o : Option NamesView). (o ≡ Some x) ↔ HasNames files truth c.in-Some-follows.followed x) (sym c.get-in-Some-follows.ensures)
    (table c.in-Some-follows.followed ((c.follows.ensures files told c.in-Some-follows.followed).0 c.in-Some-follows.is) x) in
    step_nothing files truth k _ _ c.nothing-in-None-get.ensures.names c.nothing-in-None-get.ensures.fault
    (out_unknown files truth k c.follows.result (c.follows.ensures files told) c.in-Some-follows.followed c.in-Some-follows.is known knows here)

pub returns-in-Some-kind_in : goal.returns-in-Some-kind_in
returns-in-Some-kind_in c =
    let files : Files = lent_in c.args.rows.now in
    let truth : Truth = truth_in c.args.linked.now in
    let k : ℕ = c.args.number in
    let r : Row = row c.in-Some.entry.now in
    let at : slice_get (rows_in c.args.rows.now) k ≡ Some r = row_read row c.entries.result.now (rows_in c.args.rows.now) k c.in-Some.entry.now c.entries.ensures c.in-Some.ensures.lookup.3.0 c.in-Some.ensures.lookup.1 in
    let is : kind_in r ≡ Some c.in-Some-kind_in.kind = sym c.kind_in.ensures ∙ c.in-Some-kind_in.is in
    if_ok _ _ c.new.result (λ s l told table.
    step_by files truth k r c.in-Some-statement.statement.now (new c.in-Some-kind_in.kind) _ _ at (sym c.in-Some-statement.ensures)
    (first at is)
    (one_new files truth k c.follows.result (c.follows.ensures files told) r c.in-Some-kind_in.kind at is)
    l) c.new.ensures

pub returns-in-None-kind_in : goal.returns-in-None-kind_in
returns-in-None-kind_in c = λ told table.
    let files : Files = lent_in c.args.rows.now in
    let truth : Truth = truth_in c.args.linked.now in
    let k : ℕ = c.args.number in
    let r : Row = row c.in-Some.entry.now in
    let at : slice_get (rows_in c.args.rows.now) k ≡ Some r = row_read row c.entries.result.now (rows_in c.args.rows.now) k c.in-Some.entry.now c.entries.ensures c.in-Some.ensures.lookup.3.0 c.in-Some.ensures.lookup.1 in
    step_nothing files truth k _ _ c.nothing-in-None-kind_in.ensures.names c.nothing-in-None-kind_in.ensures.fault
    (out_other files truth k c.follows.result (c.follows.ensures files told) r at (sym c.kind_in.ensures ∙ c.in-None-kind_in.is) c.in-None.is)
