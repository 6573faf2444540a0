use Rattle.std.proofs.Common.{◌≡◌, List, Some, None, sym, ◌∙◌, ap, arith}
use Rattle.std.specs.List.{slice_get}
use Rattle.std.proofs.lemmas.Option.{slice_get_within}
use Rattle.yv_link_scopes.specs.Rows.{Row, row}
use Rattle.yv_link_scopes.specs.Views.{lent_in, rows_in}
use Rattle.yv_link_scopes.specs.declared.entry.Entry.{Entry}
use Rattle.yv_expand_uses.specs.AugmentOrder.{place_of}
use Rattle.yv_expand_uses.specs.Spots.{Whole, top_group_of, top_group}
use Rattle.yv_expand_uses.specs.InnerPlan.{whole_in}
use Rattle.yv_expand_uses.proofs.PlaceNumbers.{place_within}
use Rattle.yv_expand_uses.proofs.StatementLists.{row_read}
use Rattle.yv_expand_uses.proofs.plan.Plan.top_group.Goals as goal

pub module_place-requires-clause-within : goal.module_place-requires-clause-within
module_place-requires-clause-within c =
    let rows : List Row = rows_in c.args.self.now.rows.now in
    let r : Row = row c.index-entries-statement.result in
    let at : slice_get rows c.args.statement ≡ Some r = row_read row _ rows c.args.statement c.index-entries-statement.result c.entries-entries.ensures c.if-statement-entries.false c.index-entries-statement.is in
    let same = ap (λ (e : Entry). e.scope) (sym c.index-entries-statement.is) in
    let l = c.blocks_are_nested.ensures (lent_in c.args.self.now.rows.now) c.args.statement r at in
    let m = slice_get_within rows c.args.statement r at in
    omega (arith, l, m, same)

pub copy_group-requires : goal.copy_group-requires
copy_group-requires c =
    let augments = c.args.self.now.augments.now in
    let place = ap (λ (e : Entry). place_of augments e.scope) c.index-entries-statement.is ∙ sym c.module_place.ensures ∙ c.in-Some.is in
    let l = place_within (row c.index-entries-statement.result).scope 0 augments c.in-Some.place place in
    omega (arith, l)

pub returns-in-Some : goal.returns-in-Some
returns-in-Some c =
    let w : Whole = whole_in c.args.self.now in
    let rows : List Row = w.rows in
    let r : Row = row c.index-entries-statement.result in
    let at : slice_get rows c.args.statement ≡ Some r = row_read row _ rows c.args.statement c.index-entries-statement.result c.entries-entries.ensures c.if-statement-entries.false c.index-entries-statement.is in
    let place : place_of w.augments r.scope ≡ Some c.in-Some.place =
    ap (λ (e : Entry). place_of w.augments e.scope) c.index-entries-statement.is ∙ sym c.module_place.ensures ∙ c.in-Some.is in
    c.copy_group.ensures ∙ sym (ap (top_group w) at ∙ ap (top_group_of w) place)

pub returns-in-None : goal.returns-in-None
returns-in-None c =
    let w : Whole = whole_in c.args.self.now in
    let rows : List Row = w.rows in
    let r : Row = row c.index-entries-statement.result in
    let at : slice_get rows c.args.statement ≡ Some r = row_read row _ rows c.args.statement c.index-entries-statement.result c.entries-entries.ensures c.if-statement-entries.false c.index-entries-statement.is in
    let place : place_of w.augments r.scope ≡ None =
    ap (λ (e : Entry). place_of w.augments e.scope) c.index-entries-statement.is ∙ sym c.module_place.ensures ∙ c.in-None.is in
    sym (ap (top_group w) at ∙ ap (top_group_of w) place)
