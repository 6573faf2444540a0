use Rattle.yv_link_definitions.specs.InnerDuplicates.{HasAround}
use Rattle.std.proofs.Common.{◌≡◌, ◌↔◌, Bool, IsTrue, List, ℕ, Some, sym, subst, arith}
use Rattle.std.specs.List.{slice_get}
use Rattle.std.proofs.lemmas.Option.{slice_get_within}
use Rattle.yv_link_scopes.specs.Rows.{Row, row}
use Rattle.yv_link_scopes.specs.Views.{lent_in, rows_in}
use Rattle.yv_link_scopes.specs.Scopes.{Means}
use Rattle.yv_link_definitions.proofs.Words.{row_read}
use Rattle.yv_link_definitions.proofs.TakenNames.{around_means, around_root}
use Rattle.yv_link_definitions.proofs.draft.Draft.has_around.Goals as goal

pub returns-then-block-entry : goal.returns-then-block-entry
returns-then-block-entry c =
    let rows : List Row = rows_in c.args.self.now.rows.now in
    let r : Row = row c.args.entry.now in
    let found = c.in-Some.ensures.lookup in
    let at : slice_get rows r.scope ≡ Some (row c.in-Some.block.now) = row_read row _ rows r.scope c.in-Some.block.now c.entries.ensures found.3.0 found.1 in
    around_root c.args.kind rows r (row c.in-Some.block.now) at c.if-block-entry.true

pub meaning_in-found-requires : goal.meaning_in-found-requires
meaning_in-found-requires c =
    let rows : List Row = rows_in c.args.self.now.rows.now in
    let r : Row = row c.args.entry.now in
    let found = c.in-Some.ensures.lookup in
    let at : slice_get rows r.scope ≡ Some (row c.in-Some.block.now) = row_read row _ rows r.scope c.in-Some.block.now c.entries.ensures found.3.0 found.1 in
    let le = c.blocks_are_nested.ensures (lent_in c.args.self.now.rows.now) r.scope (row c.in-Some.block.now) at in
    let lt = slice_get_within rows r.scope (row c.in-Some.block.now) at in
    omega (arith, le, lt)

pub returns : goal.returns
returns c =
    let rows : List Row = rows_in c.args.self.now.rows.now in
    let r : Row = row c.args.entry.now in
    let found = c.in-Some.ensures.lookup in
    let at : slice_get rows r.scope ≡ Some (row c.in-Some.block.now) = row_read row _ rows r.scope c.in-Some.block.now c.entries.ensures found.3.0 found.1 in
    subst (λ (b : Bool). IsTrue b ↔ HasAround c.args.kind rows r) (sym c.is_some.ensures)
    (around_means c.args.kind rows r (row c.in-Some.block.now) c.meaning_in-found.result (c.blocks_are_nested.ensures (lent_in c.args.self.now.rows.now)) at c.if-block-entry.false
    (subst (λ (text : List ℕ). Means c.args.kind rows c.in-Some.block.now.scope text c.meaning_in-found.result) c.name_of.ensures (c.meaning_in-found.ensures c.args.kind (c.places-places.ensures r c.requires))))
