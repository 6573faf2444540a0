use Rattle.std.proofs.Common.{◌≡◌, ◌<◌, ◌≤◌, List, length, Some, refl, sym, ◌∙◌, ap, arith}
use Rattle.std.specs.List.{slice_get}
use Rattle.std.proofs.lemmas.Option.{same_Some}
use Rattle.yv_link_scopes.specs.Rows.{Row, row}
use Rattle.yv_link_scopes.specs.Views.{lent_in, rows_in}
use Rattle.yv_link_definitions.specs.Duplicates.{is_of}
use Rattle.yv_link_definitions.proofs.Words.{row_read}
use Rattle.yv_link_definitions.proofs.DefinitionOwners.{both_ways, counts_further, counts_here, counts_none, counts_root}
use Rattle.yv_link_definitions.proofs.draft.Draft.owner.Goals as goal

pub returns-in_default : goal.returns-in_default
returns-in_default c = λ d.
    let rows : List Row = rows_in c.args.self.now.rows.now in
    let r : Row = row c.index-entries-place.result in
    let at : slice_get rows c.loop-outer.place ≡ Some r = row_read row _ rows c.loop-outer.place c.index-entries-place.result c.entries-entries.ensures c.loop-outer.invariant.within c.index-entries-place.is in
    let le = c.blocks_are_nested.ensures (lent_in c.args.self.now.rows.now) c.loop-outer.place r at in
    let past : length c.entries-entries.result.now ≤ r.scope = c.in_default.ensures.lookup.3 in
    absurd (omega (arith, le, past, c.loop-outer.invariant.within))

pub returns-then-is_of : goal.returns-then-is_of
returns-then-is_of c = λ d.
    let rows : List Row = rows_in c.args.self.now.rows.now in
    let r : Row = row c.index-entries-place.result in
    let s : Row = row c.in-Some.outer.now in
    let at : slice_get rows c.loop-outer.place ≡ Some r = row_read row _ rows c.loop-outer.place c.index-entries-place.result c.entries-entries.ensures c.loop-outer.invariant.within c.index-entries-place.is in
    let le = c.blocks_are_nested.ensures (lent_in c.args.self.now.rows.now) c.loop-outer.place r at in
    let block : slice_get rows r.scope ≡ Some s = row_read row _ rows r.scope c.in-Some.outer.now c.entries-entries.ensures (omega (arith, le, c.loop-outer.invariant.within)) c.in-Some.ensures.lookup.1 in
    both_ways (counts_here rows c.args.kind c.loop-outer.place r.scope r s at refl block (sym c.is_of.ensures ∙ c.if-is_of.true) d) (c.loop-outer.invariant.same d)

pub returns-then-block-place : goal.returns-then-block-place
returns-then-block-place c = λ d.
    let rows : List Row = rows_in c.args.self.now.rows.now in
    let r : Row = row c.index-entries-place.result in
    let s : Row = row c.in-Some.outer.now in
    let at : slice_get rows c.loop-outer.place ≡ Some r = row_read row _ rows c.loop-outer.place c.index-entries-place.result c.entries-entries.ensures c.loop-outer.invariant.within c.index-entries-place.is in
    let le = c.blocks_are_nested.ensures (lent_in c.args.self.now.rows.now) c.loop-outer.place r at in
    let block : slice_get rows r.scope ≡ Some s = row_read row _ rows r.scope c.in-Some.outer.now c.entries-entries.ensures (omega (arith, le, c.loop-outer.invariant.within)) c.in-Some.ensures.lookup.1 in
    let same : s ≡ r = same_Some s r (sym block ∙ ap (slice_get rows) c.if-block-place.true ∙ at) in
    both_ways (counts_root rows c.args.kind c.loop-outer.place r at c.if-block-place.true (ap (is_of c.args.kind) (sym same) ∙ sym c.is_of.ensures ∙ c.if-is_of.false) d) (c.loop-outer.invariant.same d)

pub returns-then-not-is_between : goal.returns-then-not-is_between
returns-then-not-is_between c = λ d.
    let rows : List Row = rows_in c.args.self.now.rows.now in
    let r : Row = row c.index-entries-place.result in
    let s : Row = row c.in-Some.outer.now in
    let at : slice_get rows c.loop-outer.place ≡ Some r = row_read row _ rows c.loop-outer.place c.index-entries-place.result c.entries-entries.ensures c.loop-outer.invariant.within c.index-entries-place.is in
    let le = c.blocks_are_nested.ensures (lent_in c.args.self.now.rows.now) c.loop-outer.place r at in
    let block : slice_get rows r.scope ≡ Some s = row_read row _ rows r.scope c.in-Some.outer.now c.entries-entries.ensures (omega (arith, le, c.loop-outer.invariant.within)) c.in-Some.ensures.lookup.1 in
    both_ways (counts_none rows c.args.kind c.loop-outer.place r.scope r s at refl block (sym c.is_of.ensures ∙ c.if-is_of.false) (sym c.is_between.ensures ∙ c.if-not-is_between.true) d) (c.loop-outer.invariant.same d)

pub loop-outer-smaller : goal.loop-outer-smaller
loop-outer-smaller c =
    let rows : List Row = rows_in c.args.self.now.rows.now in
    let r : Row = row c.index-entries-place.result in
    let at : slice_get rows c.loop-outer.place ≡ Some r = row_read row _ rows c.loop-outer.place c.index-entries-place.result c.entries-entries.ensures c.loop-outer.invariant.within c.index-entries-place.is in
    let le = c.blocks_are_nested.ensures (lent_in c.args.self.now.rows.now) c.loop-outer.place r at in
    let ne = c.if-block-place.false in
    omega (arith, le, ne)

pub loop-outer-preserved : goal.loop-outer-preserved
loop-outer-preserved c =
    let rows : List Row = rows_in c.args.self.now.rows.now in
    let r : Row = row c.index-entries-place.result in
    let s : Row = row c.in-Some.outer.now in
    let at : slice_get rows c.loop-outer.place ≡ Some r = row_read row _ rows c.loop-outer.place c.index-entries-place.result c.entries-entries.ensures c.loop-outer.invariant.within c.index-entries-place.is in
    let le = c.blocks_are_nested.ensures (lent_in c.args.self.now.rows.now) c.loop-outer.place r at in
    let inside : r.scope < length c.entries-entries.result.now = omega (arith, le, c.loop-outer.invariant.within) in
    let block : slice_get rows r.scope ≡ Some s = row_read row _ rows r.scope c.in-Some.outer.now c.entries-entries.ensures inside c.in-Some.ensures.lookup.1 in
    record {
      within = omega (arith, le, c.loop-outer.invariant.within);
      same = λ d. both_ways (counts_further rows c.args.kind c.loop-outer.place r.scope r s at refl block (sym c.is_of.ensures ∙ c.if-is_of.false) (sym c.is_between.ensures ∙ c.if-not-is_between.false) d) (c.loop-outer.invariant.same d);
    }
