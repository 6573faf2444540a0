use Rattle.std.proofs.Common.{◌≡◌, true, cond, Some, Ok, sym, ◌∙◌, ap, arith, map}
use Rattle.std.specs.List.{slice_get}
use Rattle.yv_link_scopes.specs.RowList.{rows_of}
use Rattle.yv_link_scopes.specs.Rows.{row}
use Rattle.yv_link_identities.specs.References.{is_at}
use Rattle.yv_type_identities.specs.InnerRuns.{number_at}
use Rattle.yv_type_identities.proofs.Numbering.{places_all, places_more, places_none, places_other}
use Rattle.yv_type_identities.proofs.RowLoop.{row_read, rows_count}
use Rattle.yv_type_identities.proofs.identity_places.IdentityPlaces.read.Goals as goal
use Rattle.yv_type_identities.proofs.identity_places.IdentityPlaces.read.Goals.{else-is_identity-via-then-is_identity+in_ok-keep+else-not-branch, else-is_identity-via-else-is_identity}

pub loop-number-init : goal.loop-number-init
loop-number-init c files choice t = places_none (rows_of files) _ c.new-places.ensures

pub loop-number-preserved : goal.loop-number-preserved
loop-number-preserved c files choice t =
    let same : map row c.entries-entry-items.result.now ≡ rows_of files = c.entries-entry-items.ensures ∙ ap rows_of (c.rows.ensures files choice t) in
    let at : slice_get (rows_of files) c.loop-number.number ≡ Some (row c.entry-item.result) = row_read row c.entries-entry-items.result.now (rows_of files) c.loop-number.number c.entry-item.result same c.loop-number-test.true c.entry-item.is in
    elim c.else-is_identity.branch [
      | else-is_identity-via-then-is_identity+in_ok-keep+else-not-branch w ↦
          let truth : w.in_ok-keep.field-0 ≡ true = w.if-not-branch.false in
          let kept : w.keep.result ≡ Ok true = w.in_ok-keep.was ∙ ap Ok truth in
          rw w.places-is (places_more (rows_of files) c.loop-number.number (row c.entry-item.result) c.loop-number.places w.keep.new.self at (sym c.is_identity.ensures ∙ w.if-is_identity.true)
          (ap (number_at c.loop-number.places) (sym w.reference.ensures) ∙ w.keep.ensures.none kept)
          (λ other. w.keep.ensures.keeps kept other ∙ ap (λ p. cond (is_at other p) (Some c.loop-number.number) (number_at c.loop-number.places other)) w.reference.ensures)
          (c.loop-number.invariant files choice t))
      | else-is_identity-via-else-is_identity w ↦ rw w.places-is (places_other (rows_of files) c.loop-number.number (row c.entry-item.result) c.loop-number.places at (sym c.is_identity.ensures ∙ w.if-is_identity.false) (c.loop-number.invariant files choice t))
    ]

pub returns : goal.returns
returns c files choice t =
    let same : map row c.entries-entry-items.result.now ≡ rows_of files = c.entries-entry-items.ensures ∙ ap rows_of (c.rows.ensures files choice t) in
    places_all (rows_of files) c.loop-number.number _ (omega (arith, rows_count row c.entries-entry-items.result.now (rows_of files) same, c.loop-number-test.false, c.loop-number.auto.number-end)) (c.loop-number.invariant files choice t)
