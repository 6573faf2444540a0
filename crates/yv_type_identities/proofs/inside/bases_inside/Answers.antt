use Rattle.std.proofs.Common.{◌≡◌, Some, length, sym, ◌∙◌, ap, arith, map}
use Rattle.std.specs.List.{slice_get}
use Rattle.yv_link_scopes.specs.Files.{brief_of}
use Rattle.yv_link_scopes.specs.RowList.{rows_of}
use Rattle.yv_link_scopes.specs.Rows.{row}
use Rattle.yv_type_identities.specs.InnerBases.{bases_at}
use Rattle.yv_type_identities.proofs.Blocks.{listed_none, listed_same, listed_more, listed_all}
use Rattle.yv_type_identities.proofs.RowLoop.{row_read, rows_count}
use Rattle.yv_type_identities.proofs.inside.bases_inside.Goals as goal
use Rattle.yv_type_identities.proofs.inside.bases_inside.Goals.{in-Some+in_ok-add, in_default}

pub loop-entry-init : goal.loop-entry-init
loop-entry-init c = λ files choice t. listed_none (map brief_of files) (rows_of files) c.new-inside.result.items (λ k. ap (λ lists. bases_at lists k) c.new-inside.ensures.items)

pub loop-entry-preserved : goal.loop-entry-preserved
loop-entry-preserved c =
    elim c.match-base_of.branch [
      | in-Some+in_ok-add w ↦ rw w.inside-is (λ files choice t.
          let same : map row c.entries-entries.result.now ≡ rows_of files = c.entries-entries.ensures ∙ ap rows_of (c.rows.ensures files choice t) in
          let at : slice_get (rows_of files) c.loop-entry.entry-index ≡ Some (row c.entry-item.result) = row_read row c.entries-entries.result.now (rows_of files) c.loop-entry.entry-index c.entry-item.result same c.loop-entry-test.true c.entry-item.is in
          listed_more (map brief_of files) (rows_of files) c.loop-entry.entry-index (row c.entry-item.result) w.in-Some.base c.loop-entry.inside.items w.add.new.lists.items at (sym (w.in-Some.ensures files choice t)) w.in_ok-add.ensures.here w.in_ok-add.ensures.elsewhere (c.loop-entry.invariant files choice t))
      | in_default w ↦ rw w.inside-is (λ files choice t.
          let same : map row c.entries-entries.result.now ≡ rows_of files = c.entries-entries.ensures ∙ ap rows_of (c.rows.ensures files choice t) in
          let at : slice_get (rows_of files) c.loop-entry.entry-index ≡ Some (row c.entry-item.result) = row_read row c.entries-entries.result.now (rows_of files) c.loop-entry.entry-index c.entry-item.result same c.loop-entry-test.true c.entry-item.is in
          listed_same (map brief_of files) (rows_of files) c.loop-entry.entry-index (row c.entry-item.result) c.loop-entry.inside.items at (sym (c.base_of.ensures files choice t) ∙ w.in_default.is) (c.loop-entry.invariant files choice t))
    ]

pub returns : goal.returns
returns c files choice t =
    let same : map row c.entries-entries.result.now ≡ rows_of files = c.entries-entries.ensures ∙ ap rows_of (c.rows.ensures files choice t) in
    let last : c.loop-entry.entry-index ≡ length (rows_of files) = omega (arith, rows_count row c.entries-entries.result.now (rows_of files) same, c.loop-entry-test.false, c.loop-entry.auto.entry-index-end) in
    listed_all (map brief_of files) (rows_of files) c.loop-entry.entry-index c.loop-entry.inside.items last (c.loop-entry.invariant files choice t)
