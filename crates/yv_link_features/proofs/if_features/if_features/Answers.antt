use Rattle.std.proofs.Common.{◌≡◌, ◌<◌, ◌∙◌, ◌∷◌, [], ◌++◌, Some, length, sym, ap, arith}
use Rattle.std.specs.List.{slice_get}
use Rattle.std.proofs.lemmas.List.{length-set}
use Rattle.yv_link_scopes.specs.Views.{lent_in, rows_in}
use Rattle.yv_link_scopes.specs.Rows.{row}
use Rattle.yv_link_features.proofs.Lists.{lists_start, lists_same, lists_more, lists_end, mapped_at, mapped_len, numbers_read}
use Rattle.yv_link_features.proofs.if_features.if_features.Goals as goal
use Rattle.yv_link_features.proofs.if_features.if_features.Goals.{then-is_if_feature+in_ok-push, else-is_if_feature}

pub loop-number-init : goal.loop-number-init
loop-number-init c =
    lists_start (rows_in c.args.rows.now) c.in_ok-lists.lists.items
    (c.in_ok-lists.ensures.each ∙ mapped_len row _ _ c.entries-entries.ensures)
    c.in_ok-lists.ensures.empty

pub index_mut-requires : goal.index_mut-requires
index_mut-requires c =
    let at : slice_get (rows_in c.args.rows.now) c.loop-number.number ≡ Some (row c.index-entries-number.result) = mapped_at row _ _ c.loop-number.number c.index-entries-number.result c.entries-entries.ensures c.loop-number-test.true c.index-entries-number.is in
    omega (arith, c.blocks_are_nested.ensures (lent_in c.args.rows.now) c.loop-number.number (row c.index-entries-number.result) at, c.loop-number.invariant.each, c.loop-number-test.true, mapped_len row _ _ c.entries-entries.ensures)

pub loop-number-preserved : goal.loop-number-preserved
loop-number-preserved c =
    let rows = rows_in c.args.rows.now in
    let r = row c.index-entries-number.result in
    let at : slice_get rows c.loop-number.number ≡ Some r = mapped_at row _ _ c.loop-number.number c.index-entries-number.result c.entries-entries.ensures c.loop-number-test.true c.index-entries-number.is in
    let within : r.scope < length c.loop-number.lists.items = omega (arith, c.blocks_are_nested.ensures (lent_in c.args.rows.now) c.loop-number.number r at, c.loop-number.invariant.each, c.loop-number-test.true, mapped_len row _ _ c.entries-entries.ensures) in
    elim c.if-is_if_feature.branch [
      | then-is_if_feature+in_ok-push w ↦
          let same = ap (λ v. v.items) w.lists-is in
          lists_more rows c.loop-number.number r c.loop-number.lists.items _ w.push.new.self at (sym c.is_if_feature.ensures ∙ w.if-is_if_feature.true) within same
          (w.in_ok-push.ensures.items ∙ ap (λ xs. xs ++ c.loop-number.number ∷ []) (numbers_read c.loop-number.lists.items r.scope w.index_mut.result.now within w.index_mut.ensures.value))
          (ap length same ∙ length-set c.loop-number.lists.items r.scope w.push.new.self)
          c.loop-number.invariant
      | else-is_if_feature w ↦ rw w.lists-is (lists_same rows c.loop-number.number r c.loop-number.lists.items at (sym c.is_if_feature.ensures ∙ w.if-is_if_feature.false) c.loop-number.invariant)
    ]

pub returns : goal.returns
returns c = lists_end (rows_in c.args.rows.now) c.loop-number.number c.loop-number.lists.items (omega (arith, c.loop-number-test.false, mapped_len row _ _ c.entries-entries.ensures)) c.loop-number.invariant
