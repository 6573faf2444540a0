use Rattle.std.proofs.Common.{◌≡◌, ◌∙◌, ◌++◌, ℕ, true, false, List, [], ◌∷◌, ap, sym, arith, length, append-nil, append_assoc, refl, slice_get}
use Rattle.yv_text_statement.specs.Selection.{selected_of}
use Rattle.yv_base_tables.specs.Families.{numbers_at}
use Rattle.yv_link_scopes.specs.Views.{lent_in}
use Rattle.yv_expand_statements.specs.FileOrder.{order_of, part_places}
use Rattle.yv_expand_tree.proofs.GivenFiles.{all_within, order_all, order_once, order_step, parts_at, read_at}
use Rattle.yv_expand_tree.proofs.file_order.order.Goals.{then-is_given+in_ok-push+in_ok-extend_from_slice, else-is_given}
use Rattle.yv_expand_tree.proofs.file_order.order.Goals as goal

pub loop-file-preserved : goal.loop-file-preserved
loop-file-preserved c =
    let files = lent_in c.args.rows.now in
    let choice = selected_of c.args.selection.now in
    let places = part_places files in
    let m = c.loop-file.file in
    let before = c.loop-file.order.items in
    let whole = order_of choice files in
    let t = c.root-item.result in
    let at = read_at c.statements-root-items.result.now files m t c.statements-root-items.ensures c.loop-file-test.true c.root-item.is in
    elim c.if-is_given.branch [
      | then-is_given+in_ok-push+in_ok-extend_from_slice w ↦
          let own : c.if-is_given.order.items ≡ before ++ m ∷ w.at.result.now =
          ap (λ v. v.items) w.order-is ∙ w.in_ok-extend_from_slice.ensures.items
          ∙ ap (λ (l : List ℕ). l ++ w.at.result.now) w.in_ok-push.ensures.items ∙ append_assoc before (m ∷ []) w.at.result.now in
          order_step choice places files m t true w.at.result.now before c.if-is_given.order.items whole at (sym w.if-is_given.true ∙ c.is_given.ensures)
          (parts_at c.each_place_has_its_numbers.ensures files c.deref.result.now c.in_ok-places.places.items c.len.result m _ w.at.result.now c.deref.ensures.value
          c.in_ok-places.ensures (omega arith) (omega (arith, c.loop-file-test.true, ap length c.statements-root-items.ensures)) w.at.ensures c.in_ok-parts.ensures)
          own c.loop-file.invariant
      | else-is_given w ↦
          order_step choice places files m t false (numbers_at places m) before c.if-is_given.order.items whole at (sym w.if-is_given.false ∙ c.is_given.ensures)
          refl (ap (λ v. v.items) w.order-is ∙ sym (append-nil before)) c.loop-file.invariant
    ]

pub returns-clause-within : goal.returns-clause-within
returns-clause-within c =
    let files = lent_in c.args.rows.now in
    let choice = selected_of c.args.selection.now in
    all_within choice files c.loop-file.order.items
    (order_all choice (part_places files) files c.loop-file.file c.loop-file.order.items (order_of choice files)
    (omega (arith, c.loop-file-test.false, ap length c.statements-root-items.ensures)) c.loop-file.invariant)

pub returns-clause-once : goal.returns-clause-once
returns-clause-once c =
    let files = lent_in c.args.rows.now in
    let choice = selected_of c.args.selection.now in
    let all : c.loop-file.order.items ≡ order_of choice files =
    order_all choice (part_places files) files c.loop-file.file c.loop-file.order.items (order_of choice files)
    (omega (arith, c.loop-file-test.false, ap length c.statements-root-items.ensures)) c.loop-file.invariant in
    λ i k n at there.
    order_once choice files i k n (ap (λ (l : List ℕ). slice_get l i) (sym all) ∙ at) (ap (λ (l : List ℕ). slice_get l k) (sym all) ∙ there)
