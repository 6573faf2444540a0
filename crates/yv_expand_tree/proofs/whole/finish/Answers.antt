use Rattle.std.proofs.Common.{◌≡◌, refl, Some, None, subst}
use Rattle.yv_text_statement.specs.declared.refusal.Refusal.{Refusal}
use Rattle.yv_text_statement.specs.Order.{IsLeast}
use Rattle.yv_link_scopes.specs.Views.{lent_in}
use Rattle.yv_expand_tree.specs.Refusals.{BadFinal}
use Rattle.yv_expand_tree.proofs.ExpansionResult.{changes_are, final_least, final_of, is_final, known_by}
use Rattle.yv_expand_tree.proofs.whole.finish.Goals as goal

pub returns-in-Some-clause-refusal : goal.returns-in-Some-clause-refusal
returns-in-Some-clause-refusal c = λ choice r whole are e. (
    let files = lent_in c.args.rows.now in
    let items = c.args.expanded.expansion.items in
    let augments = c.args.expanded.augments.items in
    let g = c.in_ok-full_tree.full_tree in
    let known = known_by files g c.in_ok-full_tree.missing c.items.result.now items c.deref.result.now augments c.items.ensures.items c.deref.ensures.value c.in_ok-full_tree.ensures in
    let final = final_of files g c.in_ok-full_tree.missing items augments known in
    let is = is_final files g c.in_ok-full_tree.missing choice c.args.expanded.own items augments known whole are in
    let changes = changes_are files g c.in_ok-full_tree.missing items augments known c.deref-2.result.now c.in_ok-changes.changes
    c.deref-2.ensures.value c.in_ok-changes.ensures in
    let found : IsLeast (BadFinal choice files) (Some c.in-Some.refusal) =
    final_least choice files (c.files_have_one_final_tree.ensures choice files) final (Some c.in-Some.refusal) is
    (rw c.in-Some.is at (c.in_ok-refusal.ensures final c.items-2.ensures.items c.deref-3.ensures.value known.1 known.1.tree.rows_are changes known.2)) in
    let same : c.in-Some.refusal ≡ r = cc in
    subst (λ (x : Refusal). IsLeast (BadFinal choice files) (Some x)) same found)

pub returns-clause-keeps : goal.returns-clause-keeps
returns-clause-keeps c = λ choice whole are. (
    let files = lent_in c.args.rows.now in
    let items = c.args.expanded.expansion.items in
    let augments = c.args.expanded.augments.items in
    let g = c.in_ok-full_tree.full_tree in
    let known = known_by files g c.in_ok-full_tree.missing c.items.result.now items c.deref.result.now augments c.items.ensures.items c.deref.ensures.value c.in_ok-full_tree.ensures in
    let final = final_of files g c.in_ok-full_tree.missing items augments known in
    let is = is_final files g c.in_ok-full_tree.missing choice c.args.expanded.own items augments known whole are in
    let changes = changes_are files g c.in_ok-full_tree.missing items augments known c.deref-2.result.now c.in_ok-changes.changes
    c.deref-2.ensures.value c.in_ok-changes.ensures in
    let left = c.in_ok-left.ensures final c.items-2.ensures.items known.1 c.deref-3.ensures.value known.1.tree.rows_are changes in
    record {
      final = final;
      is_final = is;
      items = refl;
      spots = known.1.spots;
      augments = refl;
      changes = changes;
      nodes = left.0;
      are_left = left.1;
      left = left.2;
    })

pub returns-clause-clear : goal.returns-clause-clear
returns-clause-clear c = λ choice whole are. (
    let files = lent_in c.args.rows.now in
    let items = c.args.expanded.expansion.items in
    let augments = c.args.expanded.augments.items in
    let g = c.in_ok-full_tree.full_tree in
    let known = known_by files g c.in_ok-full_tree.missing c.items.result.now items c.deref.result.now augments c.items.ensures.items c.deref.ensures.value c.in_ok-full_tree.ensures in
    let final = final_of files g c.in_ok-full_tree.missing items augments known in
    let is = is_final files g c.in_ok-full_tree.missing choice c.args.expanded.own items augments known whole are in
    let changes = changes_are files g c.in_ok-full_tree.missing items augments known c.deref-2.result.now c.in_ok-changes.changes
    c.deref-2.ensures.value c.in_ok-changes.ensures in
    final_least choice files (c.files_have_one_final_tree.ensures choice files) final None is
    (let none : c.in_ok-refusal.field-0 ≡ None = c.in_default.is in rw none at (c.in_ok-refusal.ensures final c.items-2.ensures.items c.deref-3.ensures.value known.1 known.1.tree.rows_are changes known.2)))
