use Rattle.std.proofs.Common.{length, refl}
use Rattle.yv_link_scopes.specs.Views.{files_in, rows_in}
use Rattle.yv_expand_uses.specs.Spots.{whole}
use Rattle.yv_expand_tree.proofs.whole.augmented_tree.Goals as goal

pub returns : goal.returns
returns c =
    let items = c.args.items.now in
    let w = whole (files_in c.args.rows.now) (rows_in c.args.rows.now) c.args.augments.now (length items) in
    let made = c.in_ok-augmented_items.ensures in
    (made.0, c.in_ok-full_tree.ensures w items made.0 made.1, c.first_without_target-missing.ensures w items made.0 made.1 refl refl)
