use Rattle.std.proofs.Common.{◌≡◌, ◌+◌, ◌<◌, ◌≤◌, ap, arith, ◌∙◌, List, None, ℕ, length, length-append, map, sym, subst}
use Rattle.std.specs.List.{All, flat_map}
use Rattle.std.proofs.lemmas.List.{length-map}
use Rattle.yv_link_scopes.specs.Files.{Files, brief_of}
use Rattle.yv_link_scopes.specs.Views.{lent_in}
use Rattle.yv_link_scopes.specs.RowList.{rows_of}
use Rattle.yv_link_scopes.specs.Rows.{Row}
use Rattle.yv_expand_statements.specs.StatementBlocks.{given_at, given_before, is_augment, is_node_or_uses, those}
use Rattle.yv_expand.specs.Tree.{all_of, count, item_list}
use Rattle.yv_expand.specs.Expands.{blocks_of}
use Rattle.yv_expand.specs.InnerItems.{ArePlaced, Lists, Give, origins, top_place}
use Rattle.yv_expand.proofs.WholeExpansion.{added_are, files_give, firsts_are, whole_is}
use Rattle.yv_expand.proofs.FiledItems.{order_lists}
use Rattle.yv_expand.proofs.ExpansionUniqueness.{given_fits}
use Rattle.yv_expand.proofs.whole.within.Goals as goal

pub add_items-requires-clause-fits : goal.add_items-requires-clause-fits
add_items-requires-clause-fits c =
    let files : Files = lent_in c.args.rows.now in
    let rows : List Row = rows_of files in
    let marks = c.args.given.now in
    let order : List ℕ = c.args.order.now in
    let given = files_give files marks order c.args.limit c.requires.within c.requires.fits in
    let numbers : List ℕ = given_before (map brief_of files) rows marks (length files) in
    let tops : ArePlaced (top_place is_node_or_uses (map brief_of files)) rows (length (map brief_of files)) c.deref.result.now =
    subst (λ (l : Lists). ArePlaced (top_place is_node_or_uses (map brief_of files)) rows (length (map brief_of files)) l) (sym c.deref.ensures.value) c.in_ok-tops.ensures in
    let firsts : c.deref-2.result.now ≡ those is_node_or_uses rows (flat_map (given_at (map brief_of files) rows marks) order) =
    c.deref-2.ensures.value ∙ c.in_ok-own_firsts.ensures ∙ order_lists (map brief_of files) rows is_node_or_uses c.deref.result.now marks order tops c.requires.within in
    let own_give : Give (map brief_of files) rows (origins c.deref-2.result.now) (all_of given.trees) =
    subst (λ (l : List ℕ). Give (map brief_of files) rows (origins l) (all_of given.trees)) (sym firsts) given.tops in
    let few : count (all_of given.trees) + count (all_of given.added) ≤ c.args.limit =
    given_fits c.a_name_means_one_thing.ensures c.a_tree_is_listed_whole.ensures files marks order c.args.limit
    (subst (λ (n : ℕ). All (λ file. file < n) order) (length-map files brief_of) c.requires.within) c.requires.once c.requires.fits given in
    let empty : length c.new-expansion.result.items ≡ 0 = ap length c.new-expansion.ensures.items in
    let limit : c.new-expansion.result.limit ≡ c.args.limit = c.new-expansion.ensures.limit in
    (all_of given.trees, own_give, omega (arith, few, empty, limit))

pub add_items-requires-2-clause-fits : goal.add_items-requires-2-clause-fits
add_items-requires-2-clause-fits c =
    let files : Files = lent_in c.args.rows.now in
    let rows : List Row = rows_of files in
    let marks = c.args.given.now in
    let order : List ℕ = c.args.order.now in
    let given = files_give files marks order c.args.limit c.requires.within c.requires.fits in
    let numbers : List ℕ = given_before (map brief_of files) rows marks (length files) in
    let tops : ArePlaced (top_place is_node_or_uses (map brief_of files)) rows (length (map brief_of files)) c.deref.result.now =
    subst (λ (l : Lists). ArePlaced (top_place is_node_or_uses (map brief_of files)) rows (length (map brief_of files)) l) (sym c.deref.ensures.value) c.in_ok-tops.ensures in
    let firsts : c.deref-2.result.now ≡ those is_node_or_uses rows (flat_map (given_at (map brief_of files) rows marks) order) =
    c.deref-2.ensures.value ∙ c.in_ok-own_firsts.ensures ∙ order_lists (map brief_of files) rows is_node_or_uses c.deref.result.now marks order tops c.requires.within in
    let own_give : Give (map brief_of files) rows (origins c.deref-2.result.now) (all_of given.trees) =
    subst (λ (l : List ℕ). Give (map brief_of files) rows (origins l) (all_of given.trees)) (sym firsts) given.tops in
    let augments : ArePlaced (top_place is_augment (map brief_of files)) rows (length (map brief_of files)) c.deref-3.result.now =
    subst (λ (l : Lists). ArePlaced (top_place is_augment (map brief_of files)) rows (length (map brief_of files)) l) (sym c.deref-3.ensures.value) c.in_ok-applied.ensures in
    let applied : c.deref-4.result.now ≡ those is_augment rows numbers =
    c.deref-4.ensures.value ∙ firsts_are is_augment files marks c.deref-3.result.now _ augments c.in_ok-augments.ensures in
    let added : c.deref-5.result.now ≡ those is_node_or_uses rows (blocks_of rows numbers) =
    c.deref-5.ensures.value ∙ added_are files c.in_ok-blocks.blocks.own.items numbers c.deref-4.result.now _ c.in_ok-blocks.ensures.own applied c.in_ok-added.ensures in
    let more_give : Give (map brief_of files) rows (origins c.deref-5.result.now) (all_of given.added) =
    subst (λ (l : List ℕ). Give (map brief_of files) rows (origins l) (all_of given.added)) (sym added) given.others in
    let few : count (all_of given.trees) + count (all_of given.added) ≤ c.args.limit =
    given_fits c.a_name_means_one_thing.ensures c.a_tree_is_listed_whole.ensures files marks order c.args.limit
    (subst (λ (n : ℕ). All (λ file. file < n) order) (length-map files brief_of) c.requires.within) c.requires.once c.requires.fits given in
    let empty : length c.new-expansion.result.items ≡ 0 = ap length c.new-expansion.ensures.items in
    let limit : c.new-expansion.result.limit ≡ c.args.limit = c.new-expansion.ensures.limit in
    let first : length c.add_items.new.expansion.items ≡ length c.new-expansion.result.items + length (item_list None (length c.new-expansion.result.items) (all_of given.trees)) =
    ap length (c.in_ok-add_items.ensures.items (all_of given.trees) own_give) ∙ length-append c.new-expansion.result.items (item_list None (length c.new-expansion.result.items) (all_of given.trees)) in
    let long = c.a_tree_is_listed_whole.ensures None (length c.new-expansion.result.items) (all_of given.trees) in
    let same : c.add_items.new.expansion.limit ≡ c.new-expansion.result.limit = c.in_ok-add_items.ensures.limit in
    (all_of given.added, more_give, omega (arith, few, empty, limit, first, long, same))

pub returns-clause-expands : goal.returns-clause-expands
returns-clause-expands c =
    let files : Files = lent_in c.args.rows.now in
    let rows : List Row = rows_of files in
    let marks = c.args.given.now in
    let order : List ℕ = c.args.order.now in
    let given = files_give files marks order c.args.limit c.requires.within c.requires.fits in
    let numbers : List ℕ = given_before (map brief_of files) rows marks (length files) in
    let tops : ArePlaced (top_place is_node_or_uses (map brief_of files)) rows (length (map brief_of files)) c.deref.result.now =
    subst (λ (l : Lists). ArePlaced (top_place is_node_or_uses (map brief_of files)) rows (length (map brief_of files)) l) (sym c.deref.ensures.value) c.in_ok-tops.ensures in
    let firsts : c.deref-2.result.now ≡ those is_node_or_uses rows (flat_map (given_at (map brief_of files) rows marks) order) =
    c.deref-2.ensures.value ∙ c.in_ok-own_firsts.ensures ∙ order_lists (map brief_of files) rows is_node_or_uses c.deref.result.now marks order tops c.requires.within in
    let own_give : Give (map brief_of files) rows (origins c.deref-2.result.now) (all_of given.trees) =
    subst (λ (l : List ℕ). Give (map brief_of files) rows (origins l) (all_of given.trees)) (sym firsts) given.tops in
    let augments : ArePlaced (top_place is_augment (map brief_of files)) rows (length (map brief_of files)) c.deref-3.result.now =
    subst (λ (l : Lists). ArePlaced (top_place is_augment (map brief_of files)) rows (length (map brief_of files)) l) (sym c.deref-3.ensures.value) c.in_ok-applied.ensures in
    let applied : c.deref-4.result.now ≡ those is_augment rows numbers =
    c.deref-4.ensures.value ∙ firsts_are is_augment files marks c.deref-3.result.now _ augments c.in_ok-augments.ensures in
    let added : c.deref-5.result.now ≡ those is_node_or_uses rows (blocks_of rows numbers) =
    c.deref-5.ensures.value ∙ added_are files c.in_ok-blocks.blocks.own.items numbers c.deref-4.result.now _ c.in_ok-blocks.ensures.own applied c.in_ok-added.ensures in
    let more_give : Give (map brief_of files) rows (origins c.deref-5.result.now) (all_of given.added) =
    subst (λ (l : List ℕ). Give (map brief_of files) rows (origins l) (all_of given.added)) (sym added) given.others in
    whole_is files marks order c.a_tree_is_listed_whole.ensures c.trees_are_listed_in_order.ensures.lists given c.new-expansion.result.items c.add_items.new.expansion.items c.add_items-2.new.expansion.items
    c.len-own.result c.new-expansion.ensures.items (c.in_ok-add_items.ensures.items (all_of given.trees) own_give)
    (c.in_ok-add_items-2.ensures.items (all_of given.added) more_give) c.len-own.ensures.count

pub returns-clause-augments : goal.returns-clause-augments
returns-clause-augments c =
    let files : Files = lent_in c.args.rows.now in
    let rows : List Row = rows_of files in
    let marks = c.args.given.now in
    let count : length (map brief_of files) ≡ length files = length-map files brief_of in
    let augments : ArePlaced (top_place is_augment (map brief_of files)) rows (length (map brief_of files)) c.deref-3.result.now =
    subst (λ (l : Lists). ArePlaced (top_place is_augment (map brief_of files)) rows (length (map brief_of files)) l) (sym c.deref-3.ensures.value) c.in_ok-applied.ensures in
    firsts_are is_augment files marks c.deref-3.result.now _ augments c.in_ok-augments.ensures
    ∙ ap (λ (n : ℕ). those is_augment rows (given_before (map brief_of files) rows marks n)) (sym count)
