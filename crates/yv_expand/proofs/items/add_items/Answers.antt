use Rattle.std.proofs.Common.{◌≡◌, ◌<◌, ◌+◌, ◌∙◌, ◌++◌, refl, ap, arith, inl, inr, Some, reverse, length}
use Rattle.yv_link_scopes.specs.Views.{files_in, rows_in}
use Rattle.yv_expand.specs.Tree.{count}
use Rattle.yv_expand.specs.InnerItems.{items_below, origins}
use Rattle.yv_expand.proofs.Listing.{longer}
use Rattle.yv_expand.proofs.ItemStack.{below_start, below_step, below_top, give_many, length_origins, on_err_of, stack_room, whole_room, whole_start, whole_step}
use Rattle.yv_expand.proofs.items.add_items.Goals as goal

pub loop-item-init : goal.loop-item-init
loop-item-init c = record {
  kept = refl;
  stack_room = c.in_ok-put.ensures.grows;
  items_room = omega arith;
  parents = below_start _ (origins c.args.firsts.now) c.args.stack.now.items _ c.requires.empty c.in_ok-put.ensures.items;
  pending = λ t give. whole_start (files_in c.args.rows.now) (rows_in c.args.rows.now) (origins c.args.firsts.now) t c.args.stack.now.items _ c.args.expansion.now.items c.requires.empty c.in_ok-put.ensures.items give;
}

pub push-requires-clause-parent : goal.push-requires-clause-parent
push-requires-clause-parent c = below_top _ c.loop-item.stack.items _ c.in-Some.item c.in-Some.ensures.items c.loop-item.invariant.parents

pub push-requires-clause-room : goal.push-requires-clause-room
push-requires-clause-room c =
    let (t, give, fits) = c.requires.fits in
    let old = c.args.expansion.now.items in
    let room : length c.loop-item.expansion.items < length old + count t =
    whole_room (files_in c.args.rows.now) (rows_in c.args.rows.now) c.a_tree_is_listed_whole.ensures c.in-Some.item c.loop-item.expansion.items old c.loop-item.stack.items c.pop.new.self.items t c.in-Some.ensures.items
    (c.loop-item.invariant.pending t give) in
    let kept : c.loop-item.expansion.limit ≡ c.args.expansion.now.limit = c.loop-item.invariant.kept in
    omega (arith, room, fits, kept)

pub loop-item-smaller : goal.loop-item-smaller
loop-item-smaller c =
    let (t, give, fits) = c.requires.fits in
    let old = c.args.expansion.now.items in
    let room : length c.loop-item.expansion.items < length old + count t =
    whole_room (files_in c.args.rows.now) (rows_in c.args.rows.now) c.a_tree_is_listed_whole.ensures c.in-Some.item c.loop-item.expansion.items old c.loop-item.stack.items c.pop.new.self.items t c.in-Some.ensures.items
    (c.loop-item.invariant.pending t give) in
    let more : length c.push.new.self.items ≡ length c.loop-item.expansion.items + 1 = ap length c.in_ok-push.ensures.adds ∙ longer c.loop-item.expansion.items _ in
    let limit : c.push.new.self.limit ≡ c.loop-item.expansion.limit = c.in_ok-push.ensures.limit in
    let kept : c.loop-item.expansion.limit ≡ c.args.expansion.now.limit = c.loop-item.invariant.kept in
    omega (arith, room, fits, more, limit, kept)

pub loop-item-preserved : goal.loop-item-preserved
loop-item-preserved c =
    let these = c.in_ok-put_below.ensures.some in
    record {
      kept = c.in_ok-push.ensures.limit ∙ c.loop-item.invariant.kept;
      stack_room = omega (arith, c.loop-item.invariant.stack_room, c.in-Some.ensures.capacity, c.in_ok-put_below.ensures.grows);
      items_room = omega (arith, c.loop-item.invariant.items_room, c.in_ok-push.ensures.keeps);
      parents = below_step (length c.loop-item.expansion.items) _ c.loop-item.stack.items c.pop.new.self.items _ c.in-Some.item these.0 (ap length c.in_ok-push.ensures.adds ∙ longer c.loop-item.expansion.items _) c.in-Some.ensures.items
          (these.1 ∙ ap (λ n. c.pop.new.self.items ++ reverse (items_below (Some n) these.0)) c.len-number.ensures.count) c.loop-item.invariant.parents;
      pending = λ t give. whole_step (files_in c.args.rows.now) (rows_in c.args.rows.now) c.in-Some.item c.loop-item.expansion.items _ _ c.loop-item.stack.items c.pop.new.self.items _ c.in-Some.ensures.items c.in_ok-push.ensures.adds
          (λ inner stands. c.in_ok-put_below.ensures.below inner c.requires.names c.requires.blocks stands ∙ ap (λ n. c.pop.new.self.items ++ reverse (items_below (Some n) inner)) c.len-number.ensures.count)
          (c.loop-item.invariant.pending t give);
    }

pub returns-in_err-put-clause-full : goal.returns-in_err-put-clause-full
returns-in_err-put-clause-full c =
    let (t, give, fits) = c.requires.fits in
    let many = give_many (files_in c.args.rows.now) (rows_in c.args.rows.now) (origins c.args.firsts.now) t give in
    let none : length c.args.stack.now.items ≡ 0 = ap length c.requires.empty in
    on_err_of c.from_residual.result (inl (omega (arith, many, none, fits, length_origins c.args.firsts.now, c.in_err-put.ensures.full)))

pub returns-in_err-push-clause-full : goal.returns-in_err-push-clause-full
returns-in_err-push-clause-full c =
    let (t, give, fits) = c.requires.fits in
    let old = c.args.expansion.now.items in
    let room : length c.loop-item.expansion.items < length old + count t =
    whole_room (files_in c.args.rows.now) (rows_in c.args.rows.now) c.a_tree_is_listed_whole.ensures c.in-Some.item c.loop-item.expansion.items old c.loop-item.stack.items c.pop.new.self.items t c.in-Some.ensures.items
    (c.loop-item.invariant.pending t give) in
    on_err_of c.from_residual-in_err-push.result (inr (omega (arith, room, fits, c.loop-item.invariant.items_room, c.in_err-push.ensures.full)))

pub returns-in_err-put_below-clause-full : goal.returns-in_err-put_below-clause-full
returns-in_err-put_below-clause-full c =
    let (t, give, fits) = c.requires.fits in
    let old = c.args.expansion.now.items in
    let (inner, stands, room) =
    stack_room (files_in c.args.rows.now) (rows_in c.args.rows.now) c.a_tree_is_listed_whole.ensures c.in-Some.item c.loop-item.expansion.items old c.loop-item.stack.items c.pop.new.self.items t c.in-Some.ensures.items
    (c.loop-item.invariant.pending t give) in
    on_err_of c.from_residual-in_err-put_below.result (inl (omega (arith, room, fits, c.loop-item.invariant.stack_room, c.in-Some.ensures.capacity, c.in_err-put_below.ensures.full inner c.requires.names c.requires.blocks stands)))
