use Rattle.std.proofs.Common.{◌≡◌, ◌<◌, ℕ, List, length, ◌∙◌, ap}
use Rattle.std.specs.List.{flat_map}
use Rattle.yv_link_scopes.specs.Views.{files_in, rows_in}
use Rattle.yv_link_scopes.specs.Rows.{Row}
use Rattle.yv_expand_statements.specs.StatementBlocks.{block_of, is_node_or_uses, is_input, is_output, is_augment, those}
use Rattle.yv_expand.specs.InnerItems.{Lists, numbers_at}
use Rattle.yv_expand.proofs.FiledItems.{block_lists, given_lists}
use Rattle.yv_expand.proofs.blocks.Blocks.read.Goals as goal

pub returns : goal.returns
returns c =
    let files = files_in c.args.rows.now in
    let rows : List Row = rows_in c.args.rows.now in
    let lists : Lists = c.in_ok-own.own.items in
    let augments : Lists = c.in_ok-augments.augments.items in
    let own : (k : ℕ) → k < length rows → numbers_at lists k ≡ those is_node_or_uses rows (block_of rows k) =
    λ k within. block_lists files rows is_node_or_uses lists k c.in_ok-own.ensures within in
    record {
      own = own;
      inputs = λ k within. block_lists files rows is_input _ k c.in_ok-of_blocks.ensures within;
      outputs = λ k within. block_lists files rows is_output _ k c.in_ok-of_blocks-2.ensures within;
      given = λ k within.
          c.in_ok-given.ensures k
          ∙ ap (λ (l : Lists). flat_map (numbers_at l) (numbers_at c.deref-2.result.now k)) c.deref.ensures.value
          ∙ ap (λ (l : Lists). flat_map (numbers_at lists) (numbers_at l k)) c.deref-2.ensures.value
          ∙ ap (flat_map (numbers_at lists)) (block_lists files rows is_augment augments k c.in_ok-augments.ensures within)
          ∙ given_lists files rows lists own (block_of rows k);
    }
