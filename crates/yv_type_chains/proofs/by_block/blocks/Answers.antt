use Rattle.std.proofs.Common.{◌∷◌, ◌++◌, [], List, ℕ, Option, sym, ◌∙◌, ap, take, arith}
use Rattle.std.proofs.lemmas.List.{take_all}
use Rattle.yv_link_scopes.specs.Rows.{Row, row}
use Rattle.yv_link_scopes.specs.Views.{rows_in}
use Rattle.yv_type_chains.specs.InnerBlocks.{blocks_from}
use Rattle.yv_type_chains.proofs.Words.{row_read, rows_count}
use Rattle.yv_type_chains.proofs.Families.{blocks_more}
use Rattle.yv_type_chains.proofs.by_block.blocks.Goals as goal

pub loop-number-preserved : goal.loop-number-preserved
loop-number-preserved c =
    let rows : List Row = rows_in c.args.rows.now in
    let at = row_read row _ rows c.loop-number.number c.index-entries-number.result c.entries-entries.ensures c.loop-number-test.true c.index-entries-number.is in
    c.in_ok-push.ensures.items
    ∙ ap (λ (xs : List (Option ℕ)). xs ++ c.block_of.result ∷ []) c.loop-number.invariant
    ∙ ap (λ (b : Option ℕ). blocks_from 0 (take c.loop-number.number rows) ++ b ∷ []) c.block_of.ensures
    ∙ sym (blocks_more c.loop-number.number rows (row c.index-entries-number.result) at)

pub returns : goal.returns
returns c =
    let rows : List Row = rows_in c.args.rows.now in
    let count = rows_count row _ rows c.entries-entries.ensures in
    c.loop-number.invariant ∙ ap (blocks_from 0) (take_all c.loop-number.number rows (omega (arith, count, c.loop-number-test.false)))
