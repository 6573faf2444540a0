use Rattle.std.proofs.Common.{◌≡◌, take}
use Rattle.yv_link_scopes.specs.Views.{rows_in}
use Rattle.yv_type_chains.specs.InnerBlocks.{blocks_from}
use Rattle.yv_type_chains.proofs.by_block.blocks.Given as goal

abbrev pub invariant-loop-number : goal.invariant-loop-number
invariant-loop-number l = l.blocks.items ≡ blocks_from 0 (take l.number (rows_in l.rows))
