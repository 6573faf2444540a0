use Rattle.std.proofs.Common.{◌∙◌, arith}
use Rattle.yv_link_scopes.specs.Views.{rows_in}
use Rattle.yv_type_chains.proofs.Families.{family}
use Rattle.yv_type_chains.proofs.by_block.types_by_block.Goals as goal

pub returns : goal.returns
returns c =
    family (rows_in c.args.rows.now) c.deref.result.now c.len.result c.in_ok-types.types c.each_place_has_its_numbers.ensures
    (c.deref.ensures.value ∙ c.in_ok-blocks.ensures) (omega arith) c.in_ok-types.ensures
