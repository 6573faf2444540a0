use Rattle.yv_types.specs.Types.{space_at}
use Rattle.yv_node_statements.proofs.TypeKinds.{told_kinds}
use Rattle.yv_node_statements.proofs.laws.types_tell_typing.Goals as goal

pub returns : goal.returns
returns c = λ files choice truth types are. record {
  kinds = told_kinds files choice truth (space_at types) (c.types_tell_spaces.ensures files choice truth types are);
  defaults = c.types_tell_defaults.ensures files choice truth types are;
  referrals = c.types_tell_leafrefs.ensures files choice truth types are;
}
