use Rattle.yv_node_statements.proofs.TypeKinds.{one_typing}
use Rattle.yv_node_statements.proofs.laws.files_have_one_typing.Goals as goal

pub returns : goal.returns
returns c = λ files choice truth a b p q. one_typing files choice truth c.a_type_has_one_space.ensures c.a_type_has_one_default.ensures c.a_type_has_one_referral.ensures a b p q
