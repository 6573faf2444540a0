use Rattle.std.proofs.Common.{Option, Some, subst, sym}
use Rattle.std.specs.Borrow.{Bor}
use Rattle.std.specs.Option.{option_copied, option_map}
use Rattle.yv_values.specs.Types.{plain_of}
use Rattle.yv_values.specs.declared.plain.PlainType.{PlainType}
use Rattle.yv_type_restrictions.specs.InnerSteps.{IsLeft}
use Rattle.yv_type_restrictions.proofs.TypeStatementStep.{left_some}
use Rattle.yv_type_restrictions.proofs.step.left_of.Goals as goal

pub returns-in-Ok-clause-leaves : goal.returns-in-Ok-clause-leaves
returns-in-Ok-clause-leaves c =
    subst (λ (o : Option (Bor PlainType)). IsLeft c.args.file c.args.statement.now (option_map plain_of (option_copied o)) (Some (plain_of c.in-Ok.left.plain)) c.in-Ok.left.fault) (sym c.in-Some.is)
    (left_some c.one_type_is_left.ensures c.args.file c.args.statement.now (plain_of c.in-Some.base.now) (plain_of c.in-Ok.left.plain) c.in-Ok.left.fault c.in-Ok.ensures.narrows c.in-Ok.ensures.fault)
