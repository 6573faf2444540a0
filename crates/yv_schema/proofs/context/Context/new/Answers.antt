use Rattle.std.proofs.Common.{refl}
use Rattle.yv_schema.specs.InnerContext.{Tells}
use Rattle.yv_schema.specs.declared.context.Context.{Context}
use Rattle.yv_schema.proofs.context.Context.new.Goals as goal

pub returns-clause-tells : goal.returns-clause-tells
returns-clause-tells c = λ b choice files typing refined k final nodes.
    let made : Context = record { definitions = c.args.definitions; refined = c.args.refined; tree = c.args.tree } in
    let told : Tells b made = record { files = files; typing = typing; refined = refined; choice = choice; kept = k; final = final; nodes = nodes } in
    (told, refl)
