use Rattle.std.proofs.Common.{ap, ◌∙◌}
use Rattle.std.specs.Prelude.{is_some}
use Rattle.yv_schema_tables.proofs.ChildLookup.{inside_named, known_is}
use Rattle.yv_schema_tables.proofs.schema.Schema.find.Goals as goal

pub returns-clause-child : goal.returns-clause-child
returns-clause-child c = inside_named c.args.self.now c.args.parent c.args.member.now _ c.look_up.ensures.sound c.requires.within c.look_up.ensures.value

pub returns-clause-knows : goal.returns-clause-knows
returns-clause-knows c =
    ap is_some c.look_up.ensures.value ∙ known_is c.args.self.now c.args.parent c.args.member.now c.look_up.ensures.sound c.requires.within
