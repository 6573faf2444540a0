use Rattle.std.proofs.Common.{◌∙◌, ap}
use Rattle.yv_schema_tables.specs.InnerTables.{first_held}
use Rattle.yv_schema_tables.proofs.ChildDirectories.{held_more}
use Rattle.yv_schema_tables.proofs.directory.keep_among_few.Goals as goal

pub returns-clause-keeps : goal.returns-clause-keeps
returns-clause-keeps c = λ other.
    ap (λ nodes. first_held nodes other) c.in_ok-push.ensures.items
    ∙ held_more c.args.nodes.now.items (record { member = c.args.member; node = c.args.node }) other
