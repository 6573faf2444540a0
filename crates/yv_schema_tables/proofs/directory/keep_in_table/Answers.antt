use Rattle.std.proofs.Common.{sym, ◌∙◌}
use Rattle.indexmap.specs.IndexMap.{get}
use Rattle.yv_schema_tables.specs.InnerTables.{same_member}
use Rattle.yv_schema_tables.proofs.ChildDirectories.{kept_new}
use Rattle.yv_schema_tables.proofs.directory.keep_in_table.Goals as goal

pub returns-clause-keeps : goal.returns-clause-keeps
returns-clause-keeps c = λ other.
    c.in_ok-insert.ensures.updates.0 other
    ∙ kept_new (get same_member c.args.table.now) c.args.member other c.args.child (sym c.contains_key.ensures ∙ c.if-contains_key.false)
