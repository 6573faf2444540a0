-- What is wrong with the nodes of a schema, so that none is built of them.
use Rattle.std.specs.Prelude.{◌⊎◌}
use Rattle.yv_text_statement.specs.declared.refusal.Refusal.{Refusal}
use Rattle.yv_nodes.specs.Tree.{Forest}
use Rattle.yv_node_keys.specs.Bad.{BadLeafs}
use Rattle.yv_schema_tables.specs.DuplicateNodes.{HasDuplicate}

-- f is a duplicate name, or is at a list whose key or `unique` statements name what they may not
abbrev pub BadRows : Forest → Refusal → Type 0
BadRows ts f = HasDuplicate ts f ⊎ BadLeafs ts f
