-- What is wrong with a schema tree, but for duplicate names, for what keys and `unique` statements
-- name, and for paths.
use Rattle.std.specs.Prelude.{◌⊎◌}
use Rattle.yv_text_statement.specs.declared.refusal.Refusal.{Refusal}
use Rattle.yv_nodes.specs.Tree.{Forest}
use Rattle.yv_node_checks.specs.Above.{BadByAbove}
use Rattle.yv_node_checks.specs.Mandatory.{BadByDefault}

-- a refusal by what is above a node, or by a default
abbrev pub BadTree : Forest → Refusal → Type 0
BadTree ts f = BadByAbove ts f ⊎ BadByDefault ts f
