-- What is wrong with the `key` and `unique` statements of a schema tree (RFC 7950, sections 7.8.2
-- and 7.8.3).
use Rattle.std.specs.Prelude.{◌≡◌, ◌⊎◌, true, length}
use Rattle.yv_text_statement.specs.declared.refusal.Refusal.{Refusal}
use Rattle.yv_text_statement.specs.declared.refusal.Code.TheVariants as code
use Rattle.yv_text_statement.specs.Order.{Among, Stands}
use Rattle.yv_nodes.specs.Tree.{Forest}
use Rattle.yv_nodes.specs.Places.{Place, places}
use Rattle.yv_nodes.specs.Refusals.{refusal_of}
use Rattle.yv_node_keys.specs.Numbers.{tree_in}
use Rattle.yv_node_keys.specs.Refusals.{is_bad_key, is_bad_unique}

-- f is what is wrong with a node's key, or with its `unique` statements
abbrev pub BadOfLeafs : Place → Refusal → Type 0
BadOfLeafs p f =
    Stands (is_bad_key (tree_in p) p.label.defined.keys ≡ true) (refusal_of code.BadKey p.label) f
    ⊎ Stands (is_bad_unique (tree_in p) p.label.defined.uniques ≡ true)
    (refusal_of code.BadUnique p.label) f

-- f is in a schema tree
abbrev pub BadLeafs : Forest → Refusal → Type 0
BadLeafs ts f = Among (places ts) (λ k. BadOfLeafs) (length (places ts)) f
