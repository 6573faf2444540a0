-- What the nodes above a node say of it (RFC 7950, sections 7.8.2, 7.15, 7.16 and 7.21.1).
use Rattle.std.specs.Prelude.{◌≡◌, ◌==◌, ◌⊎◌, Bool, true, false, not, ◌&&◌, ◌||◌, List, [], ◌∷◌, length, Option, Some, None}
use Rattle.yv_text_statement.specs.declared.refusal.Refusal.{Refusal}
use Rattle.yv_text_statement.specs.declared.refusal.Code.TheVariants as code
use Rattle.yv_text_statement.specs.Order.{Among, Stands}
use Rattle.yv_node_content.specs.declared.kind.NodeKind.{NodeKind}
use Rattle.yv_node_content.specs.declared.kind.NodeKind.TheVariants as kind
use Rattle.yv_node_content.specs.Definition.{is_empty}
use Rattle.yv_node_content.specs.Kinds.{is_case, is_list}
use Rattle.yv_nodes.specs.Labels.{in_operation_or_notification, inherited_config}
use Rattle.yv_nodes.specs.Tree.{Label, Forest}
use Rattle.yv_nodes.specs.Places.{Place, places}
use Rattle.yv_nodes.specs.Refusals.{refusal_of}

-- a list without key
abbrev pub is_keyless : Label → Bool
is_keyless l = is_list l.defined.kind && is_empty l.defined.keys

-- an `if-feature` statement is at a node: the texts of these statements are kept (RFC 7950, section
-- 7.20.2)
abbrev pub has_if_feature : Label → Bool
has_if_feature l = not (length l.defined.features == 0)

-- one of these nodes is a list without key
abbrev pub in_keyless : List Label → Bool
in_keyless [] = false
in_keyless (l ∷ ls) = is_keyless l || in_keyless ls

-- the nearest of these nodes is a case
abbrev pub in_case : List Label → Bool
in_case [] = false
in_case (l ∷ ls) = is_case l.defined.kind

-- there are no nodes
abbrev pub is_top : List Label → Bool
is_top [] = true
is_top (l ∷ ls) = false

-- the node of a place and those above it
abbrev pub line : Place → List Label
line p = p.label ∷ p.above

-- what is stated is true
abbrev pub says_true : Option Bool → Bool
says_true None = false
says_true (Some stated) = stated

-- `config true` below a node that isn't a configuration, outside operations and notifications (RFC
-- 7950, section 7.21.1)
abbrev pub is_misconfigured : Place → Bool
is_misconfigured p = not (in_operation_or_notification (line p))
    && (says_true p.label.defined.stated_config && not (inherited_config p.above))

-- no action and no notification may be below these nodes: one is an operation, a notification or a
-- list without key, or the nearest is a case (RFC 7950, sections 7.15 and 7.16)
abbrev pub bars_nested : List Label → Bool
bars_nested ls = in_operation_or_notification ls || in_keyless ls || in_case ls

-- a node of a kind may not be below these: an action may also not be at the top
abbrev pub is_barred : NodeKind → (above : List Label) → Bool
is_barred kind.Action above = bars_nested above || is_top above
is_barred kind.Notification above = bars_nested above
is_barred _ above = false

-- an action or a notification is where none may be
abbrev pub is_misplaced : Place → Bool
is_misplaced p = is_barred p.label.defined.kind p.above

-- a list of configuration without key (RFC 7950, section 7.8.2)
abbrev pub lacks_key : Place → Bool
lacks_key p = is_keyless p.label && p.label.is_config

-- two truths differ
abbrev pub differ : Bool → Bool → Bool
differ true other = not other
differ false other = other

-- a key with a condition, or which isn't configuration where its list is, or the other way round
-- (RFC 7950, sections 7.8.2 and 7.20.2)
abbrev pub is_misfit : Place → Bool
is_misfit p =
    p.label.is_key
    && (has_if_feature p.label || not (in_operation_or_notification (line p))
    && differ p.label.is_config (inherited_config p.above))

-- f is at the nearest of these nodes, the list of a key
abbrev pub AtNearest : List Label → Bool → Refusal → Type 0
AtNearest [] is_wrong f = ⊥
AtNearest (l ∷ ls) is_wrong f = Stands (is_wrong ≡ true) (refusal_of code.BadKey l) f

-- f is what the nodes above say against a node
abbrev pub BadBelow : Place → Refusal → Type 0
BadBelow p f =
    (Stands (is_misconfigured p ≡ true) (refusal_of code.BadConfig p.label) f
    ⊎ Stands (is_misplaced p ≡ true) (refusal_of code.BadOperation p.label) f)
    ⊎ (Stands (lacks_key p ≡ true) (refusal_of code.BadKey p.label) f
    ⊎ AtNearest p.above (is_misfit p) f)

-- f is in a schema tree
abbrev pub BadByAbove : Forest → Refusal → Type 0
BadByAbove ts f = Among (places ts) (λ k. BadBelow) (length (places ts)) f
