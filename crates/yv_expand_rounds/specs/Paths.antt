-- Where a schema path leads (RFC 7950, section 6.5).
use Rattle.std.specs.Prelude.{ℕ, ◌+◌, ◌&&◌, not, nat_lt, min, Bool, false, List, [], ◌∷◌, if◌then◌else◌, Option, Some, None, slice_get}
use Rattle.std.specs.Option.{option_map, option_and_then, option_or}
use Rattle.yv_expand_rounds.specs.declared.label.Label.{Label}
use Rattle.yv_expand_rounds.specs.declared.end.End.{End}
use Rattle.yv_expand_rounds.specs.declared.end.End.TheVariants as end
use Rattle.yv_expand_statements.specs.Kinds.{is_choice, is_case}
use Rattle.yv_expand_rounds.specs.Labels.{is_named}
use Rattle.yv_expand_rounds.specs.Groups.{Groups, members_of}
use Rattle.yv_expand_rounds.specs.Order.{is_given}

-- the lesser of two numbers that may be there
abbrev pub lesser : Option ℕ → Option ℕ → Option ℕ
lesser None b = b
lesser (Some i) None = Some i
lesser (Some i) (Some j) = Some (min i j)

-- the least that passes
abbrev pub least : (ℕ → Bool) → List ℕ → Option ℕ
least passes [] = None
least passes (i ∷ is) = lesser (if passes i then Some i else None) (least passes is)

-- The first node of a name in order: the one with the least number among those that no augment of a
-- module gives, and if there is none, the least of the rest (RFC 7950, section 7.17).
abbrev pub first_named : List Label → (name : ℕ) → List ℕ → Option ℕ
first_named labels name items =
    option_or (least (λ i. is_named labels name i && not (is_given labels i)) items)
    (least (λ i. is_named labels name i && is_given labels i) items)

-- what was found, if it comes before the limit
abbrev pub before : ℕ → Option ℕ → Option ℕ
before limit None = None
before limit (Some i) = if nat_lt i limit then Some i else None

-- What answers a step in a group: the first node of its name, if that comes before the limit. A
-- limit leaves items out only in the turns of the augments of a uses and where its refines are
-- read, and there an augment of a module gives all items of a group or none of them, so that where
-- the first node of a name isn't before the limit no other node of this name is.
abbrev pub answer : List Label → Groups → (limit group name : ℕ) → Option ℕ
answer labels groups limit g name = before limit (first_named labels name (members_of groups g))

-- an item is in a choice without a `case` of its own (RFC 7950, section 7.9.2)
abbrev pub is_shorthand : Option Label → Option Label → Bool
is_shorthand (Some parent) (Some l) = is_choice parent.kind && not (is_case l.kind)
is_shorthand _ _ = false

-- a step that node j answers below node i leads to node j, or to the case that is left out above
-- it, where i is a choice
abbrev pub end_at : List Label → (i j : ℕ) → End
end_at labels i j = if is_shorthand (slice_get labels i) (slice_get labels j)
    then end.ShorthandCase j else end.Node j

-- where one step leads
abbrev pub step_end : List Label → Groups → (limit : ℕ) → End → (name : ℕ) → Option End
step_end labels groups limit (end.Start g) name =
    option_map (λ j. end.Node j) (answer labels groups limit g name)
step_end labels groups limit (end.Node i) name =
    option_map (end_at labels i) (answer labels groups limit (i + 1) name)
step_end labels groups limit (end.ShorthandCase j) name =
    if is_named labels name j then Some (end.Node j) else None

-- where a path leads, step by step
abbrev pub path_end : List Label → Groups → (limit : ℕ) → List ℕ → End → Option End
path_end labels groups limit [] e = Some e
path_end labels groups limit (name ∷ names) e =
    option_and_then (path_end labels groups limit names) (step_end labels groups limit e name)
