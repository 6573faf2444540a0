-- An augment's turn: it is applied, if its target is there (RFC 7950, section 7.17).
use Rattle.std.specs.Prelude.{ℕ, ◌+◌, ◌&&◌, not, Bool, true, false, List, set, if◌then◌else◌, Option, Some, None, slice_get, slice_index_or}
use Rattle.std.specs.Option.{option_and_then}
use Rattle.yv_expand_rounds.specs.declared.label.Label.{Label}
use Rattle.yv_expand_rounds.specs.declared.end.End.{End}
use Rattle.yv_expand_rounds.specs.declared.end.End.TheVariants as end
use Rattle.yv_expand_statements.specs.Kinds.{may_be_target}
use Rattle.yv_expand_rounds.specs.Groups.{Groups, group_of_augment, move_items}
use Rattle.yv_expand_rounds.specs.Paths.{path_end}

-- where items are, and for each augment that was applied where its path ended then
pub record State : Type 0 where
  pub groups : Groups
  pub ends : List (Option End)

-- an item is there and an augment may add to it
abbrev pub is_some_target : Option Label → Bool
is_some_target None = false
is_some_target (Some l) = may_be_target l.kind

-- the node to which an augment adds, if its path ends at one that may take nodes
abbrev pub target : List Label → End → Option ℕ
target labels (end.Node i) = if is_some_target (slice_get labels i) then Some i else None
target labels _ = None

-- the node to which the numbered augment adds, if it was applied and there is one
abbrev pub target_of : List Label → List (Option End) → ℕ → Option ℕ
target_of labels ends k = option_and_then (target labels) (slice_index_or ends k None)

-- the group below the node to which an augment adds, or its own while it adds to none
abbrev pub group_of_target : (own : ℕ) → Option ℕ → ℕ
group_of_target own None = own
group_of_target own (Some i) = i + 1

-- the group where what the numbered augment gives is: that of the node to which it adds, and its
-- own while it adds to none
abbrev pub given_group : List Label → List (Option End) → ℕ → ℕ
given_group labels ends k = group_of_target (group_of_augment labels k) (target_of labels ends k)

-- what is in a group is given to a node, if there is one
abbrev pub give : (from : ℕ) → Option ℕ → Groups → Groups
give from None groups = groups
give from (Some i) groups = move_items from (i + 1) groups

-- an augment whose path ends somewhere was applied; where that isn't a target it gives nothing
abbrev pub settle : List Label → (k : ℕ) → Option End → State → State
settle labels k None st = st
settle labels k (Some e) st =
    record {
      groups = give (group_of_augment labels k) (target labels e) st.groups;
      ends = set st.ends k (Some e);
    }

-- an augment has come to an end
abbrev pub is_some : Option End → Bool
is_some None = false
is_some (Some e) = true

-- the numbered augment was applied
abbrev pub is_applied : State → ℕ → Bool
is_applied st k = is_some (slice_index_or st.ends k None)

-- the numbered augment is applied if it wasn't yet and its path ends somewhere
abbrev pub resolve : List Label → (k : ℕ) → Option End → State → State
resolve labels k e st = if is_applied st k then st else settle labels k e st

-- the turn of the numbered augment, whose path begins in a group
abbrev pub turn : List Label → (k start limit : ℕ) → List ℕ → State → State
turn labels k start limit names st =
    resolve labels k (path_end labels st.groups limit names (end.Start start)) st

-- this turn applies it
abbrev pub is_taken : List Label → (k start limit : ℕ) → List ℕ → State → Bool
is_taken labels k start limit names st =
    not (is_applied st k) && is_some (path_end labels st.groups limit names (end.Start start))
