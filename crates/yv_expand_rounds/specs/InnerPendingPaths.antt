-- Only private clauses cite this: how far the paths of augments that wait were followed.
use Rattle.std.specs.Prelude.{◌≡◌, ◌≢◌, ◌⊎◌, ◌<◌, ◌+◌, ◌-◌, ℕ, nat_lt, Bool, true, List, length, take, drop, if◌then◌else◌, Option, Some, None, slice_get, slice_index_or}
use Rattle.yv_expand_rounds.specs.declared.label.Label.{Label}
use Rattle.yv_expand_rounds.specs.declared.end.End.{End}
use Rattle.yv_expand_rounds.specs.declared.end.End.TheVariants as end
use Rattle.yv_expand_rounds.specs.declared.trail.Trail.{Trail}
use Rattle.yv_expand_rounds.specs.declared.rounds.PathProgress.{PathProgress}
use Rattle.yv_expand_rounds.specs.Groups.{Groups, members_of}
use Rattle.yv_expand_rounds.specs.Paths.{first_named, path_end}
use Rattle.yv_expand_rounds.specs.InnerGroups.{IsOneOf}
use Rattle.yv_expand_rounds.specs.InnerHiddenNodes.{IsClosed, is_hidden_at}

-- where a path from the top has come whose first steps lead there
abbrev pub last_end : List End → End
last_end ends = slice_index_or ends (length ends - 1) (end.Start 0)

-- where a path ends that was followed so far, if it was followed to its end
abbrev pub end_reached : List ℕ → List End → Option End
end_reached names ends = if nat_lt (length ends) (length names) then None else Some (last_end ends)

-- the first node of a name in a group
abbrev pub first : List Label → Groups → (group name : ℕ) → Option ℕ
first labels groups g name = first_named labels name (members_of groups g)

-- each node that was the first of its name is the first still, but in one group, and but for these
abbrev pub KeepFirst : List Label → (but : ℕ) → Groups → Groups → List ℕ → Type 0
KeepFirst labels but old new gone = (g name i : ℕ) → g ≢ but → first labels old g name ≡ Some i
    → (first labels new g name ≡ Some i) ⊎ IsOneOf gone i

-- so many steps of a path from the top lead there
abbrev pub Lead : List Label → Groups → List ℕ → (count : ℕ) → End → Type 0
Lead labels groups names count e =
    path_end labels groups (length labels) (take count names) (end.Start 0) ≡ Some e

-- the first steps of a path from the top lead there, but for those to hidden nodes
abbrev pub IsTrail : List Label → Groups → List Bool → List ℕ → List End → Type 0
IsTrail labels groups marks names ends = (place : ℕ) (e : End) → slice_get ends place ≡ Some e
    → Lead labels groups names (place + 1) e ⊎ (is_hidden_at marks e ≡ true)

-- what a turn keeps: all that is below hidden items is hidden, and trails lead where they did
pub record StillLead (labels : List Label) (old new : Groups)
    (before after : List Bool) : Type 0 where
  pub closed : IsClosed labels new after
  pub lead : (names : List ℕ) (ends : List End) → IsTrail labels old before names ends
      → IsTrail labels new after names ends

-- so far the paths were followed
pub record AreWaiting (labels : List Label) (groups : Groups) (paths : List (List ℕ))
    (waiting : PathProgress) : Type 0 where
  pub closed : IsClosed labels groups waiting.hidden.marks.items
  pub trails : (j : ℕ) (names : List ℕ) (t : Trail) → slice_get paths j ≡ Some names
      → slice_get waiting.trails.items j ≡ Some t
      → IsTrail labels groups waiting.hidden.marks.items names t.ends.items

-- a path was followed on, as far as it leads
pub record IsFollowed (labels : List Label) (groups : Groups) (names : List ℕ)
    (old new : List End) : Type 0 where
  pub leads : Lead labels groups names (length new) (last_end new)
  pub each : (place : ℕ) (e : End) → slice_get new place ≡ Some e
      → (slice_get old place ≡ Some e) ⊎ Lead labels groups names (place + 1) e
  pub stops : length new < length names
      → path_end labels groups (length labels) (drop (length new) names) (last_end new) ≡ None
