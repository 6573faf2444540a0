-- What a refine makes of what a block gives (RFC 7950, section 7.13.2).
use Rattle.std.specs.Prelude.{◌≡◌, ℕ, ◌<◌, ◌≤◌, Bool, false, List, [], ◌∷◌, ◌++◌, Some}
use Rattle.std.specs.List.{Contains}
use Rattle.yv_expand_rounds.specs.declared.end.End.TheVariants as end
use Rattle.yv_expand_rounds.specs.declared.label.Label.{Label}
use Rattle.yv_expand_rounds.specs.Groups.{members_of}
use Rattle.yv_expand_rounds.specs.Paths.{path_end}
use Rattle.yv_expand_rounds.specs.Turns.{State}
use Rattle.yv_expand_definition.specs.Nodes.{Forest, Node}
use Rattle.yv_expand_definition.specs.Paths.{Leads, Step, at}
use Rattle.yv_expand_laws.specs.Blocks.{Block, enter_block}
use Rattle.yv_expand_laws.specs.Comes.{Comes, HasMarks, MarksBlock}
use Rattle.yv_expand_laws.specs.Frames.{MayEnter}
use Rattle.yv_expand_laws.specs.RefineStep.{add_refine}
use Rattle.yv_expand_laws.specs.Shows.{Agree, Items}

-- this block, whose items show these nodes, may enter a group, and what is there already comes
-- after the limit of a path
pub record IsRefinable (labels : List Label) (its : Items) (mark : ℕ → Bool) (g lo hi c e limit : ℕ)
    (block : Block lo hi c e) (st : State) (m : Forest) : Type 0 where
  pub comes : Comes labels its _ _ _ _ block m
  pub marked : MarksBlock labels its.given mark g block
  pub enters : MayEnter labels g lo hi c e st
  pub empty : (x : ℕ) → lo < x → x ≤ hi → members_of st.groups x ≡ []
  pub marks : HasMarks its.given mark st
  pub within : hi ≤ limit
  pub behind : (i : ℕ) → Contains (members_of st.groups g) i → limit ≤ i

-- The refine means an item of the block, which shows the node that its path means; and when the
-- item has the refine the block gives the nodes with it.
abbrev pub BlockIsRefined : List Label → Items → (mark : ℕ → Bool) → Type 0
BlockIsRefined labels its mark =
    (g lo hi c e limit k : ℕ) (block : Block lo hi c e) (names : List ℕ) (ss : List Step)
    (st : State) (m below there : Forest) (target : Node)
    → IsRefinable labels its mark g lo hi c e limit block st m → Agree labels its names ss
    → Leads false ss m (at target below
    (record target { refines = target.refines ++ k ∷ [] }) below) there
    → (i : ℕ) × (path_end labels (enter_block labels g block st).groups limit names (end.Start g)
    ≡ Some (end.Node i)) × (target ≡ its.node_of i) × (lo ≤ i)
    × (i < hi) × Comes labels (add_refine its i k) _ _ _ _ block there

-- where its path means no node, it means no item
abbrev pub BlockIsMissed : List Label → Items → (mark : ℕ → Bool) → Type 0
BlockIsMissed labels its mark =
    (g lo hi c e limit i : ℕ) (block : Block lo hi c e) (names : List ℕ) (ss : List Step)
    (st : State) (m : Forest)
    → IsRefinable labels its mark g lo hi c e limit block st m → Agree labels its names ss
    → ((target : Node) (below there : Forest)
    → Leads false ss m (at target below target below) there → ⊥)
    → path_end labels (enter_block labels g block st).groups limit names (end.Start g)
    ≡ Some (end.Node i) → ⊥
