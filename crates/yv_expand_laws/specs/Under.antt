-- Which items are in a group at any depth, and which items of a block do when it has entered (RFC
-- 7950, sections 7.13 and 7.17).
use Rattle.std.specs.Prelude.{◌≡◌, ℕ, ◌+◌, ◌<◌, ◌≤◌, ◌⊎◌, ◌↔◌, Bool, List, [], length, Option, Some, None}
use Rattle.std.specs.List.{Contains}
use Rattle.yv_expand.specs.Tree.{Item}
use Rattle.yv_expand_rounds.specs.declared.end.End.{End}
use Rattle.yv_expand_rounds.specs.declared.label.Label.{Label}
use Rattle.yv_expand_rounds.specs.Groups.{Groups, group_of_augment, members_of}
use Rattle.yv_expand_rounds.specs.Tree.{IsTree, Tree, tree_list}
use Rattle.yv_expand_rounds.specs.Turns.{State, target_of}
use Rattle.yv_expand_augments.specs.Augmentation.{AreAugmented, placement}
use Rattle.yv_expand_uses.specs.Spots.{Whole, labels_of, layout_of}
use Rattle.yv_expand_changes.specs.Refusals.{IsThere}
use Rattle.yv_expand_definition.specs.Nodes.{Forest}
use Rattle.yv_expand_laws.specs.FirstItems.{BlocksMarked, first_state}
use Rattle.yv_expand_laws.specs.Blocks.{Augments, Block, augment, no_augments, enter_block}
use Rattle.yv_expand_laws.specs.Comes.{Adds, Comes, HasMarks, MarksBlock}
use Rattle.yv_expand_laws.specs.Comes.Adds.{adds, misses, none_left}
use Rattle.yv_expand_laws.specs.Comes.Comes.{no_items, of_uses, one_node}
use Rattle.yv_expand_laws.specs.Frames.{MayEnter}
use Rattle.yv_expand_laws.specs.Shows.{Items}

-- an item is in a group, or below an item that does so
pub data Under (groups : Groups) (g : ℕ) : ℕ → Type 0 where
  in_group : {x : ℕ} → Contains (members_of groups g) x → Under groups g x
  below_item : {i x : ℕ} → Under groups g i → Contains (members_of groups (i + 1)) x
      → Under groups g x

abbrev mutual
  -- a block keeps all its items, but for those of an augment of a uses whose path misses
  pub Keeps : {labels : List Label} {its : Items} {lo hi c e : ℕ} {block : Block lo hi c e}
      {f : Forest} → Comes labels its lo hi c e block f → ℕ → Type 0
  Keeps no_items x = ⊥
  Keeps (one_node {lo = lo} is_node inner behind) x = (x ≡ lo) ⊎ (Keeps inner x ⊎ Keeps behind x)
  Keeps (of_uses {lo = lo} no_node copies given behind) x = (x ≡ lo)
      ⊎ ((Keeps copies x ⊎ KeepsAdded given x) ⊎ Keeps behind x)

  pub KeepsAdded : {labels : List Label} {its : Items} {lo hi c e k own : ℕ}
      {augments : Augments lo hi c e k own} {m last : Forest}
      → Adds labels its lo hi c e k own augments m last → ℕ → Type 0
  KeepsAdded none_left x = ⊥
  KeepsAdded (adds ss agree l comes hits later) x = Keeps comes x ⊎ KeepsAdded later x
  KeepsAdded (misses ss agree l missed later) x = KeepsAdded later x

-- no number past the last item is anywhere
abbrev pub StandWithin : List Label → State → Type 0
StandWithin labels st = (x i : ℕ) → Contains (members_of st.groups x) i → i < length labels

-- when a block has entered a group, what is there at any depth is what was there, and what the
-- block keeps
abbrev pub BlockStands : List Label → Items → (mark : ℕ → Bool) → Type 0
BlockStands labels its mark =
    (g lo hi c e : ℕ) (block : Block lo hi c e) (st : State) (f : Forest)
    (comes : Comes labels its _ _ _ _ block f) → MarksBlock labels its.given mark g block
    → MayEnter labels g lo hi c e st → ((x : ℕ) → lo < x → x ≤ hi → members_of st.groups x ≡ [])
    → HasMarks its.given mark st
    → StandWithin labels st → (x : ℕ) → Under (enter_block labels g block st).groups g x
    ↔ (Under st.groups g x ⊎ Keeps comes x)

-- of the first so many augments, those of modules, one adds to a node, and an item was in what its
-- block gives
pub record IsAdded (labels : List Label) (augments : ℕ) (start : Groups) (ends : List (Option End))
    (x : ℕ) : Type 0 where
  pub place : ℕ
  pub less : place < augments
  pub target : ℕ
  pub adds : target_of labels ends place ≡ Some target
  pub stands : Under start (group_of_augment labels place) x

-- the items of the final tree are those that were at the top before any augment of a module had its
-- turn, at any depth, and those in what the blocks of augments of modules give that add to a node
abbrev pub FinalStands : Type 0
FinalStands =
    (w : Whole) (items : List Item) (st : State) (t : Tree) (x : ℕ) → w.items ≡ length items
    → AreAugmented w items st
    → IsTree (labels_of (layout_of w items).spots) st.groups t
    → IsThere (tree_list None 1 t) x
    ↔ (Under (placement w (layout_of w items)).groups 0 x
    ⊎ IsAdded (labels_of (layout_of w items).spots) (length w.augments)
    (placement w (layout_of w items)).groups st.ends x)

-- in the group of each augment is what its block keeps
abbrev pub AllStand : List Label → Items → State → {lo hi c e k own : ℕ} → Augments lo hi c e k own
    → Type 0
AllStand labels its st no_augments = Unit {0}
AllStand labels its st {k = k} (augment mid d names block others) =
    ((f : Forest) (comes : Comes labels its _ _ _ _ block f) (x : ℕ)
    → Under st.groups (group_of_augment labels k) x ↔ Keeps comes x)
    × AllStand labels its st others

-- before any augment of a module has its turn, the block of the modules is at the top, and that of
-- each augment in its group
abbrev pub BeginningStands : List Label → Items → (mark : ℕ → Bool) → Type 0
BeginningStands labels its mark =
    (n hi d e own : ℕ) (block : Block 0 n own d) (augments : Augments n hi d e 0 own)
    → hi ≤ length labels → MarksBlock labels its.given mark 0 block
    → BlocksMarked labels its.given mark augments
    → ((f : Forest) (comes : Comes labels its _ _ _ _ block f) (x : ℕ)
    → Under (first_state labels block augments).groups 0 x ↔ Keeps comes x)
    × AllStand labels its (first_state labels block augments) augments
