-- What blocks give, as a forest: `Gives` and `Augmented` of yv_expand_definition, without files and
-- without refines.
use Rattle.std.specs.Prelude.{◌≡◌, ℕ, ◌+◌, ◌<◌, Bool, true, false, List}
use Rattle.std.specs.List.{Contains}
use Rattle.yv_expand_rounds.specs.declared.label.Label.{Label}
use Rattle.yv_expand_rounds.specs.Groups.{group_of_augment, members_of}
use Rattle.yv_expand_statements.specs.Kinds.{may_be_target}
use Rattle.yv_expand_rounds.specs.Turns.{State}
use Rattle.yv_expand_definition.specs.Nodes.{Forest, Node, join, none, node}
use Rattle.yv_expand_definition.specs.Paths.{Leads, Step, at}
use Rattle.yv_expand_laws.specs.Blocks.{Augments, Block, augment, item, no_augments, nothing, uses}
use Rattle.yv_expand_laws.specs.Shows.{Agree, Items}

-- an augment's path leads to a node that may be its target
abbrev pub Hits : List Step → (nodes : Forest) → (target : Node) → (below put : Forest)
    → (there : Forest) → Type 0
Hits ss nodes target below put there =
    Leads false ss nodes (at target below target put) there × (may_be_target target.kind ≡ true)

-- steps lead to none of these nodes
abbrev pub Misses : List Step → (nodes : Forest) → Type 0
Misses ss nodes =
    (target : Node) (below there : Forest) → Hits ss nodes target below below there → ⊥

mutual
  pub data Comes (labels : List Label) (its : Items) : (lo hi c e : ℕ) → Block lo hi c e → Forest
      → Type 0 where
    no_items : {lo c : ℕ} → Comes labels its _ _ _ _ (nothing {lo = lo} {c = c}) none
    one_node : {lo hi c e mid d : ℕ} {below : Block (lo + 1) mid c d} {behind : Block mid hi d e}
        {b f : Forest} → its.is_node lo ≡ true
        → Comes labels its _ _ _ _ below b → Comes labels its _ _ _ _ behind f
        → Comes labels its _ _ _ _ (item {lo = lo} {hi = hi} {c = c} {e = e} mid d below behind)
        (node (its.node_of lo) b f)
    of_uses : {lo hi c f mid end own d e : ℕ} {copies : Block (lo + 1) mid own d}
        {augments : Augments mid end d e c own} {behind : Block end hi e f}
        {m given others : Forest} → its.is_node lo ≡ false → Comes labels its _ _ _ _ copies m
        → Adds labels its _ _ _ _ _ _ augments m given
        → Comes labels its _ _ _ _ behind others
        → Comes labels its _ _ _ _
        (uses {lo = lo} {hi = hi} {c = c} {f = f} mid end own d e copies augments behind)
        (join given others)

  pub data Adds (labels : List Label) (its : Items) : (lo hi c e k own : ℕ)
      → Augments lo hi c e k own → Forest → Forest → Type 0 where
    none_left : {lo c k : ℕ} {m : Forest}
        → Adds labels its _ _ _ _ _ _ (no_augments {lo = lo} {c = c} {k = k}) m m
    adds : {lo hi c e k own mid d : ℕ} {names : List ℕ} {block : Block lo mid c d}
        {others : Augments mid hi d e (k + 1) own} {m b below there last : Forest}
        {target : Node} (ss : List Step) → Agree labels its names ss → lo < mid
        → Comes labels its _ _ _ _ block b
        → Hits ss m target below (join below b) there
        → Adds labels its _ _ _ _ _ _ others there last
        → Adds labels its _ _ _ _ _ _
        (augment {lo = lo} {hi = hi} {c = c} {e = e} {k = k} {own = own} mid d names block
        others) m last
    misses : {lo hi c e k own mid d : ℕ} {names : List ℕ} {block : Block lo mid c d}
        {others : Augments mid hi d e (k + 1) own} {m last : Forest}
        (ss : List Step) → Agree labels its names ss → lo < mid → Misses ss m
        → Adds labels its _ _ _ _ _ _ others m last
        → Adds labels its _ _ _ _ _ _
        (augment {lo = lo} {hi = hi} {c = c} {e = e} {k = k} {own = own} mid d names block
        others) m last

-- The mark of a group tells whether what is there is given by an augment of a module: it is in the
-- groups of these only.
abbrev mutual
  pub MarksBlock : List Label → (given mark : ℕ → Bool) → (g : ℕ) → {lo hi c e : ℕ}
      → Block lo hi c e → Type 0
  MarksBlock labels given mark g nothing = Unit {0}
  MarksBlock labels given mark g {lo = lo} (item mid d below behind) =
      (given lo ≡ mark g) × MarksBlock labels given mark (lo + 1) below
      × MarksBlock labels given mark g behind
  MarksBlock labels given mark g {lo = lo} (uses mid end own d e copies augments behind) =
      (given lo ≡ mark g) × MarksBlock labels given mark g copies
      × AllMarked labels given mark augments × MarksBlock labels given mark g behind

  pub AllMarked : List Label → (given mark : ℕ → Bool) → {lo hi c e k own : ℕ}
      → Augments lo hi c e k own → Type 0
  AllMarked labels given mark no_augments = Unit {0}
  AllMarked labels given mark {k = k} (augment mid d names block others) =
      (mark (group_of_augment labels k) ≡ false)
      × MarksBlock labels given mark (group_of_augment labels k) block
      × AllMarked labels given mark others

-- all that is in a group has its mark
abbrev pub HasMarks : (given mark : ℕ → Bool) → State → Type 0
HasMarks given mark st = (x i : ℕ) → Contains (members_of st.groups x) i → given i ≡ mark x
