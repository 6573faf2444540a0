-- Where the paths of leafrefs lead (RFC 7950, section 9.9.2).
use Rattle.std.specs.Prelude.{◌≡◌, ℕ, ◌+◌, ◌-◌, ◌==◌, ◌&&◌, ◌||◌, if◌then◌else◌, List, [], ◌∷◌, ◌⊎◌, Bool, false, Option, Some, None}
use Rattle.std.specs.List.{slice_index_or}
use Rattle.yv_node_content.specs.declared.kind.NodeKind.{NodeKind}
use Rattle.yv_node_content.specs.declared.kind.NodeKind.TheVariants as kind
use Rattle.yv_nodes.specs.Tree.{count, node, Forest, no_trees, tree}

-- the path of a leafref: how many `../` it begins with, or None where it is absolute; the numbers
-- of the data nodes on its way down, and of the last of them, its target; and whether the leafref
-- requires an instance (section 9.9.3)
pub record Link : Type 0 where
  pub climbs : Option ℕ
  pub steps : List ℕ
  pub target : ℕ
  pub is_required : Bool

-- what as many `../` climb to, of what is around a node from the closest on, or the top: each `../`
-- leaves one data node
abbrev pub climb : {A : Type 0} → A → Option ℕ → List A → A
climb top None up = top
climb top (Some k) up = slice_index_or up (k - 1) top

-- the trees below a node, and the number of the first node in them
pub record Ground : Type 0 where
  pub first : ℕ
  pub trees : Forest

-- a node that is here with this number is the next of the path: what is left leads on below it, or
-- it is the target, a leaf or leaf-list. Choices and cases aren't steps
abbrev pub KindLeads : NodeKind → ℕ → List ℕ → (target : ℕ) → (List ℕ → Type 0) → Type 0
KindLeads kind.Choice n path target Below = Below path
KindLeads kind.Case n path target Below = Below path
KindLeads kind.Leaf n (s ∷ []) target Below = (s ≡ n) × (n ≡ target)
KindLeads kind.LeafList n (s ∷ []) target Below = (s ≡ n) × (n ≡ target)
KindLeads kind.Container n (s ∷ rest) target Below = (s ≡ n) × Below rest
KindLeads kind.List n (s ∷ rest) target Below = (s ≡ n) × Below rest
KindLeads _ n path target Below = ⊥

-- the path goes down these trees, whose first node has the number `first`, from data node to data
-- node, and ends at the target
abbrev pub Leads : (first : ℕ) → Forest → List ℕ → (target : ℕ) → Type 0
Leads first no_trees path target = ⊥
Leads first (tree (node l kids) ts) path target =
    KindLeads l.defined.kind first path target (λ rest. Leads (first + 1) kids rest target)
    ⊎ Leads (first + 1 + count kids) ts path target

-- ---- each link leads from where it climbs to, to its target

-- `up` is below each of the data nodes around, from the closest on
abbrev pub IsLinked : Option Link → Ground → List Ground → Type 0
IsLinked None top up = Unit {0}
IsLinked (Some link) top up =
    let from = climb top link.climbs up in Leads from.first from.trees link.steps link.target

-- the link of a node leads from the place of the node to a node of the tree, and so do those below
-- it
abbrev pub KindLinked : NodeKind → Option Link → Ground → List Ground → Ground
    → (List Ground → Type 0) → Type 0
KindLinked kind.Leaf link top up own Below = IsLinked link top up
KindLinked kind.LeafList link top up own Below = IsLinked link top up
KindLinked kind.Container link top up own Below = Below (own ∷ up)
KindLinked kind.List link top up own Below = Below (own ∷ up)
KindLinked kind.Choice link top up own Below = Below up
KindLinked kind.Case link top up own Below = Below up
KindLinked _ link top up own Below = Unit {0}

-- those of the leafrefs in these trees; nothing in operations and notifications is in a document
abbrev pub AreLinkedBelow : (ℕ → Option Link) → Ground → List Ground → (first : ℕ) → Forest → Type 0
AreLinkedBelow links top up first no_trees = Unit {0}
AreLinkedBelow links top up first (tree (node l kids) ts) =
    KindLinked l.defined.kind (links first) top up (record { first = first + 1; trees = kids })
    (λ us. AreLinkedBelow links top us (first + 1) kids)
    × AreLinkedBelow links top up (first + 1 + count kids) ts

-- the trees of a whole schema
abbrev pub ground : Forest → Ground
ground ts = record { first = 0; trees = ts }

-- the links of the schema that has these trees, each by the number of its leafref
abbrev pub AreLinked : (ℕ → Option Link) → Forest → Type 0
AreLinked links ts = AreLinkedBelow links (ground ts) (ground ts ∷ []) 0 ts

-- ---- links in a list, each at the number of its leafref

-- where the path of a leafref leads: none beyond the list
abbrev pub reference_in : List (Option Link) → ℕ → Option Link
reference_in links n = slice_index_or links n None

-- a link, if it requires an instance
abbrev pub if_required : Option Link → Option Link
if_required None = None
if_required (Some link) = if link.is_required then Some link else None

-- the link of a leafref that requires an instance: nothing is asked of a document about any other
abbrev pub link_in : List (Option Link) → ℕ → Option Link
link_in links n = if_required (reference_in links n)

-- a link leads to this node and requires an instance
abbrev pub leads_to : ℕ → Option Link → Bool
leads_to n None = false
leads_to n (Some link) = link.is_required && link.target == n

-- some link that requires an instance has this node as its target
abbrev pub is_target : List (Option Link) → ℕ → Bool
is_target [] n = false
is_target (link ∷ links) n = leads_to n link || is_target links n
