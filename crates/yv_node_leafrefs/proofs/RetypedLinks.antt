-- Other types of values leave links as they are.
use Rattle.std.proofs.Common.{◌≡◌, inl, inr, ℕ, zero, suc, ◌+◌, ◌-◌, List, [], ◌∷◌, map, refl, sym, subst, arith, Option, Some, None}
use Rattle.std.specs.List.{slice_index_or}
use Rattle.yv_values.specs.Types.{Plain}
use Rattle.yv_node_content.specs.declared.kind.NodeKind.{NodeKind}
use Rattle.yv_node_content.specs.declared.kind.NodeKind.TheVariants as kind
use Rattle.yv_nodes.specs.Link.{AreLinked, AreLinkedBelow, climb, Ground, IsLinked, KindLeads, KindLinked, Leads, Link}
use Rattle.yv_nodes.specs.Tree.{count, Forest, no_trees, node, tree}
use Rattle.yv_nodes.specs.NodeTypes.{typed_from}

kind_leads : (k : NodeKind) (n : ℕ) (path : List ℕ) (target : ℕ) (P Q : List ℕ → Type 0) → ((rest : List ℕ) → P rest → Q rest)
    → KindLeads k n path target P → KindLeads k n path target Q
kind_leads kind.Choice n path target P Q to h = to path h
kind_leads kind.Case n path target P Q to h = to path h
kind_leads kind.Leaf n [] target P Q to h = h
kind_leads kind.Leaf n (s ∷ []) target P Q to h = h
kind_leads kind.Leaf n (s ∷ r ∷ rest) target P Q to h = h
kind_leads kind.LeafList n [] target P Q to h = h
kind_leads kind.LeafList n (s ∷ []) target P Q to h = h
kind_leads kind.LeafList n (s ∷ r ∷ rest) target P Q to h = h
kind_leads kind.Container n [] target P Q to h = h
kind_leads kind.Container n (s ∷ rest) target P Q to (is, below) = (is, to rest below)
kind_leads kind.List n [] target P Q to h = h
kind_leads kind.List n (s ∷ rest) target P Q to (is, below) = (is, to rest below)
kind_leads k n path target P Q to h = absurd h

kind_linked : (k : NodeKind) (link : Option Link) (top top' : Ground) (up up' : List Ground) (own own' : Ground)
    (P Q : List Ground → Type 0) → (IsLinked link top up → IsLinked link top' up') → (P (own ∷ up) → Q (own' ∷ up')) → (P up → Q up')
    → KindLinked k link top up own P → KindLinked k link top' up' own' Q
kind_linked kind.Leaf link top top' up up' own own' P Q one inside beside h = one h
kind_linked kind.LeafList link top top' up up' own own' P Q one inside beside h = one h
kind_linked kind.Container link top top' up up' own own' P Q one inside beside h = inside h
kind_linked kind.List link top top' up up' own own' P Q one inside beside h = inside h
kind_linked kind.Choice link top top' up up' own own' P Q one inside beside h = beside h
kind_linked kind.Case link top top' up up' own own' P Q one inside beside h = beside h
kind_linked k link top top' up up' own own' P Q one inside beside h = tt

module _ (types : ℕ → List Plain) where
  counted : (first : ℕ) (ts : Forest) → count (typed_from types first ts) ≡ count ts
  counted first no_trees = refl
  counted first (tree (node l kids) ts) =
      let a = counted (first + 1) kids in
      let b = counted (first + 1 + count kids) ts in
      omega (arith, a, b)

  leads : (first : ℕ) (ts : Forest) (path : List ℕ) (target : ℕ) → Leads first ts path target
      → Leads first (typed_from types first ts) path target
  leads first no_trees path target h = h
  leads first (tree (node l kids) ts) path target (inl h) = inl (
      kind_leads l.defined.kind first path target (λ rest. Leads (first + 1) kids rest target)
      (λ rest. Leads (first + 1) (typed_from types (first + 1) kids) rest target) (λ rest. leads (first + 1) kids rest target) h
      )
  leads first (tree (node l kids) ts) path target (inr h) = inr (
      subst (λ n. Leads (first + 1 + n) (typed_from types (first + 1 + count kids) ts) path target) (sym (counted (first + 1) kids))
      (leads (first + 1 + count kids) ts path target h)
      )

  -- the same ground with other types
  abbrev typed_ground : Ground → Ground
  typed_ground g = record { first = g.first; trees = typed_from types g.first g.trees }

  indexed : (up : List Ground) (k : ℕ) (top : Ground)
      → slice_index_or (map typed_ground up) k (typed_ground top) ≡ typed_ground (slice_index_or up k top)
  indexed [] k top = refl
  indexed (g ∷ up) zero top = refl
  indexed (g ∷ up) (suc k) top = indexed up k top

  reached : (climbs : Option ℕ) (top : Ground) (up : List Ground)
      → climb (typed_ground top) climbs (map typed_ground up) ≡ typed_ground (climb top climbs up)
  reached None top up = refl
  reached (Some k) top up = indexed up (k - 1) top

  one : (link : Option Link) (top : Ground) (up : List Ground) → IsLinked link top up
      → IsLinked link (typed_ground top) (map typed_ground up)
  one None top up h = h
  one (Some link) top up h =
      let from : Ground = climb top link.climbs up in
      subst (λ (g : Ground). Leads g.first g.trees link.steps link.target) (sym (reached link.climbs top up))
      (leads from.first from.trees link.steps link.target h)

  linked : (links : ℕ → Option Link) (top : Ground) (up : List Ground) (first : ℕ) (ts : Forest) → AreLinkedBelow links top up first ts
      → AreLinkedBelow links (typed_ground top) (map typed_ground up) first (typed_from types first ts)
  linked links top up first no_trees h = h
  linked links top up first (tree (node l kids) ts) (here, beside) =
      let own : Ground = record { first = first + 1; trees = kids } in (
        kind_linked l.defined.kind (links first) top (typed_ground top) up (map typed_ground up) own (typed_ground own)
            (λ us. AreLinkedBelow links top us (first + 1) kids)
            (λ us. AreLinkedBelow links (typed_ground top) us (first + 1) (typed_from types (first + 1) kids))
            (one (links first) top up) (linked links top (own ∷ up) (first + 1) kids) (linked links top up (first + 1) kids) here,
        subst (λ n. AreLinkedBelow links (typed_ground top) (map typed_ground up) (first + 1 + n)
            (typed_from types (first + 1 + count kids) ts)) (sym (counted (first + 1) kids))
            (linked links top up (first + 1 + count kids) ts beside),
      )

  pub linked_typed : (links : ℕ → Option Link) (ts : Forest) → AreLinked links ts → AreLinked links (typed_from types 0 ts)
  linked_typed links ts h = let all : Ground = record { first = 0; trees = ts } in linked links all (all ∷ []) 0 ts h
