-- Links lead in the trees of their schema.
use Rattle.std.proofs.Common.{◌≡◌, ◌≢◌, ◌⊎◌, inl, inr, ℕ, zero, suc, ◌+◌, ◌-◌, ◌<◌, ◌≤◌, ◌^◌, ◌&&◌, Bool, true, false, cond, List, [], ◌∷◌}
use Rattle.std.proofs.Common.{length, refl, sym, ◌∙◌, ap, subst, arith, Option, Some, None}
use Rattle.std.proofs.lemmas.Bool.{cases_lt, false≢true, ne_eqb}
use Rattle.std.proofs.lemmas.Option.{same_Some, none-some, slice_get_within}
use Rattle.std.specs.List.{slice_get, slice_index_or}
use Rattle.yv_node_content.specs.Kinds.{is_passed}
use Rattle.yv_node_content.specs.Steps.{Step}
use Rattle.yv_node_content.specs.declared.kind.NodeKind.{NodeKind}
use Rattle.yv_node_content.specs.declared.kind.NodeKind.TheVariants as kind
use Rattle.yv_nodes.specs.declared.node.NodeId.{NodeId}
use Rattle.yv_nodes.specs.Link.{AreLinked, AreLinkedBelow, climb, Ground, IsLinked, KindLeads, KindLinked, Leads, Link, reference_in}
use Rattle.yv_nodes.specs.Numbers.{rows_from}
use Rattle.yv_nodes.specs.Rows.{root, Row}
use Rattle.yv_nodes.specs.Tree.{count, Forest, no_trees, node, tree}
use Rattle.yv_node_leafrefs.specs.Above as above
use Rattle.yv_node_leafrefs.specs.Above.{Closest, document, IsAbove, parent_of, place_of}
use Rattle.yv_node_leafrefs.specs.Schema.{Referral, Schema}
use Rattle.yv_node_content.specs.Kinds.{has_values}
use Rattle.yv_node_leafrefs.specs.Ways.{Begins, Climbs}
use Rattle.yv_node_leafrefs.specs.Links.{AreInner, AreLinks, is_inner, IsInner, IsLinkOf, LeadsOver}
use Rattle.yv_node_leafrefs.proofs.LinkClosing.{above_one, child_above}
use Rattle.yv_node_leafrefs.proofs.TreeRows.{kids_of, row_of, rows_long, Stand, stand_all}

-- ---- kinds

-- what leads on below a choice or case leads on at it
through : (k : NodeKind) (n : ℕ) (path : List ℕ) (target : ℕ) (Below : List ℕ → Type 0) → is_passed k ≡ true → Below path
    → KindLeads k n path target Below
through kind.Choice n path target Below passed below = below
through kind.Case n path target Below passed below = below
through k n path target Below passed below = absurd (false≢true passed)

-- a way goes on below a container or list
on : (k : NodeKind) (n : ℕ) (path : List ℕ) (target : ℕ) (Below : List ℕ → Type 0) → is_inner k ≡ true → Below path
    → KindLeads k n (n ∷ path) target Below
on kind.Container n path target Below inner below = (refl, below)
on kind.List n path target Below inner below = (refl, below)
on k n path target Below inner below = absurd (false≢true inner)

-- it ends at a leaf or leaf-list
ends : (k : NodeKind) (n target : ℕ) (Below : List ℕ → Type 0) → has_values k ≡ true → n ≡ target → KindLeads k n (n ∷ []) target Below
ends kind.Leaf n target Below valued is = (refl, is)
ends kind.LeafList n target Below valued is = (refl, is)
ends k n target Below valued is = absurd (false≢true valued)

inner_plain : (k : NodeKind) → is_inner k ≡ true → is_passed k ≡ false
inner_plain kind.Container inner = refl
inner_plain kind.List inner = refl
inner_plain k inner = absurd (false≢true inner)

inner_or_valued : (k : NodeKind) → is_inner k ≡ true → has_values k ≡ true → ⊥
inner_or_valued kind.Container inner valued = false≢true valued
inner_or_valued kind.List inner valued = false≢true valued
inner_or_valued k inner valued = false≢true inner

-- what holds of a node and below it holds by its kind
by_kind : (k : NodeKind) (link : Option Link) (top : Ground) (up : List Ground) (own : Ground) (Below : List Ground → Type 0)
    → IsLinked link top up
    → (is_inner k ≡ true → Below (own ∷ up)) → (is_passed k ≡ true → Below up) → KindLinked k link top up own Below
by_kind kind.Leaf link top up own Below linked inside beside = linked
by_kind kind.LeafList link top up own Below linked inside beside = linked
by_kind kind.Container link top up own Below linked inside beside = inside refl
by_kind kind.List link top up own Below linked inside beside = inside refl
by_kind kind.Choice link top up own Below linked inside beside = beside refl
by_kind kind.Case link top up own Below linked inside beside = beside refl
by_kind k link top up own Below linked inside beside = tt

linked_if : (o : Option Link) (top : Ground) (up : List Ground)
    → ((link : Link) → o ≡ Some link → Leads (climb top link.climbs up).first (climb top link.climbs up).trees link.steps link.target)
    → IsLinked o top up
linked_if None top up leads = tt
linked_if (Some link) top up leads = leads link refl

both_true : (a b : Bool) → (a && b) ≡ true → a ≡ true
both_true true b h = refl
both_true false b h = absurd (false≢true h)

-- the place of a node is its number
place_is : (n : ℕ) → n < 4294967295 → place_of (record { 0 = n }) ≡ Some n
place_is n less = ap (λ (b : Bool). cond b None (Some n)) (ne_eqb n 4294967295 (λ e. absurd (omega (arith, less, e))))

-- ---- places

-- the trees below a place, and the number of the first node in them
abbrev spot : Forest → Option ℕ → Ground
spot ts None = record { first = 0; trees = ts }
spot ts (Some p) = record { first = p + 1; trees = kids_of ts p }

-- what is around nodes whose closest place above is this
data Around (ts : Forest) : Option ℕ → List Ground → Type 0 where
  outmost : Around ts None (spot ts None ∷ [])
  within : {a : Option ℕ} {up : List Ground} {own : Ground} (p : ℕ) (r : Row) → slice_get (rows_from 0 ts) p ≡ Some r
      → is_inner r.label.defined.kind ≡ true → Closest (rows_from 0 ts) (parent_of r) a → own ≡ spot ts (Some p) → Around ts a up
      → Around ts (Some p) (own ∷ up)

-- a way goes on from here at this node
abbrev GoesOn : Forest → ℕ → List ℕ → ℕ → Type 0
GoesOn ts c path target =
    (r : Row) → slice_get (rows_from 0 ts) c ≡ Some r
    → KindLeads r.label.defined.kind c (c ∷ path) target (λ rest. Leads (c + 1) (kids_of ts c) rest target)

-- a node stands in these trees with but choices and cases above it there
record Shallow (ts : Forest) (parent : NodeId) (first : ℕ) (us : Forest) (d : ℕ) : Type 0 where
  above : (x : Option ℕ) → Closest (rows_from 0 ts) (place_of parent) x → IsAbove (rows_from 0 ts) x d
  leads : (path : List ℕ) (target : ℕ) → GoesOn ts d path target → Leads first us (d ∷ path) target

-- or so below another node
record Deep (ts : Forest) (d : ℕ) : Type 0 where
  place : ℕ
  above : IsAbove (rows_from 0 ts) (Some place) d
  leads : (path : List ℕ) (target : ℕ) → GoesOn ts d path target → Leads (place + 1) (kids_of ts place) (d ∷ path) target

module _ (ts : Forest) (few : count ts < 2 ^ 32) where
  abbrev rows : List Row
  rows = rows_from 0 ts

  small : (n : ℕ) (r : Row) → slice_get rows n ≡ Some r → place_of (record { 0 = n }) ≡ Some n
  small n r at = place_is n (let l = slice_get_within rows n r at in let long = rows_long root 0 ts in omega (arith, l, long, few))

  find : (parent : NodeId) (first : ℕ) (us : Forest) (d : ℕ) → Stand rows (kids_of ts) parent first us → first ≤ d → d < first + count us
      → Shallow ts parent first us d ⊎ Deep ts d
  find parent first no_trees d stand low high = absurd (omega (arith, low, high))
  find parent first (tree (node l kids) us) d (at, is, inside, beside) low high = elim (cases_lt first d) [
    | inr up ↦ inl (own (let e : first ≡ d = omega (arith, low, up) in e))
    | inl more ↦ elim (cases_lt d (first + 1 + count kids)) [
      | inl less ↦ below (find (record { 0 = first }) (first + 1) kids d inside (omega (arith, more)) less)
      | inr past ↦ further (find parent (first + 1 + count kids) us d beside past (omega (arith, high)))
    ]
  ]
    where
      row : Row
      row = row_of parent first l kids

      own : first ≡ d → Shallow ts parent first (tree (node l kids) us) d
      own e = subst (λ n. Shallow ts parent first (tree (node l kids) us) n) e (
          record {
            above = λ x closest. (row, at, closest);
            leads = λ path target goes. inl
                (subst (λ (fs : Forest). KindLeads l.defined.kind first (first ∷ path) target (λ rest. Leads (first + 1) fs rest target)) is
                (goes row at));
          }
          )

      by : (b : Bool) → is_passed l.defined.kind ≡ b → Shallow ts (record { 0 = first }) (first + 1) kids d
          → Shallow ts parent first (tree (node l kids) us) d ⊎ Deep ts d
      by true passed near = inl (
          record {
            above = λ x closest. near.above x
                (subst (λ (p : Option ℕ). Closest rows p x) (sym (small first row at)) (above.further row at passed closest));
            leads = λ path target goes. inl
                (through l.defined.kind first (d ∷ path) target (λ rest. Leads (first + 1) kids rest target) passed
                (near.leads path target goes));
          }
          )
      by false plain near = inr (
          record {
            place = first;
            above = near.above (Some first)
                (subst (λ (p : Option ℕ). Closest rows p (Some first)) (sym (small first row at)) (above.here row at plain));
            leads = λ path target goes. subst (λ (fs : Forest). Leads (first + 1) fs (d ∷ path) target) (sym is)
                (near.leads path target goes);
          }
          )

      below : Shallow ts (record { 0 = first }) (first + 1) kids d ⊎ Deep ts d
          → Shallow ts parent first (tree (node l kids) us) d ⊎ Deep ts d
      below (inl near) = by (is_passed l.defined.kind) refl near
      below (inr deep) = inr deep

      further : Shallow ts parent (first + 1 + count kids) us d ⊎ Deep ts d → Shallow ts parent first (tree (node l kids) us) d ⊎ Deep ts d
      further (inl near) = inl (record { above = near.above; leads = λ path target goes. inr (near.leads path target goes) })
      further (inr deep) = inr deep

  -- a way leads on from a place at each node that stands below it
  lead : (a : Option ℕ) (d : ℕ) (path : List ℕ) (target : ℕ) → IsAbove rows a d → GoesOn ts d path target
      → Leads (spot ts a).first (spot ts a).trees (d ∷ path) target
  lead a d path target up goes =
      let within_rows : d < length rows = slice_get_within rows d up.0 up.1 in
      let long = rows_long root 0 ts in
      elim (find root 0 ts d (stand_all ts) (omega arith) (omega (arith, within_rows, long))) [
        | inl near ↦
            let is : None ≡ a = above_one rows d None a (near.above None document) up in
            subst (λ (x : Option ℕ). Leads (spot ts x).first (spot ts x).trees (d ∷ path) target) is (near.leads path target goes)
        | inr deep ↦
            let is : Some deep.place ≡ a = above_one rows d (Some deep.place) a deep.above up in
            subst (λ (x : Option ℕ). Leads (spot ts x).first (spot ts x).trees (d ∷ path) target) is (deep.leads path target goes)
      ]

  module _ (target : ℕ) (row : Row) (at : slice_get rows target ≡ Some row) (valued : has_values row.label.defined.kind ≡ true) where
    goes_on : (own : ℕ) (ss : List (Option Step)) (c : ℕ) (cs : List ℕ) → LeadsOver rows own ss cs (Some c) (Some target)
        → AreInner rows (c ∷ cs) → GoesOn ts c cs target
    goes_on own [] c [] e inner r here =
        let is : c ≡ target = same_Some c target e in
        let same : row ≡ r = same_Some row r (sym at ∙ ap (slice_get rows) (sym is) ∙ here) in
        ends r.label.defined.kind c target _ (subst (λ (x : Row). has_values x.label.defined.kind ≡ true) same valued) is
    goes_on own [] c (d ∷ ds) h inner r here = absurd h
    goes_on own (s ∷ ss) c [] h inner r here = absurd h
    goes_on own (s ∷ ss) c (d ∷ ds) (means, rest) inner r here =
        let known : IsInner rows c = inner 0 c (omega arith) refl in
        let same : known.0 ≡ r = same_Some known.0 r (sym known.1 ∙ here) in
        on r.label.defined.kind c (d ∷ ds) target (λ path. Leads (c + 1) (kids_of ts c) path target)
        (subst (λ (x : Row). is_inner x.label.defined.kind ≡ true) same known.2)
        (lead (Some c) d ds target (child_above rows own (Some c) s d means)
        (goes_on own ss d ds rest (λ i x l h. inner (suc i) x (omega (arith, l)) h)))

    leads_down : (own : ℕ) (ss : List (Option Step)) (cs : List ℕ) (a : Option ℕ) → LeadsOver rows own ss cs a (Some target)
        → AreInner rows cs → (a ≡ Some target → ⊥)
        → Leads (spot ts a).first (spot ts a).trees cs target
    leads_down own [] [] a e inner other = absurd (other e)
    leads_down own [] (c ∷ cs) a h inner other = absurd h
    leads_down own (s ∷ ss) [] a h inner other = absurd h
    leads_down own (s ∷ ss) (c ∷ cs) a (means, rest) inner other =
        lead a c cs target (child_above rows own a s c means) (goes_on own ss c cs rest inner)

    -- what is around nodes has no value
    not_around : (a : Option ℕ) (up : List Ground) → Around ts a up → a ≡ Some target → ⊥
    not_around a up outmost e = none-some target e
    not_around a up (within p r there inner closest is around) e =
        let same : r ≡ row = same_Some r row (sym there ∙ ap (slice_get rows) (same_Some p target e) ∙ at) in
        inner_or_valued row.label.defined.kind (subst (λ (x : Row). is_inner x.label.defined.kind ≡ true) same inner) valued

  closest_ground : (a : Option ℕ) (up : List Ground) → Around ts a up → slice_index_or up 0 (spot ts None) ≡ spot ts a
  closest_ground a up outmost = refl
  closest_ground a up (within p r there inner closest is around) = is

  -- climbs lead to the ground of a place
  reach : (j : ℕ) (a start : Option ℕ) (up : List Ground) → Around ts a up → Climbs rows j a start
      → (us : List Ground) × Around ts start us × (slice_index_or up j (spot ts None) ≡ spot ts start)
  reach zero a start up around e = (up, subst (λ (x : Option ℕ). Around ts x up) e around, closest_ground a up around ∙ ap (spot ts) e)
  reach (suc j) a start up outmost h = absurd h
  reach (suc j) a start up (within {a = b} {up = us} p r there inner closest is around) (x, over, rest) =
      reach j b start us around (subst (λ (z : Option ℕ). Climbs rows j z start) (above_one rows p x b over (r, there, closest)) rest)

  begin : (n : ℕ) (a : Option ℕ) (up : List Ground) (climbs start : Option ℕ) → IsAbove rows a n → Around ts a up → climbs ≢ Some 0
      → Begins rows n climbs start
      → (us : List Ground) × Around ts start us × (climb (spot ts None) climbs up ≡ spot ts start)
  begin n a up None start over around proper e =
      (spot ts None ∷ [], subst (λ (x : Option ℕ). Around ts x (spot ts None ∷ [])) (sym e) outmost, ap (spot ts) (sym e))
  begin n a up (Some zero) start over around proper h = absurd (proper refl)
  begin n a up (Some (suc j)) start over around proper (x, own, rest) =
      let found = reach j a start up around (subst (λ (z : Option ℕ). Climbs rows j z start) (above_one rows n x a own over) rest) in
      let e : suc j - 1 ≡ j = omega arith in
      (found.0, found.1, ap (λ k. slice_index_or up k (spot ts None)) e ∙ found.2)

  module _ (says : ℕ → Option Referral) (links : ℕ → Option Link)
      (each : (n : ℕ) (link : Link) → links n ≡ Some link → IsLinkOf (record { rows = rows_from 0 ts; says = says }) n link) where
    leads : (n : ℕ) (a : Option ℕ) (up : List Ground) (link : Link) → IsAbove rows a n → Around ts a up → links n ≡ Some link
        → Leads (climb (spot ts None) link.climbs up).first (climb (spot ts None) link.climbs up).trees link.steps link.target
    leads n a up link over around has =
        let is = each n link has in
        let refers = is.refers in
        let started =
        begin n a up link.climbs refers.start over around is.begins
        (subst (λ (k : Option ℕ). Begins rows n k refers.start) (sym is.climbs) refers.begins) in
        let valued : has_values refers.found.label.defined.kind ≡ true =
        both_true (has_values refers.found.label.defined.kind) _ refers.fit in
        subst (λ (g : Ground). Leads g.first g.trees link.steps link.target) (sym started.2)
        (leads_down link.target refers.found refers.at valued refers.row.label.module_file refers.ref.steps link.steps refers.start is.way is.inner
        (not_around link.target refers.found refers.at valued refers.start started.0 started.1))

    linked : (parent : NodeId) (first : ℕ) (us : Forest) (a : Option ℕ) (up : List Ground) → Stand rows (kids_of ts) parent first us
        → Closest rows (place_of parent) a → Around ts a up
        → AreLinkedBelow links (spot ts None) up first us
    linked parent first no_trees a up stand closest around = tt
    linked parent first (tree (node l kids) us) a up (at, is, inside, beside) closest around =
        let row : Row = row_of parent first l kids in
        let own : Ground = record { first = first + 1; trees = kids } in
        let place : place_of (record { 0 = first }) ≡ Some first = small first row at in (
          by_kind l.defined.kind (links first) (spot ts None) up own (λ over. AreLinkedBelow links (spot ts None) over (first + 1) kids)
              (linked_if (links first) (spot ts None) up (λ link has. leads first a up link (row, at, closest) around has))
              (λ inner. linked (record { 0 = first }) (first + 1) kids (Some first) (own ∷ up) inside
              (subst (λ (p : Option ℕ). Closest rows p (Some first)) (sym place) (above.here row at (inner_plain l.defined.kind inner)))
              (within first row at inner closest (ap (λ (fs : Forest). record { first = first + 1; trees = fs }) (sym is)) around))
              (λ passed. linked (record { 0 = first }) (first + 1) kids a up inside
              (subst (λ (p : Option ℕ). Closest rows p a) (sym place) (above.further row at passed closest)) around),
          linked parent (first + 1 + count kids) us a up beside closest around,
        )

pub links_lead : (s : Schema) (ts : Forest) (links : List (Option Link)) → s.rows ≡ rows_from 0 ts → AreLinks s links
    → AreLinked (reference_in links) ts
links_lead s ts links is are =
    let long : length s.rows ≡ count ts = ap length is ∙ rows_long root 0 ts in
    let few : count ts < 2 ^ 32 = omega (arith, long, are.few) in
    let same : AreLinks (record { rows = rows_from 0 ts; says = s.says }) links =
    subst (λ (rs : List Row). AreLinks (record { rows = rs; says = s.says }) links) is are in
    linked ts few s.says (reference_in links) (λ n link has. (same.each n link).0 has) root 0 ts None (spot ts None ∷ [])
    (stand_all ts) document outmost
