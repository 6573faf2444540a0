-- Where targets stand.
use Rattle.std.proofs.Common.{◌≡◌, ◌⊎◌, inl, inr, ℕ, zero, suc, ◌+◌, ◌≤◌, ◌&&◌, Bool, true, false, List, [], ◌∷◌, refl, sym, ◌∙◌, subst, arith, Option, Some, None}
use Rattle.std.proofs.lemmas.Bool.{false≢true}
use Rattle.std.proofs.lemmas.Option.{same_Some, none-some}
use Rattle.std.specs.List.{slice_get}
use Rattle.yv_node_content.specs.Kinds.{is_passed, is_operation_or_notification, is_data}
use Rattle.yv_node_content.specs.Steps.{Step}
use Rattle.yv_nodes.specs.Rows.{Row}
use Rattle.yv_node_leafrefs.specs.Schema.{Schema}
use Rattle.yv_node_leafrefs.specs.Above as above
use Rattle.yv_node_leafrefs.specs.Above.{parent_of, Closest, document, IsAbove, IsDataChild, IsFirst, IsInside, IsUnder, same, under, IsDepth, top, deeper}
use Rattle.yv_node_leafrefs.specs.Ways.{Climbs, Begins, Means, Leads}
use Rattle.yv_node_leafrefs.specs.Targets.{RefersTo}
use Rattle.yv_node_content.specs.Kinds.{has_values}
use Rattle.yv_node_content.specs.declared.kind.NodeKind.{NodeKind}
use Rattle.yv_node_content.specs.declared.kind.NodeKind.TheVariants as kind
use Rattle.yv_node_leafrefs.proofs.ClimbUniqueness.{above_one}
use Rattle.yv_node_leafrefs.proofs.LeafrefTargets.{follows_of}
use Rattle.yv_node_leafrefs.proofs.AncestorPlaces.{inside_by, none_inside}

-- what stands below what stands below
under_further : (rows : List Row) (a b c : Option ℕ) → IsUnder rows a b → IsUnder rows b c → IsUnder rows a c
under_further rows a b c p same = p
under_further rows a b c p (under q up) = under (under_further rows a b _ p q) up

climbs_under : (rows : List Row) (k : ℕ) (a b : Option ℕ) → Climbs rows k a b → IsUnder rows b a
climbs_under rows zero a b e = subst (λ (x : Option ℕ). IsUnder rows b x) (sym e) same
climbs_under rows (suc k) None b h = absurd h
climbs_under rows (suc k) (Some c) b (x, up, rest) = under (climbs_under rows k x b rest) up

child_above : (rows : List Row) (own : ℕ) (a : Option ℕ) (s : Option Step) (c : ℕ) → Means rows own a s c → IsAbove rows a c
child_above rows own a None c h = absurd h
child_above rows own a (Some s) c (child, least) = (child.row, child.at, child.above)

leads_under : (rows : List Row) (own : ℕ) (ss : List (Option Step)) (a b : Option ℕ) → Leads rows own ss a b → IsUnder rows a b
leads_under rows own [] a b e = subst (λ (x : Option ℕ). IsUnder rows a x) e same
leads_under rows own (s ∷ ss) a b (c, means, rest) = under_further rows a (Some c) b (under same (child_above rows own a s c means)) (leads_under rows own ss (Some c) b rest)

-- operations aren't passed over, and data nodes are none
passed_plain : (k : NodeKind) → is_passed k ≡ true → is_operation_or_notification k ≡ true → ⊥
passed_plain kind.Choice p o = false≢true o
passed_plain kind.Case p o = false≢true o
passed_plain k p o = false≢true p

data_plain : (k : NodeKind) → is_data k ≡ true → is_operation_or_notification k ≡ true → ⊥
data_plain kind.Rpc d o = false≢true d
data_plain kind.Action d o = false≢true d
data_plain kind.Notification d o = false≢true d
data_plain k d o = false≢true o

inside_up : (rows : List Row) (p a : Option ℕ) → Closest rows p a → IsInside rows a → IsInside rows p
inside_up rows p a document i = i
inside_up rows p a (above.here r at plain) i = i
inside_up rows p a (above.further r at passed rest) i = above.further r at (inside_up rows (parent_of r) a rest i)

inside_down : (rows : List Row) (p a : Option ℕ) → Closest rows p a → IsInside rows p → IsInside rows a
inside_down rows p a document i = i
inside_down rows p a (above.here r at plain) i = i
inside_down rows p a (above.further {p = n} r at passed rest) i = elim (inside_by rows n r (Some n) refl at i) [
  | inl operation ↦ absurd (passed_plain r.label.defined.kind passed operation)
  | inr up ↦ inside_down rows (parent_of r) a rest up
]

climbs_outside : (rows : List Row) (k : ℕ) (a b : Option ℕ) → Climbs rows k a b → IsInside rows b → IsInside rows a
climbs_outside rows zero a b e i = subst (IsInside rows) (sym e) i
climbs_outside rows (suc k) None b h i = absurd h
climbs_outside rows (suc k) (Some c) b (x, (r, at, closest), rest) i = above.further r at (inside_up rows (parent_of r) x closest (climbs_outside rows k x b rest i))

child_outside : (rows : List Row) (own : ℕ) (a : Option ℕ) (s : Option Step) (c : ℕ) → Means rows own a s c → IsInside rows (Some c) → IsInside rows a
child_outside rows own a None c h i = absurd h
child_outside rows own a (Some s) c (child, least) i = elim (inside_by rows c child.row (Some c) refl child.at i) [
  | inl operation ↦ absurd (data_plain child.row.label.defined.kind child.is_data_node operation)
  | inr up ↦ inside_down rows (parent_of child.row) a child.above up
]

leads_outside : (rows : List Row) (own : ℕ) (ss : List (Option Step)) (a b : Option ℕ) → Leads rows own ss a b → IsInside rows b → IsInside rows a
leads_outside rows own [] a b e i = subst (IsInside rows) (sym e) i
leads_outside rows own (s ∷ ss) a b (c, means, rest) i = child_outside rows own a s c means (leads_outside rows own ss (Some c) b rest i)

begins_outside : (rows : List Row) (n : ℕ) (climbs a : Option ℕ) → Begins rows n climbs a → IsInside rows a → IsInside rows (Some n)
begins_outside rows n None a e i = absurd (none_inside rows a e i)
begins_outside rows n (Some k) a h i = climbs_outside rows k (Some n) a h i

pub outside : (t : Schema) (n x : ℕ) → RefersTo t n x → IsInside t.rows (Some x) → ⊥
outside t n x r i = r.is_leafref.outside (begins_outside t.rows n r.ref.climbs r.start r.begins (leads_outside t.rows r.row.label.module_file r.ref.steps r.start (Some x) r.leads i))

both_true : (a b : Bool) → (a && b) ≡ true → a ≡ true
both_true true b h = refl
both_true false b h = absurd (false≢true h)

pub valued : (t : Schema) (n x : ℕ) → RefersTo t n x → (row : Row) × (slice_get t.rows x ≡ Some row) × (has_values row.label.defined.kind ≡ true)
valued t n x r = (r.found, r.at, both_true (has_values r.found.label.defined.kind) _ r.fit)

pub below : (t : Schema) (n x : ℕ) (r : RefersTo t n x) → IsUnder t.rows r.start (Some x) × ((r.start ≡ None) ⊎ IsUnder t.rows r.start (Some n))
below t n x r = (leads_under t.rows r.row.label.module_file r.ref.steps r.start (Some x) r.leads, by r.ref.climbs r.begins)
  where
    by : (k : Option ℕ) → Begins t.rows n k r.start → (r.start ≡ None) ⊎ IsUnder t.rows r.start (Some n)
    by None e = inl e
    by (Some k) h = inr (climbs_under t.rows k (Some n) r.start h)

climbs_one : (rows : List Row) (k : ℕ) (a b c : Option ℕ) → Climbs rows k a b → Climbs rows k a c → b ≡ c
climbs_one rows zero a b c p q = sym p ∙ q
climbs_one rows (suc k) None b c p q = absurd p
climbs_one rows (suc k) (Some n) b c (x, up, rest) (y, above, more) =
    climbs_one rows k y b c (subst (λ (z : Option ℕ). Climbs rows k z b) (above_one rows n x y up above) rest) more

begins_one : (rows : List Row) (n : ℕ) (k a b : Option ℕ) → Begins rows n k a → Begins rows n k b → a ≡ b
begins_one rows n None a b p q = p ∙ sym q
begins_one rows n (Some k) a b p q = climbs_one rows k (Some n) a b p q

first_one : (P : ℕ → Type 0) (c d : ℕ) → IsFirst P c → IsFirst P d → c ≡ d
first_one P c d (p, least) (q, other) = let up : c ≤ d = least d q in let down : d ≤ c = other c p in omega (arith, up, down)

means_one : (rows : List Row) (own : ℕ) (a : Option ℕ) (s : Option Step) (c d : ℕ) → Means rows own a s c → Means rows own a s d → c ≡ d
means_one rows own a None c d p q = absurd p
means_one rows own a (Some s) c d p q = first_one (IsDataChild rows a _ s.name) c d p q

leads_one : (rows : List Row) (own : ℕ) (ss : List (Option Step)) (a b c : Option ℕ) → Leads rows own ss a b → Leads rows own ss a c → b ≡ c
leads_one rows own [] a b c p q = sym p ∙ q
leads_one rows own (s ∷ ss) a b c (x, means, rest) (y, other, more) =
    leads_one rows own ss (Some y) b c (subst (λ k. Leads rows own ss (Some k) b) (means_one rows own a s x y means other) rest) more

pub one_target : (t : Schema) (n x y : ℕ) → RefersTo t n x → RefersTo t n y → x ≡ y
one_target t n x y p q =
    let f = follows_of t n x q.row q.ref q.is_leafref p in
    let start : f.0 ≡ q.start = begins_one t.rows n q.ref.climbs f.0 q.start f.1 q.begins in
    same_Some x y (leads_one t.rows q.row.label.module_file q.ref.steps q.start (Some x) (Some y) (subst (λ (z : Option ℕ). Leads t.rows q.row.label.module_file q.ref.steps z (Some x)) start f.2) q.leads)

depth_of : (rows : List Row) (p : Option ℕ) (c d : ℕ) → IsDepth rows p d → p ≡ Some c → (x : Option ℕ) × (e : ℕ) × IsAbove rows x c × IsDepth rows x e × (d ≡ e + 1)
depth_of rows p c d top e = absurd (none-some c e)
depth_of rows p c d (deeper {a = a} {c = n} {d = m} up rest) e = (a, m, subst (λ k. IsAbove rows a k) (same_Some n c e) up, rest, refl)

climbs_depth : (rows : List Row) (k : ℕ) (a b : Option ℕ) (d : ℕ) → Climbs rows k a b → IsDepth rows a d → k ≤ d
climbs_depth rows zero a b d h depth = omega arith
climbs_depth rows (suc k) None b d h depth = absurd h
climbs_depth rows (suc k) (Some c) b d (x, up, rest) depth =
    let above = depth_of rows (Some c) c d depth refl in
    let further : k ≤ above.1 = climbs_depth rows k x b above.1 rest (subst (λ (z : Option ℕ). IsDepth rows z above.1) (above_one rows c above.0 x above.2 up) above.3) in
    omega (arith, further, above.4)

pub depth : (t : Schema) (n x k d : ℕ) (r : RefersTo t n x) → r.ref.climbs ≡ Some k → IsDepth t.rows (Some n) d → k ≤ d
depth t n x k d r is from = climbs_depth t.rows k (Some n) r.start d (subst (λ (o : Option ℕ). Begins t.rows n o r.start) is r.begins) from
