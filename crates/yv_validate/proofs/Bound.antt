-- The steps of a validation are bounded by the sizes of the document and of the schema, whatever
-- kind of document is asked for.
use Rattle.std.proofs.Common.{◌≡◌, ◌≢◌, ◌⊎◌, inl, inr, ℕ, zero, suc, ◌+◌, ◌*◌, ◌≤◌, List, [], ◌∷◌, ◌++◌, length, map, max, Bool, true, false, cond, not, ◌&&◌, ◌||◌, Option, Some, None, is_some, Ordering, Less, Equal, Greater, refl, sym, ap, subst, is_eq, ◌∙◌, arith}
use Rattle.std.specs.List.{AllByRecursion, sum_by}
use Rattle.std.specs.Ordering.{nat_cmp, match_ordering}
use Rattle.std.specs.Cmp.Lexicographic.{slice_cmp}
use Rattle.std.proofs.lemmas.Map.Text.{is_eq-slice_cmp}
use Rattle.std.proofs.lemmas.Bool.{true≢false}
use Rattle.std.proofs.lemmas.List.{length-map}
use Rattle.std.proofs.lemmas.List.Sums.{sum_by-append, sum_by-cons}
use Rattle.std.proofs.lemmas.Slice.Eq.{bytes_eq-Decides}
use Rattle.serde_json.specs.Data.{Data, null, boolean, number, string, array, object, Items, no_items, item, Members, no_members, member}
use Rattle.serde_json.specs.Find.{get_member}
use Rattle.yv_node_content.specs.declared.kind.NodeKind.{NodeKind}
use Rattle.yv_node_content.specs.declared.kind.NodeKind.TheVariants as kind
use Rattle.yv_node_content.specs.Kinds.{is_data, is_list, is_operation_or_notification, is_passed}
use Rattle.yv_values.specs.Reads.{read_kind, types_tried}
use Rattle.yv_values.specs.Types.{Plain}
use Rattle.yv_values.specs.Values.{Val}
use Rattle.yv_nodes.specs.declared.node.NodeId.{NodeId}
use Rattle.yv_node_keys.specs.Numbers.{unique_leaf_at}
use Rattle.yv_nodes.specs.Defaults.{defaults_of, width}
use Rattle.yv_nodes.specs.Link.{Link, link_in}
use Rattle.yv_nodes.specs.Rows.{Rows, root, whole}
use Rattle.yv_nodes.specs.Tree.{count, Label, Forest, Tree, no_trees, tree, node}
use Rattle.yv_schema_tables.specs.Measures.{greatest, is_container, is_open, measures_of, met_below, types_of, uniques_of}
use Rattle.yv_schema_tables.specs.Measures as measured
use Rattle.yv_schema_tables.specs.Sound.{IsSound}
use Rattle.yv_walk.specs.Context.{members_len}
use Rattle.yv_validate.proofs.Apart.{AreApart, AreApartBelow, AreDistinct, apart, members}
use Rattle.yv_validate.specs.Size.{size, items_size, members_size}
use Rattle.yv_data_quiet.specs.NamedLeafs.{key_leafs, unique_leafs}
use Rattle.yv_text_statement.specs.declared.document_kind.Kind.{Kind}
use Rattle.yv_data_leafrefs.specs.declared.scope.RuleScope.{RuleScope}
use Rattle.yv_data_leafrefs.specs.declared.scope.RuleScope.TheVariants.{Always}
use Rattle.yv_data_leafrefs.specs.InUse.{case_scope, scope_in, value_of}
use Rattle.yv_validate.specs.Faults.{item_tuple, tuple_at}
use Rattle.yv_data_leafrefs.specs.Meetings.{Below, EntryEnd, Meeting, stand, at_value, at_end, at_node, Node, Spot, count_entered, entries_met, entry_met, in_container, in_entry, in_no_object, is_left, items_met, kind_met, meetings, node_met, object_met, top}
use Rattle.yv_data_leafrefs.specs.References.{lookups_at, value_lookups}
use Rattle.yv_validate.specs.Work.{tuple_work, uniques_work, work, work_at}

-- ---- what a member pays for, beside its own look-up

abbrev pub share : ℕ → Data → ℕ
share k d = k + size d * (k + 1)

abbrev pub share_if : ℕ → Option Data → ℕ
share_if k None = 0
share_if k (Some d) = share k d

abbrev pub shares : ℕ → List (List ℕ) → Members → ℕ
shares k [] ms = 0
shares k (n ∷ ns) ms = share_if k (get_member n ms) + shares k ns ms

abbrev pub all_shares : ℕ → Members → ℕ
all_shares k no_members = 0
all_shares k (member key d ms) = share k d + all_shares k ms

shares_append : (k : ℕ) (ns os : List (List ℕ)) (ms : Members) → shares k (ns ++ os) ms ≡ shares k ns ms + shares k os ms
shares_append k [] os ms = omega arith
shares_append k (n ∷ ns) os ms = omega (arith, shares_append k ns os ms)

-- each member pays with its share and its look-up
pub shares_are : (k : ℕ) (ms : Members) → members_len ms + all_shares k ms ≡ members_size ms * (k + 1)
shares_are k no_members = omega arith
shares_are k (member key d ms) = omega (arith, shares_are k ms)

shares_none : (k : ℕ) (ns : List (List ℕ)) → shares k ns no_members ≡ 0
shares_none k [] = refl
shares_none k (n ∷ ns) = omega (arith, shares_none k ns)

cmp_equal : (xs ys : List ℕ) → slice_cmp nat_cmp xs ys ≡ Equal → xs ≡ ys
cmp_equal xs ys e = (bytes_eq-Decides xs ys).0 (sym (is_eq-slice_cmp xs ys) ∙ ap is_eq e)

past_one : (o : Ordering) (a b : Option Data) → (o ≡ Equal → ⊥) → match_ordering o a b a ≡ a
past_one Less a b h = refl
past_one Equal a b h = absurd (h refl)
past_one Greater a b h = refl

-- a first member that none of these names calls
shares_past : (k : ℕ) (ns : List (List ℕ)) (key : List ℕ) (d : Data) (ms : Members) → AllByRecursion (λ (o : List ℕ). o ≢ key) ns
    → shares k ns (member key d ms) ≡ shares k ns ms
shares_past k [] key d ms h = refl
shares_past k (n ∷ ns) key d ms h =
    ap (λ o. share_if k o + shares k ns (member key d ms)) (past_one (slice_cmp nat_cmp n key) (get_member n ms) (Some d) (λ e. h.0 (cmp_equal n key e)))
    ∙ ap (λ x. share_if k (get_member n ms) + x) (shares_past k ns key d ms h.1)

none_is : (ns : List (List ℕ)) (n key : List ℕ) → n ≡ key → AllByRecursion (λ (o : List ℕ). o ≢ n) ns → AllByRecursion (λ (o : List ℕ). o ≢ key) ns
none_is ns n key e h = subst (λ (x : List ℕ). AllByRecursion (λ (o : List ℕ). o ≢ x) ns) e h

one_first : (k : ℕ) (o : Ordering) (a : Option Data) (d : Data) (with without : ℕ) → (o ≡ Equal → with ≡ without) → with ≤ share k d + without
    → share_if k (match_ordering o a (Some d) a) + with ≤ share k d + (share_if k a + without)
one_first k Less a d with without e h = omega (arith, h)
one_first k Greater a d with without e h = omega (arith, h)
one_first k Equal a d with without e h = omega (arith, e refl)

shares_first : (k : ℕ) (ns : List (List ℕ)) (key : List ℕ) (d : Data) (ms : Members) → AreDistinct ns
    → shares k ns (member key d ms) ≤ share k d + shares k ns ms
shares_first k [] key d ms h = omega arith
shares_first k (n ∷ ns) key d ms h =
    one_first k (slice_cmp nat_cmp n key) (get_member n ms) d _ _ (λ e. shares_past k ns key d ms (none_is ns n key (cmp_equal n key e) h.0)) (shares_first k ns key d ms h.1)

pub shares_distinct : (k : ℕ) (ns : List (List ℕ)) (ms : Members) → AreDistinct ns → shares k ns ms ≤ all_shares k ms
shares_distinct k ns no_members h = omega (arith, shares_none k ns)
shares_distinct k ns (member key d ms) h = omega (arith, shares_first k ns key d ms h, shares_distinct k ns ms h)

-- ---- sums

-- the steps of one thing that is met
abbrev pub cost : Kind → Rows → Meeting → ℕ
cost q s m = work_at q s m + lookups_at (link_in s.links) m

cond_pays : (f : Meeting → ℕ) (c : Bool) (xs : List Meeting) (a : ℕ) → sum_by f xs ≤ a → sum_by f (cond c [] xs) ≤ a
cond_pays f true xs a p = omega arith
cond_pays f false xs a p = p

-- ---- what a node costs, for which this is written

tuple_one : (o : Option (List Val)) → tuple_work o ≤ 1
tuple_one None = omega arith
tuple_one (Some vs) = omega arith

tried_by : (b : Bool) (n k : ℕ) → n ≤ k → 1 + cond b 0 n ≤ 1 + k
tried_by true n k h = omega arith
tried_by false n k h = omega (arith, h)

tried_few : (ts : List Plain) (m : List ℕ) (d : Data) → types_tried ts m d ≤ length ts
tried_few [] m d = omega arith
tried_few (t ∷ ts) m d = omega (arith, tried_by (is_some (read_kind t m d)) (types_tried ts m d) (length ts) (tried_few ts m d))

reference_one : (link : Option Link) (v : Option Val) → value_lookups link v ≤ 1
reference_one None v = omega arith
reference_one (Some link) None = omega arith
reference_one (Some link) (Some v) = omega arith

uniques_few : (tuple : List (Option NodeId) → Data → Option (List Val)) (us : List (List (Option NodeId))) (d : Data) → uniques_work tuple us d ≤ length us
uniques_few tuple [] d = omega arith
uniques_few tuple (us ∷ rest) d = omega (arith, tuple_one (tuple us d), uniques_few tuple rest d)

unique_count : (s : Rows) (n : NodeId) (l : Label) → length (unique_leafs s n l) ≡ length l.defined.uniques
unique_count s n l = length-map l.defined.uniques (map (unique_leaf_at s.nodes n))

leaf_pays : (q : Kind) (s : Rows) (k : ℕ) (n : NodeId) (l : Label) (spot : Spot) (d : Data) → length l.defined.types + 1 ≤ k
    → cost q s (at_value (record { node = n; label = l; spot = spot; before = None; found = d })) ≤ k
leaf_pays q s k n l spot d few =
    omega (arith, tried_few l.defined.types l.module_name d, reference_one (link_in s.links n.0) (value_of l d), few)

items_pay : (q : Kind) (s : Rows) (k : ℕ) (n : NodeId) (l : Label) (spot : Spot) (done : List Data) (ds : Items) → length l.defined.types + 1 ≤ k
    → sum_by (cost q s) (items_met n l spot done ds) ≤ items_size ds * (k + 1)
items_pay q s k n l spot done no_items few = omega arith
items_pay q s k n l spot done (item d ds) few =
    omega (
      arith,
      sum_by-cons (cost q s) (at_value (record { node = n; label = l; spot = spot; before = Some done; found = d })) (items_met n l spot (done ++ d ∷ []) ds),
      tried_few l.defined.types l.module_name d,
      tuple_one (item_tuple l d),
      reference_one (link_in s.links n.0) (value_of l d),
      items_pay q s k n l spot (done ++ d ∷ []) ds few,
      few,
    )

-- what is below a node pays with what is in it
record Pays (q : Kind) (s : Rows) (k m inner own : ℕ) (below : Below) : Type 0 where
  pub inside : (spot : Spot) (next : ℕ) (scope : RuleScope) (ms : Members) → members_len ms + sum_by (cost q s) (below.inside spot next scope ms) ≤ m + members_size ms * (k + 1)
  pub absent : (spot : Spot) (next : ℕ) (scope : RuleScope) → sum_by (cost q s) (below.inside spot next scope no_members) ≤ inner
  pub cases : sum_by (cost q s) below.cases ≤ inner + own
  pub nodes : sum_by (cost q s) below.nodes ≤ inner + own

object_pays : (q : Kind) (s : Rows) (k m : ℕ) (n : NodeId) (i : Option ℕ) (kids : Forest) (spot : Spot) (next : ℕ) (d : Data) (below : Below)
    → ((at : Spot) (from : ℕ) (ms : Members) → members_len ms + sum_by (cost q s) (below.inside at from Always ms) ≤ m + members_size ms * (k + 1))
    → sum_by (cost q s) (object_met n i kids spot next d below) ≤ m + size d * (k + 1)
object_pays q s k m n i kids spot next (object ms) below h =
    omega (
      arith,
      sum_by-cons (cost q s)
          (stand (record { node = n; item = i; spot = spot; last = next + count_entered (below.inside spot (next + 1) Always ms); trees = kids; found = object ms }))
          (below.inside spot (next + 1) Always ms),
      h spot (next + 1) ms,
    )
object_pays q s k m n i kids spot next null below h = omega arith
object_pays q s k m n i kids spot next (boolean x) below h = omega arith
object_pays q s k m n i kids spot next (number x) below h = omega arith
object_pays q s k m n i kids spot next (string x) below h = omega arith
object_pays q s k m n i kids spot next (array x) below h = omega arith

entry_pays : (q : Kind) (s : Rows) (k m u : ℕ) (n : NodeId) (l : Label) (kids : Forest) (spot : Spot) (next : ℕ) (done : List Data) (d : Data) (below : Below)
    → m + u ≤ k → length l.defined.uniques ≤ u
    → ((at : Spot) (from : ℕ) (ms : Members) → members_len ms + sum_by (cost q s) (below.inside at from Always ms) ≤ m + members_size ms * (k + 1))
    → sum_by (cost q s) (entry_met n l kids spot next done d below) ≤ (1 + size d) * (k + 1)
entry_pays q s k m u n l kids spot next done d below le few h =
    let own : EntryEnd = record { node = n; label = l; spot = spot; before = done; trees = kids; found = d } in
    omega (
      arith,
      sum_by-append (cost q s) (object_met n (Some (length done + 1)) kids (in_entry spot next l (length done + 1)) next d below) (at_end own ∷ []),
      sum_by-cons (cost q s) (at_end own) [],
      object_pays q s k m n (Some (length done + 1)) kids (in_entry spot next l (length done + 1)) next d below h,
      tuple_one (tuple_at q s own (key_leafs s n l) d),
      uniques_few (tuple_at q s own) (unique_leafs s n l) d,
      unique_count s n l,
      le,
      few,
    )

entries_pay : (q : Kind) (s : Rows) (k m u : ℕ) (n : NodeId) (l : Label) (kids : Forest) (spot : Spot) (next : ℕ) (done : List Data) (ds : Items) (below : Below)
    → m + u ≤ k → length l.defined.uniques ≤ u
    → ((at : Spot) (from : ℕ) (ms : Members) → members_len ms + sum_by (cost q s) (below.inside at from Always ms) ≤ m + members_size ms * (k + 1))
    → sum_by (cost q s) (entries_met n l kids spot next done ds below) ≤ items_size ds * (k + 1)
entries_pay q s k m u n l kids spot next done no_items below le few h = omega arith
entries_pay q s k m u n l kids spot next done (item d ds) below le few h =
    omega (
      arith,
      sum_by-append (cost q s) (entry_met n l kids spot next done d below)
          (entries_met n l kids spot (next + count_entered (entry_met n l kids spot next done d below)) (done ++ d ∷ []) ds below),
      entry_pays q s k m u n l kids spot next done d below le few h,
      entries_pay q s k m u n l kids spot (next + count_entered (entry_met n l kids spot next done d below)) (done ++ d ∷ []) ds below le few h,
    )

-- what a node's own members may be called, and whether what is below is met where it is
abbrev pub own_names : NodeKind → Label → List (List ℕ) → List (List ℕ)
own_names K l ns = cond (is_passed K) ns (cond (is_data K) (l.member ∷ []) [])

abbrev pub is_open_as : NodeKind → Label → Bool
is_open_as K l = is_passed K || is_container K && not l.defined.has_presence

absent_pays : (f : Meeting → ℕ) (p : Bool) (xs : List Meeting) (inner rest : ℕ) → sum_by f xs ≤ inner → sum_by f (cond p [] xs) ≤ cond (not p) inner 0 + rest
absent_pays f true xs inner rest h = omega arith
absent_pays f false xs inner rest h = omega (arith, h)

pays_own : (a k : ℕ) (p : Bool) (inner : ℕ) → a ≤ k → a ≤ cond p inner 0 + (k + 0)
pays_own a k true inner h = omega (arith, h)
pays_own a k false inner h = omega (arith, h)

kind_pays : (q : Kind) (s : Rows) (k m u inner : ℕ) (K : NodeKind) (n : NodeId) (l : Label) (kids : Forest) (spot : Spot) (scope : RuleScope) (next : ℕ) (ns : List (List ℕ)) (ms : Members) (below : Below)
    → m + u ≤ k → length l.defined.types + 1 ≤ k → length l.defined.uniques ≤ u
    → (is_passed K ≡ false → (is_container K || is_list K) ≡ true → (at : Spot) (from : ℕ) (ds : Members) → members_len ds + sum_by (cost q s) (below.inside at from Always ds) ≤ m + members_size ds * (k + 1))
    → ((at : Spot) (from : ℕ) (i : RuleScope) → sum_by (cost q s) (below.inside at from i no_members) ≤ inner)
    → sum_by (cost q s) below.cases ≤ inner + shares k ns ms → sum_by (cost q s) below.nodes ≤ inner + shares k ns ms
    → (found : Option Data) → get_member l.member ms ≡ found
    → sum_by (cost q s) (kind_met K n l kids spot scope next found below) ≤ cond (is_open_as K l) inner 0 + cond (is_passed K) (shares k ns ms) (cond (is_data K) (share_if k found + 0) 0)
kind_pays q s k m u inner kind.Container n l kids spot scope next ns ms below le few named ok absent cases nodes None is =
    absent_pays (cost q s) l.defined.has_presence _ inner _ (absent (in_no_object spot l) next scope)
kind_pays q s k m u inner kind.Container n l kids spot scope next ns ms below le few named ok absent cases nodes (Some d) is =
    pays_own _ (share k d) (not l.defined.has_presence) inner (omega (arith, le, object_pays q s k m n None kids (in_container spot next l) next d below (ok refl refl)))
kind_pays q s k m u inner kind.Leaf n l kids spot scope next ns ms below le few named ok absent cases nodes None is = omega arith
kind_pays q s k m u inner kind.Leaf n l kids spot scope next ns ms below le few named ok absent cases nodes (Some d) is =
    omega (arith, sum_by-cons (cost q s) (at_value (record { node = n; label = l; spot = spot; before = None; found = d })) [], leaf_pays q s k n l spot d few)
kind_pays q s k m u inner kind.LeafList n l kids spot scope next ns ms below le few named ok absent cases nodes (Some (array ds)) is =
    omega (arith, items_pay q s k n l spot [] ds few)
kind_pays q s k m u inner kind.LeafList n l kids spot scope next ns ms below le few named ok absent cases nodes None is = omega arith
kind_pays q s k m u inner kind.LeafList n l kids spot scope next ns ms below le few named ok absent cases nodes (Some _) is = omega arith
kind_pays q s k m u inner kind.List n l kids spot scope next ns ms below le few named ok absent cases nodes (Some (array ds)) is =
    omega (arith, entries_pay q s k m u n l kids spot next [] ds below le named (ok refl refl))
kind_pays q s k m u inner kind.List n l kids spot scope next ns ms below le few named ok absent cases nodes None is = omega arith
kind_pays q s k m u inner kind.List n l kids spot scope next ns ms below le few named ok absent cases nodes (Some _) is = omega arith
kind_pays q s k m u inner kind.Choice n l kids spot scope next ns ms below le few named ok absent cases nodes found is = cases
kind_pays q s k m u inner kind.Case n l kids spot scope next ns ms below le few named ok absent cases nodes found is = nodes
kind_pays q s k m u inner _ n l kids spot scope next ns ms below le few named ok absent cases nodes found is = omega arith

names_pay : (k : ℕ) (p d : Bool) (l : Label) (ns : List (List ℕ)) (ms : Members) → cond p (shares k ns ms) (cond d (share_if k (get_member l.member ms) + 0) 0) ≡ shares k (cond p ns (cond d (l.member ∷ []) [])) ms
names_pay k true d l ns ms = refl
names_pay k false true l ns ms = refl
names_pay k false false l ns ms = refl

-- ---- all nodes

nothing_more : (n : ℕ) → n + 0 ≡ n
nothing_more n = omega arith

-- the visit of a node
visit_costs : (q : Kind) (s : Rows) (m : Node) → cost q s (at_node m) ≡ width m.label
visit_costs q s m = nothing_more (width m.label)

one_tree : (f : Meeting → ℕ) (op : Bool) (xs : List Meeting) (m : Meeting) (visit inner own : ℕ) → f m ≡ visit → (op ≡ false → sum_by f xs ≤ inner + own)
    → sum_by f (cond op [] (xs ++ m ∷ [])) ≤ cond op 0 (visit + inner) + own
one_tree f true xs m visit inner own e h = omega arith
one_tree f false xs m visit inner own e h = omega (arith, e, sum_by-append f xs (m ∷ []), sum_by-cons f m [], h refl)

-- what is greatest of all is no less than what is here, at nodes that aren't operations, and than
-- what is behind
here_at_most : (b : Bool) (x y z k : ℕ) → max (cond b 0 (max x y)) z ≤ k → b ≡ false → x ≤ k
here_at_most true x y z k h e = absurd (true≢false e)
here_at_most false x y z k h e = omega (arith, h)

below_at_most : (b : Bool) (x y z k : ℕ) → max (cond b 0 (max x y)) z ≤ k → b ≡ false → y ≤ k
below_at_most true x y z k h e = absurd (true≢false e)
below_at_most false x y z k h e = omega (arith, h)

behind_at_most : (x z k : ℕ) → max x z ≤ k → z ≤ k
behind_at_most x z k h = omega (arith, h)

met_if : (b : Bool) (x k : ℕ) → cond b x 0 ≤ k → b ≡ true → x ≤ k
met_if true x k h e = h
met_if false x k h e = absurd (true≢false (sym e))

-- the greatest numbers of a forest are within these
pub record IsWithin (m u w : ℕ) (ts : Forest) : Type 0 where
  pub met : greatest met_below ts ≤ m
  pub uniques : greatest uniques_of ts ≤ u
  pub types : greatest types_of ts ≤ w

pub forest_pays : (q : Kind) (s : Rows) (m u w : ℕ) (scope_of : ℕ → Tree → RuleScope) (spot : Spot) (next first : ℕ) (ts : Forest) (ms : Members) → 1 ≤ m → IsWithin m u w ts
    → AreApartBelow ts
    → sum_by (cost q s) (meetings q s scope_of spot next first ts ms) ≤ measured.count_met ts + shares (m + u + w) (members ts) ms
forest_pays q s m u w scope_of spot next first no_trees ms some h apart = omega arith
forest_pays q s m u w scope_of spot next first (tree (node l kids) ts) ms some h apart =
    let k : ℕ = m + u + w in
    let K : NodeKind = l.defined.kind in
    let op : Bool = is_operation_or_notification K in
    let n : NodeId = record { 0 = first } in
    let scope : RuleScope = scope_in q l.is_config (scope_of first (node l kids)) in
    let found : Option Data = get_member l.member ms in
    let own : Node = record { node = n; label = l; spot = spot; scope = scope; members = ms; kids = kids } in
    let below : Below = record {
      inside = λ at from i ds. meetings q s (λ j t. i) at from (first + 1) kids ds;
      cases = meetings q s (case_scope s n (first + 1) kids ms) spot next (first + 1) kids ms;
      nodes = meetings q s (λ j t. scope) spot next (first + 1) kids ms;
    } in
    let inner : op ≡ false → IsWithin m u w kids = λ e. record {
      met = below_at_most op _ _ _ m h.met e;
      uniques = below_at_most op _ _ _ u h.uniques e;
      types = below_at_most op _ _ _ w h.types e;
    } in
    let rest : IsWithin m u w ts = record {
      met = behind_at_most _ _ m h.met;
      uniques = behind_at_most _ _ u h.uniques;
      types = behind_at_most _ _ w h.types;
    } in
    let down : op ≡ false → (of : ℕ → Tree → RuleScope) (at : Spot) (from : ℕ) (ds : Members)
    → sum_by (cost q s) (meetings q s of at from (first + 1) kids ds) ≤ measured.count_met kids + shares k (members kids) ds =
    λ e of at from ds. forest_pays q s m u w of at from (first + 1) kids ds some (inner e) apart.1 in
    let kind_list : List Meeting = kind_met K n l kids spot scope next found below in
    let own_pays : op ≡ false → sum_by (cost q s) (cond (is_left K scope found) [] kind_list) ≤ cond (is_open l) (measured.count_met kids) 0 + shares k (own_names K l (members kids)) ms =
    λ e. cond_pays (cost q s) (is_left K scope found) kind_list _ (omega (
      arith,
      names_pay k (is_passed K) (is_data K) l (members kids) ms,
      kind_pays q s k m u (measured.count_met kids) K n l kids spot scope next (members kids) ms below (omega arith)
          (omega (arith, some, here_at_most op _ _ _ w h.types e))
          (here_at_most op _ _ _ u h.uniques e)
          (λ not_passed has_objects at from ds. omega (
            arith,
            down e (λ j t. Always) at from ds,
            shares_distinct k (members kids) ds (apart.0 not_passed),
            shares_are k ds,
            met_if (is_container K || is_list K) (measured.count_met kids) m (here_at_most op _ _ _ m h.met e) has_objects,
          ))
          (λ at from i. omega (arith, down e (λ j t. i) at from no_members, shares_none k (members kids)))
          (down e (case_scope s n (first + 1) kids ms) spot next ms)
          (down e (λ j t. scope) spot next ms) found refl,
    )) in
    omega (
      arith,
      sum_by-append (cost q s) (node_met n l kids spot scope next ms below)
          (meetings q s scope_of spot (next + count_entered (node_met n l kids spot scope next ms below)) (first + 1 + count kids) ts ms),
      one_tree (cost q s) op (cond (is_left K scope found) [] kind_list) (at_node own) (width l) (cond (is_open l) (measured.count_met kids) 0) (shares k (own_names K l (members kids)) ms) (visit_costs q s own) own_pays,
      forest_pays q s m u w scope_of spot (next + count_entered (node_met n l kids spot scope next ms below)) (first + 1 + count kids) ts ms some rest apart.2,
      shares_append k (own_names K l (members kids)) (members ts) ms,
    )

-- where nothing is met, there are only operations, and no step is taken
only_operations : (b : Bool) (x y z : ℕ) → 1 ≤ x → cond b 0 (x + y) + z ≡ 0 → (b ≡ true) × (z ≡ 0)
only_operations true x y z le e = (refl, omega (arith, e))
only_operations false x y z le e = absurd (omega (arith, le, e))

left_out : (f : Meeting → ℕ) (b : Bool) (xs : List Meeting) → b ≡ true → sum_by f (cond b [] xs) ≡ 0
left_out f true xs e = refl
left_out f false xs e = absurd (true≢false (sym e))

wide : (n : ℕ) → 1 ≤ max 1 n
wide n = omega arith

nothing_taken : (q : Kind) (s : Rows) (scope_of : ℕ → Tree → RuleScope) (spot : Spot) (next first : ℕ) (ts : Forest) (ms : Members) → measured.count_met ts ≡ 0
    → sum_by (cost q s) (meetings q s scope_of spot next first ts ms) ≡ 0
nothing_taken q s scope_of spot next first no_trees ms e = refl
nothing_taken q s scope_of spot next first (tree (node l kids) ts) ms e =
    let b : Bool = is_operation_or_notification l.defined.kind in
    let only : (b ≡ true) × (measured.count_met ts ≡ 0) = only_operations b (width l) (cond (is_open l) (measured.count_met kids) 0) (measured.count_met ts) (wide (length (defaults_of l))) e in
    let n : NodeId = record { 0 = first } in
    let scope : RuleScope = scope_in q l.is_config (scope_of first (node l kids)) in
    let below : Below = record {
      inside = λ at from i ds. meetings q s (λ j t. i) at from (first + 1) kids ds;
      cases = meetings q s (case_scope s n (first + 1) kids ms) spot next (first + 1) kids ms;
      nodes = meetings q s (λ j t. scope) spot next (first + 1) kids ms;
    } in
    omega (
      arith,
      sum_by-append (cost q s) (node_met n l kids spot scope next ms below)
          (meetings q s scope_of spot (next + count_entered (node_met n l kids spot scope next ms below)) (first + 1 + count kids) ts ms),
      left_out (cost q s) b (cond (is_left l.defined.kind scope (get_member l.member ms)) [] (kind_met l.defined.kind n l kids spot scope next (get_member l.member ms) below)
          ++ at_node (record { node = n; label = l; spot = spot; scope = scope; members = ms; kids = kids }) ∷ []) only.0,
      nothing_taken q s scope_of spot (next + count_entered (node_met n l kids spot scope next ms below)) (first + 1 + count kids) ts ms only.1,
    )

none_or_some : (n : ℕ) → (n ≡ 0) ⊎ (1 ≤ n)
none_or_some zero = inl refl
none_or_some (suc n) = inr (omega arith)

within : (ts : Forest) → IsWithin (measures_of ts).m (measures_of ts).u (measures_of ts).w ts
within ts = record {
  met = omega arith;
  uniques = omega arith;
  types = omega arith;
}

pub work_bounded : (q : Kind) (s : Rows) (d : Data) → IsSound s
    → work q s d ≤ (size d + 1) * ((measures_of (whole s)).m + (measures_of (whole s)).u + (measures_of (whole s)).w + 1)
work_bounded q s (object ms) sound =
    let told : AreApart (whole s) = apart (whole s) sound.members in
    let k : ℕ = (measures_of (whole s)).m + (measures_of (whole s)).u + (measures_of (whole s)).w in
    let met_few : measured.count_met (whole s) ≤ (measures_of (whole s)).m = omega arith in
    let inside : List Meeting = meetings q s (λ n t. Always) top 1 0 (whole s) ms in
    let taken : ℕ = sum_by (cost q s) inside in
    let few : taken ≤ measured.count_met (whole s) + all_shares k ms = elim (none_or_some (measured.count_met (whole s))) [
      | inl none ↦ omega (arith, nothing_taken q s (λ n t. Always) top 1 0 (whole s) ms none)
      | inr some ↦ omega (
        arith,
        forest_pays q s _ _ _ (λ n t. Always) top 1 0 (whole s) ms (omega (arith, some, met_few)) (within (whole s)) told.1,
        shares_distinct k (members (whole s)) ms told.0,
      )
    ] in
    omega (
      arith,
      sum_by-cons (cost q s) (stand (record { node = root; item = None; spot = top; last = 0 + count_entered inside; trees = whole s; found = object ms })) inside,
      met_few,
      few,
      shares_are k ms,
    )
work_bounded q s null sound = omega arith
work_bounded q s (boolean x) sound = omega arith
work_bounded q s (number x) sound = omega arith
work_bounded q s (string x) sound = omega arith
work_bounded q s (array x) sound = omega arith
