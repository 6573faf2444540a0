-- Statements that have an expansion give a tree.
use Rattle.std.proofs.Common.{◌≡◌, ℕ, ◌⊎◌, inl, inr, ◌∙◌, ap, sym, subst, refl, ◌||◌, ◌&&◌, not, Bool, true, false, List, [], ◌∷◌, ◌++◌, map, codes, Option, Some, None}
use Rattle.std.specs.List.{AllByRecursion, flat_map, slice_get}
use Rattle.std.specs.Str.{bytes_eq}
use Rattle.std.proofs.lemmas.Bool.{false≢true}
use Rattle.std.proofs.lemmas.Option.{same_Some}
use Rattle.std.proofs.lemmas.Slice.Eq.{bytes_eq-Decides}
use Rattle.yv_text_statement.specs.declared.refusal.Code.TheVariants as code
use Rattle.yv_link_scopes.specs.Files.{Files, Briefs, brief_of}
use Rattle.yv_link_scopes.specs.RowList.{rows_of}
use Rattle.yv_link_scopes.specs.Rows.{Row, name_in}
use Rattle.yv_link_scopes.specs.declared.kind.NameKind.{NameKind}
use Rattle.yv_link_scopes.specs.declared.kind.NameKind.TheVariants.{Prefix, Include, Typedef, Grouping, Feature, Identity, Extension}
use Rattle.yv_link_definitions.specs.BuiltIn.{is_built_in}
use Rattle.yv_text_statement.specs.Words.{is_among}
use Rattle.yv_link_definitions.specs.Refers.{RefersTo, is_type, is_uses, names_definition}
use Rattle.yv_expand_statements.specs.Units.{nodes, operations}
use Rattle.yv_expand_statements.specs.StatementBlocks.{block_of, is_augment, is_node_or_uses, is_operation, those, is_refine}
use Rattle.yv_expand.specs.Tree.{Tree}
use Rattle.yv_expand.specs.Expands.{Expands}
use Rattle.yv_expand_statements.specs.Kinds.{may_be_target, kind_of_keyword}
use Rattle.yv_expand_statements.specs.declared.statement_kind.StatementKind.{StatementKind}
use Rattle.yv_expand_statements.specs.declared.statement_kind.StatementKind.TheVariants as kind
use Rattle.yv_expand_definition.specs.Nodes.{Forest, Node, join}
use Rattle.yv_expand_definition.specs.Paths.{Leads, at, node_at_end, path_of, shorthand_case}
use Rattle.yv_expand_definition.specs.Gives.{AugmentsGive, Gives, MeansNone, Misses, PathLeads, Product, Reaches, RefinesGive, add_block, add_refusal, is_fit, nothing}
use Rattle.yv_expand_definition.specs.Gives.Gives.{no_statements, other, one_node, operation, uses}
use Rattle.yv_expand_definition.specs.Expansion.{AllRefer}
use Rattle.yv_expand_definition.proofs.PathEnds.{HasEnd, HasNoEnd, find}
use Rattle.yv_expand_definition.proofs.RefineUniqueness.{node_or, one_meeting}
use Rattle.yv_expand_definition.proofs.Unique.{any_exchange, apart}

-- a path leads to a node, which can be exchanged for any other
abbrev pub MeansSome : Files → (module_file k : ℕ) → Forest → Type 0
MeansSome files module_file k nodes =
    (g : Node) × (below : Forest) × ((other : Node) (low : Forest) → (there : Forest) × PathLeads files module_file k nodes (at g below other low) there)

no_row : {r : Row} → None ≡ Some r → ⊥
no_row e = cc

-- a case that is left out is no node
no_node_there : (g : Node) (below : Forest) → node_at_end shorthand_case ≡ node_at_end (at g below g below) → ⊥
no_node_there g below e = cc

-- it leads to a node, or to none
pub means : (files : Files) (module_file k : ℕ) (nodes : Forest) → MeansSome files module_file k nodes ⊎ MeansNone files module_file k nodes
means files module_file k nodes = by (slice_get (rows_of files) k) refl
  where
    found : (r : Row) → slice_get (rows_of files) k ≡ Some r
        → HasEnd false (path_of files module_file r) nodes ⊎ HasNoEnd false (path_of files module_file r) nodes
        → MeansSome files module_file k nodes ⊎ MeansNone files module_file k nodes
    found r is (inl (at g below h low, there, l)) =
        inl (g, below, λ other low. let x = any_exchange l other low in (x.0, (r, is, x.1)))
    found r is (inl (shorthand_case, there, l)) =
        inr (λ g below last p. no_node_there g below (one_meeting files module_file k nodes nodes shorthand_case (at g below g below) there last refl (r, is, l) p))
    found r is (inr no_end) =
        inr (λ g below last p. no_end (at g below g below) last
        (subst (λ x. Leads false (path_of files module_file x) nodes (at g below g below) last) (same_Some p.0 r (sym p.1 ∙ is)) p.2))

    by : (o : Option Row) → slice_get (rows_of files) k ≡ o → MeansSome files module_file k nodes ⊎ MeansNone files module_file k nodes
    by None is = inr (λ g below there p. no_row (sym is ∙ p.1))
    by (Some r) is = found r is (find (path_of files module_file r) false nodes)

-- refines give something
pub refines_give : (files : Files) (module_file : ℕ) (ks : List ℕ) (m : Product) → (last : Product) × RefinesGive files module_file ks m last
refines_give files module_file [] m = (m, RefinesGive.none_left)
refines_give files module_file (k ∷ ks) m = by (means files module_file k m.nodes) (refines_give files module_file ks)
  where
    by : MeansSome files module_file k m.nodes ⊎ MeansNone files module_file k m.nodes → ((n : Product) → (last : Product) × RefinesGive files module_file ks n last)
        → (last : Product) × RefinesGive files module_file (k ∷ ks) m last
    by (inr none_is) others = (let x = others (add_refusal code.RefineTarget k m) in (x.0, RefinesGive.without_target none_is x.1))
    by (inl (g, below, leads)) others = fit (is_fit files k g) refl
      where
        fit : (b : Bool) → is_fit files k g ≡ b → (last : Product) × RefinesGive files module_file (k ∷ ks) m last
        fit true is =
            let p = leads (record g { refines = g.refines ++ k ∷ [] }) below in
            let x = others (record m { nodes = p.0 }) in (x.0, RefinesGive.changes p.1 is x.1)
        fit false is =
            let p = leads g below in
            let x = others (add_refusal code.BadRefine k m) in (x.0, RefinesGive.unfit p.1 is x.1)

-- an augment reaches its target, or misses it
pub reaches : (files : Files) (module_file a : ℕ) (put : Forest → Forest) (nodes : Forest)
    → ((there : Forest) × (target : Node) × Reaches files module_file a put nodes there target) ⊎ Misses files module_file a nodes
reaches files module_file a put nodes = by (means files module_file a nodes)
  where
    by : MeansSome files module_file a nodes ⊎ MeansNone files module_file a nodes
        → ((there : Forest) × (target : Node) × Reaches files module_file a put nodes there target) ⊎ Misses files module_file a nodes
    by (inr none_is) = inr (λ g there p. none_is g p.below there p.leads)
    by (inl (g, below, leads)) = may (may_be_target g.kind) refl
      where
        may : (b : Bool) → may_be_target g.kind ≡ b
            → ((there : Forest) × (target : Node) × Reaches files module_file a put nodes there target) ⊎ Misses files module_file a nodes
        may true is = (let p = leads g (put below) in inl (p.0, g, record { below = below; leads = p.1; may_be = is }))
        may false is =
            inr (λ h there p. let q = leads g below in
            let one : g ≡ h = ap (node_or g) (one_meeting files module_file a nodes nodes (at g below g below) (at h p.below h p.below) q.0 there refl q.1 p.leads) in
            apart is (ap (λ (x : Node). may_be_target x.kind) one ∙ p.may_be))

-- what holds of each word holds of one among them
among_all : (P : List ℕ → Type 0) (words : List (List ℕ)) (word : List ℕ) → AllByRecursion P words → is_among words word ≡ true → P word
among_all P [] word each h = absurd (false≢true h)
among_all P (w ∷ ws) word (first, rest) h = by (bytes_eq w word) refl h (λ h. among_all P ws word rest h)
  where
    by : (b : Bool) → bytes_eq w word ≡ b → (b || is_among ws word) ≡ true → (is_among ws word ≡ true → P word) → P word
    by true is h later = subst P ((bytes_eq-Decides w word).0 is) first
    by false is h later = later h

either_is : (a b : Bool) → (a || b) ≡ true → (a ≡ true) ⊎ (b ≡ true)
either_is true b h = inl refl
either_is false b h = inr h

right_is : (a b : Bool) → b ≡ true → (a || b) ≡ true
right_is true b h = refl
right_is false b h = h

left_is : (a b : Bool) → (a && b) ≡ true → a ≡ true
left_is true b h = refl
left_is false b h = h

abbrev IsKind : List ℕ → Type 0
IsKind word = (kd : StatementKind) × (kind_of_keyword word ≡ Some kd)

nodes_are : AllByRecursion IsKind nodes
unfolding kind_of_keyword
nodes_are = (
  (kind.Container, refl),
  (
    (kind.Leaf, refl),
    (
      (kind.LeafList, refl),
      (
        (kind.List, refl),
        ((kind.Choice, refl), ((kind.Case, refl), ((kind.Anydata, refl), ((kind.Anyxml, refl), ((kind.Notification, refl), ((kind.Uses, refl), tt)))))),
      ),
    ),
  ),
)

operations_are : AllByRecursion IsKind operations
unfolding kind_of_keyword
operations_are = ((kind.Rpc, refl), ((kind.Action, refl), tt))

-- an item is of a kind
item_kind : (r : Row) → is_node_or_uses r ≡ true → (kd : StatementKind) × (kind_of_keyword r.head.keyword ≡ Some kd)
unfolding is_node_or_uses
item_kind r h = elim (either_is (is_among nodes r.head.keyword) (is_among operations r.head.keyword) h) [
  | inl a ↦ among_all IsKind nodes r.head.keyword nodes_are a
  | inr b ↦ among_all IsKind operations r.head.keyword operations_are b
]

-- an operation is an item, and no uses
operation_item : (r : Row) → is_operation r ≡ true → (is_node_or_uses r ≡ true) × (is_uses r ≡ false)
unfolding is_node_or_uses is_operation
operation_item r h = (
  right_is (is_among nodes r.head.keyword) (is_among operations r.head.keyword) h,
  among_all (λ word. bytes_eq word (codes "uses") ≡ false) operations r.head.keyword (refl, (refl, tt)) h,
)

-- no type is an item
no_type : (r : Row) → is_node_or_uses r ≡ true → is_type r ≡ false
unfolding is_node_or_uses
no_type r h = elim (either_is (is_among nodes r.head.keyword) (is_among operations r.head.keyword) h) [
  | inl a ↦ among_all (λ word. bytes_eq word (codes "type") ≡ false) nodes r.head.keyword (refl, (refl, (refl, (refl, (refl, (refl, (refl, (refl, (refl, (refl, tt)))))))))) a
  | inr b ↦ among_all (λ word. bytes_eq word (codes "type") ≡ false) operations r.head.keyword (refl, (refl, tt)) b
]

-- an item that refers to a definition is a uses
refers_uses : (files : Briefs) (rows : List Row) (k d : ℕ) (r : Row) → slice_get rows k ≡ Some r → is_node_or_uses r ≡ true → RefersTo files rows k d → is_uses r ≡ true
refers_uses files rows k d r is item (name_kind, refers) =
    by name_kind (ap (names_definition name_kind) (same_Some r refers.statement (sym is ∙ refers.at)) ∙ refers.names)
  where
    by : (x : NameKind) → names_definition x r ≡ true → is_uses r ≡ true
    by Grouping h = h
    by Typedef h = absurd (apart (no_type r item) (left_is (is_type r) (not (is_built_in (name_in r))) h))
    by Prefix h = absurd (false≢true h)
    by Include h = absurd (false≢true h)
    by Feature h = absurd (false≢true h)
    by Identity h = absurd (false≢true h)
    by Extension h = absurd (false≢true h)

module _ (files : Files) (module_file : ℕ) where
  -- statements give something, whatever uses and augments stand round them
  abbrev pub GiveSome : List ℕ → Type 0
  GiveSome numbers = (under : List ℕ) → (m : Product) × Gives files module_file under numbers m

  -- what gives something with a statement in front gives something without it
  rest_gives : {under ks : List ℕ} {k : ℕ} {m : Product} → Gives files module_file under (k ∷ ks) m → (n : Product) × Gives files module_file under ks n
  rest_gives (other {m = m} is item e) = (m, e)
  rest_gives (one_node {behind = behind} is item o u kd b e) = (behind, e)
  rest_gives (operation {behind = behind} is item o u kd i p e) = (behind, e)
  rest_gives (uses {behind = behind} is item u d c x y e) = (behind, e)

  -- and the statement gives something in front of others that do
  first_gives : {under ks : List ℕ} {k : ℕ} {m : Product} → Gives files module_file under (k ∷ ks) m → (js : List ℕ) (n : Product) → Gives files module_file under js n
      → (last : Product) × Gives files module_file under (k ∷ js) last
  first_gives (other is item e) js n f = (_, other is item f)
  first_gives (one_node is item o u kd b e) js n f = (_, one_node is item o u kd b f)
  first_gives (operation is item o u kd i p e) js n f = (_, operation is item o u kd i p f)
  first_gives (uses is item u d c x y e) js n f = (_, uses is item u d c x y f)

  front_gives : (under ks js : List ℕ) (m : Product) → Gives files module_file under (ks ++ js) m → (n : Product) × Gives files module_file under ks n
  front_gives under [] js m e = (nothing, no_statements)
  front_gives under (k ∷ ks) js m e =
      let rest = rest_gives e in
      let x = front_gives under ks js rest.0 rest.1 in first_gives e ks x.0 x.1

  back_gives : (under ks js : List ℕ) (m : Product) → Gives files module_file under (ks ++ js) m → (n : Product) × Gives files module_file under js n
  back_gives under [] js m e = (m, e)
  back_gives under (k ∷ ks) js m e = (let rest = rest_gives e in back_gives under ks js rest.0 rest.1)

  -- the augments of a uses give something, where what stands in their blocks does
  pub augments_give : (ks : List ℕ) → GiveSome (flat_map (block_of (rows_of files)) ks) → (under : List ℕ) (m : Product)
      → (last : Product) × AugmentsGive files module_file under ks m last
  augments_give [] give under m = (m, AugmentsGive.none_left)
  augments_give (a ∷ ks) give under m = by (reaches files module_file a (λ below. join below block.0.nodes) m.nodes)
      (augments_give ks (λ outer. back_gives outer (block_of (rows_of files) a) (flat_map (block_of (rows_of files)) ks) (give outer).0 (give outer).1) under)
    where
      block : (n : Product) × Gives files module_file (a ∷ under) (block_of (rows_of files) a) n
      block = front_gives (a ∷ under) (block_of (rows_of files) a) (flat_map (block_of (rows_of files)) ks) (give (a ∷ under)).0 (give (a ∷ under)).1

      by : ((there : Forest) × (target : Node) × Reaches files module_file a (λ below. join below block.0.nodes) m.nodes there target) ⊎ Misses files module_file a m.nodes
          → ((n : Product) → (last : Product) × AugmentsGive files module_file under ks n last) → (last : Product) × AugmentsGive files module_file under (a ∷ ks) m last
      by (inl (there, target, reached)) others =
          let x = others (add_block files a target m block.0 there) in (x.0, AugmentsGive.adds block.1 reached x.1)
      by (inr missed) others =
          let x = others (add_refusal code.AugmentTarget a m) in (x.0, AugmentsGive.without_target missed x.1)

  module _ (refer : AllRefer (map brief_of files) (rows_of files)) where
    no_uses : (k : ℕ) (r : Row) → slice_get (rows_of files) k ≡ Some r → ((d : ℕ) → RefersTo (map brief_of files) (rows_of files) k d → ⊥) → is_uses r ≡ false
    no_uses k r is none_meant = by (is_uses r) refl
      where
        by : (b : Bool) → is_uses r ≡ b → is_uses r ≡ false
        by false e = e
        by true e = (let d = refer k r is e in absurd (none_meant d.0 d.1))

    pub expansion_gives : {numbers : List ℕ} {t : Tree} → Expands (map brief_of files) (rows_of files) numbers t → GiveSome numbers
    expansion_gives Expands.nothing under = (nothing, no_statements)
    expansion_gives (Expands.other is item e) under = (let x = expansion_gives e under in (x.0, other is item x.1))
    expansion_gives (Expands.node {k = k} {r = r} is item o none_meant b e) under =
        let kd = item_kind r item in
        let x = expansion_gives b under in
        let y = expansion_gives e under in (_, one_node is item o (no_uses k r is none_meant) kd.1 x.1 y.1)
    expansion_gives (Expands.operation {r = r} is o i p e) under =
        let item = operation_item r o in
        let kd = item_kind r item.0 in
        let x = expansion_gives i under in
        let y = expansion_gives p under in
        let z = expansion_gives e under in (_, operation is item.0 o item.1 kd.1 x.1 y.1 z.1)
    expansion_gives (Expands.uses {k = k} {d = d} {r = r} is item refers c g e) under =
        let copies = expansion_gives c (k ∷ under) in
        let changed = refines_give files module_file (those is_refine (rows_of files) (block_of (rows_of files) k)) copies.0 in
        let more = augments_give (those is_augment (rows_of files) (block_of (rows_of files) k)) (expansion_gives g) (k ∷ under) changed.0 in
        let y = expansion_gives e under in
        (_, uses is item (refers_uses (map brief_of files) (rows_of files) k d r is item refers) refers copies.1 changed.1 more.1 y.1)
