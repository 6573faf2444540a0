-- Trees without leafrefs.
use Rattle.std.proofs.Common.{◌≡◌, ◌==◌, true, eqb-true, ℕ, zero, suc, ◌+◌, ◌<◌, List, [], ◌∷◌, ◌++◌, length, length-append, ◌^◌, Option, Some, None, inl, inr, refl, sym, ap, ap₂, subst, ◌∙◌, arith}
use Rattle.std.specs.List.{slice_get, slice_index_or}
use Rattle.std.specs.Option.{option_and_then}
use Rattle.std.proofs.lemmas.Option.{get_or_from_slice_get, slice_get_past}
use Rattle.yv_text_statement.specs.Order.{IsLeast}
use Rattle.yv_text_statement.specs.declared.refusal.Refusal.{Refusal}
use Rattle.yv_values.specs.Types.{Plain}
use Rattle.yv_nodes.specs.declared.node.NodeId.{NodeId}
use Rattle.yv_nodes.specs.Numbers.{numbers_from, rows_below, rows_from}
use Rattle.yv_nodes.specs.Rows.{blank_row, root, Row, WithinLimit}
use Rattle.yv_nodes.specs.Tree.{count, Forest, no_trees, node, tree}
use Rattle.yv_nodes.specs.NodeTypes.{label_with_types, typed_from, types_at}
use Rattle.yv_node_leafrefs.specs.Schema.{Referral, Schema, leafref_of_row}
use Rattle.yv_node_leafrefs.specs.Targets.{LeadsTo, RefersTo, own, by_step, by_way}
use Rattle.yv_node_leafrefs.specs.Bad.{BadLeafref, BadLeafrefs}
use Rattle.yv_node_leafrefs.specs.Resolution.{IsTyped, with_targets}
use Rattle.yv_nodes.specs.Link.{AreLinked, Link, reference_in}
use Rattle.yv_node_leafrefs.specs.Links.{AreLinks, IsLinkOf}
use Rattle.yv_expand.specs.Tree.{Node}
use Rattle.yv_expand_statements.specs.declared.origin.Origin.{Origin}
use Rattle.yv_expand_statements.specs.declared.origin.Origin.TheVariants as origin
use Rattle.yv_expand_tree.specs.FinalTree.{origin_at}
use Rattle.yv_schema.specs.InnerBasis.{NumberedBasis, leafrefs_of, nodes_in, said_of, stated_of}
use Rattle.yv_schema.specs.InnerResolution.{AreSilent, IsAnswered, no_links}
use Rattle.yv_schema.specs.Referrals.{referral_at, referral_of}
use Rattle.yv_schema.specs.declared.leafrefs.ResolvedLeafrefs.{ResolvedLeafrefs}

module _ (s : Schema) (silent : (n : ℕ) → s.says n ≡ None) where
  unsaid : (n : ℕ) (ref : Referral) → s.says n ≡ Some ref → ⊥
  unsaid n ref says = let bad : None ≡ Some ref = sym (silent n) ∙ says in cc

  -- nothing refers to anything
  pub refers_nowhere : (n target : ℕ) → RefersTo s n target → ⊥
  refers_nowhere n target r = unsaid n r.ref r.is_leafref.says

  leads_nowhere : (n target : ℕ) → LeadsTo s n target → ⊥
  leads_nowhere n target (by_step {a = a} {b = b} r) = refers_nowhere a b r
  leads_nowhere n target (by_way {a = a} {b = b} r rest) = refers_nowhere a b r

  bad_nowhere : (n : ℕ) (row : Row) (f : Refusal) → BadLeafref s n row f → ⊥
  bad_nowhere n row f (inl lost) = unsaid n lost.0.ref lost.0.is_leafref.says
  bad_nowhere n row f (inr cycle) = leads_nowhere n n cycle.0

  -- nothing is wrong
  pub nothing_wrong : IsLeast (BadLeafrefs s) None
  nothing_wrong f (n, within, row, at, bad) = bad_nowhere n row f bad

rows_long : (parent : NodeId) (first : ℕ) (ts : Forest) → length (rows_below parent first ts) ≡ count ts
rows_long parent first no_trees = refl
rows_long parent first (tree (node l kids) ts) =
    let a = rows_long (record { 0 = first }) (first + 1) kids in
    let b = rows_long parent (first + 1 + count kids) ts in
    let both = length-append (rows_below (record { 0 = first }) (first + 1) kids) (rows_below parent (first + 1 + count kids) ts) in
    omega (arith, a, b, both)

left_of : {X : Type 0} (xs ys : List X) (k : ℕ) (x : X) → slice_get xs k ≡ Some x → slice_get (xs ++ ys) k ≡ Some x
left_of [] ys k x at = cc
left_of (y ∷ xs) ys zero x at = at
left_of (y ∷ xs) ys (suc k) x at = left_of xs ys k x at

right_of : {X : Type 0} (xs ys : List X) (k : ℕ) → slice_get (xs ++ ys) (length xs + k) ≡ slice_get ys k
right_of [] ys k = ap (slice_get ys) (omega arith)
right_of (x ∷ xs) ys k = ap (slice_get (x ∷ xs ++ ys)) (let e : length (x ∷ xs) + k ≡ suc (length xs + k) = omega arith in e) ∙ right_of xs ys k

-- these are the rows of trees, from a number on
abbrev HasRows : List Row → NodeId → (first : ℕ) → Forest → Type 0
HasRows rows parent first ts = (k : ℕ) (r : Row) → slice_get (rows_below parent first ts) k ≡ Some r → slice_get rows (first + k) ≡ Some r

-- trees with the types of their own rows
own_types : (rows : List Row) (parent : NodeId) (first : ℕ) (ts : Forest) → HasRows rows parent first ts → typed_from (types_at rows) first ts ≡ ts
own_types rows parent first no_trees has = refl
own_types rows parent first (tree (node l kids) ts) has =
    let me : NodeId = record { 0 = first } in
    let here : Row = record { label = l; parent = parent; children = numbers_from (first + 1) kids } in
    let inside : List Row = rows_below me (first + 1) kids in
    let beside : List Row = rows_below parent (first + 1 + count kids) ts in
    let at : slice_get rows first ≡ Some here = ap (slice_get rows) (omega arith) ∙ has 0 here refl in
    let types : types_at rows first ≡ l.defined.types = ap (λ (r : Row). r.label.defined.types) (get_or_from_slice_get rows first here blank_row at) in
    let below : HasRows rows me (first + 1) kids = λ k r e. ap (slice_get rows) (omega arith) ∙ has (suc k) r (left_of inside beside k r e) in
    let long : length inside ≡ count kids = rows_long me (first + 1) kids in
    let others : HasRows rows parent (first + 1 + count kids) ts = λ k r e.
    ap (slice_get rows) (omega (arith, long)) ∙ has (suc (length inside + k)) r (right_of inside beside k ∙ e) in
    ap (λ (ps : List Plain). tree (node (label_with_types ps l) (typed_from (types_at rows) (first + 1) kids)) (typed_from (types_at rows) (first + 1 + count kids) ts)) types
    ∙ ap₂ (λ (a b : Forest). tree (node l a) b) (own_types rows me (first + 1) kids below) (own_types rows parent (first + 1 + count kids) ts others)

-- the tree is as it is stated
pub stays : (s : Schema) (stated : Forest) → ((n : ℕ) → s.says n ≡ None) → s.rows ≡ rows_from 0 stated → IsTyped s stated stated
stays s stated silent rows = with_targets (nothing_wrong s silent) (record {
  rows = rows;
  origin = λ n. n;
  each = λ n within. own (refers_nowhere s silent n);
  is = sym (own_types s.rows root 0 stated (λ k r at. ap (slice_get s.rows) (omega arith) ∙ ap (λ (rs : List Row). slice_get rs k) rows ∙ at));
})

pub no_items : {A : Type 0} (xs : List A) → (length xs == 0) ≡ true → xs ≡ []
no_items [] h = refl
no_items (x ∷ xs) h = absurd (omega (arith, eqb-true (length (x ∷ xs)) 0 h))

nothing_at : (leafrefs : List Referral) (k : Option ℕ) → leafrefs ≡ [] → option_and_then (slice_get leafrefs) k ≡ None
nothing_at leafrefs None none = refl
nothing_at leafrefs (Some k) none = ap (λ (refs : List Referral). slice_get refs k) none ∙ slice_get_past [] k (omega arith)

-- of no leafrefs nothing is said
pub said_nowhere : (of : List (Option ℕ)) (leafrefs : List Referral) → leafrefs ≡ [] → (n : ℕ) → leafref_of_row of leafrefs n ≡ None
said_nowhere of leafrefs none n = nothing_at leafrefs (slice_index_or of n None) none

none_there : (many n : ℕ) → reference_in (no_links many) n ≡ None
none_there zero n = refl
none_there (suc many) zero = refl
none_there (suc many) (suc n) = none_there many n

many_none : (many : ℕ) → length (no_links many) ≡ many
many_none zero = refl
many_none (suc many) = let h = many_none many in omega (arith, h)

-- and no link is theirs
pub linkless : (s : Schema) (many : ℕ) (links : List (Option Link)) → ((n : ℕ) → s.says n ≡ None) → length s.rows < 2 ^ 32 → many ≡ length s.rows → links ≡ no_links many → AreLinks s links
linkless s many links silent few same none = record {
  few = few;
  long = ap length none ∙ many_none many ∙ same;
  each = λ n link. (
    (λ e. let bad : None ≡ Some link = sym (none_there many n) ∙ ap (λ (ls : List (Option Link)). reference_in ls n) (sym none) ∙ e in cc),
    (λ (is : IsLinkOf s n link). absurd (refers_nowhere s silent n link.target is.refers)),
  );
}

-- where no statement defines a leafref, no node says anything
pub silent_nodes : (b : NumberedBasis) → AreSilent b.typing b.files → (n : ℕ) → (leafrefs_of b).says n ≡ None
silent_nodes b silent n = by (slice_get (nodes_in b) n)
  where
    said : (from : Origin) → referral_at b.typing b.files from ≡ None
    said (origin.Statement number) = ap (referral_of b.files) (silent number)
    said (origin.Input number) = refl
    said (origin.Output number) = refl

    by : (o : Option Node) → option_and_then (said_of b) o ≡ None
    by None = refl
    by (Some x) = said (origin_at b.final.items x.origin)

-- the links of a schema lead in its trees
abbrev pub LinksLead : Type 0
LinksLead = (s : Schema) (ts : Forest) (links : List (Option Link)) → s.rows ≡ rows_from 0 ts → AreLinks s links → AreLinked (reference_in links) ts

-- what comes of nodes none of which is a leafref
pub answered_without : (b : NumberedBasis) (nodes : WithinLimit) (r : ResolvedLeafrefs) → LinksLead → ((n : ℕ) → (leafrefs_of b).says n ≡ None)
    → nodes.rows ≡ rows_from 0 (stated_of b) → r.nodes ≡ nodes → r.links ≡ no_links (length nodes.rows) → r.fault ≡ None → length nodes.rows < 2 ^ 32 → IsAnswered b r
answered_without b nodes r lead silent are same unlinked clear few =
    let small : length (leafrefs_of b).rows < 2 ^ 32 = subst (λ (rs : List Row). length rs < 2 ^ 32) are few in
    let links : AreLinks (leafrefs_of b) r.links = linkless (leafrefs_of b) (length nodes.rows) r.links silent small (ap length are) unlinked in
    record {
      tree = stated_of b;
      is = stays (leafrefs_of b) (stated_of b) silent refl;
      rows = ap (λ (ns : WithinLimit). ns.rows) same ∙ are;
      fault = subst (λ (f : Option Refusal). IsLeast (BadLeafrefs (leafrefs_of b)) f) (sym clear) (nothing_wrong (leafrefs_of b) silent);
      linked = lead (leafrefs_of b) (stated_of b) r.links refl links;
      links = λ fault. links;
    }
