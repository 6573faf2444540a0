-- What is said of nodes by number is said of the nodes that they show.
use Rattle.std.proofs.Common.{◌≡◌, ℕ, zero, suc, ◌+◌, List, [], ◌∷◌, refl, sym, ◌∙◌, ap, arith, Option, Some, None, slice_index_or}
use Rattle.std.specs.List.{slice_get}
use Rattle.std.specs.Option.{option_and_then, option_map}
use Rattle.std.proofs.lemmas.Option.{get_or_from_slice_get, slice_get-map}
use Rattle.yv_link_scopes.specs.Files.{Files}
use Rattle.yv_expand.specs.Tree.{Item, Node, Nodes, item, none}
use Rattle.yv_expand_statements.specs.declared.origin.Origin.{Origin}
use Rattle.yv_expand_uses.specs.declared.spot.Spot.{Spot}
use Rattle.yv_expand_changes.specs.Changes.{changes, changes_from}
use Rattle.yv_expand_refines.specs.Targets.{RefineMeaning}
use Rattle.yv_expand_tree.specs.Final.{Final, changes_of, refined_of, spots_of, whole_of}
use Rattle.yv_expand_tree.specs.FinalTree.{module_file_of_spot, no_item, origin_at}
use Rattle.yv_expand_laws.specs.Schema.{shown_nodes}
use Rattle.yv_expand_laws.specs.Shows.{Items}
use Rattle.yv_expand_laws.specs.StatementItems.{ShowNodes}
use Rattle.yv_nodes.specs.Labels.{label_of}
use Rattle.yv_nodes.specs.Numbers.{rows_from}
use Rattle.yv_nodes.specs.Tree.{Label, node, tree}
use Rattle.yv_nodes.specs.Tree as schema
use Rattle.yv_node_statements.specs.Definitions.{refined_definition}
use Rattle.yv_schema.specs.InnerBasis.{NumberedBasis, module_file_of, nodes_in, said_of, stated_of, with_labels}
use Rattle.yv_schema.specs.Module.{module_name}
use Rattle.yv_schema.specs.InnerBasis as by_number
use Rattle.yv_schema.specs.Referrals.{referral_at}
use Rattle.yv_schema.specs.Schema.{Basis, node_list, referral_of_node}
use Rattle.yv_schema.specs.Schema as by_tree
use Rattle.yv_schema.proofs.ShownNodes.{AllLeft, all_left, listed, not_none}

-- the changes of each item are listed by item
change_at : (files : Files) (spots : List Spot) (refined : List RefineMeaning) (n : ℕ) (ss : List Spot) (i : ℕ) (s : Spot) → slice_get ss i ≡ Some s
    → slice_get (changes_from files spots refined n ss) i ≡ Some (changes files spots refined (n + i))
change_at files spots refined n [] i s at = absurd (not_none at)
change_at files spots refined n (x ∷ ss) zero s at = ap (λ (k : ℕ). Some (changes files spots refined k)) (let e : n ≡ n + 0 = omega arith in e)
change_at files spots refined n (x ∷ ss) (suc i) s at =
    change_at files spots refined (n + 1) ss i s at ∙ ap (λ (k : ℕ). Some (changes files spots refined k)) (let e : n + 1 + i ≡ n + suc i = omega arith in e)

module _ (files : Files) (f : Final) (its : Items) where
  -- a node shows what is known of a numbered item
  pub record IsSame (i : ℕ) : Type 0 where
    pub origin : origin_at f.items i ≡ (its.node_of i).origin
    pub refines : slice_index_or (changes_of files f) i [] ≡ (its.node_of i).refines
    pub module_file : module_file_of_spot (slice_get (spots_of files f) i) ≡ (its.node_of i).module_file

  pub same_item : (giver_at : ℕ → Option ℕ) → ShowNodes files (whole_of files f) f.items giver_at its → (i : ℕ) (s : Spot) (x : Item)
      → slice_get (spots_of files f) i ≡ Some s → slice_get f.items i ≡ Some x → IsSame i
  same_item giver_at tells i s x spot at = record {
    origin = ap (λ (y : Item). y.origin) (get_or_from_slice_get f.items i x no_item at) ∙ sym (tells.origin i x at);
    refines =
        get_or_from_slice_get (changes_of files f) i (changes files (spots_of files f) (refined_of files f) (0 + i)) []
        (change_at files (spots_of files f) (refined_of files f) 0 (spots_of files f) i s spot)
        ∙ (ap (changes files (spots_of files f) (refined_of files f)) (let e : 0 + i ≡ i = omega arith in e) ∙ sym (tells.refines i));
    module_file = ap module_file_of_spot spot ∙ sym (tells.told.module_file i s spot);
  }

-- the nodes that the items of a basis show, as a basis
abbrev pub shown_basis : Items → NumberedBasis → Basis
shown_basis its b = record { files = b.files; truth = b.truth; typing = b.typing; nodes = shown_nodes its b.nodes }

module _ (its : Items) (b : NumberedBasis) where
  same_label : (above : List Label) (i : ℕ) → IsSame b.files b.final its i
      → by_number.label_at b above i ≡ by_tree.label_at (shown_basis its b) above (its.node_of i)
  same_label above i same =
      ap (λ (o : Origin). label_of (refined_definition b.typing b.files o (slice_index_or (changes_of b.files b.final) i [])) (module_file_of b i) (module_name b.files (module_file_of b i)) above) same.origin
      ∙ (ap (λ (r : List ℕ). label_of (refined_definition b.typing b.files (its.node_of i).origin r) (module_file_of b i) (module_name b.files (module_file_of b i)) above) same.refines
      ∙ ap (λ (m : ℕ). label_of (refined_definition b.typing b.files (its.node_of i).origin (its.node_of i).refines) m (module_name b.files m) above) same.module_file)

  same_labels : (above : List Label) (nodes : Nodes) → AllLeft (IsSame b.files b.final its) nodes
      → with_labels b above nodes ≡ by_tree.with_labels (shown_basis its b) above (shown_nodes its nodes)
  same_labels above none all = refl
  same_labels above (item i below behind) all =
      let own : Label = by_number.label_at b above i in
      let shown : Label = by_tree.label_at (shown_basis its b) above (its.node_of i) in
      ap (λ (l : Label). tree (node l (with_labels b (l ∷ above) below)) (with_labels b above behind)) (same_label above i all.0)
      ∙ (ap (λ (kids : schema.Forest). tree (node shown kids) (with_labels b above behind)) (same_labels (shown ∷ above) below all.1)
      ∙ ap (λ (others : schema.Forest). tree (node shown (by_tree.with_labels (shown_basis its b) (shown ∷ above) (shown_nodes its below))) others) (same_labels above behind all.2))

  -- each node is the one that it shows
  abbrev pub AreSame : Type 0
  AreSame = (k : ℕ) (x : Node) → slice_get (nodes_in b) k ≡ Some x → IsSame b.files b.final its x.origin

  pub same_stated : AreSame → stated_of b ≡ by_tree.stated_of (shown_basis its b)
  same_stated each = same_labels [] b.nodes (all_left (IsSame b.files b.final its) None 0 b.nodes each)

  same_says : AreSame → (n : ℕ)
      → option_and_then (said_of b) (slice_get (nodes_in b) n) ≡ option_and_then (referral_of_node (shown_basis its b)) (slice_get (node_list (shown_nodes its b.nodes)) n)
  same_says each n =
      by (slice_get (nodes_in b) n) refl
      ∙ ap (option_and_then (referral_of_node (shown_basis its b)))
      (sym (slice_get-map (λ (x : Node). its.node_of x.origin) (nodes_in b) n) ∙ ap (λ xs. slice_get xs n) (sym (listed its None 0 b.nodes)))
    where
      by : (o : Option Node) → slice_get (nodes_in b) n ≡ o
          → option_and_then (said_of b) o ≡ option_and_then (referral_of_node (shown_basis its b)) (option_map (λ (x : Node). its.node_of x.origin) o)
      by None at = refl
      by (Some x) at = ap (referral_at b.typing b.files) (each n x at).origin

  pub same_leafrefs : AreSame → by_number.leafrefs_of b ≡ by_tree.leafrefs_of (shown_basis its b)
  same_leafrefs each =
      let rows = ap (rows_from 0) (same_stated each) in
      let says : (λ n. option_and_then (said_of b) (slice_get (nodes_in b) n)) ≡ (λ n. option_and_then (referral_of_node (shown_basis its b)) (slice_get (node_list (shown_nodes its b.nodes)) n)) = λ i n. same_says each n i in
      λ i. record { rows = rows i; says = says i }
