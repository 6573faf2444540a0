-- What a schema is by the numbered items of its basis, it is by the tree to which files expand.
use Rattle.std.proofs.Common.{◌≡◌, List, refl, sym, subst, Option, None}
use Rattle.std.specs.Prelude.{Result, IfOk, OnOk, Ok, Err}
use Rattle.yv_text_statement.specs.declared.refusal.Refusal.{Refusal}
use Rattle.yv_text_statement.specs.Order.{IsLeast}
use Rattle.yv_text_statement.specs.Selection.{ModuleChoice}
use Rattle.yv_link_features.specs.Refusals.{BadFeatures}
use Rattle.yv_expand_statements.specs.FileOrder.{marks_of}
use Rattle.yv_expand_definition.specs.Remains.{AreNodes}
use Rattle.yv_expand_laws.specs.Files.{ShowFiles}
use Rattle.yv_expand_laws.specs.Schema.{shown_nodes}
use Rattle.yv_expand_laws.specs.Shows.{Items}
use Rattle.yv_nodes.specs.Link.{Link}
use Rattle.yv_nodes.specs.Tree as schema
use Rattle.yv_node_leafrefs.specs.Links.{AreLinks}
use Rattle.yv_node_leafrefs.specs.Resolution.{IsTyped}
use Rattle.yv_node_leafrefs.specs.Schema.{Schema}
use Rattle.yv_schema.specs.InnerBasis.{IsNumberedBasis, NumberedBasis}
use Rattle.yv_schema.specs.InnerBasis as by_number
use Rattle.yv_schema.specs.LinkedLeafrefs.{AreLinked}
use Rattle.yv_schema.specs.Refusals.{BadNodes}
use Rattle.yv_schema.specs.Schema.{AreReferences, Basis, IsBasis, IsSchema}
use Rattle.yv_schema.specs.Schema as by_tree
use Rattle.yv_schema.proofs.OneSchema.{HasOneTruth, HaveOneTyping, one_basis}
use Rattle.yv_schema.proofs.RequiredLinks.{HasItsLink}
use Rattle.yv_schema.proofs.ShownBasis.{AreSame, same_leafrefs, same_stated, shown_basis}
use Rattle.yv_schema.proofs.ShownItems.{LeftAreItems, OneNodes, shown_same}

-- what holds of an answer follows from what else does
pub if_ok : {A E : Type 0} {P Q : A → Type 0} {C : Type 0} (r : Result A E) → IfOk r P → OnOk r C → ((a : A) → P a → C → Q a) → IfOk r Q
if_ok (Ok a) p c to = to a p c
if_ok (Err e) p c to = tt

module _ (are_items : LeftAreItems) (choice : ModuleChoice) (b : NumberedBasis) (its : Items) (is : IsNumberedBasis choice b)
    (told : ShowFiles b.files (marks_of choice b.files) b.final.items its) (are_nodes : AreNodes choice b.files (shown_nodes its b.nodes)) where
  abbrev t : Basis
  t = shown_basis its b

  each : AreSame its b
  each = shown_same are_items choice b its is told

  pub is_basis_of : IsBasis choice (shown_basis its b)
  is_basis_of = record { truth = is.truth; typing = is.typing; nodes = are_nodes }

  pub schema_of : (top : schema.Forest) → IsTyped (by_number.leafrefs_of b) (by_number.stated_of b) top → IsSchema choice b.files top
  schema_of top typed = record {
    basis = shown_basis its b;
    of_files = refl;
    is_basis = is_basis_of;
    is =
        subst (λ (s : Schema). IsTyped s (by_tree.stated_of (shown_basis its b)) top) (same_leafrefs its b each)
        (subst (λ (stated : schema.Forest). IsTyped (by_number.leafrefs_of b) stated top) (same_stated its b each) typed);
  }

  pub references_of : (links : List (Option Link)) → AreLinks (by_number.leafrefs_of b) links → AreReferences choice b.files links
  references_of links are = record {
    basis = shown_basis its b;
    of_files = refl;
    is_basis = is_basis_of;
    is = subst (λ (s : Schema). AreLinks s links) (same_leafrefs its b each) are;
  }

  -- what is wrong with the nodes of its tree is wrong by the tree
  pub least_of : (top : schema.Forest) (typed : IsTyped (by_number.leafrefs_of b) (by_number.stated_of b) top) (o : Option Refusal)
      → IsLeast (BadNodes (by_number.leafrefs_of b) top) o → IsLeast (BadNodes (by_tree.leafrefs_of (schema_of top typed).basis) top) o
  unfolding schema_of
  least_of top typed o = subst (λ (s : Schema). IsLeast (BadNodes s top) o) (same_leafrefs its b each)

  -- each leafref has its link by the tree, whichever basis of the files this is
  pub linked_of : HasOneTruth → HaveOneTyping → OneNodes → IsLeast (BadFeatures b.files) None → (top : schema.Forest) (links : List (Option Link))
      → HasItsLink (by_number.leafrefs_of b) links → AreLinked choice b.files top links
  linked_of one_truth one_typing one_nodes fine top links has s =
      let same : s.basis ≡ shown_basis its b = one_basis one_truth one_typing one_nodes choice b.files fine s.basis (shown_basis its b) s.of_files refl s.is_basis is_basis_of in
      subst (λ (x : Basis). HasItsLink (by_tree.leafrefs_of x) links) (sym same)
      (subst (λ (x : Schema). HasItsLink x links) (same_leafrefs its b each) has)
