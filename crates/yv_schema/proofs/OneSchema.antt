-- Files have one basis by the tree, and so one schema, one list of augments and one of links.
use Rattle.std.proofs.Common.{◌≡◌, ℕ, List, refl, sym, ap, ◌∙◌, subst, Bool, Option, None}
use Rattle.yv_text_statement.specs.Order.{IsLeast}
use Rattle.yv_text_statement.specs.Selection.{ModuleChoice}
use Rattle.yv_link_scopes.specs.Files.{Files}
use Rattle.yv_link_features.specs.On.{Holds}
use Rattle.yv_link_features.specs.Refusals.{BadFeatures}
use Rattle.yv_expand_statements.specs.Truth.{IsTruth, Truth}
use Rattle.yv_expand_definition.specs.Nodes as expanded
use Rattle.yv_expand_definition.specs.Remains.{AreNodes}
use Rattle.yv_node_statements.specs.Kinds.{AreTyped, TypeMeanings}
use Rattle.yv_node_leafrefs.specs.Links.{AreLinks}
use Rattle.yv_node_leafrefs.specs.Resolution.{IsTyped}
use Rattle.yv_node_leafrefs.specs.Schema.{AreAlike, Schema}
use Rattle.yv_nodes.specs.Link.{Link}
use Rattle.yv_nodes.specs.Rows.{Note}
use Rattle.yv_nodes.specs.Tree.{Forest}
use Rattle.yv_schema.specs.Notes.{AreNotes, notes_of}
use Rattle.yv_schema.specs.Schema.{AreReferences, Basis, IsBasis, IsSchema, leafrefs_of, stated_of}
use Rattle.yv_schema.proofs.ShownItems.{OneNodes}

-- an expression in files has one truth, where nothing is wrong with their features
abbrev pub HasOneTruth : Type 0
HasOneTruth = (files : Files) (choice : ModuleChoice) (file : ℕ) (text : List ℕ) (a b : Bool) → IsLeast (BadFeatures files) None
    → Holds files choice file text a → Holds files choice file text b → a ≡ b

-- the types of files are told in one way
abbrev pub HaveOneTyping : Type 0
HaveOneTyping = (files : Files) (choice : ModuleChoice) (truth : Truth) (a b : TypeMeanings) → AreTyped files choice truth a → AreTyped files choice truth b → a ≡ b

-- a schema comes to one tree, and its leafrefs lead one way
abbrev pub IsTypedOnce : Type 0
IsTypedOnce = (s t : Schema) (stated a b : Forest) → AreAlike s t → IsTyped s stated a → IsTyped t stated b → a ≡ b

abbrev pub HasOneList : Type 0
HasOneList = (s t : Schema) (a b : List (Option Link)) → AreAlike s t → AreLinks s a → AreLinks t b → a ≡ b

-- truths that agree everywhere are one
pub same_truth : (t u : Truth) → ((file : ℕ) (text : List ℕ) → t file text ≡ u file text) → t ≡ u
same_truth t u h = λ i file text. h file text i

abbrev basis_of : Files → Truth → TypeMeanings → expanded.Forest → Basis
basis_of files truth typing nodes = record { files = files; truth = truth; typing = typing; nodes = nodes }

module _ (one_truth : HasOneTruth) (one_typing : HaveOneTyping) (one_nodes : OneNodes) (choice : ModuleChoice) (files : Files)
    (fine : IsLeast (BadFeatures files) None) where
  -- whichever truth, types and nodes these are
  pub one_basis : (p q : Basis) → p.files ≡ files → q.files ≡ files → IsBasis choice p → IsBasis choice q → p ≡ q
  one_basis p q p_files q_files is_p is_q =
      let p_truth : IsTruth files choice p.truth = subst (λ (fs : Files). IsTruth fs choice p.truth) p_files is_p.truth in
      let q_truth : IsTruth files choice q.truth = subst (λ (fs : Files). IsTruth fs choice q.truth) q_files is_q.truth in
      let truth : p.truth ≡ q.truth =
      same_truth p.truth q.truth
      (λ n text. one_truth files choice n text (p.truth n text) (q.truth n text) fine (p_truth n text) (q_truth n text)) in
      let p_typing : AreTyped files choice q.truth p.typing =
      subst (λ (x : Truth). AreTyped files choice x p.typing) truth (subst (λ (fs : Files). AreTyped fs choice p.truth p.typing) p_files is_p.typing) in
      let q_typing : AreTyped files choice q.truth q.typing = subst (λ (fs : Files). AreTyped fs choice q.truth q.typing) q_files is_q.typing in
      let typing : p.typing ≡ q.typing = one_typing files choice q.truth p.typing q.typing p_typing q_typing in
      let p_nodes : AreNodes choice files p.nodes = subst (λ (fs : Files). AreNodes choice fs p.nodes) p_files is_p.nodes in
      let q_nodes : AreNodes choice files q.nodes = subst (λ (fs : Files). AreNodes choice fs q.nodes) q_files is_q.nodes in
      let nodes : p.nodes ≡ q.nodes = one_nodes choice files p.nodes q.nodes p_nodes q_nodes in
      ap (λ (fs : Files). basis_of fs p.truth p.typing p.nodes) (p_files ∙ sym q_files)
      ∙ ap (λ (x : Truth). basis_of q.files x p.typing p.nodes) truth
      ∙ ap (λ (x : TypeMeanings). basis_of q.files q.truth x p.nodes) typing
      ∙ ap (λ (x : expanded.Forest). basis_of q.files q.truth q.typing x) nodes

  pub one_schema : IsTypedOnce → (a b : Forest) → IsSchema choice files a → IsSchema choice files b → a ≡ b
  one_schema once a b p q =
      let same : p.basis ≡ q.basis = one_basis p.basis q.basis p.of_files q.of_files p.is_basis q.is_basis in
      let is : IsTyped (leafrefs_of q.basis) (stated_of q.basis) a = subst (λ (x : Basis). IsTyped (leafrefs_of x) (stated_of x) a) same p.is in
      once (leafrefs_of q.basis) (leafrefs_of q.basis) (stated_of q.basis) a b (record { rows = refl; says = λ n. refl }) is q.is

  pub one_list : HasOneList → (a b : List (Option Link)) → AreReferences choice files a → AreReferences choice files b → a ≡ b
  one_list one a b p q =
      let same : p.basis ≡ q.basis = one_basis p.basis q.basis p.of_files q.of_files p.is_basis q.is_basis in
      let are : AreLinks (leafrefs_of q.basis) a = subst (λ (x : Basis). AreLinks (leafrefs_of x) a) same p.is in
      one (leafrefs_of q.basis) (leafrefs_of q.basis) a b (record { rows = refl; says = λ n. refl }) are q.is

  pub one_notes : (a b : List Note) → AreNotes choice files a → AreNotes choice files b → a ≡ b
  one_notes a b p q =
      p.is ∙ ap (notes_of choice) (one_basis p.basis q.basis p.of_files q.of_files p.is_basis q.is_basis) ∙ sym q.is
