-- The nodes of a schema are of its modules.
use Rattle.std.proofs.Common.{◌≡◌, ◌≢◌, ℕ, zero, suc, ◌+◌, ◌<◌, Bool, true, false, List, [], ◌∷◌, ◌++◌, All, if◌then◌else◌, Option, Some, None, refl, sym, ap, ◌∙◌, subst, arith}
use Rattle.std.specs.List.{slice_get, slice_index_or}
use Rattle.std.proofs.lemmas.Option.{get_or_from_slice_get, same_Some, slice_get-get_or}
use Rattle.yv_text_statement.specs.Tree.{Tree as Root}
use Rattle.yv_text_statement.specs.Selection.{ModuleChoice}
use Rattle.yv_link_scopes.specs.Files.{Files, tree_name}
use Rattle.yv_expand.specs.Tree.{Item, Node, Nodes, count, item, item_list, none}
use Rattle.yv_text_statement.specs.declared.keyword.Keyword.TheVariants as word
use Rattle.yv_node_properties.specs.Statements.{argument_of, first_of}
use Rattle.yv_nodes.specs.Rows.{Module}
use Rattle.yv_nodes.specs.Tree.{Label}
use Rattle.yv_schema_tables.specs.NodeNumbers.{AreFormed, AreModules, HasNoColon, IsFormed, IsNamed}
use Rattle.yv_link_scopes.specs.RowList.{rows_of}
use Rattle.yv_expand_statements.specs.Kinds.{is_uses}
use Rattle.yv_expand_uses.specs.Kinds.{kind_of}
use Rattle.yv_expand_uses.specs.declared.spot.Spot.{Spot}
use Rattle.yv_node_statements.specs.Definitions.{refined_definition}
use Rattle.yv_expand_tree.specs.Final.{changes_of, spots_of}
use Rattle.yv_expand_statements.specs.FileOrder.{is_given}
use Rattle.yv_expand_tree.specs.FinalTree.{module_file_of_spot, no_item, origin_at}
use Rattle.yv_schema.proofs.Plain.{Fine, plain_refined}
use Rattle.yv_schema.specs.InnerBasis.{NumberedBasis, module_file_of, label_at, with_labels}
use Rattle.yv_schema.specs.Module.{given_from, module_name, modules_of, name_of_root}

-- of the implemented modules each has the file, the name and the place of a root
pub record IsOf (choice : ModuleChoice) (start : ℕ) (ts : Files) (m : Module) : Type 0 where
  pub number : ℕ
  pub root : Root
  pub at : slice_get ts number ≡ Some root
  pub given : is_given choice root ≡ true
  pub module_file : m.module_file ≡ start + number
  pub name : m.name ≡ tree_name root

later : (choice : ModuleChoice) (start : ℕ) (t : Root) (ts : Files) (m : Module) → IsOf choice (start + 1) ts m → IsOf choice start (t ∷ ts) m
later choice start t ts m is = record {
  number = suc is.number;
  root = is.root;
  at = is.at;
  given = is.given;
  module_file = is.module_file ∙ omega (arith);
  name = is.name;
}

abbrev entry : ℕ → Root → Module
entry start t = record { name = tree_name t; prefix = argument_of (first_of word.Prefix t.children); module_file = start }

module _ (choice : ModuleChoice) where
  module_of : (start : ℕ) (ts : Files) (k : ℕ) (m : Module) → slice_get (given_from choice start ts) k ≡ Some m → IsOf choice start ts m
  module_of start [] k m at = cc
  module_of start (t ∷ ts) k m at = by (is_given choice t) refl k at (λ i there. later choice start t ts m (module_of (start + 1) ts i m there))
    where
      by : (b : Bool) → is_given choice t ≡ b → (k : ℕ)
          → slice_get (if b then entry start t ∷ given_from choice (start + 1) ts else given_from choice (start + 1) ts) k ≡ Some m
          → ((i : ℕ) → slice_get (given_from choice (start + 1) ts) i ≡ Some m → IsOf choice start (t ∷ ts) m) → IsOf choice start (t ∷ ts) m
      by false e k at others = others k at
      by true e zero at others = record {
        number = 0;
        root = t;
        at = refl;
        given = e;
        module_file = sym (ap (λ (n : Module). n.module_file) (same_Some (entry start t) m at)) ∙ omega (arith);
        name = sym (ap (λ (n : Module). n.name) (same_Some (entry start t) m at));
      }
      by true e (suc k) at others = others k at

  -- they stand in the order of their files
  in_order : (start : ℕ) (ts : Files) (i k : ℕ) (m n : Module) → i < k → slice_get (given_from choice start ts) i ≡ Some m
      → slice_get (given_from choice start ts) k ≡ Some n → m.module_file < n.module_file
  in_order start [] i k m n less at at' = cc
  in_order start (t ∷ ts) i k m n less at at' =
      by (is_given choice t) i k less at at' (λ i k less at at'. in_order (start + 1) ts i k m n less at at') (λ k at'. module_of (start + 1) ts k n at')
    where
      by : (b : Bool) (i k : ℕ) → i < k
          → slice_get (if b then entry start t ∷ given_from choice (start + 1) ts else given_from choice (start + 1) ts) i ≡ Some m
          → slice_get (if b then entry start t ∷ given_from choice (start + 1) ts else given_from choice (start + 1) ts) k ≡ Some n
          → ((i k : ℕ) → i < k → slice_get (given_from choice (start + 1) ts) i ≡ Some m → slice_get (given_from choice (start + 1) ts) k ≡ Some n → m.module_file < n.module_file)
          → ((k : ℕ) → slice_get (given_from choice (start + 1) ts) k ≡ Some n → IsOf choice (start + 1) ts n) → m.module_file < n.module_file
      by false i k less at at' others behind = others i k less at at'
      by true zero zero less at at' others behind = absurd (omega (arith, less))
      by true (suc i) zero less at at' others behind = absurd (omega (arith, less))
      by true zero (suc k) less at at' others behind =
          let is = behind k at' in
          let own : start ≡ m.module_file = ap (λ (x : Module). x.module_file) (same_Some (entry start t) m at) in
          omega (arith, own, is.module_file)
      by true (suc i) (suc k) less at at' others behind = others i k (omega (arith, less)) at at'

  -- a module's own file is that of one of them
  named_by : (start : ℕ) (ts : Files) (k : ℕ) (t : Root) → slice_get ts k ≡ Some t → is_given choice t ≡ true → IsNamed (given_from choice start ts) (start + k) (tree_name t)
  named_by start [] k t at given = cc
  named_by start (u ∷ ts) zero t at given =
      rw (ap (is_given choice) (same_Some u t at) ∙ given) (record {
        place = 0;
        found = entry start u;
        at = refl;
        module_file_is = omega (arith);
        name_is = ap tree_name (same_Some u t at);
      })
  named_by start (u ∷ ts) (suc k) t at given = by (is_given choice u) (named_by (start + 1) ts k t at given)
    where
      by : (b : Bool) → IsNamed (given_from choice (start + 1) ts) (start + 1 + k) (tree_name t)
          → IsNamed (if b then entry start u ∷ given_from choice (start + 1) ts else given_from choice (start + 1) ts) (start + suc k) (tree_name t)
      by true is = record { place = suc is.place; found = is.found; at = is.at; module_file_is = is.module_file_is ∙ omega (arith); name_is = is.name_is }
      by false is = record { place = is.place; found = is.found; at = is.at; module_file_is = is.module_file_is ∙ omega (arith); name_is = is.name_is }

  -- what is known of the names of modules makes these fit for a schema
  module _ (files : Files) (plain : (n : ℕ) (t : Root) → slice_get files n ≡ Some t → is_given choice t ≡ true → HasNoColon (tree_name t))
      (differ : (m n : ℕ) (t u : Root) → m < n → slice_get files m ≡ Some t → slice_get files n ≡ Some u → is_given choice t ≡ true → is_given choice u ≡ true
      → tree_name t ≢ tree_name u) where
    plain_modules : (ms : List Module) → ((k : ℕ) (m : Module) → slice_get ms k ≡ Some m → IsOf choice 0 files m) → All (λ (m : Module). HasNoColon m.name) ms
    plain_modules ms of = λ k d less. let is = of k (slice_index_or ms k d) (slice_get-get_or ms k d less) in subst HasNoColon (sym is.name) (plain is.number is.root is.at is.given)

    pub are_modules : AreModules (modules_of choice files)
    are_modules = record {
      plain = plain_modules (modules_of choice files) (module_of 0 files);
      names = λ i k a b less at at' same.
          let x = module_of 0 files i a at in
          let y = module_of 0 files k b at' in
          let before = in_order 0 files i k a b less at at' in
          differ x.number y.number x.root y.root (omega (arith, before, x.module_file, y.module_file)) x.at y.at x.given y.given (sym x.name ∙ same ∙ y.name);
      module_files = λ i k a b less at at' same. let before = in_order 0 files i k a b less at at' in absurd (omega (arith, before, same));
    }

-- what is known of each item of nodes
abbrev AllNodes : (ℕ → Type 0) → Nodes → Type 0
AllNodes P none = Unit {0}
AllNodes P (item i below behind) = P i × AllNodes P below × AllNodes P behind

front : {A : Type 0} (xs ys : List A) (k : ℕ) (x : A) → slice_get xs k ≡ Some x → slice_get (xs ++ ys) k ≡ Some x
front [] ys k x at = cc
front (y ∷ xs) ys zero x at = at
front (y ∷ xs) ys (suc k) x at = front xs ys k x at

back : {A : Type 0} (xs ys : List A) (k : ℕ) (x : A) → slice_get ys k ≡ Some x → (i : ℕ) × (slice_get (xs ++ ys) i ≡ Some x)
back [] ys k x at = (k, at)
back (y ∷ xs) ys k x at = let there = back xs ys k x at in (suc there.0, there.1)

-- what holds of all that a list has holds of the tree
from_list : (P : ℕ → Type 0) (parent : Option ℕ) (first : ℕ) (t : Nodes) → ((k : ℕ) (x : Node) → slice_get (item_list parent first t) k ≡ Some x → P x.origin) → AllNodes P t
from_list P parent first none all = tt
from_list P parent first (item i below behind) all =
    let inner : List Node = item_list (Some first) (first + 1) below in
    let others : List Node = item_list parent (first + 1 + count below) behind in (
      all 0 (record { origin = i; parent = parent }) refl,
      from_list P (Some first) (first + 1) below (λ k x at. all (suc k) x (front inner others k x at)),
      from_list P parent (first + 1 + count below) behind (λ k x at. let there = back inner others k x at in all (suc there.0) x there.1),
    )

module _ (choice : ModuleChoice) (b : NumberedBasis) (fine : Fine b.files)
    (module_files : (i : ℕ) (s : Spot) → slice_get (spots_of b.files b.final) i ≡ Some s → (module_file : Root) × (slice_get b.files s.module_file ≡ Some module_file) × (is_given choice module_file ≡ true)) where
  -- an item that is left is no uses, and was known
  abbrev Known : ℕ → Type 0
  Known i = (s : Spot) × (x : Item) × (slice_get (spots_of b.files b.final) i ≡ Some s) × (slice_get b.final.items i ≡ Some x)
      × (is_uses (kind_of (rows_of b.files) x.origin) ≡ false)

  one_formed : (above : List Label) (i : ℕ) → Known i → IsFormed (modules_of choice b.files) above (label_at b above i)
  one_formed above i (s, x, spot, at, kind) =
      let module_file = module_files i s spot in
      let own : module_file_of b i ≡ s.module_file = ap module_file_of_spot spot in
      let name : module_name b.files (module_file_of b i) ≡ tree_name module_file.0 = ap (module_name b.files) own ∙ ap name_of_root module_file.1 in
      let origin : origin_at b.final.items i ≡ x.origin = ap (λ (y : Item). y.origin) (get_or_from_slice_get b.final.items i x no_item at) in
      let named : IsNamed (modules_of choice b.files) (0 + s.module_file) (tree_name module_file.0) = named_by choice 0 b.files s.module_file module_file.0 module_file.1 module_file.2 in
      record {
        of_module = record {
          place = named.place;
          found = named.found;
          at = named.at;
          module_file_is = named.module_file_is ∙ omega (arith) ∙ sym own;
          name_is = named.name_is ∙ sym name;
        };
        plain = subst (λ o. HasNoColon (refined_definition b.typing b.files o (slice_index_or (changes_of b.files b.final) i [])).name) (sym origin)
            (plain_refined b.typing b.files fine x.origin (slice_index_or (changes_of b.files b.final) i []) kind);
        member = refl;
      }

  all_formed : (above : List Label) (t : Nodes) → AllNodes Known t → AreFormed (modules_of choice b.files) above (with_labels b above t)
  all_formed above none all = tt
  all_formed above (item i below behind) all =
      (one_formed above i all.0, all_formed (label_at b above i ∷ above) below all.1, all_formed above behind all.2)

  -- the schema tree is formed of the modules
  pub are_formed : ((k : ℕ) (x : Node) → slice_get (item_list None 0 b.nodes) k ≡ Some x → Known x.origin) → AreFormed (modules_of choice b.files) [] (with_labels b [] b.nodes)
  are_formed known = all_formed [] b.nodes (from_list Known None 0 b.nodes known)
