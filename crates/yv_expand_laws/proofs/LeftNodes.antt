-- What is left by number shows the nodes that the files leave.
use Rattle.std.proofs.Common.{inl, inr, ◌⊎◌, ◌≡◌, ◌↔◌, ℕ, zero, suc, ◌&&◌, ◌||◌, not, Bool, true, false, IsTrue, if◌then◌else◌, List, [], ◌∷◌, ◌++◌, length, map, refl, sym, ◌∙◌, ap, subst, arith, Option, Some, None}
use Rattle.std.specs.List.{Contains, list_all, slice_get}
use Rattle.std.specs.Option.{option_map}
use Rattle.std.proofs.lemmas.Bool.{false≢true}
use Rattle.std.proofs.lemmas.List.Elements.{Contains-append_cases}
use Rattle.std.proofs.lemmas.List.Folds.{list_all-append}
use Rattle.std.proofs.lemmas.Option.{slice_get-map}
use Rattle.yv_text_statement.specs.Order.{IsLeast}
use Rattle.yv_text_statement.specs.Selection.{ModuleChoice}
use Rattle.yv_link_scopes.specs.Files.{Files, brief_of}
use Rattle.yv_link_scopes.specs.RowList.{rows_of}
use Rattle.yv_link_scopes.specs.Rows.{Row, name_in}
use Rattle.yv_link_features.specs.Refusals.{BadFeatures}
use Rattle.yv_link_features.specs.On.{AllHoldBy, Holds, is_if_feature_of}
use Rattle.yv_expand_statements.specs.Origin.{number_of}
use Rattle.yv_expand_rounds.specs.Tree.{Tree, item, none as no_item}
use Rattle.yv_expand_augments.specs.Remains.{is_left, is_some_uses}
use Rattle.yv_base_graph.specs.Marks.{is_marked}
use Rattle.yv_expand_augments.specs.Remains as by_number
use Rattle.yv_expand_uses.specs.On.{AreOn}
use Rattle.yv_expand_augments.specs.RefineMeanings.{refined_all}
use Rattle.yv_expand_uses.specs.Spots.{Whole, labels_of, layout_of, whole}
use Rattle.yv_expand_uses.specs.declared.spot.Spot.{Spot}
use Rattle.yv_expand_changes.specs.Changes.{all_changes}
use Rattle.yv_expand_statements.specs.Truth.{Truth}
use Rattle.yv_expand_changes.specs.IfFeatures.{item_marks, statement_marks}
use Rattle.yv_expand_statements.specs.FileOrder.{marks_of, order_of}
use Rattle.yv_expand_tree.specs.Remains.{nodes_of}
use Rattle.yv_expand_definition.specs.Remains.{remains}
use Rattle.yv_expand_definition.specs.Nodes.{Node, if_feature_statements, node}
use Rattle.yv_expand_definition.proofs.GivenNodeUniqueness.{RefersToOne}
use Rattle.yv_expand_definition.proofs.LeftNodeUniqueness.{same_answer}
use Rattle.yv_expand_laws.specs.Conditions.{AreAsked, AreMarks, IsAsked, asked_at, near_node}
use Rattle.yv_expand_laws.specs.Files.{expansion_of}
use Rattle.yv_expand_laws.specs.Schema.{LeftShows, shown_nodes}
use Rattle.yv_expand_laws.specs.Shows.{Items}
use Rattle.yv_expand_laws.specs.ItemProperties.{is_some_node}
use Rattle.yv_expand_laws.specs.Trees.{forest_shown}
use Rattle.yv_expand_laws.proofs.OuterConditions.{files_ask}
use Rattle.yv_expand_laws.proofs.BlockStatements.{left_is, right_is}
use Rattle.yv_expand_laws.proofs.MarkDescent.{marks_ask}
use Rattle.yv_expand_laws.proofs.FinalTree.{EachOnce, final_tree_shows}
use Rattle.yv_expand_laws.proofs.FoundItems.{not_none, there_first, there_later}
use Rattle.yv_expand_laws.proofs.FrameSequences.{nothing_stands}
use Rattle.yv_expand_laws.proofs.KeywordKinds.{node_is}
use Rattle.yv_expand_laws.proofs.BlockNodes.{first_or}
use Rattle.yv_expand_laws.proofs.StatementMarks.{all_at, all_from, held, holds_by, marks_are_conditions}
use Rattle.yv_expand_laws.proofs.LabelsAndPaths.{laid_many}

-- where all of a list pass each does
each_passes : (p : ℕ → Bool) (xs : List ℕ) (k : ℕ) → list_all p xs ≡ true → Contains xs k → p k ≡ true
each_passes p [] k all h = absurd (nothing_stands k h)
each_passes p (x ∷ xs) k all h = elim (first_or x xs k h) [
  | inl first ↦ ap p (sym first) ∙ left_is (p x) (list_all p xs) all
  | inr rest ↦ each_passes p xs k (right_is (p x) (list_all p xs) all) rest
]

all_pass : (p : ℕ → Bool) (xs : List ℕ) → ((k : ℕ) → Contains xs k → p k ≡ true) → list_all p xs ≡ true
all_pass p [] each = refl
all_pass p (x ∷ xs) each =
    ap (λ (b : Bool). b && list_all p xs) (each x (there_first x xs)) ∙ all_pass p xs (λ k h. each k (there_later x k xs h))

pass_same : (p q : ℕ → Bool) (xs : List ℕ) → ((k : ℕ) → Contains xs k → p k ≡ q k) → list_all p xs ≡ list_all q xs
pass_same p q [] each = refl
pass_same p q (x ∷ xs) each =
    ap (λ (b : Bool). b && list_all p xs) (each x (there_first x xs)) ∙ ap (λ (b : Bool). q x && b) (pass_same p q xs (λ k h. each k (there_later x k xs h)))

not_true : (b : Bool) → (b ≡ true → ⊥) → b ≡ false
not_true true h = absurd (h refl)
not_true false h = refl

module _ (rows : List Row) (its : Items) (S on : ℕ → Bool) (spots : List Spot) (marks : List Bool) (same : (k : ℕ) → IsAsked rows k → on k ≡ S k)
    (ask : (i : ℕ) → its.is_node i ≡ true → (list_all S (if_feature_statements (its.node_of i)) ≡ true → is_marked marks i ≡ true)
    × (is_marked marks i ≡ true → list_all S (asked_at rows (its.node_of i)) ≡ true))
    (no_node : (i : ℕ) → its.is_node i ≡ false → is_left spots marks i ≡ false) (a_node : (i : ℕ) → its.is_node i ≡ true → is_left spots marks i ≡ is_marked marks i) where
  abbrev kept : Tree → Tree
  kept t = by_number.remains (is_left spots marks) t

  -- where a node has its mark and all above it hold, all its conditions do
  all_held : (above : List ℕ) (g : Node) → ((k : ℕ) → Contains g.under k → Contains (near_node rows g) k ⊎ Contains above k)
      → ((k : ℕ) → Contains above k → S k ≡ true)
      → list_all S (asked_at rows g) ≡ true → list_all S (if_feature_statements g) ≡ true
  all_held above g reaches up here =
      let own = left_is (S (number_of g.origin)) (list_all S (near_node rows g ++ g.refines)) here in
      let split = sym (list_all-append S (near_node rows g) g.refines) ∙ right_is (S (number_of g.origin)) (list_all S (near_node rows g ++ g.refines)) here in
      let round : list_all S g.under ≡ true = all_pass S g.under (λ k h. elim (reaches k h) [
        | inl a ↦ each_passes S (near_node rows g) k (left_is (list_all S (near_node rows g)) (list_all S g.refines) split) a
        | inr b ↦ up k b
      ]) in
      ap (λ (b : Bool). b && list_all S (g.under ++ g.refines)) own
      ∙ (list_all-append S g.under g.refines ∙ (ap (λ (b : Bool). b && list_all S g.refines) round
      ∙ right_is (list_all S (near_node rows g)) (list_all S g.refines) split))

  left_shows : (t : Tree) (above : List ℕ) → AreAsked rows above (forest_shown its t) → ((k : ℕ) → Contains above k → S k ≡ true)
      → shown_nodes its (nodes_of (kept t)) ≡ remains on (forest_shown its t)
  left_shows no_item above A up = refl
  left_shows (item i below behind) above A up = by (its.is_node i) refl A (left_shows below) (left_shows behind)
    where
      g : Node
      g = its.node_of i

      choose : Bool → Tree
      choose b = if b then item i (kept below) (kept behind) else kept behind

      by : (b : Bool) → its.is_node i ≡ b
          → AreAsked rows above (if b then node (its.node_of i) (forest_shown its below) (forest_shown its behind) else forest_shown its behind)
          → ((above : List ℕ) → AreAsked rows above (forest_shown its below) → ((k : ℕ) → Contains above k → S k ≡ true) → shown_nodes its (nodes_of (kept below)) ≡ remains on (forest_shown its below))
          → ((above : List ℕ) → AreAsked rows above (forest_shown its behind) → ((k : ℕ) → Contains above k → S k ≡ true) → shown_nodes its (nodes_of (kept behind)) ≡ remains on (forest_shown its behind))
          → shown_nodes its (nodes_of (choose (is_left spots marks i))) ≡ remains on (if b then node (its.node_of i) (forest_shown its below) (forest_shown its behind) else forest_shown its behind)
      by false is A inner outer = ap (λ b. shown_nodes its (nodes_of (choose b))) (no_node i is) ∙ outer above A up
      by true is A inner outer = mark (is_marked marks i) refl
        where
          alike : list_all on (if_feature_statements (its.node_of i)) ≡ list_all S (if_feature_statements (its.node_of i))
          alike = pass_same on S (if_feature_statements (its.node_of i)) (λ k h. same k (A.1.0 k h))

          mark : (b : Bool) → is_marked marks i ≡ b
              → shown_nodes its (nodes_of (choose (is_left spots marks i))) ≡ remains on (node (its.node_of i) (forest_shown its below) (forest_shown its behind))
          mark false off =
              let no : list_all on (if_feature_statements (its.node_of i)) ≡ false = alike ∙ not_true (list_all S (if_feature_statements (its.node_of i))) (λ all. false≢true (sym off ∙ (ask i is).0 all)) in
              ap (λ b. shown_nodes its (nodes_of (choose b))) (a_node i is ∙ off)
              ∙ (outer above A.1.1.1 up
              ∙ sym (ap (λ (b : Bool). if b then node (its.node_of i) (remains on (forest_shown its below)) (remains on (forest_shown its behind)) else remains on (forest_shown its behind)) no))
          mark true here =
              let all = all_held above (its.node_of i) A.0 up ((ask i is).1 here) in
              ap (λ b. shown_nodes its (nodes_of (choose b))) (a_node i is ∙ here)
              ∙ (ap (λ f. node (its.node_of i) f (shown_nodes its (nodes_of (kept behind)))) (inner (above ++ if_feature_statements (its.node_of i)) A.1.1.0 (λ k h. elim (Contains-append_cases above (if_feature_statements (its.node_of i)) k h) [
                | inl a ↦ up k a
                | inr c ↦ each_passes S (if_feature_statements (its.node_of i)) k all c
              ]))
              ∙ (ap (λ f. node (its.node_of i) (remains on (forest_shown its below)) f) (outer above A.1.1.1 up)
              ∙ sym (ap (λ (b : Bool). if b then node (its.node_of i) (remains on (forest_shown its below)) (remains on (forest_shown its behind)) else remains on (forest_shown its behind)) (alike ∙ all))))

-- an expression has one truth, where nothing is refused of the features
abbrev pub OneTruth : Type 0
OneTruth =
    (files : Files) (choice : ModuleChoice) (file : ℕ) (text : List ℕ) (a b : Bool) → IsLeast (BadFeatures files) None → Holds files choice file text a → Holds files choice file text b → a ≡ b

module _ (rows : List Row) (truth : Truth) where
  -- the conditions of a numbered statement hold
  abbrev on : ℕ → Bool
  on k = list_all (λ q. not (is_if_feature_of k q) || truth q.file (name_in q)) rows

  on_is : (k : ℕ) → IsTrue (on k) ↔ AllHoldBy (λ file text. truth file text ≡ true) rows k
  on_is k = (
    (λ all i q at condition. held (is_if_feature_of k q) (truth q.file (name_in q)) (all_at (λ q. not (is_if_feature_of k q) || truth q.file (name_in q)) rows i q all at) condition),
    (λ each. all_from (λ q. not (is_if_feature_of k q) || truth q.file (name_in q)) rows (λ i q at. holds_by (is_if_feature_of k q) (truth q.file (name_in q)) (each i q at))),
  )

no_mark : (marks : List Bool) (i : ℕ) → slice_get marks i ≡ None → is_marked marks i ≡ false
no_mark [] i none = refl
no_mark (m ∷ ms) zero none = absurd (not_none (sym none))
no_mark (m ∷ ms) (suc i) none = no_mark ms i none

module _ (spots : List Spot) (marks : List Bool) (many : length marks ≡ length spots) where
  abbrev node_at : ℕ → Bool
  node_at i = is_some_node (slice_get (labels_of spots) i)

  at_label : (i : ℕ) (o : Option Spot) → slice_get spots i ≡ o → node_at i ≡ is_some_node (option_map (λ (s : Spot). s.label) o)
  at_label i o at = ap is_some_node (slice_get-map (λ (s : Spot). s.label) spots i ∙ ap (option_map (λ (s : Spot). s.label)) at)

  none_there : {A B : Type 0} (xs : List A) (ys : List B) (i : ℕ) → length ys ≡ length xs → slice_get xs i ≡ None → slice_get ys i ≡ None
  none_there xs [] i e none = refl
  none_there [] (y ∷ ys) i e none = absurd (omega (arith, e))
  none_there (x ∷ xs) (y ∷ ys) zero e none = absurd (not_none (sym none))
  none_there (x ∷ xs) (y ∷ ys) (suc i) e none = none_there xs ys i (omega (arith, e)) none

  and_false : (b : Bool) → (b && false) ≡ false
  and_false true = refl
  and_false false = refl

  and_true : (b : Bool) → (b && true) ≡ b
  and_true true = refl
  and_true false = refl

  no_node_left : (i : ℕ) → node_at i ≡ false → is_left spots marks i ≡ false
  no_node_left i isnt = by (slice_get spots i) refl
    where
      by : (o : Option Spot) → slice_get spots i ≡ o → is_left spots marks i ≡ false
      by None at = ap (λ (b : Bool). b && not (is_some_uses (slice_get spots i))) (no_mark marks i (none_there spots marks i many at))
      by (Some s) at =
          ap (λ o. is_marked marks i && not (is_some_uses o)) at
          ∙ (ap (λ (b : Bool). is_marked marks i && b) (sym (node_is s.label.kind) ∙ (sym (at_label i (Some s) at) ∙ isnt)) ∙ and_false (is_marked marks i))

  node_left : (i : ℕ) → node_at i ≡ true → is_left spots marks i ≡ is_marked marks i
  node_left i is = by (slice_get spots i) refl
    where
      by : (o : Option Spot) → slice_get spots i ≡ o → is_left spots marks i ≡ is_marked marks i
      by None at = absurd (false≢true (sym (at_label i None at) ∙ is))
      by (Some s) at =
          ap (λ o. is_marked marks i && not (is_some_uses o)) at
          ∙ (ap (λ (b : Bool). is_marked marks i && b) (sym (node_is s.label.kind) ∙ (sym (at_label i (Some s) at) ∙ is)) ∙ and_true (is_marked marks i))

pub left_is_shown : (files : Files) → RefersToOne files → EachOnce → OneTruth → LeftShows files
left_is_shown files one_meant once one_truth choice truth f its m nodes sound roots fine told final tells E kept_is =
    let modules : List Bool = marks_of choice files in
    let rows : List Row = rows_of files in
    let statements : List Bool = statement_marks truth files in
    let w : Whole = expansion_of files modules f.items in
    let spots : List Spot = (layout_of w f.items).spots in
    let marks : AreMarks files modules f.items statements kept_is.marks =
    subst (λ a. AreOn rows (layout_of (whole (map brief_of files) rows a (length f.items)) f.items).spots f.items (is_marked statements)
    (is_marked (item_marks statements (layout_of (whole (map brief_of files) rows a (length f.items)) f.items).spots
    (all_changes files (layout_of (whole (map brief_of files) rows a (length f.items)) f.items).spots (refined_all (whole (map brief_of files) rows a (length f.items)) f.items)))) kept_is.marks)
    final.augments kept_is.on in
    let are : nodes ≡ nodes_of (by_number.remains (is_left spots kept_is.marks) f.tree) =
    subst (λ a. nodes ≡ nodes_of (by_number.remains (is_left (layout_of (whole (map brief_of files) rows a (length f.items)) f.items).spots kept_is.marks) f.tree)) final.augments kept_is.are in
    let shows : m.nodes ≡ forest_shown its f.tree = final_tree_shows files one_meant once choice f its m sound roots final tells E in
    let asked : AreAsked rows [] (forest_shown its f.tree) = subst (AreAsked rows []) shows (files_ask files modules (order_of choice files) m E) in
    let many : length kept_is.marks ≡ length spots = marks.each ∙ sym (laid_many w f.items) in
    record {
      made = m;
      expand = E;
      on = on rows truth;
      are_on = λ k. (
        (λ h i q at condition. subst (λ b. Holds files choice q.file (name_in q) b) ((on_is rows truth k).0 h i q at condition) (told q.file (name_in q))),
        (λ each. (on_is rows truth k).1 (λ i q at condition. one_truth files choice q.file (name_in q) (truth q.file (name_in q)) true fine (told q.file (name_in q)) (each i q at condition))),
      );
      are =
          ap (shown_nodes its) are
          ∙ (left_shows rows its (is_marked statements) (on rows truth) spots kept_is.marks
          (λ k h. same_answer (on rows truth k) (is_marked statements k) (AllHoldBy (λ file text. truth file text ≡ true) rows k) (on_is rows truth k) (marks_are_conditions files truth k h))
          (λ i is. marks_ask files modules (order_of choice files) final.own f.items its statements kept_is.marks i final.expanded tells marks is)
          (λ i is. no_node_left spots kept_is.marks many i (sym (tells.told.node i) ∙ is))
          (λ i is. node_left spots kept_is.marks many i (sym (tells.told.node i) ∙ is))
          f.tree [] asked (λ k h. absurd (nothing_stands k h))
          ∙ ap (remains (on rows truth)) (sym shows));
    }
