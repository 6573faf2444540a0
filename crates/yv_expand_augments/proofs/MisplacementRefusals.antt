-- The refusals of augments that give items to nodes that can't have them.
use Rattle.std.proofs.Common.{◌≡◌, ◌≢◌, ℕ, ◌+◌, ◌==◌, ◌&&◌, not, Bool, true, false, List, length, refl, sym, ◌∙◌, ap, subst, Option, Some, None}
use Rattle.std.specs.List.{slice_get}
use Rattle.std.proofs.lemmas.Bool.{and_parts, eq-eqb, eqb-true}
use Rattle.std.proofs.lemmas.Option.{same_Some}
use Rattle.yv_text_statement.specs.Order.{Among, IsLeast, IsLesser}
use Rattle.yv_text_statement.specs.declared.refusal.Code.TheVariants as code
use Rattle.yv_text_statement.specs.declared.refusal.Refusal.{Refusal}
use Rattle.yv_text_statement.proofs.Least.{least_more, least_same}
use Rattle.yv_link_scopes.specs.Rows.{Row}
use Rattle.yv_expand_rounds.specs.declared.row.ItemRow.{ItemRow}
use Rattle.yv_expand_augments.specs.Refusals.{RefusesIf}
use Rattle.yv_expand_augments.specs.MandatoryNodes.{IsMandatoryAdded, source_of}
use Rattle.yv_expand_augments.specs.Placement.{IsMisplaced, augment_around}
use Rattle.yv_expand_statements.specs.Kinds.{takes}
use Rattle.yv_expand_uses.specs.Spots.{spot_at}
use Rattle.yv_expand_augments.specs.InnerRefusals.{refusal_of_row}
use Rattle.yv_expand_augments.specs.InnerMandatoryNodes.{mandatory_refusal, is_mandatory_added}
use Rattle.yv_expand_augments.specs.InnerPlacement.{placement_refusal, refusal_of_augment}
use Rattle.yv_expand_uses.specs.declared.spot.Spot.{Spot}
use Rattle.yv_expand_augments.proofs.StatementRefusals.{least_at, not_false}

-- an augment is refused for an item and the node above it
abbrev pub IsWrong : List Row → List Spot → (Spot → Option ℕ) → (Spot → Spot → Type 0) → (parent : Option ℕ) → (number : ℕ) → Refusal → Type 0
IsWrong rows spots giver P parent number f =
    (s : Spot) × (node : Spot) × (augment : ℕ) × (slice_get spots number ≡ Some s) × (spot_at spots parent ≡ Some node) × (giver s ≡ Some augment)
    × RefusesIf rows code.BadAugment (P s node) augment f

module _ (rows : List Row) (spots : List Spot) (giver : Spot → Option ℕ) (P : Spot → Spot → Type 0) (parent : Option ℕ) (number : ℕ) where
  no_item : slice_get spots number ≡ None → IsLeast (IsWrong rows spots giver P parent number) None
  no_item at = λ f h. (let none : None ≡ Some h.0 = sym at ∙ h.3 in cc)

  no_node : spot_at spots parent ≡ None → IsLeast (IsWrong rows spots giver P parent number) None
  no_node above = λ f h. (let none : None ≡ Some h.1 = sym above ∙ h.4 in cc)

  least_wrong : (s node : Spot) (bad : Bool) (o : Option ℕ) → (bad ≡ true → P s node) → (P s node → bad ≡ true) → slice_get spots number ≡ Some s
      → spot_at spots parent ≡ Some node → giver s ≡ o → IsLeast (IsWrong rows spots giver P parent number) (refusal_of_augment rows bad o)
  least_wrong s node bad None so back at above is = λ f h. (
      let same : h.0 ≡ s = same_Some h.0 s (sym h.3 ∙ at) in
      let none : None ≡ Some h.2 = sym is ∙ ap giver (sym same) ∙ h.5 in cc)
  least_wrong s node bad (Some a) so back at above is =
      least_same (RefusesIf rows code.BadAugment (P s node) a) (IsWrong rows spots giver P parent number) (refusal_of_row code.BadAugment bad (slice_get rows a))
      (λ f h. (s, node, a, at, above, is, h))
      (λ f h. (
      let same : h.0 ≡ s = same_Some h.0 s (sym h.3 ∙ at) in
      let below : h.1 ≡ node = same_Some h.1 node (sym h.4 ∙ above) in
      let given : h.2 ≡ a = same_Some h.2 a (sym h.5 ∙ ap giver same ∙ is) in
      subst (λ (n : ℕ). RefusesIf rows code.BadAugment (P s node) n f) given
      (subst (λ (t : Spot). RefusesIf rows code.BadAugment (P s t) h.2 f) below
      (subst (λ (y : Spot). RefusesIf rows code.BadAugment (P y h.1) h.2 f) same h.6))))
      (least_at rows code.BadAugment (P s node) bad a so back)

module _ (rows : List Row) (spots : List Spot) where
  misplaced_below : (x : ItemRow) (o p : Option Spot) → slice_get spots x.number ≡ o → spot_at spots x.parent ≡ p
      → IsLeast (IsMisplaced rows spots x) (placement_refusal rows o p)
  misplaced_below x None p at above = no_item rows spots (λ s. augment_around rows (slice_get rows s.statement)) (λ s node. takes node.label.kind s.label.kind ≡ false) x.parent x.number at
  misplaced_below x (Some s) None at above = no_node rows spots (λ s. augment_around rows (slice_get rows s.statement)) (λ s node. takes node.label.kind s.label.kind ≡ false) x.parent x.number above
  misplaced_below x (Some s) (Some node) at above =
      least_wrong rows spots (λ s. augment_around rows (slice_get rows s.statement)) (λ s node. takes node.label.kind s.label.kind ≡ false) x.parent x.number s node
      (not (takes node.label.kind s.label.kind)) (augment_around rows (slice_get rows s.statement)) (not_false (takes node.label.kind s.label.kind)) (λ h. ap not h) at above refl

  -- one more item of the final tree
  pub misplaced_more : (tree : List ItemRow) (i : ℕ) (x : ItemRow) (best one next : Option Refusal) → slice_get tree i ≡ Some x
      → one ≡ placement_refusal rows (slice_get spots x.number) (spot_at spots x.parent) → IsLesser best one next
      → IsLeast (Among tree (λ place y. IsMisplaced rows spots y) i) best → IsLeast (Among tree (λ place y. IsMisplaced rows spots y) (i + 1)) next
  misplaced_more tree i x best one next at is lesser before =
      least_more tree (λ place y. IsMisplaced rows spots y) i x best one next at lesser before
      (subst (IsLeast (IsMisplaced rows spots x)) (sym is) (misplaced_below x (slice_get spots x.number) (spot_at spots x.parent) refl refl))

not_equal : (m n : ℕ) → not (m == n) ≡ true → m ≢ n
not_equal m n h = λ same. (let eq : m == n ≡ true = eq-eqb m n same in let bad : not true ≡ true = sym (ap not eq) ∙ h in let none : false ≡ true = bad in cc)

is_unequal : (m n : ℕ) → m ≢ n → not (m == n) ≡ true
is_unequal m n h = by (m == n) refl
  where
    by : (b : Bool) → m == n ≡ b → not b ≡ true
    by true eq = absurd (h (eqb-true m n eq))
    by false eq = refl

module _ (rows : List Row) (spots : List Spot) (augments : List ℕ) (required : Bool) where
  imposed_below : (parent : Option ℕ) (number : ℕ) (o p : Option Spot) → slice_get spots number ≡ o → spot_at spots parent ≡ p
      → IsLeast (IsMandatoryAdded rows spots augments parent number required) (mandatory_refusal rows (length spots) augments required o p)
  imposed_below parent number None p at above =
      no_item rows spots (λ s. source_of (length spots) augments (Some s)) (λ s node. (s.module_file ≢ node.module_file) × (required ≡ true)) parent number at
  imposed_below parent number (Some s) None at above =
      no_node rows spots (λ s. source_of (length spots) augments (Some s)) (λ s node. (s.module_file ≢ node.module_file) × (required ≡ true)) parent number above
  imposed_below parent number (Some s) (Some node) at above =
      least_wrong rows spots (λ s. source_of (length spots) augments (Some s)) (λ s node. (s.module_file ≢ node.module_file) × (required ≡ true)) parent number s node
      (is_mandatory_added s node required) (source_of (length spots) augments (Some s))
      (λ h. (let parts = and_parts (not (s.module_file == node.module_file)) required h in (not_equal s.module_file node.module_file parts.0, parts.1)))
      (λ h. ap (λ (b : Bool). b && required) (is_unequal s.module_file node.module_file h.0) ∙ h.1) at above refl

  -- the refusal for one item
  pub imposed_at : (parent : Option ℕ) (number : ℕ) (one : Option Refusal)
      → one ≡ mandatory_refusal rows (length spots) augments required (slice_get spots number) (spot_at spots parent) → IsLeast (IsMandatoryAdded rows spots augments parent number required) one
  imposed_at parent number one is =
      subst (IsLeast (IsMandatoryAdded rows spots augments parent number required)) (sym is) (imposed_below parent number (slice_get spots number) (spot_at spots parent) refl refl)
