-- Whether items are configuration, by what is around the items of each depth, and by the tree
-- itself.
use Rattle.std.proofs.Common.{◌≡◌, ℕ, zero, suc, ◌+◌, ◌<◌, ◌≤◌, ◌^◌, ◌⊎◌, inl, inr, ◌==◌, not, Bool, true, false, if◌then◌else◌, List, [], ◌∷◌, ◌++◌, length, drop, refl, sym, ◌∙◌, ap, arith, Option, Some, None, append_assoc}
use Rattle.std.specs.List.{slice_get}
use Rattle.std.proofs.lemmas.Bool.{eq-eqb, ne_eqb}
use Rattle.std.proofs.lemmas.List.{append-nil, drop_all}
use Rattle.std.proofs.lemmas.Option.{same_Some}
use Rattle.yv_expand_rounds.specs.Tree.{Tree, none, item, tree_list}
use Rattle.yv_expand_rounds.specs.declared.row.ItemRow.{ItemRow}
use Rattle.yv_expand_augments.specs.MandatoryNodes.{Around, MarksView, inside, is_configuration, nothing_around}
use Rattle.yv_expand_augments.specs.InnerMandatoryNodes.{AreShallow, around_marks, configuration_marks, enter}
use Rattle.yv_expand_uses.specs.declared.spot.Spot.{Spot}
use Rattle.yv_expand_uses.proofs.StatementLists.{rest_of}

append_at : {A : Type 0} (xs ys : List A) (k : ℕ) (x : A) → slice_get (xs ++ ys) k ≡ Some x
    → (slice_get xs k ≡ Some x) ⊎ ((j : ℕ) × (j ≤ k) × (slice_get ys j ≡ Some x))
append_at [] ys k x at = inr (k, omega arith, at)
append_at (y ∷ xs) ys zero x at = inl at
append_at (y ∷ xs) ys (suc k) x at = elim (append_at xs ys k x at) [ inl here ↦ inl here | inr there ↦ (let le = there.1 in inr (there.0, omega (arith, le), there.2)) ]

listed_depth : (t : Tree) (parent : Option ℕ) (depth k : ℕ) (x : ItemRow) → slice_get (tree_list parent depth t) k ≡ Some x → x.depth ≤ depth + k
listed_depth none parent depth k x at = absurd (let bad : None ≡ Some x = at in cc)
listed_depth (item i below behind) parent depth zero x at =
    let first : ItemRow = record { number = i; parent = parent; depth = depth } in
    let same : depth ≡ x.depth = ap (λ (y : ItemRow). y.depth) (same_Some first x at) in
    omega (arith, same)
listed_depth (item i below behind) parent depth (suc k) x at = elim (append_at (tree_list (Some i) (depth + 1) below) (tree_list parent depth behind) k x at) [
  | inl here ↦ (let l = listed_depth below (Some i) (depth + 1) k x here in omega (arith, l))
  | inr there ↦ (let l = listed_depth behind parent depth there.0 x there.2 in let le = there.1 in omega (arith, l, le))
]

-- the list of a tree is shallow
pub listed_shallow : (t : Tree) (tree : List ItemRow) → tree ≡ tree_list None 1 t → AreShallow tree
listed_shallow t tree is k x at = (let l = listed_depth t None 1 k x (ap (λ (l : List ItemRow). slice_get l k) (sym is) ∙ at) in omega (arith, l))

-- the next depth is a number, where the place of the item is that of something in memory
pub shallow_fits : (tree : List ItemRow) (k : ℕ) (x : ItemRow) → AreShallow tree → k < 2 ^ 63 → slice_get tree k ≡ Some x → x.depth + 1 < 2 ^ 64
shallow_fits tree k x shallow small at = (let l = shallow k x at in omega (arith, l, small))

entered_here : (depth : ℕ) (here : Around) (around : ℕ → Around) → enter depth here around depth ≡ here
entered_here depth here around = ap (λ (b : Bool). if b then here else around depth) (eq-eqb depth depth refl)

entered_other : (depth : ℕ) (here : Around) (around : ℕ → Around) (d : ℕ) → (d ≡ depth → ⊥) → enter depth here around d ≡ around d
entered_other depth here around d apart = ap (λ (b : Bool). if b then here else around d) (ne_eqb d depth apart)

entered_same : (depth : ℕ) (p q : Around) (one other : ℕ → Around) → p ≡ q → ((d : ℕ) → one d ≡ other d) → (d : ℕ)
    → enter depth p one d ≡ enter depth q other d
entered_same depth p q one other same h d =
    ap (λ (z : Around). if d == depth then z else one d) same ∙ ap (λ (z : Around). if d == depth then q else z) (h d)

-- two marks of a depth are written
pub around_entered : (next : ℕ) (here : Around) (states operations new_states new_operations : ℕ → Bool) (config operation : Bool)
    → config ≡ here.is_config → operation ≡ here.in_operation
    → ((d : ℕ) → new_states d ≡ (if d == next then not config else states d))
    → ((d : ℕ) → new_operations d ≡ (if d == next then operation else operations d)) → (d : ℕ)
    → around_marks new_states new_operations d ≡ enter next here (around_marks states operations) d
around_entered next here states operations new_states new_operations config operation is_config in_operation s o d =
    ap (λ (b : Bool). record { is_config = not b; in_operation = new_operations d }) (s d)
    ∙ ap (λ (b : Bool). record { is_config = not (if d == next then not config else states d); in_operation = b }) (o d)
    ∙ by (d == next)
  where
    twice : (b : Bool) → not (not b) ≡ b
    twice true = refl
    twice false = refl

    by : (b : Bool)
        → (let made : Around = record { is_config = not (if b then not config else states d); in_operation = if b then operation else operations d } in made)
        ≡ (if b then here else around_marks states operations d)
    by true =
        ap (λ (c : Bool). record { is_config = c; in_operation = operation }) (twice config ∙ is_config)
        ∙ ap (λ (c : Bool). record { is_config = here.is_config; in_operation = c }) in_operation
    by false = refl

module _ (spots : List Spot) (told : MarksView) where
  -- a mark for each item of a tree, where this is around them
  abbrev pub marks_of : Around → Tree → List Bool
  marks_of a none = []
  marks_of a (item i below behind) = is_configuration (inside spots told i a) ∷ (marks_of (inside spots told i a) below ++ marks_of a behind)

  configured_same : (one other : ℕ → Around) (xs : List ItemRow) → ((d : ℕ) → one d ≡ other d) → configuration_marks spots told one xs ≡ configuration_marks spots told other xs
  configured_same one other [] h = refl
  configured_same one other (x ∷ xs) h =
      let p : Around = inside spots told x.number (one x.depth) in
      let q : Around = inside spots told x.number (other x.depth) in
      let same : p ≡ q = ap (inside spots told x.number) (h x.depth) in
      ap (λ (a : Around). is_configuration a ∷ configuration_marks spots told (enter (x.depth + 1) p one) xs) same
      ∙ ap (λ (l : List Bool). is_configuration q ∷ l)
      (configured_same (enter (x.depth + 1) p one) (enter (x.depth + 1) q other) xs (entered_same (x.depth + 1) p q one other same h))

  -- behind a tree, what is around items no deeper is what it was
  abbrev Configured : Tree → ℕ → Option ℕ → List ItemRow → (ℕ → Around) → Around → Type 0
  Configured t depth parent rest around a =
      (new : ℕ → Around) × ((e : ℕ) → e ≤ depth → new e ≡ around e)
      × (configuration_marks spots told around (tree_list parent depth t ++ rest) ≡ marks_of a t ++ configuration_marks spots told new rest)

  configured_tree : (t : Tree) (depth : ℕ) (parent : Option ℕ) (rest : List ItemRow) (around : ℕ → Around) (a : Around) → around depth ≡ a
      → Configured t depth parent rest around a
  configured_tree none depth parent rest around a is = (around, λ e le. refl, refl)
  configured_tree (item i below behind) depth parent rest around a is =
      let after : List ItemRow = tree_list parent depth behind in
      let inner : List ItemRow = tree_list (Some i) (depth + 1) below in
      let here : Around = inside spots told i (around depth) in
      let there : Around = inside spots told i a in
      let same : here ≡ there = ap (inside spots told i) is in
      let under : ℕ → Around = enter (depth + 1) here around in
      let b : Configured below (depth + 1) (Some i) (after ++ rest) under there =
      configured_tree below (depth + 1) (Some i) (after ++ rest) under there (entered_here (depth + 1) here around ∙ same) in
      let back : (e : ℕ) → e ≤ depth → b.0 e ≡ around e =
      λ e le. (b.1 e (omega (arith, le)) ∙ entered_other (depth + 1) here around e (λ same. omega (arith, le, same))) in
      let o : Configured behind depth parent rest b.0 a = configured_tree behind depth parent rest b.0 a (back depth (omega arith) ∙ is) in
      let mine : List Bool = marks_of there below in
      let others : List Bool = marks_of a behind in (
        o.0,
        λ e le. o.1 e le ∙ back e le,
        ap (λ (z : Around). is_configuration z ∷ configuration_marks spots told under ((inner ++ after) ++ rest)) same
            ∙ ap (λ (l : List Bool). is_configuration there ∷ l)
            (ap (configuration_marks spots told under) (append_assoc inner after rest) ∙ b.2 ∙ ap (λ (l : List Bool). mine ++ l) o.2
            ∙ sym (append_assoc mine others (configuration_marks spots told o.0 rest))),
      )

  pub configured_all : (t : Tree) (tree : List ItemRow) → tree ≡ tree_list None 1 t
      → configuration_marks spots told (λ d. nothing_around) tree ≡ marks_of nothing_around t
  configured_all t tree is =
      let all = configured_tree t 1 None [] (λ d. nothing_around) nothing_around refl in
      ap (configuration_marks spots told (λ d. nothing_around)) (is ∙ sym (append-nil (tree_list None 1 t))) ∙ all.2 ∙ append-nil (marks_of nothing_around t)

  pub configured_each : (around : ℕ → Around) (xs : List ItemRow) → length (configuration_marks spots told around xs) ≡ length xs
  configured_each around [] = refl
  configured_each around (x ∷ xs) = ap suc (configured_each (enter (x.depth + 1) (inside spots told x.number (around x.depth)) around) xs)

  pub configured_none : (xs : List ItemRow) (states operations : ℕ → Bool) → ((d : ℕ) → states d ≡ false) → ((d : ℕ) → operations d ≡ false)
      → [] ++ configuration_marks spots told (around_marks states operations) xs ≡ configuration_marks spots told (λ d. nothing_around) xs
  configured_none xs states operations s o =
      configured_same (around_marks states operations) (λ d. nothing_around) xs
      (λ d. ap (λ (b : Bool). record { is_config = not b; in_operation = operations d }) (s d)
      ∙ ap (λ (b : Bool). record { is_config = true; in_operation = b }) (o d))

  pub configured_more : (tree : List ItemRow) (i : ℕ) (x : ItemRow) (next : ℕ) (around new : ℕ → Around) (mark : Bool) (old now all : List Bool)
      → slice_get tree i ≡ Some x → next ≡ x.depth + 1 → mark ≡ is_configuration (inside spots told x.number (around x.depth))
      → ((d : ℕ) → new d ≡ enter next (inside spots told x.number (around x.depth)) around d) → now ≡ old ++ mark ∷ []
      → old ++ configuration_marks spots told around (drop i tree) ≡ all → now ++ configuration_marks spots told new (drop (i + 1) tree) ≡ all
  configured_more tree i x next around new mark old now all at deeper is entering more before =
      let xs : List ItemRow = drop (i + 1) tree in
      let here : Around = inside spots told x.number (around x.depth) in
      ap (λ (l : List Bool). l ++ configuration_marks spots told new xs) more
      ∙ append_assoc old (mark ∷ []) (configuration_marks spots told new xs)
      ∙ ap (λ (b : Bool). old ++ b ∷ configuration_marks spots told new xs) is
      ∙ ap (λ (l : List Bool). old ++ is_configuration here ∷ l)
      (configured_same new (enter (x.depth + 1) here around) xs (λ d. entering d ∙ ap (λ (n : ℕ). enter n here around d) deeper))
      ∙ ap (λ (l : List ItemRow). old ++ configuration_marks spots told around l) (sym (rest_of tree i x at))
      ∙ before

  pub configured_done : (tree : List ItemRow) (i : ℕ) (around : ℕ → Around) (marks all : List Bool) → length tree ≤ i
      → marks ++ configuration_marks spots told around (drop i tree) ≡ all → marks ≡ all
  configured_done tree i around marks all past h =
      sym (append-nil marks) ∙ ap (λ (l : List ItemRow). marks ++ configuration_marks spots told around l) (sym (drop_all i tree past)) ∙ h
