-- The nodes that augments of modules give, by number and by the tree.
use Rattle.std.proofs.Common.{inl, inr, ◌≡◌, ℕ, zero, suc, ◌+◌, ◌-◌, ◌==◌, ◌&&◌, nat_lt, cond, if◌then◌else◌, Bool, true, false, List, [], ◌∷◌, ◌++◌, length, map, refl, sym, ◌∙◌, ap, ap₂, arith, Option, Some, None, length-append}
use Rattle.std.specs.List.{position_from, slice_get}
use Rattle.std.specs.Option.{option_and_then}
use Rattle.std.proofs.lemmas.Bool.{cases_Bool, eq-eqb, eqb-true, false≢true, ltb-false, ne_eqb}
use Rattle.std.proofs.lemmas.List.{map-append}
use Rattle.std.proofs.lemmas.Option.{same_Some, slice_get_past}
use Rattle.yv_base_tables.specs.Families.{is_place, numbers_from}
use Rattle.yv_expand.specs.Tree.{Item, Node, Nodes, count, item, item_list, none}
use Rattle.yv_expand_uses.specs.Spots.{LayoutView, Whole, laid_from, layout_of, one_more, spot_of}
use Rattle.yv_expand_uses.specs.declared.spot.Spot.{Spot}
use Rattle.yv_expand_tree.specs.FinalTree.{source_of_spot}
use Rattle.yv_expand_laws.specs.Files.{giver_by}
use Rattle.yv_expand_laws.specs.Schema.{shown_nodes}
use Rattle.yv_expand_laws.specs.Shows.{Items}
use Rattle.yv_schema.specs.Notes.{parents_from}
use Rattle.yv_schema.specs.Notes as by_tree
use Rattle.yv_schema.proofs.ShownNodes.{not_none}

many_from : (w : Whole) (items : List Item) (l : LayoutView) → length (laid_from w items l).spots ≡ length l.spots + length items
many_from w [] l = omega arith
many_from w (x ∷ xs) l =
    let e = many_from w xs (one_more w x l) in
    let g : length (l.spots ++ spot_of w l.spots l.copies x ∷ []) ≡ length l.spots + 1 = length-append l.spots (spot_of w l.spots l.copies x ∷ []) in
    omega (arith, e, g)

-- each item has its spot
pub many_spots : (w : Whole) (items : List Item) → length (layout_of w items).spots ≡ length items
unfolding layout_of
many_spots w items = (let e = many_from w items (record { spots = []; copies = length w.augments }) in omega (arith, e))

-- the augment that gives an item is the one at its place among those of modules
pub giver_at_place : (w : Whole) (o : Option Spot) → giver_by w o ≡ option_and_then (slice_get w.augments) (source_of_spot w.items w.augments o)
giver_at_place w None = refl
giver_at_place w (Some s) = by (nat_lt w.items s.group)
  where
    place : ℕ
    place = s.group - w.items - 1

    inner : (c : Bool) → nat_lt (s.group - w.items - 1) (length w.augments) ≡ c
        → slice_get w.augments (s.group - w.items - 1) ≡ option_and_then (slice_get w.augments) (if c then Some (s.group - w.items - 1) else None)
    inner true e = refl
    inner false e = slice_get_past w.augments (s.group - w.items - 1) (ltb-false (s.group - w.items - 1) (length w.augments) e)

    by : (b : Bool) → (if b then slice_get w.augments (s.group - w.items - 1) else None)
        ≡ option_and_then (slice_get w.augments) (if b && nat_lt (s.group - w.items - 1) (length w.augments) then Some (s.group - w.items - 1) else None)
    by true = inner (nat_lt (s.group - w.items - 1) (length w.augments)) refl
    by false = refl

-- no augment is there twice
abbrev pub AreApart : List ℕ → Type 0
AreApart xs = (i j a : ℕ) → slice_get xs i ≡ Some a → slice_get xs j ≡ Some a → i ≡ j

-- to be at the place of an augment is to be given by it
pub same_place : (augments : List ℕ) → AreApart augments → (place a : ℕ) → slice_get augments place ≡ Some a → (o : Option ℕ)
    → is_place place o ≡ is_place a (option_and_then (slice_get augments) o)
same_place augments apart place a at None = refl
same_place augments apart place a at (Some k) = by (slice_get augments k) refl
  where
    by : (o : Option ℕ) → slice_get augments k ≡ o → (k == place) ≡ is_place a o
    by None empty = ne_eqb k place (λ same. not_none (sym empty ∙ (ap (slice_get augments) same ∙ at)))
    by (Some c) there = elim (cases_Bool (k == place)) [
      | inl is ↦ (
          let same : k ≡ place = eqb-true k place is in
          is ∙ sym (eq-eqb c a (same_Some c a (sym there ∙ (ap (slice_get augments) same ∙ at)))))
      | inr isnt ↦ isnt
          ∙ sym (ne_eqb c a (λ same. false≢true (sym isnt ∙ eq-eqb k place (apart k place a (there ∙ ap (λ (n : ℕ). Some n) same) at))))
    ]

pub same_numbers : {A : Type 0} (p q : ℕ) (f g : A → Option ℕ) (n : ℕ) (xs : List A) → ((x : A) → is_place p (f x) ≡ is_place q (g x))
    → numbers_from p n (map f xs) ≡ numbers_from q n (map g xs)
same_numbers p q f g n [] same = refl
same_numbers p q f g n (x ∷ xs) same =
    ap (λ (b : Bool). if b then n ∷ numbers_from p (n + 1) (map f xs) else numbers_from p (n + 1) (map f xs)) (same x)
    ∙ ap (λ (ns : List ℕ). if is_place q (g x) then n ∷ ns else ns) (same_numbers p q f g (n + 1) xs same)

-- the first of the numbers of a place has it
pub first_placed : (place n : ℕ) (ps : List (Option ℕ)) (m : ℕ) (ms : List ℕ) → numbers_from place n ps ≡ m ∷ ms
    → (i : ℕ) × (m ≡ n + i) × (slice_get ps i ≡ Some (Some place))
first_placed place n [] m ms e = absurd (let bad : [] ≡ m ∷ ms = e in cc)
first_placed place n (p ∷ ps) m ms e = by (is_place place p) refl e (λ e. first_placed place (n + 1) ps m ms e)
  where
    own : (o : Option ℕ) → is_place place o ≡ true → o ≡ Some place
    own None e = absurd (false≢true e)
    own (Some q) e = ap (λ (m : ℕ). Some m) (eqb-true q place e)

    by : (b : Bool) → is_place place p ≡ b → (if b then n ∷ numbers_from place (n + 1) ps else numbers_from place (n + 1) ps) ≡ m ∷ ms
        → (numbers_from place (n + 1) ps ≡ m ∷ ms → (i : ℕ) × (m ≡ n + 1 + i) × (slice_get ps i ≡ Some (Some place)))
        → (i : ℕ) × (m ≡ n + i) × (slice_get (p ∷ ps) i ≡ Some (Some place))
    by true is e go =
        let same : n ≡ m = same_Some n m (ap (λ (xs : List ℕ). slice_get xs 0) e) in
        (0, (omega (arith, same)), ap (λ (o : Option ℕ). Some o) (own p is))
    by false is e go = (let r = go e in (suc r.0, (let f = r.1 in omega (arith, f)), r.2))

-- where one of a list alone passes, it is the first that does
pub found_at : {A : Type 0} (p : A → Bool) (n : ℕ) (xs : List A) (k : ℕ) (x : A) → slice_get xs k ≡ Some x → p x ≡ true
    → ((j : ℕ) (y : A) → slice_get xs j ≡ Some y → p y ≡ true → j ≡ k) → position_from p n xs ≡ Some (n + k)
found_at p n [] k x at is alone = absurd (not_none at)
found_at p n (z ∷ xs) zero x at is alone =
    ap (λ (b : Bool). cond b (Some n) (position_from p (n + 1) xs)) (ap p (same_Some z x at) ∙ is) ∙ ap (λ (m : ℕ). Some m) (let e : n ≡ n + 0 = omega arith in e)
found_at p n (z ∷ xs) (suc k) x at is alone = elim (cases_Bool (p z)) [
  | inl first ↦ absurd (let e : 0 ≡ suc k = alone 0 z refl first in omega (arith, e))
  | inr fails ↦
      ap (λ (b : Bool). cond b (Some n) (position_from p (n + 1) xs)) fails
      ∙ (found_at p (n + 1) xs k x at is (λ j y there passes. (let e : suc j ≡ suc k = alone (suc j) y there passes in omega (arith, e)))
      ∙ ap (λ (m : ℕ). Some m) (let e : n + 1 + k ≡ n + suc k = omega arith in e))
]

module _ (its : Items) where
  same_count : (nodes : Nodes) → by_tree.count (shown_nodes its nodes) ≡ count nodes
  same_count none = refl
  same_count (item i below behind) =
      (let a = same_count below in let b = same_count behind in omega (arith, a, b))

  -- what stands above the nodes of a tree stands above the numbered ones
  pub same_parents : (parent : Option ℕ) (first : ℕ) (nodes : Nodes)
      → parents_from parent first (shown_nodes its nodes) ≡ map (λ (x : Node). x.parent) (item_list parent first nodes)
  same_parents parent first none = refl
  same_parents parent first (item i below behind) =
      ap (λ xs. parent ∷ xs)
      (ap₂ (λ xs ys. xs ++ ys) (same_parents (Some first) (first + 1) below)
      (ap (λ (n : ℕ). parents_from parent (first + 1 + n) (shown_nodes its behind)) (same_count below) ∙ same_parents parent (first + 1 + count below) behind)
      ∙ sym (map-append (λ (x : Node). x.parent) (item_list (Some first) (first + 1) below) (item_list parent (first + 1 + count below) behind)))
