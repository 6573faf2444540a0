-- The least of lists, and the first node of a name in order.
use Rattle.std.proofs.Common.{◌≡◌, ◌⊎◌, ℕ, zero, suc, ◌==◌, ◌&&◌, min, not, cond, Bool, true, false, if◌then◌else◌, List, [], ◌∷◌, ◌++◌, inl, inr, refl, sym, ◌∙◌, ap, ap₂, subst, arith, Option, Some, None}
use Rattle.std.specs.List.{slice_get}
use Rattle.std.specs.Option.{option_or}
use Rattle.std.specs.Ordering.{bool_cmp, is_lt, nat_cmp, ordering_then}
use Rattle.std.specs.declared.cmp.Ordering.{Ordering}
use Rattle.std.specs.declared.cmp.Ordering.TheVariants.{Less, Equal, Greater}
use Rattle.std.proofs.lemmas.Bool.{cases_lt, cases_order, le-ltb, lt-ltb}
use Rattle.std.proofs.lemmas.Option.{same_Some}
use Rattle.yv_expand_rounds.specs.Labels.{is_named}
use Rattle.yv_expand_rounds.specs.Order.{is_given, sibling_cmp}
use Rattle.yv_expand_rounds.specs.Paths.{first_named, least, lesser}
use Rattle.yv_expand_rounds.specs.InnerGroups.{earlier, note_item}
use Rattle.yv_expand_rounds.specs.declared.label.Label.{Label}

pub lesser_none : (b : Option ℕ) → lesser b None ≡ b
lesser_none None = refl
lesser_none (Some i) = refl

min_assoc : (i j k : ℕ) → min (min i j) k ≡ min i (min j k)
min_assoc i j k = omega arith

pub lesser_assoc : (a b c : Option ℕ) → lesser (lesser a b) c ≡ lesser a (lesser b c)
lesser_assoc None b c = refl
lesser_assoc (Some i) None c = refl
lesser_assoc (Some i) (Some j) None = refl
lesser_assoc (Some i) (Some j) (Some k) = ap Some (min_assoc i j k)

pub least_append : (passes : ℕ → Bool) (xs ys : List ℕ) → least passes (xs ++ ys) ≡ lesser (least passes xs) (least passes ys)
least_append passes [] ys = refl
least_append passes (x ∷ xs) ys =
    ap (λ o. lesser (if passes x then Some x else None) o) (least_append passes xs ys)
    ∙ sym (lesser_assoc (if passes x then Some x else None) (least passes xs) (least passes ys))

-- an item passes, and stands among these
abbrev pub StandsAndPasses : (ℕ → Bool) → List ℕ → ℕ → Type 0
StandsAndPasses passes items i = (k : ℕ) × (slice_get items k ≡ Some i) × (passes i ≡ true)

min_either : (i j : ℕ) → (min i j ≡ i) ⊎ (min i j ≡ j)
min_either i j = elim (cases_order i j) [
  | inl e ↦ inl (omega (arith, e))
  | inr apart ↦ elim apart [ inl l ↦ inl (omega (arith, l)) | inr l ↦ inr (omega (arith, l)) ]
]

stands_behind : (passes : ℕ → Bool) (x : ℕ) (xs : List ℕ) (i : ℕ) → StandsAndPasses passes xs i → StandsAndPasses passes (x ∷ xs) i
stands_behind passes x xs i s = (suc s.0, s.1, s.2)

least_by : (passes : ℕ → Bool) (x : ℕ) (xs : List ℕ) (i : ℕ) (b : Bool) (o : Option ℕ) → passes x ≡ b → ((j : ℕ) → o ≡ Some j → StandsAndPasses passes xs j)
    → lesser (if b then Some x else None) o ≡ Some i → StandsAndPasses passes (x ∷ xs) i
least_by passes x xs i false o test rest is = stands_behind passes x xs i (rest i is)
least_by passes x xs i true None test rest is = subst (StandsAndPasses passes (x ∷ xs)) (same_Some x i is) (zero, refl, test)
least_by passes x xs i true (Some j) test rest is = elim (min_either x j) [
  | inl e ↦ subst (StandsAndPasses passes (x ∷ xs)) (sym e ∙ same_Some (min x j) i is) (zero, refl, test)
  | inr e ↦ stands_behind passes x xs i (rest i (ap Some (sym e ∙ same_Some (min x j) i is)))
]

pub least_stands : (passes : ℕ → Bool) (items : List ℕ) (i : ℕ) → least passes items ≡ Some i → StandsAndPasses passes items i
least_stands passes [] i h = absurd (let e : None ≡ Some i = h in cc)
least_stands passes (x ∷ xs) i h = least_by passes x xs i (passes x) (least passes xs) refl (λ j is. least_stands passes xs j is) h

pub first_part : (a b : Bool) → (a && b) ≡ true → a ≡ true
first_part true b h = refl
first_part false b h = absurd (let bad : false ≡ true = h in cc)

pub second_part : (a b : Bool) → (a && b) ≡ true → b ≡ true
second_part true b h = h
second_part false b h = absurd (let bad : false ≡ true = h in cc)

not_true : (b : Bool) → not b ≡ true → b ≡ false
not_true false h = refl
not_true true h = absurd (let bad : false ≡ true = h in cc)

-- nodes of a name that no augment of a module gives, and those that one gives
abbrev pub own : List Label → (name : ℕ) → ℕ → Bool
own labels name i = is_named labels name i && not (is_given labels i)

abbrev pub given : List Label → (name : ℕ) → ℕ → Bool
given labels name i = is_named labels name i && is_given labels i

own_least : (labels : List Label) (name : ℕ) (members : List ℕ) (i : ℕ) → least (own labels name) members ≡ Some i → is_given labels i ≡ false
own_least labels name members i h =
    not_true (is_given labels i) (second_part (is_named labels name i) (not (is_given labels i)) (least_stands (own labels name) members i h).2)

given_least : (labels : List Label) (name : ℕ) (members : List ℕ) (i : ℕ) → least (given labels name) members ≡ Some i → is_given labels i ≡ true
given_least labels name members i h =
    second_part (is_named labels name i) (is_given labels i) (least_stands (given labels name) members i h).2

pub by_marks : (labels : List Label) (i j : ℕ) (g h : Bool) → is_given labels i ≡ g → is_given labels j ≡ h
    → sibling_cmp labels i j ≡ ordering_then (bool_cmp g h) (nat_cmp i j)
by_marks labels i j g h e f = ap₂ (λ x y. ordering_then (bool_cmp x y) (nat_cmp i j)) e f

-- of two items with one mark the lesser is the earlier
by_number : (i j : ℕ) → (if is_lt (nat_cmp j i) then j else i) ≡ min i j
by_number i j = elim (cases_lt j i) [
  | inl l ↦ ap (λ b. if is_lt (cond b Less (cond (j == i) Equal Greater)) then j else i) (lt-ltb j i l) ∙ omega (arith, l)
  | inr l ↦ ap (λ b. if is_lt (cond b Less (cond (j == i) Equal Greater)) then j else i) (le-ltb j i l) ∙ later (j == i) ∙ omega (arith, l)
]
  where
    later : (b : Bool) → (if is_lt (cond b Equal Greater) then j else i) ≡ i
    later true = refl
    later false = refl

earlier_by : (labels : List Label) (i item : ℕ) (o : Ordering) → sibling_cmp labels item i ≡ o → Some (earlier labels (Some i) item) ≡ Some (if is_lt o then item else i)
earlier_by labels i item o e = ap (λ x. Some (if is_lt x then item else i)) e

same_mark : (labels : List Label) (i item : ℕ) (g : Bool) → is_given labels i ≡ g → is_given labels item ≡ g → Some (earlier labels (Some i) item) ≡ Some (min i item)
same_mark labels i item true e f = earlier_by labels i item (nat_cmp item i) (by_marks labels item i true true f e) ∙ ap Some (by_number i item)
same_mark labels i item false e f = earlier_by labels i item (nat_cmp item i) (by_marks labels item i false false f e) ∙ ap Some (by_number i item)

-- one more item, where these are the least of those that no augment of a module gives and of those
-- that one gives
more_by : (labels : List Label) (item : ℕ) (named mark : Bool) (a b : Option ℕ) → is_given labels item ≡ mark → ((i : ℕ) → a ≡ Some i → is_given labels i ≡ false)
    → ((i : ℕ) → b ≡ Some i → is_given labels i ≡ true)
    → (if named then Some (earlier labels (option_or a b) item) else option_or a b)
    ≡ option_or (lesser a (lesser (if named && not mark then Some item else None) None)) (lesser b (lesser (if named && mark then Some item else None) None))
more_by labels item false mark a b is ungiven marked = ap₂ option_or (sym (lesser_none a)) (sym (lesser_none b))
more_by labels item true false None None is ungiven marked = refl
more_by labels item true false None (Some j) is ungiven marked = earlier_by labels j item Less (by_marks labels item j false true is (marked j refl))
more_by labels item true false (Some i) b is ungiven marked = same_mark labels i item false (ungiven i refl) is
more_by labels item true true None None is ungiven marked = refl
more_by labels item true true None (Some j) is ungiven marked = same_mark labels j item true (marked j refl) is
more_by labels item true true (Some i) b is ungiven marked = earlier_by labels i item Greater (by_marks labels item i true false is (ungiven i refl))

-- one more item
pub first_more : (labels : List Label) (members : List ℕ) (item n : ℕ) (first : ℕ → Option ℕ) → first n ≡ first_named labels n members
    → note_item labels first item n ≡ first_named labels n (members ++ item ∷ [])
first_more labels members item n first e =
    ap (λ o. if is_named labels n item then Some (earlier labels o item) else o) e
    ∙ more_by labels item (is_named labels n item) (is_given labels item) (least (own labels n) members) (least (given labels n) members) refl
    (own_least labels n members) (given_least labels n members)
    ∙ sym (ap₂ option_or (least_append (own labels n) members (item ∷ [])) (least_append (given labels n) members (item ∷ [])))
