-- No two members of one object have one name, by the trees.
use Rattle.std.proofs.Common.{◌≡◌, ◌≢◌, ℕ, zero, suc, ◌+◌, List, [], ◌∷◌, ◌++◌, length, map, Bool, true, false, cond, Some, refl, sym, ap, subst, ◌∙◌, arith}
use Rattle.std.specs.List.{AllByRecursion, slice_get}
use Rattle.yv_node_content.specs.Kinds.{is_data, is_passed}
use Rattle.yv_nodes.specs.Tree.{Label, Forest, no_trees, tree, node, labels}
use Rattle.yv_nodes.specs.Places.{Place, places_below}
use Rattle.yv_schema_tables.specs.Groups.{join}
use Rattle.yv_schema_tables.specs.DataChildren.{opened_trees}
use Rattle.yv_schema_tables.specs.Sound.{DifferInMember, MembersDiffer}

-- what the members of an object may be called that has these trees below it, through choices and
-- cases
abbrev pub members : Forest → List (List ℕ)
members no_trees = []
members (tree (node l kids) ts) =
    cond (is_passed l.defined.kind) (members kids) (cond (is_data l.defined.kind) (l.member ∷ []) []) ++ members ts

abbrev pub AreDistinct : List (List ℕ) → Type 0
AreDistinct [] = Unit {0}
AreDistinct (n ∷ ns) = AllByRecursion (λ (o : List ℕ). o ≢ n) ns × AreDistinct ns

-- at each node that has objects, at any depth, no two members have one name
abbrev pub AreApartBelow : Forest → Type 0
AreApartBelow no_trees = Unit {0}
AreApartBelow (tree (node l kids) ts) = (is_passed l.defined.kind ≡ false → AreDistinct (members kids)) × AreApartBelow kids × AreApartBelow ts

-- and at the root
abbrev pub AreApart : Forest → Type 0
AreApart ts = AreDistinct (members ts) × AreApartBelow ts

abbrev names_in : List Label → List (List ℕ)
names_in ls = map (λ (l : Label). l.member) ls

labels_both : (ts us : Forest) → labels (join ts us) ≡ labels ts ++ labels us
labels_both no_trees us = refl
labels_both (tree (node l kids) ts) us = ap (λ (ls : List Label). l ∷ ls) (labels_both ts us)

names_both : (ks ls : List Label) → names_in (ks ++ ls) ≡ names_in ks ++ names_in ls
names_both [] ls = refl
names_both (k ∷ ks) ls = ap (λ (ns : List (List ℕ)). k.member ∷ ns) (names_both ks ls)

own : (p d : Bool) (l : Label) (kids : Forest) (ns : List (List ℕ)) → names_in (labels (opened_trees kids)) ≡ ns
    → names_in (labels (cond p (opened_trees kids) (cond d (tree (node l kids) no_trees) no_trees))) ≡ cond p ns (cond d (l.member ∷ []) [])
own true d l kids ns e = e
own false true l kids ns e = refl
own false false l kids ns e = refl

-- the names are those of the opened trees
members_are : (ts : Forest) → names_in (labels (opened_trees ts)) ≡ members ts
members_are no_trees = refl
members_are (tree (node l kids) ts) =
    let first : Forest = cond (is_passed l.defined.kind) (opened_trees kids) (cond (is_data l.defined.kind) (tree (node l kids) no_trees) no_trees) in
    ap names_in (labels_both first (opened_trees ts)) ∙ names_both (labels first) (labels (opened_trees ts))
    ∙ ap (λ (ns : List (List ℕ)). ns ++ names_in (labels (opened_trees ts))) (own (is_passed l.defined.kind) (is_data l.defined.kind) l kids (members kids) (members_are kids))
    ∙ ap (λ (ns : List (List ℕ)). cond (is_passed l.defined.kind) (members kids) (cond (is_data l.defined.kind) (l.member ∷ []) []) ++ ns) (members_are ts)

others_differ : (n : List ℕ) (ls : List Label) → ((k : ℕ) (b : Label) → slice_get ls k ≡ Some b → b.member ≢ n) → AllByRecursion (λ (o : List ℕ). o ≢ n) (names_in ls)
others_differ n [] h = tt
others_differ n (l ∷ ls) h = (h 0 l refl, others_differ n ls (λ k b at. h (suc k) b at))

differ_each : (ls : List Label) → DifferInMember ls → AreDistinct (names_in ls)
differ_each [] h = tt
differ_each (l ∷ ls) h = (
  others_differ l.member ls (λ k b at e. h 0 (suc k) l b (omega arith) refl at (sym e)),
  differ_each ls (λ i k a b lt at_i at_k. h (suc i) (suc k) a b (omega (arith, lt)) at_i at_k),
)

distinct : (ts : Forest) → DifferInMember (labels (opened_trees ts)) → AreDistinct (members ts)
distinct ts h = subst AreDistinct (members_are ts) (differ_each (labels (opened_trees ts)) h)

at_left : {X : Type 0} (xs ys : List X) (k : ℕ) (x : X) → slice_get xs k ≡ Some x → slice_get (xs ++ ys) k ≡ Some x
at_left [] ys k x at = cc
at_left (y ∷ xs) ys zero x at = at
at_left (y ∷ xs) ys (suc k) x at = at_left xs ys k x at

at_right : {X : Type 0} (xs ys : List X) (k : ℕ) (x : X) → slice_get ys k ≡ Some x → slice_get (xs ++ ys) (length xs + k) ≡ Some x
at_right [] ys k x at = let same : 0 + k ≡ k = omega arith in rw same at
at_right (y ∷ xs) ys k x at = let same : suc (length xs) + k ≡ suc (length xs + k) = omega arith in rw same (at_right xs ys k x at)

-- what is known of places, by the trees
below_each : (above : List Label) (ts : Forest)
    → ((k : ℕ) (p : Place) → slice_get (places_below above ts) k ≡ Some p → is_passed p.label.defined.kind ≡ false → DifferInMember (labels (opened_trees p.kids)))
    → AreApartBelow ts
below_each above no_trees h = tt
below_each above (tree (node l kids) ts) h =
    let p : Place = record { label = l; above = above; kids = kids } in (
      λ not_passed. distinct kids (h 0 p refl not_passed),
      below_each (l ∷ above) kids (λ k q at. h (suc k) q (at_left (places_below (l ∷ above) kids) (places_below above ts) k q at)),
      below_each above ts (λ k q at. h (suc (length (places_below (l ∷ above) kids) + k)) q (at_right (places_below (l ∷ above) kids) (places_below above ts) k q at)),
    )

pub apart : (ts : Forest) → MembersDiffer ts → AreApart ts
apart ts h = (distinct ts h.top, below_each [] ts h.below)
