-- Statements by number, and the names that they use.
use Rattle.std.proofs.Common.{◌≡◌, ℕ, ◌+◌, ◌<◌, ◌≤◌, ◌==◌, ◌&&◌, ◌||◌, Bool, true, false, List, [], ◌∷◌, ◌++◌, length, take, get_or, set, refl, sym, ◌∙◌, ap, arith, append_assoc, length-append}
use Rattle.std.proofs.lemmas.List.{append-nil, take_more, take_all}
use Rattle.yv_text_statement.specs.Tree.{Head, Forest, Then, End, Tree, count, forest, trees}
use Rattle.yv_text_statement.specs.declared.keyword.Keyword.{Keyword}
use Rattle.yv_text_statement.specs.declared.keyword.Keyword.TheVariants as word
use Rattle.yv_link_scopes.proofs.Listing.{forest-trees}
use Rattle.yv_lint.specs.Definitions.{is_use}
use Rattle.yv_lint.specs.InnerUses.{AddsTo, AddsUses, ends_from, has_use, use_at}
use Rattle.yv_lint.specs.declared.use_set.UseSet.{UseSet}
use Rattle.yv_lint.specs.declared.uses.Uses.{Uses}

pub length-ends : (n : ℕ) (f : Forest) → length (ends_from n f) ≡ count f
length-ends n End = refl
length-ends n (Then h c o) = omega (arith, length-append (ends_from (n + 1) c) (ends_from (n + 1 + count c) o), length-ends (n + 1) c, length-ends (n + 1 + count c) o)

-- ### a statement, and then the others

pub ends_then : (n : ℕ) (h : Head) (c o : Forest) → ends_from n (Then h c o) ≡ ends_from n (Then h c End) ++ ends_from (n + 1 + count c) o
ends_then n h c o = ap (λ xs. (n + 1 + count c) ∷ (xs ++ ends_from (n + 1 + count c) o)) (sym (append-nil (ends_from (n + 1) c)))

regroup : (a b c : Bool) → (a || (b || c)) ≡ ((a || (b || false)) || c)
regroup true b c = refl
regroup false true c = refl
regroup false false c = refl

pub use_then : (k : Keyword) (own name : List ℕ) (n : ℕ) (h : Head) (c o : Forest) (j : ℕ) → use_at k own name n (Then h c o) j ≡ (use_at k own name n (Then h c End) j || use_at k own name (n + 1 + count c) o j)
use_then k own name n h c o j = regroup (is_use k own name (record { head = h; children = c }) && (n == j)) (use_at k own name (n + 1) c j) (use_at k own name (n + 1 + count c) o j)

after : (n c r : ℕ) → (n + 1 + c) + r ≡ n + (1 + c + r)
after n c r = omega arith

ends_forest : (n : ℕ) (ts us : List Tree) → ends_from n (forest (ts ++ us)) ≡ ends_from n (forest ts) ++ ends_from (n + count (forest ts)) (forest us)
ends_forest n [] us = let e : n ≡ n + 0 = omega arith in ap (λ m. ends_from m (forest us)) e
ends_forest n (t ∷ ts) us =
    let m : ℕ = n + 1 + count t.children in
    let first : List ℕ = ends_from n (Then t.head t.children End) in
    ends_then n t.head t.children (forest (ts ++ us))
    ∙ ap (λ xs. first ++ xs) (ends_forest m ts us)
    ∙ ap (λ x. first ++ (ends_from m (forest ts) ++ ends_from x (forest us))) (after n (count t.children) (count (forest ts)))
    ∙ sym (append_assoc first (ends_from m (forest ts)) (ends_from (n + count (forest (t ∷ ts))) (forest us)))
    ∙ ap (λ xs. xs ++ ends_from (n + count (forest (t ∷ ts))) (forest us)) (sym (ends_then n t.head t.children (forest ts)))

or_assoc : (a b c : Bool) → ((a || b) || c) ≡ (a || (b || c))
or_assoc true b c = refl
or_assoc false b c = refl

use_forest : (k : Keyword) (own name : List ℕ) (n : ℕ) (ts us : List Tree) (j : ℕ) → use_at k own name n (forest (ts ++ us)) j ≡ (use_at k own name n (forest ts) j || use_at k own name (n + count (forest ts)) (forest us) j)
use_forest k own name n [] us j = let e : n ≡ n + 0 = omega arith in ap (λ m. use_at k own name m (forest us) j) e
use_forest k own name n (t ∷ ts) us j =
    let m : ℕ = n + 1 + count t.children in
    let first : Bool = use_at k own name n (Then t.head t.children End) j in
    use_then k own name n t.head t.children (forest (ts ++ us)) j
    ∙ ap (λ b. first || b) (use_forest k own name m ts us j)
    ∙ ap (λ x. first || (use_at k own name m (forest ts) j || use_at k own name x (forest us) j)) (after n (count t.children) (count (forest ts)))
    ∙ sym (or_assoc first (use_at k own name m (forest ts) j) (use_at k own name (n + count (forest (t ∷ ts))) (forest us) j))
    ∙ ap (λ b. b || use_at k own name (n + count (forest (t ∷ ts))) (forest us) j) (sym (use_then k own name n t.head t.children (forest ts) j))

-- ### one more statement of a block

to_more : (k : Keyword) (own : List ℕ) (a b c : UseSet) (n m : ℕ) (ts : List Tree) (i : ℕ) (t : Tree) → i < length ts → t ≡ get_or ts i t → m ≡ n + count (forest (take i ts)) → AddsTo k own a b n (forest (take i ts)) → AddsTo k own b c m (Then t.head t.children End) → AddsTo k own a c n (forest (take (i + 1) ts))
to_more k own a b c n m ts i t lt is at f g = λ name j.
    g name j
    ∙ ap (λ x. x || use_at k own name m (Then t.head t.children End) j) (f name j)
    ∙ or_assoc (has_use a name j) (use_at k own name n (forest (take i ts)) j) (use_at k own name m (Then t.head t.children End) j)
    ∙ ap (λ x. has_use a name j || x)
    (ap (λ x. use_at k own name n (forest (take i ts)) j || use_at k own name x (Then t.head t.children End) j) at
    ∙ ap (λ (u : Tree). use_at k own name n (forest (take i ts)) j || use_at k own name (n + count (forest (take i ts))) (Then u.head u.children End) j) is
    ∙ sym (use_forest k own name n (take i ts) (get_or ts i t ∷ []) j)
    ∙ sym (ap (λ us. use_at k own name n (forest us) j) (take_more ts i t lt)))

pub uses_more : (own : List ℕ) (a b c : Uses) (n : ℕ) (ts : List Tree) (i : ℕ) (t : Tree) → i < length ts → t ≡ get_or ts i t → length a.ends.items ≡ n → AddsUses own a b n (forest (take i ts)) → AddsUses own b c (length b.ends.items) (Then t.head t.children End) → AddsUses own a c n (forest (take (i + 1) ts))
uses_more own a b c n ts i t lt is start f g =
    let m : ℕ = length b.ends.items in
    let long : m ≡ n + count (forest (take i ts)) = omega (arith, ap length f.ends, length-append a.ends.items (ends_from n (forest (take i ts))), length-ends n (forest (take i ts))) in
    let first : List ℕ = ends_from n (forest (take i ts)) in
    let step : ends_from n (forest (take (i + 1) ts)) ≡ first ++ ends_from m (Then t.head t.children End) =
    ap (λ us. ends_from n (forest us)) (take_more ts i t lt)
    ∙ ends_forest n (take i ts) (get_or ts i t ∷ [])
    ∙ ap (λ (u : Tree). first ++ ends_from (n + count (forest (take i ts))) (Then u.head u.children End)) (sym is)
    ∙ ap (λ x. first ++ ends_from x (Then t.head t.children End)) (sym long)
    in
    record {
      ends = g.ends ∙ ap (λ xs. xs ++ ends_from m (Then t.head t.children End)) f.ends ∙ append_assoc a.ends.items first (ends_from m (Then t.head t.children End)) ∙ ap (λ xs. a.ends.items ++ xs) (sym step);
      types = to_more word.Type own a.types b.types c.types n m ts i t lt is long f.types g.types;
      groupings = to_more word.Uses own a.groupings b.groupings c.groupings n m ts i t lt is long f.groupings g.groupings;
    }

-- ### a statement, with what is below it

set_mid : (xs : List ℕ) (y : ℕ) (ys : List ℕ) (v : ℕ) → set (xs ++ y ∷ ys) (length xs) v ≡ xs ++ v ∷ ys
set_mid [] y ys v = refl
set_mid (x ∷ xs) y ys v = ap (λ zs. x ∷ zs) (set_mid xs y ys v)

pub ends_whole : (a p q r : List ℕ) (n v i : ℕ) (h : Head) (c : Forest) → n ≡ length a → p ≡ a ++ 0 ∷ [] → length (trees c) ≤ i → q ≡ p ++ ends_from (n + 1) (forest (take i (trees c))) → v ≡ length q → r ≡ set q n v → r ≡ a ++ ends_from (length a) (Then h c End)
ends_whole a p q r n v i h c at pushed le looped long write =
    let block : forest (take i (trees c)) ≡ c = ap forest (take_all i (trees c) le) ∙ forest-trees c in
    let inner : List ℕ = ends_from (n + 1) c in
    let whole : q ≡ a ++ 0 ∷ inner = looped ∙ ap (λ f. p ++ ends_from (n + 1) f) block ∙ ap (λ xs. xs ++ inner) pushed ∙ append_assoc a (0 ∷ []) inner in
    let value : v ≡ n + 1 + count c = omega (arith, long, ap length whole, length-append a (0 ∷ inner), length-ends (n + 1) c, at) in
    write
    ∙ ap (λ xs. set xs n v) whole
    ∙ ap (λ x. set (a ++ 0 ∷ inner) x v) at
    ∙ set_mid a 0 inner v
    ∙ ap (λ x. a ++ x ∷ inner) value
    ∙ ap (λ xs. a ++ (n + 1 + count c) ∷ xs) (sym (append-nil inner))
    ∙ ap (λ x. a ++ ends_from x (Then h c End)) at

pub to_whole : (k : Keyword) (own : List ℕ) (a p q : UseSet) (n m i : ℕ) (h : Head) (c : Forest) → n ≡ m → ((name : List ℕ) (j : ℕ) → has_use p name j ≡ (has_use a name j || (is_use k own name (record { head = h; children = c }) && (n == j)))) → length (trees c) ≤ i → AddsTo k own p q (n + 1) (forest (take i (trees c))) → AddsTo k own a q m (Then h c End)
to_whole k own a p q n m i h c at one le looped = λ name j.
    let block : forest (take i (trees c)) ≡ c = ap forest (take_all i (trees c) le) ∙ forest-trees c in
    let own_use : Bool = is_use k own name (record { head = h; children = c }) && (n == j) in
    looped name j
    ∙ ap (λ f. has_use p name j || use_at k own name (n + 1) f j) block
    ∙ ap (λ b. b || use_at k own name (n + 1) c j) (one name j)
    ∙ or_assoc (has_use a name j) own_use (use_at k own name (n + 1) c j)
    ∙ ap (λ b. has_use a name j || (own_use || b)) (sym (or_false (use_at k own name (n + 1) c j)))
    ∙ ap (λ x. has_use a name j || use_at k own name x (Then h c End) j) at
  where
    or_false : (b : Bool) → (b || false) ≡ b
    or_false true = refl
    or_false false = refl
