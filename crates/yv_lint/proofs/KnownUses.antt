-- What is known of the uses in a block, and in the blocks below it.
use Rattle.std.proofs.Common.{◌≡◌, ℕ, suc, ◌+◌, ◌<◌, ◌≤◌, ◌==◌, ◌&&◌, ◌||◌, ◌⊎◌, inl, inr, ◌↔◌, Bool, true, false, List, [], ◌++◌, get_or, IsTrue, refl, sym, ◌∙◌, ap, arith, eq-eqb}
use Rattle.std.specs.Bool.{one_answer}
use Rattle.std.specs.List.{list_any}
use Rattle.std.proofs.lemmas.Bool.{false≢true, ne_eqb}
use Rattle.std.proofs.lemmas.List.{get_or-append-add, get_or_append_left}
use Rattle.std.proofs.lemmas.List.Folds.{list_any-append}
use Rattle.yv_text_statement.specs.Tree.{Head, Forest, Then, End, count}
use Rattle.yv_text_statement.specs.declared.keyword.Keyword.{Keyword}
use Rattle.yv_text_statement.specs.declared.keyword.Keyword.TheVariants as word
use Rattle.yv_lint.specs.Definitions.{all_in, is_use}
use Rattle.yv_lint.specs.InnerUses.{AddsUses, AreUses, Tells, ends_from, has_use, use_at}
use Rattle.yv_lint.specs.declared.use_set.UseSet.{UseSet}
use Rattle.yv_lint.specs.declared.uses.Uses.{Uses}
use Rattle.yv_lint.proofs.NumberedUses.{ends_then, length-ends, use_then}
use Rattle.yv_lint.proofs.UseSets.{Between}

-- ### the numbers of uses

nor : (a b : Bool) → a ≡ false → b ≡ false → (a || b) ≡ false
nor a b h g = rw h g

and_false : (a b : Bool) → b ≡ false → (a && b) ≡ false
and_false true b h = h
and_false false b h = refl

pub use_before : (k : Keyword) (own name : List ℕ) (n : ℕ) (f : Forest) (j : ℕ) → j < n → use_at k own name n f j ≡ false
use_before k own name n End j lt = refl
use_before k own name n (Then h c o) j lt =
    nor (is_use k own name (record { head = h; children = c }) && (n == j)) (use_at k own name (n + 1) c j || use_at k own name (n + 1 + count c) o j)
    (and_false (is_use k own name (record { head = h; children = c })) (n == j) (ne_eqb n j (λ e. omega (arith, e, lt))))
    (nor (use_at k own name (n + 1) c j) (use_at k own name (n + 1 + count c) o j) (use_before k own name (n + 1) c j (omega arith)) (use_before k own name (n + 1 + count c) o j (omega arith)))

pub use_past : (k : Keyword) (own name : List ℕ) (n : ℕ) (f : Forest) (j : ℕ) → n + count f ≤ j → use_at k own name n f j ≡ false
use_past k own name n End j le = refl
use_past k own name n (Then h c o) j le =
    nor (is_use k own name (record { head = h; children = c }) && (n == j)) (use_at k own name (n + 1) c j || use_at k own name (n + 1 + count c) o j)
    (and_false (is_use k own name (record { head = h; children = c })) (n == j) (ne_eqb n j (λ e. omega (arith, e, le))))
    (nor (use_at k own name (n + 1) c j) (use_at k own name (n + 1 + count c) o j) (use_past k own name (n + 1) c j (omega arith)) (use_past k own name (n + 1 + count c) o j (omega arith)))

or_parts : (a b : Bool) → (a || b) ≡ true → (a ≡ true) ⊎ (b ≡ true)
or_parts true b h = inl refl
or_parts false b h = inr h

or_first : (a b : Bool) → a ≡ true → (a || b) ≡ true
or_first a b h = rw h refl

or_second : (a b : Bool) → b ≡ true → (a || b) ≡ true
or_second true b h = refl
or_second false b h = h

and_first : (a b : Bool) → (a && b) ≡ true → a ≡ true
and_first true b h = refl
and_first false b h = absurd (false≢true h)

same : (n : ℕ) → (n == n) ≡ true
same n = rw (eq-eqb n n refl) refl

any_then : (k : Keyword) (own name : List ℕ) (h : Head) (c o : Forest) → list_any (is_use k own name) (all_in (Then h c o)) ≡ (is_use k own name (record { head = h; children = c }) || (list_any (is_use k own name) (all_in c) || list_any (is_use k own name) (all_in o)))
any_then k own name h c o = ap (λ b. is_use k own name (record { head = h; children = c }) || b) (list_any-append (is_use k own name) (all_in c) (all_in o))

pub any_of_use : (k : Keyword) (own name : List ℕ) (n : ℕ) (f : Forest) (j : ℕ) → use_at k own name n f j ≡ true → list_any (is_use k own name) (all_in f) ≡ true
any_of_use k own name n End j h = absurd (false≢true h)
any_of_use k own name n (Then h c o) j e =
    let own_use : Bool = is_use k own name (record { head = h; children = c }) in
    let inner : Bool = list_any (is_use k own name) (all_in c) in
    let others : Bool = list_any (is_use k own name) (all_in o) in
    any_then k own name h c o ∙ elim (or_parts (own_use && (n == j)) (use_at k own name (n + 1) c j || use_at k own name (n + 1 + count c) o j) e) [
      | inl p ↦ or_first own_use (inner || others) (and_first own_use (n == j) p)
      | inr q ↦ or_second own_use (inner || others) (elim (or_parts (use_at k own name (n + 1) c j) (use_at k own name (n + 1 + count c) o j) q) [
        | inl r ↦ or_first inner others (any_of_use k own name (n + 1) c j r)
        | inr s ↦ or_second inner others (any_of_use k own name (n + 1 + count c) o j s)
      ])
    ]

pub use_of_any : (k : Keyword) (own name : List ℕ) (n : ℕ) (f : Forest) → list_any (is_use k own name) (all_in f) ≡ true → (j : ℕ) × (n ≤ j) × (j < n + count f) × (use_at k own name n f j ≡ true)
use_of_any k own name n End h = absurd (false≢true h)
use_of_any k own name n (Then h c o) e =
    let own_use : Bool = is_use k own name (record { head = h; children = c }) in
    let inner : Bool = list_any (is_use k own name) (all_in c) in
    let others : Bool = list_any (is_use k own name) (all_in o) in
    elim (or_parts own_use (inner || others) (sym (any_then k own name h c o) ∙ e)) [
      | inl p ↦ (n, omega arith, omega arith, or_first (own_use && (n == n)) (use_at k own name (n + 1) c n || use_at k own name (n + 1 + count c) o n) (rw p (same n)))
      | inr q ↦ elim (or_parts inner others q) [
        | inl r ↦ let g = use_of_any k own name (n + 1) c r in (g.0, omega (arith, g.1), omega (arith, g.2), or_second (own_use && (n == g.0)) (use_at k own name (n + 1) c g.0 || use_at k own name (n + 1 + count c) o g.0) (or_first (use_at k own name (n + 1) c g.0) (use_at k own name (n + 1 + count c) o g.0) g.3))
        | inr s ↦ let g = use_of_any k own name (n + 1 + count c) o s in (g.0, omega (arith, g.1), omega (arith, g.2), or_second (own_use && (n == g.0)) (use_at k own name (n + 1) c g.0 || use_at k own name (n + 1 + count c) o g.0) (or_second (use_at k own name (n + 1) c g.0) (use_at k own name (n + 1 + count c) o g.0) g.3))
      ]
    ]

-- a name is used in a block exactly where one of its numbers is a use
pub used_is : (k : Keyword) (own name : List ℕ) (s : UseSet) (n end : ℕ) (f : Forest) (r : Bool) → Tells k own s n f → end ≡ n + count f → IsTrue r ↔ Between s name n end → r ≡ list_any (is_use k own name) (all_in f)
used_is k own name s n end f r known at found = one_answer r (list_any (is_use k own name) (all_in f))
    found
    (λ e. let g = use_of_any k own name n f e in (g.0, g.1, omega (arith, g.2, at), known name g.0 g.1 g.2 ∙ g.3), λ b. any_of_use k own name n f b.0 (sym (known name b.0 b.1 (omega (arith, b.2, at))) ∙ b.3))

-- ### in the blocks below

tells_inner : (k : Keyword) (own : List ℕ) (s : UseSet) (n : ℕ) (h : Head) (c o : Forest) → Tells k own s n (Then h c o) → Tells k own s (n + 1) c
tells_inner k own s n h c o t = λ name j le lt.
    let own_use : Bool = is_use k own name (record { head = h; children = c }) in
    t name j (omega arith) (omega arith)
    ∙ ap (λ b. b || (use_at k own name (n + 1) c j || use_at k own name (n + 1 + count c) o j)) (and_false own_use (n == j) (ne_eqb n j (λ e. omega (arith, e, le))))
    ∙ ap (λ b. use_at k own name (n + 1) c j || b) (use_before k own name (n + 1 + count c) o j lt)
    ∙ or_false (use_at k own name (n + 1) c j)
  where
    or_false : (b : Bool) → (b || false) ≡ b
    or_false true = refl
    or_false false = refl

tells_others : (k : Keyword) (own : List ℕ) (s : UseSet) (n : ℕ) (h : Head) (c o : Forest) → Tells k own s n (Then h c o) → Tells k own s (n + 1 + count c) o
tells_others k own s n h c o t = λ name j le lt.
    let own_use : Bool = is_use k own name (record { head = h; children = c }) in
    t name j (omega arith) (omega arith)
    ∙ ap (λ b. b || (use_at k own name (n + 1) c j || use_at k own name (n + 1 + count c) o j)) (and_false own_use (n == j) (ne_eqb n j (λ e. omega (arith, e, le))))
    ∙ ap (λ b. b || use_at k own name (n + 1 + count c) o j) (use_past k own name (n + 1) c j le)

pub inner_uses : {own : List ℕ} {u : Uses} {n : ℕ} {h : Head} {c o : Forest} → AreUses own u n (Then h c o) → AreUses own u (n + 1) c
inner_uses {own} {u} {n} {h} {c} {o} a = record {
  ends = λ j lt.
      let at : n + (1 + j) ≡ n + 1 + j = omega arith in
      let one : 1 + j ≡ suc j = omega arith in
      ap (λ i. get_or u.ends.items i 0) (sym at)
      ∙ a.ends (1 + j) (omega arith)
      ∙ ap (λ i. get_or (ends_from n (Then h c o)) i 0) one
      ∙ get_or_append_left (ends_from (n + 1) c) (ends_from (n + 1 + count c) o) 0 j (omega (arith, length-ends (n + 1) c));
  types = tells_inner word.Type own u.types n h c o a.types;
  groupings = tells_inner word.Uses own u.groupings n h c o a.groupings;
}

pub other_uses : {own : List ℕ} {u : Uses} {n : ℕ} {h : Head} {c o : Forest} → AreUses own u n (Then h c o) → AreUses own u (n + 1 + count c) o
other_uses {own} {u} {n} {h} {c} {o} a = record {
  ends = λ j lt.
      let at : n + (1 + count c + j) ≡ n + 1 + count c + j = omega arith in
      let one : 1 + count c + j ≡ suc (count c + j) = omega arith in
      ap (λ i. get_or u.ends.items i 0) (sym at)
      ∙ a.ends (1 + count c + j) (omega arith)
      ∙ ap (λ i. get_or (ends_from n (Then h c o)) i 0) one
      ∙ ap (λ i. get_or (ends_from (n + 1) c ++ ends_from (n + 1 + count c) o) (i + j) 0) (sym (length-ends (n + 1) c))
      ∙ get_or-append-add (ends_from (n + 1) c) (ends_from (n + 1 + count c) o) j 0;
  types = tells_others word.Type own u.types n h c o a.types;
  groupings = tells_others word.Uses own u.groupings n h c o a.groupings;
}

pub end_is : {own : List ℕ} {u : Uses} {n : ℕ} {h : Head} {c o : Forest} → AreUses own u n (Then h c o) → get_or u.ends.items n 0 ≡ n + 1 + count c
end_is {own} {u} {n} {h} {c} {o} a =
    let at : n ≡ n + 0 = omega arith in
    ap (λ i. get_or u.ends.items i 0) at ∙ a.ends 0 (omega arith)

-- ### all of a file

pub uses_known : (own : List ℕ) (a u : Uses) (m : ℕ) (f : Forest) → a.ends.items ≡ [] → m ≡ 0 → ((name : List ℕ) (j : ℕ) → has_use a.types name j ≡ false) → ((name : List ℕ) (j : ℕ) → has_use a.groupings name j ≡ false) → AddsUses own a u m f → AreUses own u 0 f
uses_known own a u m f none start types groupings g = record {
  ends = λ j lt.
      let at : 0 + j ≡ j = omega arith in
      ap (λ i. get_or u.ends.items i 0) at ∙ ap (λ xs. get_or xs j 0) (g.ends ∙ ap (λ xs. xs ++ ends_from m f) none ∙ ap (λ x. ends_from x f) start);
  types = λ name j le lt. g.types name j ∙ ap (λ b. b || use_at word.Type own name m f j) (types name j) ∙ ap (λ x. use_at word.Type own name x f j) start;
  groupings = λ name j le lt. g.groupings name j ∙ ap (λ b. b || use_at word.Uses own name m f j) (groupings name j) ∙ ap (λ x. use_at word.Uses own name x f j) start;
}

-- ### the first statement alone

ends_first : (n : ℕ) (h : Head) (c o : Forest) (j : ℕ) → j < count (Then h c End) → get_or (ends_from n (Then h c o)) j 0 ≡ get_or (ends_from n (Then h c End)) j 0
ends_first n h c o j lt =
    ap (λ xs. get_or xs j 0) (ends_then n h c o)
    ∙ get_or_append_left (ends_from n (Then h c End)) (ends_from (n + 1 + count c) o) 0 j (omega (arith, length-ends n (Then h c End)))

tells_first : (k : Keyword) (own : List ℕ) (s : UseSet) (n : ℕ) (h : Head) (c o : Forest) → Tells k own s n (Then h c o) → Tells k own s n (Then h c End)
tells_first k own s n h c o t = λ name j le lt.
    t name j le (omega arith)
    ∙ use_then k own name n h c o j
    ∙ ap (λ b. use_at k own name n (Then h c End) j || b) (use_before k own name (n + 1 + count c) o j (omega arith))
    ∙ or_false (use_at k own name n (Then h c End) j)
  where
    or_false : (b : Bool) → (b || false) ≡ b
    or_false true = refl
    or_false false = refl

pub first_uses : {own : List ℕ} {u : Uses} {n : ℕ} {h : Head} {c o : Forest} → AreUses own u n (Then h c o) → AreUses own u n (Then h c End)
first_uses {own} {u} {n} {h} {c} {o} a = record {
  ends = λ j lt. a.ends j (omega arith) ∙ ends_first n h c o j lt;
  types = tells_first word.Type own u.types n h c o a.types;
  groupings = tells_first word.Uses own u.groupings n h c o a.groupings;
}
