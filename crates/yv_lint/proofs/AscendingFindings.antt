-- The findings in files ascend.
use Rattle.std.proofs.Common.{◌≡◌, ℕ, suc, ◌+◌, ◌<◌, ◌≤◌, ◌&&◌, inl, inr, Bool, true, false, cond, List, [], ◌∷◌, ◌++◌, map, filter, Some, refl, sym, ◌∙◌, subst, arith}
use Rattle.std.specs.List.{slice_get, flat_map, All}
use Rattle.std.proofs.lemmas.List.Concat.{flat_map-append}
use Rattle.std.proofs.lemmas.List.Elements.{All-head, All-tail}
use Rattle.yv_text_statement.specs.Selection.{ModuleChoice, is_implemented}
use Rattle.yv_text_statement.specs.Tree.{Head, Forest, Then, End, Tree}
use Rattle.yv_text_statement.specs.Offsets.{Ascends, IsInOrder, offsets}
use Rattle.yv_link_scopes.specs.Files.{Files, module_name}
use Rattle.yv_link_scopes.specs.Rows.{is_extended}
use Rattle.yv_lint.specs.declared.rule.Rule.{Rule}
use Rattle.yv_lint.specs.declared.finding.Finding.{Finding}
use Rattle.yv_lint.specs.RuleChoice.{RuleChoice}
use Rattle.yv_lint.specs.Findings.{finding_at, findings, findings_at, findings_from, findings_in, findings_of, findings_where}
use Rattle.yv_lint.specs.Order.{Ascend, IsBeforeAll}
use Rattle.yv_lint.specs.Places.{Place, place_at, places_in, places_of}
use Rattle.yv_lint.specs.Rules.{all_rules, stands_at, stands_at_root}

-- ### findings in a part of a file

-- these are in a file, from an offset on and before another
abbrev In : (file low high : ℕ) → List Finding → Type 0
In file low high [] = Unit {0}
In file low high (f ∷ fs) = ((f.file ≡ file) × (low ≤ f.offset) × (f.offset < high)) × In file low high fs

in_append : (file low high : ℕ) (xs ys : List Finding) → In file low high xs → In file low high ys → In file low high (xs ++ ys)
in_append file low high [] ys p q = q
in_append file low high (x ∷ xs) ys p q = (p.0, in_append file low high xs ys p.1 q)

in_wider : (file low high l h : ℕ) (xs : List Finding) → l ≤ low → high ≤ h → In file low high xs → In file l h xs
in_wider file low high l h [] a b p = tt
in_wider file low high l h (x ∷ xs) a b p = ((p.0.0, omega (arith, p.0.1), omega (arith, p.0.2)), in_wider file low high l h xs a b p.1)

before_in : (f : Finding) (file low high : ℕ) (gs : List Finding) → f.file ≡ file → f.offset < low → In file low high gs → IsBeforeAll f gs
before_in f file low high [] e lt p = tt
before_in f file low high (g ∷ gs) e lt p = (inr (e ∙ sym p.0.0, inl (omega (arith, p.0.1))), before_in f file low high gs e lt p.1)

before_append : (f : Finding) (xs ys : List Finding) → IsBeforeAll f xs → IsBeforeAll f ys → IsBeforeAll f (xs ++ ys)
before_append f [] ys p q = q
before_append f (x ∷ xs) ys p q = (p.0, before_append f xs ys p.1 q)

ascend_append : (file low mid high : ℕ) (xs ys : List Finding) → Ascend xs → Ascend ys → In file low mid xs → In file mid high ys → Ascend (xs ++ ys)
ascend_append file low mid high [] ys a b p q = b
ascend_append file low mid high (x ∷ xs) ys a b p q = (before_append x xs ys a.0 (before_in x file mid high ys p.0.0 p.0.2 q), ascend_append file low mid high xs ys a.1 b p.1 q)

-- ### at one statement

-- these are at an offset of a file, and their rules at places from one on
abbrev Later : (k file offset : ℕ) → List Finding → Type 0
Later k file offset [] = Unit {0}
Later k file offset (f ∷ fs) = ((f.file ≡ file) × (f.offset ≡ offset) × (i : ℕ) × (k ≤ i) × (slice_get all_rules i ≡ Some f.rule)) × Later k file offset fs

later_up : (k file offset : ℕ) (fs : List Finding) → Later (k + 1) file offset fs → Later k file offset fs
later_up k file offset [] p = tt
later_up k file offset (f ∷ fs) p = ((p.0.0, p.0.1, p.0.2, omega (arith, p.0.3), p.0.4), later_up k file offset fs p.1)

later_in : (k file offset : ℕ) (fs : List Finding) → Later k file offset fs → In file offset (offset + 1) fs
later_in k file offset [] p = tt
later_in k file offset (f ∷ fs) p = ((p.0.0, omega (arith, p.0.1), omega (arith, p.0.1)), later_in k file offset fs p.1)

before_later : (k : ℕ) (f : Finding) (gs : List Finding) → slice_get all_rules k ≡ Some f.rule → Later (k + 1) f.file f.offset gs → IsBeforeAll f gs
before_later k f [] at p = tt
before_later k f (g ∷ gs) at p = (inr (sym p.0.0, inr (sym p.0.1, record { first = k; second = p.0.2; below = omega (arith, p.0.3); at_first = at; at_second = p.0.4 })), before_later k f gs at p.1)

abbrev RulesFrom : ℕ → List Rule → Type 0
RulesFrom k rs = (j : ℕ) (r : Rule) → slice_get rs j ≡ Some r → slice_get all_rules (k + j) ≡ Some r

rules_rest : (k : ℕ) (r : Rule) (rs : List Rule) → RulesFrom k (r ∷ rs) → RulesFrom (k + 1) rs
rules_rest k r rs h = λ j s e. let at : k + suc j ≡ k + 1 + j = omega arith in subst (λ n. slice_get all_rules n ≡ Some s) at (h (suc j) s e)

abbrev Good : (k file offset : ℕ) → List Finding → Type 0
Good k file offset fs = Ascend fs × Later k file offset fs

rules_good : (p : Rule → Bool) (file : ℕ) (head : Head) (k : ℕ) (rs : List Rule) → RulesFrom k rs → Good k file head.offset (map (finding_at file head) (filter p rs))
rules_good p file head k [] h = (tt, tt)
rules_good p file head k (r ∷ rs) h = by (p r) (rules_good p file head (k + 1) rs (rules_rest k r rs h))
  where
    at : slice_get all_rules k ≡ Some r
    at = let same : k + 0 ≡ k = omega arith in subst (λ n. slice_get all_rules n ≡ Some r) same (h 0 r refl)

    by : (b : Bool) → Good (k + 1) file head.offset (map (finding_at file head) (filter p rs)) → Good k file head.offset (map (finding_at file head) (cond b (r ∷ filter p rs) (filter p rs)))
    by true g = (
      (before_later k (finding_at file head r) (map (finding_at file head) (filter p rs)) at g.1, g.0),
      ((refl, refl, k, omega arith, at), later_up k file head.offset (map (finding_at file head) (filter p rs)) g.1),
    )
    by false g = (g.0, later_up k file head.offset (map (finding_at file head) (filter p rs)) g.1)

rules_all : RulesFrom 0 all_rules
rules_all = λ j r e. let same : j ≡ 0 + j = omega arith in subst (λ n. slice_get all_rules n ≡ Some r) same e

where_good : (asked : RuleChoice) (stands : Rule → Bool) (file : ℕ) (head : Head) → Ascend (findings_where asked stands file head) × In file head.offset (head.offset + 1) (findings_where asked stands file head)
where_good asked stands file head =
    let g = rules_good (λ rule. asked rule && stands rule) file head 0 all_rules rules_all in
    (g.0, later_in 0 file head.offset (findings_where asked stands file head) g.1)

-- ### below a root

abbrev Below : ℕ → List ℕ → Type 0
Below high [] = Unit {0}
Below high (n ∷ ns) = (n < high) × Below high ns

below_left : (high : ℕ) (xs ys : List ℕ) → Below high (xs ++ ys) → Below high xs
below_left high [] ys p = tt
below_left high (x ∷ xs) ys p = (p.0, below_left high xs ys p.1)

below_right : (high : ℕ) (xs ys : List ℕ) → Below high (xs ++ ys) → Below high ys
below_right high [] ys p = p
below_right high (x ∷ xs) ys p = below_right high xs ys p.1

record Split (low : ℕ) (xs ys : List ℕ) : Type 0 where
  mid : ℕ
  above : low ≤ mid
  first : Ascends low xs
  below : Below mid xs
  second : Ascends mid ys

split : (low : ℕ) (xs ys : List ℕ) → Ascends low (xs ++ ys) → Split low xs ys
split low [] ys h = record { mid = low; above = omega arith; first = tt; below = tt; second = h }
split low (x ∷ xs) ys h =
    let s = split (x + 1) xs ys h.1 in
    let a : x + 1 ≤ s.mid = s.above in
    record { mid = s.mid; above = omega (arith, a, h.0); first = (h.0, s.first); below = (omega (arith, a), s.below); second = s.second }

module _ (asked : RuleChoice) (files : Files) (file : ℕ) (root : Tree) where
  abbrev Sound : ℕ → ℕ → List Finding → Type 0
  Sound low high fs = Ascend fs × In file low high fs

  places_sound : (f : Forest) (p : Tree) (top : Bool) (before : List Tree) (low high : ℕ) → Ascends low (offsets f) → Below high (offsets f) → Sound low high (flat_map (findings_at asked files file root) (places_in p top before f))
  places_sound End p top before low high a b = (tt, tt)
  places_sound (Then h c o) p top before low high a b =
      let s = split (h.offset + 1) (offsets c) (offsets o) a.1 in
      let t : Tree = record { head = h; children = c } in
      let up : h.offset + 1 ≤ s.mid = s.above in
      let inside = below_left high (offsets c) (offsets o) b.1 in
      let after = below_right high (offsets c) (offsets o) b.1 in
      by (is_extended h.keyword) s.mid up
      (places_sound c t false [] (h.offset + 1) s.mid s.first s.below)
      (places_sound c t false [] (h.offset + 1) high s.first inside)
      (places_sound o p top (before ++ t ∷ []) s.mid high s.second after)
    where
      by : (b : Bool) (mid : ℕ) → h.offset + 1 ≤ mid → Sound (h.offset + 1) mid (flat_map (findings_at asked files file root) (places_in (record { head = h; children = c }) false [] c)) → Sound (h.offset + 1) high (flat_map (findings_at asked files file root) (places_in (record { head = h; children = c }) false [] c)) → Sound mid high (flat_map (findings_at asked files file root) (places_in p top (before ++ record { head = h; children = c } ∷ []) o)) → Sound low high (flat_map (findings_at asked files file root) (cond b [] (place_at p top before (record { head = h; children = c }) ∷ places_in (record { head = h; children = c }) false [] c) ++ places_in p top (before ++ record { head = h; children = c } ∷ []) o))
      by true mid up first whole rest = (rest.0, in_wider file mid high low high (flat_map (findings_at asked files file root) (places_in p top (before ++ record { head = h; children = c } ∷ []) o)) (omega (arith, up, a.0)) (omega arith) rest.1)
      by false mid up first whole rest =
          let inner : List Place = places_in (record { head = h; children = c }) false [] c in
          let others : List Place = places_in p top (before ++ record { head = h; children = c } ∷ []) o in
          let F : List Place → List Finding = λ ps. flat_map (findings_at asked files file root) ps in
          let own : List Finding = findings_where asked (stands_at files root (place_at p top before (record { head = h; children = c }))) file h in
          let g = where_good asked (stands_at files root (place_at p top before (record { head = h; children = c }))) file h in
          let joined : Ascend (F inner ++ F others) = ascend_append file (h.offset + 1) mid high (F inner) (F others) first.0 rest.0 first.1 rest.1 in
          let within : In file (h.offset + 1) high (F inner ++ F others) = in_append file (h.offset + 1) high (F inner) (F others) whole.1 (in_wider file mid high (h.offset + 1) high (F others) up (omega arith) rest.1) in
          let all : Sound low high (own ++ (F inner ++ F others)) = (
            ascend_append file h.offset (h.offset + 1) high own (F inner ++ F others) g.0 joined g.1 within,
            in_append file low high own (F inner ++ F others)
                (in_wider file h.offset (h.offset + 1) low high own a.0 (omega (arith, b.0)) g.1)
                (in_wider file (h.offset + 1) high low high (F inner ++ F others) (omega (arith, a.0)) (omega arith) within),
          ) in
          subst (λ xs. Sound low high (own ++ xs)) (sym (flat_map-append (findings_at asked files file root) inner others)) all

  -- all in one file
  abbrev Of : List Finding → Type 0
  Of [] = Unit {0}
  Of (f ∷ fs) = (f.file ≡ file) × Of fs

  of_in : (low high : ℕ) (fs : List Finding) → In file low high fs → Of fs
  of_in low high [] p = tt
  of_in low high (f ∷ fs) p = (p.0.0, of_in low high fs p.1)

  of_append : (xs ys : List Finding) → Of xs → Of ys → Of (xs ++ ys)
  of_append [] ys p q = q
  of_append (x ∷ xs) ys p q = (p.0, of_append xs ys p.1 q)

  pub file_sound : (path : List ℕ) → IsInOrder root → Ascend (findings_in asked files file path root) × Of (findings_in asked files file path root)
  file_sound path h =
      let own : List Finding = findings_where asked (stands_at_root path root) file root.head in
      let g = where_good asked (stands_at_root path root) file root.head in
      let s = split (root.head.offset + 1) (offsets root.children) [] h.1 in
      let inner : List Finding = flat_map (findings_at asked files file root) (places_of root) in
      let r = places_sound root.children root true [] (root.head.offset + 1) s.mid s.first s.below in (
        ascend_append file root.head.offset (root.head.offset + 1) s.mid own inner g.0 r.0 g.1 r.1,
        of_append own inner (of_in root.head.offset (root.head.offset + 1) own g.1) (of_in (root.head.offset + 1) s.mid inner r.1),
      )

-- ### in all files

abbrev From : ℕ → List Finding → Type 0
From n [] = Unit {0}
From n (f ∷ fs) = (n ≤ f.file) × From n fs

from_of : (asked : RuleChoice) (files : Files) (n : ℕ) (root : Tree) (fs : List Finding) → Of asked files n root fs → From n fs
from_of asked files n root [] p = tt
from_of asked files n root (f ∷ fs) p = (omega (arith, p.0), from_of asked files n root fs p.1)

from_up : (n : ℕ) (fs : List Finding) → From (n + 1) fs → From n fs
from_up n [] p = tt
from_up n (f ∷ fs) p = (omega (arith, p.0), from_up n fs p.1)

from_append : (n : ℕ) (xs ys : List Finding) → From n xs → From n ys → From n (xs ++ ys)
from_append n [] ys p q = q
from_append n (x ∷ xs) ys p q = (p.0, from_append n xs ys p.1 q)

before_from : (f : Finding) (n : ℕ) (gs : List Finding) → f.file ≡ n → From (n + 1) gs → IsBeforeAll f gs
before_from f n [] e p = tt
before_from f n (g ∷ gs) e p = (inl (omega (arith, e, p.0)), before_from f n gs e p.1)

ascend_from : (asked : RuleChoice) (files : Files) (n : ℕ) (root : Tree) (xs ys : List Finding) → Ascend xs → Of asked files n root xs → Ascend ys → From (n + 1) ys → Ascend (xs ++ ys)
ascend_from asked files n root [] ys a p b q = b
ascend_from asked files n root (x ∷ xs) ys a p b q = (before_append x xs ys a.0 (before_from x n ys p.0 q), ascend_from asked files n root xs ys a.1 p.1 b q)

module _ (asked : RuleChoice) (choice : ModuleChoice) (files : Files) where
  of_sound : (n : ℕ) (path : List ℕ) (root : Tree) → IsInOrder root → Ascend (findings_of asked choice files n path root) × Of asked files n root (findings_of asked choice files n path root)
  of_sound n path root h = by (is_implemented choice (module_name root)) (file_sound asked files n root path h)
    where
      by : (b : Bool) → Ascend (findings_in asked files n path root) × Of asked files n root (findings_in asked files n path root) → Ascend (cond b (findings_in asked files n path root) []) × Of asked files n root (cond b (findings_in asked files n path root) [])
      by true g = g
      by false g = (tt, tt)

  from_sound : (n : ℕ) (paths : List (List ℕ)) (roots : Files) → All IsInOrder roots → Ascend (findings_from asked choice files n paths roots) × From n (findings_from asked choice files n paths roots)
  from_sound n [] roots h = (tt, tt)
  from_sound n (path ∷ paths) [] h = (tt, tt)
  from_sound n (path ∷ paths) (root ∷ roots) h =
      let own : List Finding = findings_of asked choice files n path root in
      let rest : List Finding = findings_from asked choice files (n + 1) paths roots in
      let g = of_sound n path root (All-head IsInOrder root roots h) in
      let r = from_sound (n + 1) paths roots (All-tail IsInOrder root roots h) in
      (ascend_from asked files n root own rest g.0 g.1 r.0 r.1, from_append n own rest (from_of asked files n root own g.1) (from_up n rest r.1))

  pub findings_ascend : (paths : List (List ℕ)) → All IsInOrder files → Ascend (findings asked choice paths files)
  findings_ascend paths h = (from_sound 0 paths files h).0
