-- Statements are numbered in the order of their offsets.
use Rattle.std.proofs.Common.{◌≡◌, ℕ, ◌+◌, ◌<◌, ◌≤◌, ◌⊎◌, inl, inr, zero, suc, Bool, true, false, cond, List, [], ◌∷◌, ◌++◌, length, map, Some, refl, sym, ◌∙◌, ap, subst, arith}
use Rattle.std.specs.List.{slice_get}
use Rattle.std.proofs.lemmas.Option.{same_Some}
use Rattle.yv_text_statement.specs.Tree.{Tree, Forest, Then, End}
use Rattle.yv_link_scopes.specs.Files.{Files, Briefs, brief_of, module_file_in}
use Rattle.yv_link_scopes.specs.Rows.{Row, row_list, is_extended}
use Rattle.yv_link_scopes.specs.RowList.{roots_from, bodies, body_of, rows_of}
use Rattle.yv_link_scopes.specs.Order.{FollowOffsets}
use Rattle.yv_text_statement.specs.Offsets.{offsets, Ascends, IsInOrder}

-- one above the last of these
abbrev above : ℕ → List ℕ → ℕ
above low [] = low
above low (n ∷ ns) = above (n + 1) ns

above_low : (low : ℕ) (ns : List ℕ) → Ascends low ns → low ≤ above low ns
above_low low [] h = omega arith
above_low low (n ∷ ns) h = omega (arith, h.0, above_low (n + 1) ns h.1)

above_append : (low : ℕ) (ns ms : List ℕ) → above low (ns ++ ms) ≡ above (above low ns) ms
above_append low [] ms = refl
above_append low (n ∷ ns) ms = above_append (n + 1) ns ms

ascends_left : (low : ℕ) (ns ms : List ℕ) → Ascends low (ns ++ ms) → Ascends low ns
ascends_left low [] ms h = tt
ascends_left low (n ∷ ns) ms h = (h.0, ascends_left (n + 1) ns ms h.1)

ascends_right : (low : ℕ) (ns ms : List ℕ) → Ascends low (ns ++ ms) → Ascends (above low ns) ms
ascends_right low [] ms h = h
ascends_right low (n ∷ ns) ms h = ascends_right (n + 1) ns ms h.1

-- the offsets of those that are of the file ascend between these
abbrev Rises : ℕ → ℕ → ℕ → List Row → Type 0
Rises file low high [] = low ≤ high
Rises file low high (r ∷ rs) =
    ((r.file ≡ file → ⊥) × Rises file low high rs) ⊎ ((low ≤ r.head.offset) × Rises file (r.head.offset + 1) high rs)

module _ (file : ℕ) where
  rises_append : (low mid high : ℕ) (rs ss : List Row) → Rises file low mid rs → Rises file mid high ss → Rises file low high (rs ++ ss)
  rises_append low mid high [] [] h g = omega (arith, h, g)
  rises_append low mid high [] (s ∷ ss) h g = elim g [
    | inl x ↦ inl (x.0, rises_append low mid high [] ss h x.1)
    | inr x ↦ inr (omega (arith, h, x.0), x.1)
  ]
  rises_append low mid high (r ∷ rs) ss h g = elim h [
    | inl x ↦ inl (x.0, rises_append low mid high rs ss x.1 g)
    | inr x ↦ inr (x.0, rises_append (r.head.offset + 1) mid high rs ss x.1 g)
  ]

  rises_low : (low high : ℕ) (rs : List Row) (i : ℕ) (r : Row) → Rises file low high rs → slice_get rs i ≡ Some r → r.file ≡ file → low ≤ r.head.offset
  rises_low low high [] i r h e f = cc
  rises_low low high (x ∷ rs) zero r h e f =
      let same : x ≡ r = same_Some x r e in
      let at : x.head.offset ≡ r.head.offset = ap (λ (y : Row). y.head.offset) same in
      elim h [
        | inl p ↦ absurd (p.0 (ap (λ (y : Row). y.file) same ∙ f))
        | inr p ↦ omega (arith, p.0, at)
      ]
  rises_low low high (x ∷ rs) (suc i) r h e f = elim h [
    | inl p ↦ rises_low low high rs i r p.1 e f
    | inr p ↦ (let next : x.head.offset + 1 ≤ r.head.offset = rises_low (x.head.offset + 1) high rs i r p.1 e f in omega (arith, p.0, next))
  ]

  rises_two : (low high : ℕ) (rs : List Row) (i j : ℕ) (p q : Row) → Rises file low high rs → i < j → slice_get rs i ≡ Some p → slice_get rs j ≡ Some q → p.file ≡ file → q.file ≡ file → p.head.offset < q.head.offset
  rises_two low high [] i j p q h l d e f g = cc
  rises_two low high (x ∷ rs) i zero p q h l d e f g = absurd (omega (arith, l))
  rises_two low high (x ∷ rs) zero (suc j) p q h l d e f g =
      let same : x ≡ p = same_Some x p d in
      let at : x.head.offset ≡ p.head.offset = ap (λ (y : Row). y.head.offset) same in
      elim h [
        | inl y ↦ absurd (y.0 (ap (λ (z : Row). z.file) same ∙ f))
        | inr y ↦ (let next : x.head.offset + 1 ≤ q.head.offset = rises_low (x.head.offset + 1) high rs j q y.1 e g in omega (arith, at, next))
      ]
  rises_two low high (x ∷ rs) (suc i) (suc j) p q h l d e f g = elim h [
    | inl y ↦ rises_two low high rs i j p q y.1 (omega (arith, l)) d e f g
    | inr y ↦ rises_two (x.head.offset + 1) high rs i j p q y.1 (omega (arith, l)) d e f g
  ]

  -- ### the file's own

  own_if : (b : Bool) (low high : ℕ) (rs : List Row) → low ≤ high → Rises file low high rs → Rises file low high (cond b [] rs)
  own_if true low high rs l h = l
  own_if false low high rs l h = h

  own_listed : (low of scope number : ℕ) (f : Forest) → Ascends low (offsets f) → Rises file low (above low (offsets f)) (row_list of scope number f)
  own_listed low of scope number End h = omega arith
  own_listed low of scope number (Then d c o) h =
      let inner : List Row = cond (is_extended d.keyword) [] (row_list of number (number + 1) c) in
      let rest : List Row = row_list of scope (number + 1 + length inner) o in
      let mid : ℕ = above (d.offset + 1) (offsets c) in
      let left : Ascends (d.offset + 1) (offsets c) = ascends_left (d.offset + 1) (offsets c) (offsets o) h.1 in
      let below : Rises file (d.offset + 1) mid inner =
      own_if (is_extended d.keyword) (d.offset + 1) mid (row_list of number (number + 1) c) (above_low (d.offset + 1) (offsets c) left) (own_listed (d.offset + 1) of number (number + 1) c left) in
      let behind : Rises file mid (above mid (offsets o)) rest =
      own_listed mid of scope (number + 1 + length inner) o (ascends_right (d.offset + 1) (offsets c) (offsets o) h.1) in
      inr (
        h.0,
        subst (λ (m : ℕ). Rises file (d.offset + 1) m (inner ++ rest)) (sym (above_append (d.offset + 1) (offsets c) (offsets o)))
            (rises_append (d.offset + 1) mid (above mid (offsets o)) inner rest below behind),
      )

  -- ### others

  other_if : (b : Bool) (low : ℕ) (rs : List Row) → Rises file low low rs → Rises file low low (cond b [] rs)
  other_if true low rs h = omega arith
  other_if false low rs h = h

  other_listed : (low of scope number : ℕ) (f : Forest) → (of ≡ file → ⊥) → Rises file low low (row_list of scope number f)
  other_listed low of scope number End other = omega arith
  other_listed low of scope number (Then d c o) other =
      let inner : List Row = cond (is_extended d.keyword) [] (row_list of number (number + 1) c) in
      let rest : List Row = row_list of scope (number + 1 + length inner) o in
      inl (
        other,
        rises_append low low low inner rest
            (other_if (is_extended d.keyword) low (row_list of number (number + 1) c) (other_listed low of number (number + 1) c other))
            (other_listed low of scope (number + 1 + length inner) o other),
      )

  other_roots : (low n : ℕ) (ts : Files) → file < n → Rises file low low (roots_from n ts)
  other_roots low n [] h = omega arith
  other_roots low n (t ∷ ts) h = inl (λ e. absurd (omega (arith, h, e)), other_roots low (n + 1) ts (omega (arith, h)))

  other_bodies : (low : ℕ) (files : Briefs) (number n : ℕ) (ts : Files) → file < n → Rises file low low (bodies files number n ts)
  other_bodies low files number n [] h = omega arith
  other_bodies low files number n (t ∷ ts) h =
      rises_append low low low (body_of files number n t) (bodies files (number + length (body_of files number n t)) (n + 1) ts)
      (other_listed low n (module_file_in files n (Some (brief_of t))) number t.children (λ e. absurd (omega (arith, h, e))))
      (other_bodies low files (number + length (body_of files number n t)) (n + 1) ts (omega (arith, h)))

  -- ### all files

  roots_rise : (n i : ℕ) (ts : Files) (root : Tree) → n + i ≡ file → slice_get ts i ≡ Some root → Rises file 0 (root.head.offset + 1) (roots_from n ts)
  roots_rise n i [] root e at = cc
  roots_rise n zero (t ∷ ts) root e at =
      let same : t.head.offset ≡ root.head.offset = ap (λ (x : Tree). x.head.offset) (same_Some t root at) in
      inr (omega arith, subst (λ (m : ℕ). Rises file (t.head.offset + 1) (m + 1) (roots_from (n + 1) ts)) same (other_roots (t.head.offset + 1) (n + 1) ts (omega (arith, e))))
  roots_rise n (suc i) (t ∷ ts) root e at =
      inl (λ f. absurd (omega (arith, e, f)), roots_rise (n + 1) i ts root (omega (arith, e)) at)

  bodies_rise : (low : ℕ) (files : Briefs) (number n i : ℕ) (ts : Files) (root : Tree) → n + i ≡ file → slice_get ts i ≡ Some root → Ascends low (offsets root.children) → Rises file low (above low (offsets root.children)) (bodies files number n ts)
  bodies_rise low files number n i [] root e at h = cc
  bodies_rise low files number n zero (t ∷ ts) root e at h =
      let same : t ≡ root = same_Some t root at in
      let high : ℕ = above low (offsets t.children) in
      let mine : Rises file low high (body_of files number n t) =
      own_listed low n (module_file_in files n (Some (brief_of t))) number t.children (subst (λ (x : Tree). Ascends low (offsets x.children)) (sym same) h) in
      let others : Rises file high high (bodies files (number + length (body_of files number n t)) (n + 1) ts) =
      other_bodies high files (number + length (body_of files number n t)) (n + 1) ts (omega (arith, e)) in
      subst (λ (x : Tree). Rises file low (above low (offsets x.children)) (bodies files number n (t ∷ ts))) same
      (rises_append low high high (body_of files number n t) (bodies files (number + length (body_of files number n t)) (n + 1) ts) mine others)
  bodies_rise low files number n (suc i) (t ∷ ts) root e at h =
      rises_append low low (above low (offsets root.children)) (body_of files number n t) (bodies files (number + length (body_of files number n t)) (n + 1) ts)
      (other_listed low n (module_file_in files n (Some (brief_of t))) number t.children (λ f. absurd (omega (arith, e, f))))
      (bodies_rise low files (number + length (body_of files number n t)) (n + 1) i ts root (omega (arith, e)) at h)

-- in a file in order the statements are numbered by their offsets
pub rows_follow : (files : Files) (file : ℕ) (root : Tree) → slice_get files file ≡ Some root → IsInOrder root → FollowOffsets (rows_of files) file
rows_follow files file root at h = λ i j p q l d e f g.
    let low : ℕ = root.head.offset + 1 in
    let high : ℕ = above low (offsets root.children) in
    let roots : List Row = roots_from 0 files in
    let rest : List Row = bodies (map brief_of files) (length files) 0 files in
    let all : Rises file 0 high (roots ++ rest) =
    rises_append file 0 low high roots rest
    (roots_rise file 0 file files root (omega arith) at)
    (bodies_rise file low (map brief_of files) (length files) 0 file files root (omega arith) at (ascends_left low (offsets root.children) [] h.1)) in
    rises_two file 0 high (roots ++ rest) i j p q all l d e f g
