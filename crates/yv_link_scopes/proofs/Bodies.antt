-- The statements of all files, listed file by file.
use Rattle.std.proofs.Common.{◌≡◌, ℕ, ◌+◌, ◌<◌, ◌≤◌, zero, suc, Bool, true, false, cond, List, [], ◌∷◌, ◌++◌, length, map, get_or, drop, Option, Some, None, refl, sym, ◌∙◌, ap, arith, length-append, append_assoc, add-one, drop-cons}
use Rattle.std.specs.List.{slice_get}
use Rattle.std.specs.Option.{unwrap_or}
use Rattle.std.proofs.lemmas.List.{append-nil, drop_all, length-map}
use Rattle.std.proofs.lemmas.Option.{same_Some}
use Rattle.yv_text_statement.specs.Tree.{Tree, Forest, Then, End}
use Rattle.yv_link_scopes.specs.Rows.{Row, row_list, is_extended}
use Rattle.yv_link_scopes.specs.Files.{Files, Brief, Briefs, brief_of, file_named, module_file_in, module_file_at}
use Rattle.yv_link_scopes.specs.Scopes.{AreNested}
use Rattle.yv_link_scopes.specs.RowList.{roots_from, bodies, body_of, rows_of}
use Rattle.yv_link_scopes.proofs.Meanings.{named_within}

pub record Roots (whole : Files) (now : List Row) (i : ℕ) : Type 0 where
  pub completes : now ++ roots_from i (drop i whole) ≡ roots_from 0 whole

pub record Bodies (whole : Files) (now : List Row) (i : ℕ) : Type 0 where
  pub completes : now ++ bodies (map brief_of whole) (length now) i (drop i whole) ≡ rows_of whole

pub next_drop : (ts : Files) (i : ℕ) (t : Tree) → i < length ts → t ≡ get_or ts i t → drop i ts ≡ t ∷ drop (i + 1) ts
next_drop ts i t h e = rw (add-one, drop-cons ts i t h) (rw (← e) refl)

pub drop_end : (ts : Files) (i : ℕ) → length ts ≤ i → drop i ts ≡ []
drop_end ts i h = rw drop_all refl

pub body_is : (roots : Files) (files : Briefs) (number n k scope : ℕ) (t : Tree) (f : Forest) → files ≡ map brief_of roots → slice_get (map brief_of roots) number ≡ Some (brief_of t) → scope ≡ module_file_at files number → f ≡ t.children → n ≡ k → row_list number scope n f ≡ body_of (map brief_of roots) k number t
body_is roots files number n k scope t f same at s e m =
    ap (λ x. row_list number x n f) (s ∙ ap (λ xs. module_file_at xs number) same ∙ ap (module_file_in (map brief_of roots) number) at)
    ∙ ap (λ x. row_list number (module_file_in (map brief_of roots) number (Some (brief_of t))) x f) m
    ∙ ap (λ x. row_list number (module_file_in (map brief_of roots) number (Some (brief_of t))) k x) e

pub roots_step : {whole : Files} {now next : List Row} {i : ℕ} (t : Tree) → Roots whole now i → i < length whole → t ≡ get_or whole i t → next ≡ now ++ record { file = i; scope = i; head = t.head } ∷ [] → Roots whole next (i + 1)
roots_step {whole} {now} {next} {i} t l h e n = record {
  completes =
      ap (λ xs. xs ++ roots_from (i + 1) (drop (i + 1) whole)) n
      ∙ append_assoc now (record { file = i; scope = i; head = t.head } ∷ []) (roots_from (i + 1) (drop (i + 1) whole))
      ∙ ap (λ ts. now ++ roots_from i ts) (sym (next_drop whole i t h e))
      ∙ l.completes;
}

pub bodies_step : {whole : Files} {now next : List Row} {i : ℕ} (t : Tree) → Bodies whole now i → i < length whole → t ≡ get_or whole i t → next ≡ now ++ body_of (map brief_of whole) (length now) i t → Bodies whole next (i + 1)
bodies_step {whole} {now} {next} {i} t l h e n = record {
  completes =
      let files : Briefs = map brief_of whole in
      let body : List Row = body_of files (length now) i t in
      let count : length next ≡ length now + length body = ap length n ∙ length-append now body in
      ap (λ k. next ++ bodies files k (i + 1) (drop (i + 1) whole)) count
      ∙ ap (λ xs. xs ++ bodies files (length now + length body) (i + 1) (drop (i + 1) whole)) n
      ∙ append_assoc now body (bodies files (length now + length body) (i + 1) (drop (i + 1) whole))
      ∙ ap (λ ts. now ++ bodies files (length now) i ts) (sym (next_drop whole i t h e))
      ∙ l.completes;
}

length-roots : (n : ℕ) (ts : Files) → length (roots_from n ts) ≡ length ts
length-roots n [] = refl
length-roots n (t ∷ ts) = omega (arith, length-roots (n + 1) ts)

pub bodies_start : {whole : Files} {now : List Row} {i : ℕ} → Roots whole now i → length whole ≤ i → Bodies whole now 0
bodies_start {whole} {now} {i} l h = record {
  completes =
      let all : now ≡ roots_from 0 whole = sym (append-nil now) ∙ ap (λ ts. now ++ roots_from i ts) (sym (drop_end whole i h)) ∙ l.completes in
      let count : length now ≡ length whole = ap length all ∙ length-roots 0 whole in
      ap (λ k. now ++ bodies (map brief_of whole) k 0 whole) count ∙ ap (λ xs. xs ++ bodies (map brief_of whole) (length whole) 0 whole) all;
}

pub bodies_end : {whole : Files} {now : List Row} {i : ℕ} → Bodies whole now i → length whole ≤ i → now ≡ rows_of whole
bodies_end {whole} {now} {i} l h = sym (append-nil now) ∙ ap (λ ts. now ++ bodies (map brief_of whole) (length now) i ts) (sym (drop_end whole i h)) ∙ l.completes

-- each stands in an earlier block
abbrev pub NestedFrom : ℕ → List Row → Type 0
NestedFrom n [] = Unit {0}
NestedFrom n (r ∷ rs) = (r.scope ≤ n) × NestedFrom (n + 1) rs

nested_append : (n : ℕ) (xs ys : List Row) → NestedFrom n xs → ((k : ℕ) → k ≡ n + length xs → NestedFrom k ys) → NestedFrom n (xs ++ ys)
nested_append n [] ys h g = g n (omega arith)
nested_append n (x ∷ xs) ys h g = (h.0, nested_append (n + 1) xs ys h.1 (λ k e. g k (omega arith)))

nested_get : (n : ℕ) (rs : List Row) (i : ℕ) (r : Row) → NestedFrom n rs → slice_get rs i ≡ Some r → r.scope ≤ n + i
nested_get n [] i r h e = cc
nested_get n (x ∷ rs) zero r h e = let s : x.scope ≡ r.scope = ap (λ (y : Row). y.scope) (same_Some x r e) in omega (arith, h.0)
nested_get n (x ∷ rs) (suc i) r h e = let s : r.scope ≤ n + 1 + i = nested_get (n + 1) rs i r h.1 e in omega arith

nested_if : (b : Bool) (n : ℕ) (xs : List Row) → NestedFrom n xs → NestedFrom n (cond b [] xs)
nested_if true n xs h = tt
nested_if false n xs h = h

nested_listed : (file scope n : ℕ) (f : Forest) → scope ≤ n → NestedFrom n (row_list file scope n f)
nested_listed file scope n End h = tt
nested_listed file scope n (Then d c o) h =
    let inner : List Row = cond (is_extended d.keyword) [] (row_list file n (n + 1) c) in (
      h,
      nested_append (n + 1) inner (row_list file scope (n + 1 + length inner) o)
          (nested_if (is_extended d.keyword) (n + 1) (row_list file n (n + 1) c) (nested_listed file n (n + 1) c (omega arith)))
          (λ k e. rw e (nested_listed file scope (n + 1 + length inner) o (omega arith))),
    )

nested_roots : (n : ℕ) (ts : Files) → NestedFrom n (roots_from n ts)
nested_roots n [] = tt
nested_roots n (t ∷ ts) = (omega arith, nested_roots (n + 1) ts)

module_file_within : (files : Briefs) (n : ℕ) (b : Brief) → n < length files → module_file_in files n (Some b) < length files
module_file_within files n b h = at b.is_module (file_named files b.module_name) refl
  where
    other : (o : Option ℕ) → file_named files b.module_name ≡ o → unwrap_or o n < length files
    other None e = h
    other (Some m) e = named_within files b.module_name m e

    at : (m : Bool) (o : Option ℕ) → file_named files b.module_name ≡ o → cond m n (unwrap_or (file_named files b.module_name) n) < length files
    at true o e = h
    at false o e = other (file_named files b.module_name) refl

pub module_file_at_within : (files : Briefs) (n : ℕ) → n < length files → module_file_at files n < length files
module_file_at_within files n h = at (slice_get files n)
  where
    at : (o : Option Brief) → module_file_in files n o < length files
    at None = h
    at (Some b) = module_file_within files n b h

nested_bodies : (files : Briefs) (n i : ℕ) (ts : Files) → length files ≤ n → i + length ts ≤ length files → NestedFrom n (bodies files n i ts)
nested_bodies files n i [] h g = tt
nested_bodies files n i (t ∷ ts) h g =
    let module_file : module_file_in files i (Some (brief_of t)) < length files = module_file_within files i (brief_of t) (omega arith) in
    nested_append n (body_of files n i t) (bodies files (n + length (body_of files n i t)) (i + 1) ts)
    (nested_listed i (module_file_in files i (Some (brief_of t))) n t.children (omega arith))
    (λ k e. rw e (nested_bodies files (n + length (body_of files n i t)) (i + 1) ts (omega arith) (omega arith)))

-- a block stands in an earlier one, or in none
pub rows_nested : (files : Files) → AreNested (rows_of files)
rows_nested files i r at = let h : r.scope ≤ 0 + i =
    nested_get 0 (rows_of files) i r
    (nested_append 0 (roots_from 0 files) (bodies (map brief_of files) (length files) 0 files) (nested_roots 0 files)
    (λ k e. let n : k ≡ length files = omega (arith, e, length-roots 0 files) in rw n (nested_bodies (map brief_of files) (length files) 0 files (rw length-map (omega arith)) (rw length-map (omega arith)))))
    at in omega arith

pub rows_past_roots : (files : Files) → length files ≤ length (rows_of files)
rows_past_roots files = omega (arith, length-append (roots_from 0 files) (bodies (map brief_of files) (length files) 0 files), length-roots 0 files)
