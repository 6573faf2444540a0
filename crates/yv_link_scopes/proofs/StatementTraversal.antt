-- Statements are told one by one, each with what stands in its block.
use Rattle.std.proofs.Common.{◌≡◌, ℕ, ◌+◌, ◌<◌, ◌≤◌, Bool, true, false, cond, List, [], ◌∷◌, ◌++◌, length, map, get_or, drop, Some, refl, sym, ◌∙◌, ap, append_assoc}
use Rattle.std.proofs.lemmas.List.{append-nil, map-append}
use Rattle.yv_text_statement.specs.Tree.{Head, Forest, Then, End, Tree}
use Rattle.yv_link_scopes.specs.Files.{Files, Briefs, brief_of, module_file_in}
use Rattle.yv_link_scopes.specs.Rows.{Row, tree, is_extended, row_list}
use Rattle.yv_link_scopes.specs.RowList.{roots_from, bodies, body_of, rows_of, statements_in, inner_statements, statements_of}
use Rattle.yv_link_scopes.specs.declared.entry.Entry.{Entry}
use Rattle.yv_link_scopes.proofs.Bodies.{next_drop, drop_end}

inner_of : Head → Forest → List Tree
inner_of h c = cond (is_extended h.keyword) [] (statements_in c)

-- a statement, and then the others
told_then : (h : Head) (c o : Forest) → statements_in (Then h c o) ≡ statements_in (Then h c End) ++ statements_in o
unfolding inner_of
told_then h c o = ap (λ xs. record { head = h; children = c } ∷ xs ++ statements_in o) (sym (append-nil (inner_of h c)))

-- what is left to tell completes the whole
pub record Tells (old now : List Tree) (whole rest : Forest) : Type 0 where
  pub completes : now ++ statements_in rest ≡ old ++ statements_in whole

pub tells_step : {old now next : List Tree} {whole rest after : Forest} (h : Head) (c : Forest) → Tells old now whole rest → rest ≡ Then h c after → next ≡ now ++ statements_in (Then h c End) → Tells old next whole after
tells_step {now = now} {after = after} h c l e n = record {
  completes =
      let one : List Tree = statements_in (Then h c End) in
      ap (λ xs. xs ++ statements_in after) n
      ∙ append_assoc now one (statements_in after)
      ∙ ap (λ xs. now ++ xs) (sym (told_then h c after))
      ∙ ap (λ f. now ++ statements_in f) (sym e)
      ∙ l.completes;
}

pub tells_end : {old now : List Tree} {whole rest : Forest} → Tells old now whole rest → rest ≡ End → now ≡ old ++ statements_in whole
tells_end {now = now} l e = sym (append-nil now) ∙ ap (λ f. now ++ statements_in f) (sym e) ∙ l.completes

cond_at : {X : Type 0} (b : Bool) (v : Bool) (x y : X) → b ≡ v → cond b x y ≡ cond v x y
cond_at b v x y e = ap (λ t. cond t x y) e

pub told_whole : (h : Head) (c : Forest) (old mid new : List Tree) → is_extended h.keyword ≡ false → mid ≡ old ++ record { head = h; children = c } ∷ [] → new ≡ mid ++ statements_in c → new ≡ old ++ statements_in (Then h c End)
told_whole h c old mid new plain m n =
    let one : Tree = record { head = h; children = c } in
    n
    ∙ ap (λ xs. xs ++ statements_in c) m
    ∙ append_assoc old (one ∷ []) (statements_in c)
    ∙ ap (λ xs. old ++ (one ∷ xs)) (sym (append-nil (statements_in c)) ∙ ap (λ xs. xs ++ []) (sym (cond_at (is_extended h.keyword) false [] (statements_in c) plain)))

pub told_bare : (h : Head) (c : Forest) (old new : List Tree) → is_extended h.keyword ≡ true → new ≡ old ++ record { head = h; children = c } ∷ [] → new ≡ old ++ statements_in (Then h c End)
told_bare h c old new bare n =
    n ∙ ap (λ xs. old ++ (record { head = h; children = c } ∷ xs ++ [])) (sym (cond_at (is_extended h.keyword) true [] (statements_in c) bare))

-- one more entry
pub pushed_tree : (old new : List Entry) (e : Entry) → new ≡ old ++ e ∷ [] → map tree new ≡ map tree old ++ tree e ∷ []
pushed_tree old new e h = ap (map tree) h ∙ map-append tree old (e ∷ [])

-- the roots, and then what stands in them
pub record TellsRoots (whole : Files) (now : List Tree) (i : ℕ) : Type 0 where
  pub completes : now ++ drop i whole ≡ whole

pub record TellsBodies (whole : Files) (now : List Tree) (i : ℕ) : Type 0 where
  pub completes : now ++ inner_statements (drop i whole) ≡ statements_of whole

pub tells_root : {whole : Files} {now next : List Tree} {i : ℕ} (t : Tree) → TellsRoots whole now i → i < length whole → t ≡ get_or whole i t → next ≡ now ++ t ∷ [] → TellsRoots whole next (i + 1)
tells_root {whole} {now} {next} {i} t l h e n = record {
  completes =
      ap (λ xs. xs ++ drop (i + 1) whole) n
      ∙ append_assoc now (t ∷ []) (drop (i + 1) whole)
      ∙ ap (λ ts. now ++ ts) (sym (next_drop whole i t h e))
      ∙ l.completes;
}

pub tells_body : {whole : Files} {now next : List Tree} {i : ℕ} (t : Tree) → TellsBodies whole now i → i < length whole → t ≡ get_or whole i t → next ≡ now ++ statements_in t.children → TellsBodies whole next (i + 1)
tells_body {whole} {now} {next} {i} t l h e n = record {
  completes =
      ap (λ xs. xs ++ inner_statements (drop (i + 1) whole)) n
      ∙ append_assoc now (statements_in t.children) (inner_statements (drop (i + 1) whole))
      ∙ ap (λ ts. now ++ inner_statements ts) (sym (next_drop whole i t h e))
      ∙ l.completes;
}

pub tells_start : {whole : Files} {now : List Tree} {i : ℕ} → TellsRoots whole now i → length whole ≤ i → TellsBodies whole now 0
tells_start {whole} {now} {i} l h = record {
  completes =
      let all : now ≡ whole = sym (append-nil now) ∙ ap (λ ts. now ++ ts) (sym (drop_end whole i h)) ∙ l.completes in
      ap (λ xs. xs ++ inner_statements whole) all;
}

pub tells_all : {whole : Files} {now : List Tree} {i : ℕ} → TellsBodies whole now i → length whole ≤ i → now ≡ statements_of whole
tells_all {whole} {now} {i} l h = sym (append-nil now) ∙ ap (λ ts. now ++ inner_statements ts) (sym (drop_end whole i h)) ∙ l.completes

-- ### rows

abbrev head_of : Tree → Head
head_of t = t.head

abbrev row_head : Row → Head
row_head r = r.head

heads_if : (b : Bool) (ts : List Tree) (rs : List Row) → map head_of ts ≡ map row_head rs → map head_of (cond b [] ts) ≡ map row_head (cond b [] rs)
heads_if true ts rs e = refl
heads_if false ts rs e = e

heads_both : (ts us : List Tree) (rs ss : List Row) → map head_of ts ≡ map row_head rs → map head_of us ≡ map row_head ss → map head_of (ts ++ us) ≡ map row_head (rs ++ ss)
heads_both ts us rs ss e f = map-append head_of ts us ∙ ap (λ xs. xs ++ map head_of us) e ∙ ap (λ xs. map row_head rs ++ xs) f ∙ sym (map-append row_head rs ss)

heads_in : (file scope number : ℕ) (f : Forest) → map head_of (statements_in f) ≡ map row_head (row_list file scope number f)
heads_in file scope number End = refl
heads_in file scope number (Then h c o) =
    let inner : List Row = cond (is_extended h.keyword) [] (row_list file number (number + 1) c) in
    ap (λ hs. h ∷ hs)
    (heads_both (cond (is_extended h.keyword) [] (statements_in c)) (statements_in o) inner (row_list file scope (number + 1 + length inner) o)
    (heads_if (is_extended h.keyword) (statements_in c) (row_list file number (number + 1) c) (heads_in file number (number + 1) c))
    (heads_in file scope (number + 1 + length inner) o))

heads_roots : (n : ℕ) (ts : Files) → map head_of ts ≡ map row_head (roots_from n ts)
heads_roots n [] = refl
heads_roots n (t ∷ ts) = ap (λ hs. t.head ∷ hs) (heads_roots (n + 1) ts)

heads_bodies : (files : Briefs) (number n : ℕ) (ts : Files) → map head_of (inner_statements ts) ≡ map row_head (bodies files number n ts)
heads_bodies files number n [] = refl
heads_bodies files number n (t ∷ ts) =
    heads_both (statements_in t.children) (inner_statements ts) (body_of files number n t) (bodies files (number + length (body_of files number n t)) (n + 1) ts)
    (heads_in n (module_file_in files n (Some (brief_of t))) number t.children)
    (heads_bodies files (number + length (body_of files number n t)) (n + 1) ts)

pub heads_same : (files : Files) → map head_of (statements_of files) ≡ map row_head (rows_of files)
heads_same files =
    heads_both files (inner_statements files) (roots_from 0 files) (bodies (map brief_of files) (length files) 0 files)
    (heads_roots 0 files) (heads_bodies (map brief_of files) (length files) 0 files)
