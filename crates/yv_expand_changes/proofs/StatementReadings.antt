-- Lists of what is read of statements.
use Rattle.std.proofs.Common.{◌≡◌, ℕ, ◌+◌, ◌<◌, ◌≤◌, zero, suc, Bool, List, [], ◌∷◌, ◌++◌, length, map, drop, get_or, Some, None, refl, sym, ◌∙◌, ap, arith, append_assoc, append-nil}
use Rattle.std.specs.List.{slice_get}
use Rattle.std.specs.Option.{option_map}
use Rattle.std.proofs.lemmas.List.{drop_all, drop_more, length-map}
use Rattle.std.proofs.lemmas.Option.{get_or_from_slice_get, slice_get-get_or, slice_get-map, slice_get_read, slice_get_within}
use Rattle.yv_text_statement.specs.Tree.{Tree}
use Rattle.yv_link_scopes.specs.Rows.{Row}
use Rattle.yv_node_properties.specs.Statements.{no_statement}
use Rattle.yv_expand_statements.specs.Truth.{Truth}
use Rattle.yv_expand_changes.specs.IfFeatures.{is_on, marks_of}
use Rattle.yv_expand_changes.specs.InnerIfFeatures.{is_on_in}

-- the view of a list's item
pub row_read : {A B : Type 0} (f : A → B) (xs : List A) (ys : List B) (k : ℕ) (x : A) → map f xs ≡ ys → k < length xs → x ≡ get_or xs k x → slice_get ys k ≡ Some (f x)
row_read f xs ys k x e h is = ap (λ l. slice_get l k) (sym e) ∙ slice_get-map f xs k ∙ ap (option_map f) (slice_get_read xs (length xs) k x refl h is)

pub rows_count : {A B : Type 0} (f : A → B) (xs : List A) (ys : List B) → map f xs ≡ ys → length xs ≡ length ys
rows_count f xs ys e = sym (length-map xs f) ∙ ap length e

-- what is read past the last item
pub not_there : {X : Type 0} (xs : List X) (i : ℕ) (d : X) → slice_get xs i ≡ None → get_or xs i d ≡ d
not_there [] i d h = refl
not_there (x ∷ xs) zero d h = cc
not_there (x ∷ xs) (suc i) d h = not_there xs i d h

-- what stands from a place on
rest_of : {A : Type 0} (xs : List A) (i : ℕ) (x : A) → slice_get xs i ≡ Some x → drop i xs ≡ x ∷ drop (i + 1) xs
rest_of xs i x at = drop_more xs i x (slice_get_within xs i x at) ∙ ap (λ z. z ∷ drop (i + 1) xs) (get_or_from_slice_get xs i x x at)

-- one value more, where those behind are known
pub next_value : {Y : Type 0} (old new behind all : List Y) (y z : Y) → new ≡ old ++ y ∷ [] → y ≡ z → old ++ z ∷ behind ≡ all → new ++ behind ≡ all
next_value old new behind all y z now is before =
    ap (λ l. l ++ behind) now ∙ append_assoc old (y ∷ []) behind ∙ ap (λ v. old ++ v ∷ behind) is ∙ before

last_value : {Y : Type 0} (old behind all : List Y) → behind ≡ [] → old ++ behind ≡ all → old ≡ all
last_value old behind all none before = sym (append-nil old) ∙ ap (λ l. old ++ l) (sym none) ∙ before

module _ (truth : Truth) (rows : List Row) (ts : List Tree) (same : map (λ (t : Tree). t.head) ts ≡ map (λ (r : Row). r.head) rows) where
  -- each row is of a statement
  standing : (n : ℕ) (r : Row) → slice_get rows n ≡ Some r → slice_get ts n ≡ Some (get_or ts n no_statement)
  standing n r at =
      slice_get-get_or ts n no_statement
      (let w = slice_get_within rows n r at in let e : length ts ≡ length rows = rows_count (λ (t : Tree). t.head) ts (map (λ (q : Row). q.head) rows) same ∙ length-map rows (λ q. q.head) in omega (arith, w, e))

  pub marks_more : (n : ℕ) (r : Row) (m : Bool) (old new : List Bool) → slice_get rows n ≡ Some r → m ≡ is_on_in truth r.file (slice_get ts n) → new ≡ old ++ m ∷ []
      → old ++ marks_of truth (drop n rows) (drop n ts) ≡ marks_of truth rows ts → new ++ marks_of truth (drop (n + 1) rows) (drop (n + 1) ts) ≡ marks_of truth rows ts
  marks_more n r m old new at is now before =
      let t : Tree = get_or ts n no_statement in
      let there : slice_get ts n ≡ Some t = standing n r at in
      next_value old new (marks_of truth (drop (n + 1) rows) (drop (n + 1) ts)) (marks_of truth rows ts) m (is_on truth r.file t.children) now (is ∙ ap (is_on_in truth r.file) there)
      (ap (λ l. old ++ l)
      (ap (λ l. marks_of truth (r ∷ drop (n + 1) rows) l) (sym (rest_of ts n t there))
      ∙ ap (λ l. marks_of truth l (drop n ts)) (sym (rest_of rows n r at)))
      ∙ before)

  pub marks_all : (n : ℕ) (marks : List Bool) → length rows ≤ n → marks ++ marks_of truth (drop n rows) (drop n ts) ≡ marks_of truth rows ts → marks ≡ marks_of truth rows ts
  marks_all n marks past h =
      last_value marks (marks_of truth (drop n rows) (drop n ts)) (marks_of truth rows ts) (ap (λ l. marks_of truth l (drop n ts)) (drop_all n rows past)) h
