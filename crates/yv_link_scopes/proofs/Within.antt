-- The numbers of files in rows, and where the roots stand.
use Rattle.std.proofs.Common.{◌≡◌, ℕ, ◌+◌, ◌<◌, ◌≤◌, zero, suc, Bool, true, false, cond, List, [], ◌∷◌, ◌++◌, length, map, Some, ◌∙◌, ap, arith}
use Rattle.std.specs.List.{slice_get}
use Rattle.std.proofs.lemmas.Option.{same_Some}
use Rattle.yv_text_statement.specs.Tree.{Tree, Forest, Then, End}
use Rattle.yv_link_scopes.specs.Files.{Files, Briefs, brief_of, module_file_in}
use Rattle.yv_link_scopes.specs.Rows.{Row, row_list, is_extended}
use Rattle.yv_link_scopes.specs.RowList.{roots_from, bodies, body_of, rows_of}

-- each is of a file before this one
abbrev pub AreOf : ℕ → List Row → Type 0
AreOf n [] = Unit {0}
AreOf n (r ∷ rs) = (r.file < n) × AreOf n rs

of_append : (n : ℕ) (xs ys : List Row) → AreOf n xs → AreOf n ys → AreOf n (xs ++ ys)
of_append n [] ys h g = g
of_append n (x ∷ xs) ys h g = (h.0, of_append n xs ys h.1 g)

of_get : (n : ℕ) (rs : List Row) (i : ℕ) (r : Row) → AreOf n rs → slice_get rs i ≡ Some r → r.file < n
of_get n [] i r h e = cc
of_get n (x ∷ rs) zero r h e = let s : x.file ≡ r.file = ap (λ (y : Row). y.file) (same_Some x r e) in omega (arith, h.0)
of_get n (x ∷ rs) (suc i) r h e = of_get n rs i r h.1 e

of_if : (b : Bool) (n : ℕ) (xs : List Row) → AreOf n xs → AreOf n (cond b [] xs)
of_if true n xs h = tt
of_if false n xs h = h

of_listed : (n file scope number : ℕ) (f : Forest) → file < n → AreOf n (row_list file scope number f)
of_listed n file scope number End h = tt
of_listed n file scope number (Then d c o) h =
    let inner : List Row = cond (is_extended d.keyword) [] (row_list file number (number + 1) c) in (
      h,
      of_append n inner (row_list file scope (number + 1 + length inner) o)
          (of_if (is_extended d.keyword) n (row_list file number (number + 1) c) (of_listed n file number (number + 1) c h))
          (of_listed n file scope (number + 1 + length inner) o h),
    )

of_roots : (n k : ℕ) (ts : Files) → k + length ts ≤ n → AreOf n (roots_from k ts)
of_roots n k [] h = tt
of_roots n k (t ∷ ts) h = (omega arith, of_roots n (k + 1) ts (omega arith))

of_bodies : (n : ℕ) (files : Briefs) (number k : ℕ) (ts : Files) → k + length ts ≤ n → AreOf n (bodies files number k ts)
of_bodies n files number k [] h = tt
of_bodies n files number k (t ∷ ts) h =
    of_append n (body_of files number k t) (bodies files (number + length (body_of files number k t)) (k + 1) ts)
    (of_listed n k (module_file_in files k (Some (brief_of t))) number t.children (omega arith))
    (of_bodies n files (number + length (body_of files number k t)) (k + 1) ts (omega arith))

-- each statement is one of the files
pub rows_of_files : (files : Files) (i : ℕ) (r : Row) → slice_get (rows_of files) i ≡ Some r → r.file < length files
rows_of_files files i r = of_get (length files) (rows_of files) i r
    (of_append (length files) (roots_from 0 files) (bodies (map brief_of files) (length files) 0 files) (of_roots (length files) 0 files (omega arith)) (of_bodies (length files) (map brief_of files) (length files) 0 files (omega arith)))

root_at : (n : ℕ) (ts : Files) (rest : List Row) (i : ℕ) (t : Tree) → slice_get ts i ≡ Some t → slice_get (roots_from n ts ++ rest) i ≡ Some (record { file = n + i; scope = n + i; head = t.head })
root_at n [] rest i t e = cc
root_at n (x ∷ ts) rest zero t e =
    let k : n ≡ n + 0 = omega arith in
    ap (λ (y : Tree). Some (record { file = n; scope = n; head = y.head })) (same_Some x t e) ∙ ap (λ (m : ℕ). Some (record { file = m; scope = m; head = t.head })) k
root_at n (x ∷ ts) rest (suc i) t e =
    let k : n + 1 + i ≡ n + suc i = omega arith in
    root_at (n + 1) ts rest i t e ∙ ap (λ (m : ℕ). Some (record { file = m; scope = m; head = t.head })) k

-- a root has its file's number
pub rows_of_roots : (files : Files) (i : ℕ) (t : Tree) → slice_get files i ≡ Some t → slice_get (rows_of files) i ≡ Some (record { file = i; scope = i; head = t.head })
rows_of_roots files i t e =
    let same : 0 + i ≡ i = omega arith in
    root_at 0 files (bodies (map brief_of files) (length files) 0 files) i t e ∙ ap (λ (m : ℕ). Some (record { file = m; scope = m; head = t.head })) same
