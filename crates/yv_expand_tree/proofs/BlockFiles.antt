-- What stands in a block is of the same file.
use Rattle.std.proofs.Common.{inl, inr, ◌⊎◌, ◌≡◌, ℕ, zero, suc, ◌+◌, ◌<◌, ◌≤◌, Bool, true, false, if◌then◌else◌, List, [], ◌∷◌, ◌++◌, map, length, length-append, Some, None, refl, sym, ap, ◌∙◌, arith}
use Rattle.std.specs.List.{slice_get}
use Rattle.std.proofs.lemmas.List.{length-map}
use Rattle.std.proofs.lemmas.Option.{same_Some, slice_get_within, slice_get-map}
use Rattle.std.specs.Option.{option_map}
use Rattle.yv_text_statement.specs.Tree.{Tree, Forest, Then, End}
use Rattle.yv_link_scopes.specs.Files.{Briefs, Files, brief_of, module_file_at, module_file_in}
use Rattle.yv_link_scopes.specs.RowList.{bodies, body_of, roots_from, rows_of}
use Rattle.yv_link_scopes.specs.Rows.{Row, is_extended, row_list}
use Rattle.yv_link_scopes.proofs.Bodies.{module_file_at_within}
use Rattle.yv_expand_tree.proofs.NodePositions.{in_lists}

abbrev EachRow : (Row → Type 0) → List Row → Type 0
EachRow P rows = (i : ℕ) (r : Row) → slice_get rows i ≡ Some r → P r

-- a row is of a file, in a block outside or in one of these
abbrev IsOf : (file scope from to : ℕ) → Row → Type 0
IsOf file scope from to r = (r.file ≡ file) × ((r.scope ≡ scope) ⊎ ((from ≤ r.scope) × (r.scope < to)))

inner_of : (b : Bool) (file scope from : ℕ) (rows : List Row) → EachRow (IsOf file scope from (from + length rows)) rows
    → EachRow (IsOf file scope from (from + length (if b then [] else rows))) (if b then [] else rows)
inner_of true file scope from rows all i r at = absurd (let bad : None ≡ Some r = at in cc)
inner_of false file scope from rows all i r at = all i r at

then_of : (file scope number : ℕ) (x : Row) (inner others : List Row) → x.file ≡ file → x.scope ≡ scope
    → EachRow (IsOf file number (number + 1) (number + 1 + length inner)) inner
    → EachRow (IsOf file scope (number + 1 + length inner) (number + 1 + length inner + length others)) others
    → EachRow (IsOf file scope number (number + length (x ∷ inner ++ others))) (x ∷ inner ++ others)
then_of file scope number x inner others own place inside beside zero r at =
    let same : x ≡ r = same_Some x r at in
    (sym (ap (λ (y : Row). y.file) same) ∙ own, inl (sym (ap (λ (y : Row). y.scope) same) ∙ place))
then_of file scope number x inner others own place inside beside (suc i) r at =
    let long = length-append inner others in
    elim (in_lists inner others i r at) [
      | inl h ↦ (
          let p = inside i r h in
          (p.0, inr (elim p.1 [ inl e ↦ (omega (arith, e, long), omega (arith, e, long)) | inr q ↦ (omega (arith, q.0), omega (arith, q.1, long)) ])))
      | inr h ↦ (
          let p = beside h.0 r h.2 in
          (p.0, elim p.1 [ inl e ↦ inl e | inr q ↦ inr (omega (arith, q.0), omega (arith, q.1, long)) ]))
    ]

listed_of : (file scope number : ℕ) (f : Forest) → EachRow (IsOf file scope number (number + length (row_list file scope number f))) (row_list file scope number f)
listed_of file scope number End = λ i r at. absurd (let bad : None ≡ Some r = at in cc)
listed_of file scope number (Then h c o) =
    let block : List Row = row_list file number (number + 1) c in
    let inner : List Row = if is_extended h.keyword then [] else block in
    then_of file scope number (record { file = file; scope = scope; head = h }) inner (row_list file scope (number + 1 + length inner) o) refl refl
    (inner_of (is_extended h.keyword) file number (number + 1) block (listed_of file number (number + 1) c))
    (listed_of file scope (number + 1 + length inner) o)

module _ (briefs : Briefs) (bound : ℕ) where
  abbrev ModuleFilesWithin : ℕ → Files → Type 0
  ModuleFilesWithin n ts = (k : ℕ) (t : Tree) → slice_get ts k ≡ Some t → module_file_in briefs (n + k) (Some (brief_of t)) < bound

  module_files_later : (n : ℕ) (t : Tree) (ts : Files) → ModuleFilesWithin n (t ∷ ts) → ModuleFilesWithin (n + 1) ts
  module_files_later n t ts module_files k u at =
      let e : n + 1 + k ≡ n + suc k = omega arith in
      let l = module_files (suc k) u at in
      let same : module_file_in briefs (n + 1 + k) (Some (brief_of u)) ≡ module_file_in briefs (n + suc k) (Some (brief_of u)) = ap (λ (m : ℕ). module_file_in briefs m (Some (brief_of u))) e in
      omega (arith, l, same)

  module_files_first : (n : ℕ) (t : Tree) (ts : Files) → ModuleFilesWithin n (t ∷ ts) → module_file_in briefs n (Some (brief_of t)) < bound
  module_files_first n t ts module_files =
      let e : n ≡ n + 0 = omega arith in
      let l = module_files 0 t refl in
      let same : module_file_in briefs n (Some (brief_of t)) ≡ module_file_in briefs (n + 0) (Some (brief_of t)) = ap (λ (m : ℕ). module_file_in briefs m (Some (brief_of t))) e in
      omega (arith, l, same)

  -- a block is that of a root, or of what stands from here on
  scopes_of : (number n : ℕ) (ts : Files) → ModuleFilesWithin n ts → EachRow (λ r. (r.scope < bound) ⊎ (number ≤ r.scope)) (bodies briefs number n ts)
  scopes_of number n [] module_files = λ i r at. absurd (let bad : None ≡ Some r = at in cc)
  scopes_of number n (t ∷ ts) module_files = λ i r at. (
      let body : List Row = body_of briefs number n t in
      let module_file = module_files_first n t ts module_files in
      elim (in_lists body (bodies briefs (number + length body) (n + 1) ts) i r at) [
        | inl h ↦ (
            let p = listed_of n (module_file_in briefs n (Some (brief_of t))) number t.children i r h in
            elim p.1 [ inl e ↦ inl (omega (arith, e, module_file)) | inr q ↦ inr q.0 ])
        | inr h ↦ elim (scopes_of (number + length body) (n + 1) ts (module_files_later n t ts module_files) h.0 r h.2) [ inl l ↦ inl l | inr l ↦ inr (omega (arith, l)) ]
      ])

  same_file : (number n : ℕ) (ts : Files) → bound ≤ number → ModuleFilesWithin n ts → (i j : ℕ) (a r : Row) → slice_get (bodies briefs number n ts) i ≡ Some a
      → slice_get (bodies briefs number n ts) j ≡ Some r → r.scope ≡ number + i → r.file ≡ a.file
  same_file number n [] le module_files i j a r at there in_it = absurd (let bad : None ≡ Some r = there in cc)
  same_file number n (t ∷ ts) le module_files i j a r at there in_it =
      let body : List Row = body_of briefs number n t in
      let rest : List Row = bodies briefs (number + length body) (n + 1) ts in
      let module_file = module_files_first n t ts module_files in
      let each = listed_of n (module_file_in briefs n (Some (brief_of t))) number t.children in
      elim (in_lists body rest i a at) [
        | inl h ↦ elim (in_lists body rest j r there) [
          | inl g ↦ (each j r g).0 ∙ sym (each i a h).0
          | inr g ↦ (
              let within = slice_get_within body i a h in
              absurd (elim (scopes_of (number + length body) (n + 1) ts (module_files_later n t ts module_files) g.0 r g.2) [
                | inl l ↦ omega (arith, l, in_it, le)
                | inr l ↦ omega (arith, l, in_it, within)
              ]))
        ]
        | inr h ↦ elim (in_lists body rest j r there) [
          | inl g ↦ (
              let p = each j r g in
              let behind = h.1 in
              absurd (elim p.1 [ inl e ↦ omega (arith, e, module_file, in_it, le) | inr q ↦ omega (arith, q.1, in_it, behind) ]))
          | inr g ↦
              same_file (number + length body) (n + 1) ts (omega (arith, le)) (module_files_later n t ts module_files) h.0 g.0 a r h.2 g.2 (let behind = h.1 in omega (arith, in_it, behind))
        ]
      ]

length_roots : (n : ℕ) (ts : Files) → length (roots_from n ts) ≡ length ts
length_roots n [] = refl
length_roots n (t ∷ ts) = ap suc (length_roots (n + 1) ts)

root_scope : (n : ℕ) (ts : Files) (i : ℕ) (r : Row) → slice_get (roots_from n ts) i ≡ Some r → r.scope ≡ n + i
root_scope n [] i r at = absurd (let bad : None ≡ Some r = at in cc)
root_scope n (t ∷ ts) zero r at =
    let same : n ≡ r.scope = ap (λ (y : Row). y.scope) (same_Some (record { file = n; scope = n; head = t.head }) r at) in
    omega (arith, same)
root_scope n (t ∷ ts) (suc i) r at = let e = root_scope (n + 1) ts i r at in omega (arith, e)

module _ (files : Files) where
  module_files_within : ModuleFilesWithin (map brief_of files) (length files) 0 files
  module_files_within k t at =
      let lt = slice_get_within files k t at in
      let size : length (map brief_of files) ≡ length files = length-map files brief_of in
      let l = module_file_at_within (map brief_of files) k (omega (arith, lt, size)) in
      let there : module_file_at (map brief_of files) k ≡ module_file_in (map brief_of files) k (Some (brief_of t)) =
      ap (module_file_in (map brief_of files) k) (slice_get-map brief_of files k ∙ ap (option_map brief_of) at) in
      let same : module_file_in (map brief_of files) (0 + k) (Some (brief_of t)) ≡ module_file_in (map brief_of files) k (Some (brief_of t)) =
      ap (λ (m : ℕ). module_file_in (map brief_of files) m (Some (brief_of t))) (let e : 0 + k ≡ k = omega arith in e) in
      omega (arith, l, size, there, same)

  -- what stands in the block of a statement that is no root is of the file of that statement
  pub block_file : (i j : ℕ) (a r : Row) → length files ≤ i → slice_get (rows_of files) i ≡ Some a → slice_get (rows_of files) j ≡ Some r → r.scope ≡ i
      → r.file ≡ a.file
  block_file i j a r past at there in_it =
      let roots : List Row = roots_from 0 files in
      let rest : List Row = bodies (map brief_of files) (length files) 0 files in
      let long : length roots ≡ length files = length_roots 0 files in
      elim (in_lists roots rest i a at) [
        | inl h ↦ (let l = slice_get_within roots i a h in absurd (omega (arith, l, long, past)))
        | inr h ↦ elim (in_lists roots rest j r there) [
          | inl g ↦ (let l = slice_get_within roots j r g in let e = root_scope 0 files j r g in absurd (omega (arith, l, e, long, in_it, past)))
          | inr g ↦ (
              let e = h.1 in
              same_file (map brief_of files) (length files) (length files) 0 files (omega arith) module_files_within h.0 g.0 a r h.2 g.2 (omega (arith, e, long, in_it)))
        ]
      ]
