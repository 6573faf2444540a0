-- The findings in files, one after the other.
use Rattle.std.proofs.Common.{◌≡◌, ℕ, suc, zero, ◌+◌, ◌<◌, ◌≤◌, true, cond, List, [], ◌∷◌, ◌++◌, length, map, drop, get_or, Some, None, refl, sym, ◌∙◌, ap, arith, append_assoc}
use Rattle.std.specs.List.{slice_get}
use Rattle.std.proofs.lemmas.List.{append-nil, drop_all, drop_more}
use denote.Ref.{Bor}
use Rattle.yv_text_statement.specs.Selection.{ModuleChoice, is_implemented, selected_of}
use Rattle.yv_text_statement.specs.Tree.{Tree}
use Rattle.yv_link_scopes.specs.Files.{Files, module_name}
use Rattle.yv_lint.specs.declared.finding.Finding.{Finding}
use Rattle.yv_lint.specs.declared.file.Question.{Question}
use Rattle.yv_lint.specs.RuleChoice.{RuleChoice, asked_in}
use Rattle.yv_lint.specs.Findings.{findings_from, findings_in, findings_of}
use Rattle.yv_lint.specs.InnerFiles.{findings_at_number}

abbrev pub text_of : Bor (List ℕ) → List ℕ
text_of path = path.now

module _ (asked : RuleChoice) (choice : ModuleChoice) (files : Files) where
  none_left : (n : ℕ) (paths : List (List ℕ)) → findings_from asked choice files n paths [] ≡ []
  none_left n [] = refl
  none_left n (path ∷ paths) = refl

  -- what is at a place of a list, and what comes after it
  at_place : (n : ℕ) (path : List ℕ) (paths : List (List ℕ)) (roots : Files) (k : ℕ) → findings_from asked choice files n (path ∷ paths) (drop k roots) ≡ findings_at_number asked choice files n path (slice_get roots k) ++ findings_from asked choice files (n + 1) paths (drop (suc k) roots)
  at_place n path paths [] zero = sym (none_left (n + 1) paths)
  at_place n path paths [] (suc k) = sym (none_left (n + 1) paths)
  at_place n path paths (r ∷ roots) zero = refl
  at_place n path paths (r ∷ roots) (suc k) = at_place n path paths roots k

  -- one more file
  pub file_more : (paths : List (Bor (List ℕ))) (i : ℕ) (d : Bor (List ℕ)) (now next : List Finding) (whole : List Finding) → i < length paths → next ≡ now ++ findings_at_number asked choice files i (get_or paths i d).now (slice_get files i) → now ++ findings_from asked choice files i (map text_of (drop i paths)) (drop i files) ≡ whole → next ++ findings_from asked choice files (i + 1) (map text_of (drop (i + 1) paths)) (drop (i + 1) files) ≡ whole
  file_more paths i d now next whole lt n h =
      let one : List Finding = findings_at_number asked choice files i (get_or paths i d).now (slice_get files i) in
      let rest : List (List ℕ) = map text_of (drop (i + 1) paths) in
      let up : i + 1 ≡ suc i = omega arith in
      ap (λ xs. xs ++ findings_from asked choice files (i + 1) rest (drop (i + 1) files)) n
      ∙ append_assoc now one (findings_from asked choice files (i + 1) rest (drop (i + 1) files))
      ∙ ap (λ k. now ++ (one ++ findings_from asked choice files (i + 1) rest (drop k files))) up
      ∙ ap (λ xs. now ++ xs) (sym (at_place i (get_or paths i d).now rest files i))
      ∙ ap (λ ps. now ++ findings_from asked choice files i (map text_of ps) (drop i files)) (sym (drop_more paths i d lt))
      ∙ h

  pub files_end : (paths : List (Bor (List ℕ))) (i : ℕ) (now whole : List Finding) → length paths ≤ i → now ++ findings_from asked choice files i (map text_of (drop i paths)) (drop i files) ≡ whole → now ≡ whole
  files_end paths i now whole le h =
      sym (append-nil now)
      ∙ ap (λ ps. now ++ findings_from asked choice files i (map text_of ps) (drop i files)) (sym (drop_all i paths le))
      ∙ h

-- a file whose module is implemented
pub file_is : (q p : Question) (n m : ℕ) (path : List ℕ) (t root : Tree) → q ≡ p → n ≡ m → t ≡ root → is_implemented (selected_of p.selection.now) (module_name root) ≡ true → findings_in (asked_in q.rules.now) q.roots.now n path t ≡ findings_of (asked_in p.rules.now) (selected_of p.selection.now) p.roots.now m path root
file_is q p n m path t root e f g chosen =
    ap (λ (x : Question). findings_in (asked_in x.rules.now) x.roots.now n path t) e
    ∙ ap (λ k. findings_in (asked_in p.rules.now) p.roots.now k path t) f
    ∙ ap (λ (u : Tree). findings_in (asked_in p.rules.now) p.roots.now m path u) g
    ∙ sym (ap (λ b. cond b (findings_in (asked_in p.rules.now) p.roots.now m path root) []) chosen)

-- what is at a number
pub absent : (ts : Files) (n : ℕ) → length ts ≤ n → slice_get ts n ≡ None
absent [] zero h = refl
absent [] (suc n) h = refl
absent (t ∷ ts) zero h = absurd (omega arith)
absent (t ∷ ts) (suc n) h = absent ts n (omega arith)

pub present : (ts : Files) (n : ℕ) (t : Tree) → n < length ts → t ≡ get_or ts n t → slice_get ts n ≡ Some t
present [] n t lt e = absurd (omega arith)
present (x ∷ ts) zero t lt e = ap (λ (u : Tree). Some u) (sym e)
present (x ∷ ts) (suc n) t lt e = present ts n t (omega arith) e
