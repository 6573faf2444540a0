-- The innermost open statement, which is the last of the stack and the first of its reverse.
use Rattle.std.proofs.Common.{◌≡◌, ℕ, zero, suc, ◌-◌, ◌<◌, List, [], ◌∷◌, ◌++◌, length, slice_set, slice_index_or, refl, sym, ap, ◌∙◌, arith}
use Rattle.std.specs.Prelude.{reverse}
use Rattle.yv_text_statement.specs.Tree.{Tree}
use Rattle.yv_text_statement.specs.Builder.{push_child, with_argument, with_more}
use Rattle.yv_source.specs.Inner.Machine.{Next, give_word, give_quoted, finish}
use Rattle.yv_source.specs.declared.machine.Phase.TheVariants.{Argued, Said, Between}
use Rattle.std.proofs.lemmas.List.{reverse-append}

-- lists that differ in their first items at most
abbrev pub IsTop : {A : Type 0} → List A → List A → A → A → Type 0
IsTop {A} old new t u = (below : List A) × (old ≡ t ∷ below) × (new ≡ u ∷ below)

top_at : {A : Type 0} (xs : List A) (i : ℕ) (t u : A) → suc i ≡ length xs → t ≡ slice_index_or xs i t → IsTop (reverse xs) (reverse (slice_set xs i u)) t u
top_at [] i t u long at = absurd (omega (arith, long))
top_at (x ∷ []) zero t u long at = ([], ap (λ z. z ∷ []) (sym at), refl)
top_at (x ∷ []) (suc i) t u long at = absurd (omega (arith, long))
top_at (x ∷ y ∷ ys) zero t u long at = absurd (omega (arith, long))
top_at (x ∷ y ∷ ys) (suc i) t u long at =
    let h = top_at (y ∷ ys) i t u (omega (arith, long)) at in (
      h.0 ++ (x ∷ []),
      reverse-append (x ∷ []) (y ∷ ys) ∙ ap (λ l. l ++ (x ∷ [])) h.1,
      reverse-append (x ∷ []) (slice_set (y ∷ ys) i u) ∙ ap (λ l. l ++ (x ∷ [])) h.2,
    )

-- the last of a list is put in place of another
pub top_of : {A : Type 0} (xs : List A) (n : ℕ) (t u : A) → n ≡ length xs → 0 < n → t ≡ slice_index_or xs (n - 1) t → IsTop (reverse xs) (reverse (slice_set xs (n - 1) u)) t u
top_of xs n t u long some at =
    let one : suc (n - 1) ≡ length xs = omega arith in
    top_at xs (n - 1) t u one at

pub word_given : (text : List ℕ) (old new : List Tree) (t u : Tree) → IsTop old new t u → u ≡ with_argument text t → give_word text old ≡ Next new Argued
word_given text old new t u top is = ap (give_word text) top.1 ∙ ap (λ (x : Tree). Next (x ∷ top.0) Argued) (sym is) ∙ ap (λ (l : List Tree). Next l Argued) (sym top.2)

pub quoted_given : (text : List ℕ) (old new : List Tree) (t u : Tree) → IsTop old new t u → u ≡ with_more text t → give_quoted text old ≡ Next new Said
quoted_given text old new t u top is = ap (give_quoted text) top.1 ∙ ap (λ (x : Tree). Next (x ∷ top.0) Said) (sym is) ∙ ap (λ (l : List Tree). Next l Said) (sym top.2)

pub adopted : (done : Tree) (old new : List Tree) (t u : Tree) → IsTop old new t u → u ≡ push_child t done → finish done old ≡ Next new Between
adopted done old new t u top is = ap (finish done) top.1 ∙ ap (λ (x : Tree). Next (x ∷ top.0) Between) (sym is) ∙ ap (λ (l : List Tree). Next l Between) (sym top.2)
