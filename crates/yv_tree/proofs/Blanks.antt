-- Blanks that are put in pieces.
use Rattle.std.proofs.Common.{◌≡◌, ℕ, zero, suc, ◌+◌, ◌-◌, ◌≤◌, List, ◌∷◌, ◌++◌, length, sym, ap, ◌∙◌, arith, subst, replicate}
use Rattle.yv_base_streams.specs.Pages.{Adds, Output}
use Rattle.yv_tree.proofs.Parts.{adds_both}

-- blanks and more blanks
pub more_blanks : (m n : ℕ) → replicate {A = ℕ} (m + n) 32 ≡ replicate {A = ℕ} m 32 ++ replicate {A = ℕ} n 32
more_blanks zero n = ap (λ k. replicate {A = ℕ} k 32) (omega arith)
more_blanks (suc m) n =
    let next : suc m + n ≡ suc (m + n) = omega arith in
    ap (λ k. replicate {A = ℕ} k 32) next ∙ ap (λ (l : List ℕ). 32 ∷ l) (more_blanks m n)

-- a piece more was put
pub blanks_step : (all left next : ℕ) (piece : List ℕ) (old mid new : Output) → left ≤ all → length piece ≤ left → piece ≡ replicate {A = ℕ} (length piece) 32 → next ≡ left - length piece
    → Adds (replicate {A = ℕ} (all - left) 32) old mid → Adds piece mid new → Adds (replicate {A = ℕ} (all - next) 32) old new
blanks_step all left next piece old mid new within small blank to before put =
    let sum : all - next ≡ (all - left) + length piece = omega (arith, within, small, to) in
    let same : replicate {A = ℕ} (all - next) 32 ≡ replicate {A = ℕ} (all - left) 32 ++ piece =
    ap (λ k. replicate {A = ℕ} k 32) sum ∙ more_blanks (all - left) (length piece) ∙ ap (λ (l : List ℕ). replicate {A = ℕ} (all - left) 32 ++ l) (sym blank) in
    subst (λ (l : List ℕ). Adds l old new) (sym same) (adds_both (replicate {A = ℕ} (all - left) 32) piece old mid new before put)
