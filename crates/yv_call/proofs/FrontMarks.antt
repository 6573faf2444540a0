-- Two marks that are the same.
use Rattle.std.proofs.Common.{◌≡◌, ◌∙◌, ℕ, List, ◌∷◌, ◌++◌, Some, length, take, drop, ap, sym, append_assoc}
use Rattle.std.proofs.Math.Seq.{take-append_seam, drop-append_seam}
use Rattle.yv_call.specs.Front.{mark}
use Rattle.yv_call.specs.FrontText.{initial_of, mark_of, name_of, text_of}
use Rattle.yv_call.specs.declared.front.TextFront.{TextFront}

pub name_kept : (m n : ℕ) (xs ys text more : List ℕ) → mark n ys text ≡ mark m xs more → n ≡ m
name_kept m n xs ys text more e = (cc)

tails_same : (m n : ℕ) (xs ys text more : List ℕ) → mark n ys text ≡ mark m xs more
    → ys ++ text ≡ xs ++ more
tails_same m n xs ys text more e = (cc)

lengths_same : (m n : ℕ) (xs ys text more : List ℕ) → mark n ys text ≡ mark m xs more
    → length ys ≡ length xs
lengths_same m n xs ys text more e = (cc)

pub initial_kept : (m n : ℕ) (xs ys text more : List ℕ) → mark n ys text ≡ mark m xs more
    → ys ≡ xs
initial_kept m n xs ys text more e =
    sym (take-append_seam ys text)
    ∙ ap (λ k. take k (ys ++ text)) (lengths_same m n xs ys text more e)
    ∙ ap (take (length xs)) (tails_same m n xs ys text more e)
    ∙ take-append_seam xs more

pub text_kept : (m n : ℕ) (xs ys text more : List ℕ) → mark n ys text ≡ mark m xs more
    → text ≡ more
text_kept m n xs ys text more e =
    sym (drop-append_seam ys text)
    ∙ ap (λ k. drop k (ys ++ text)) (lengths_same m n xs ys text more e)
    ∙ ap (drop (length xs)) (tails_same m n xs ys text more e)
    ∙ drop-append_seam xs more

-- a mark that goes on
pub mark_on : (n : ℕ) (xs text more : List ℕ) → mark n xs text ++ more ≡ mark n xs (text ++ more)
mark_on n xs text more = ap (λ l. n ∷ length xs ∷ l) (append_assoc xs text more)

some_same : (xs ys : List ℕ) → Some xs ≡ Some ys → xs ≡ ys
some_same xs ys e = (cc)

-- what a writer was given after another
pub mark_grows : (first last held back : TextFront) (more : List ℕ) → held ≡ first → last ≡ back
    → Some (mark_of last) ≡ Some (mark_of held ++ more)
    → mark_of back ≡ mark (name_of first) (initial_of first) (text_of first ++ more)
mark_grows first last held back more same is grows =
    ap mark_of (sym is) ∙ some_same _ _ grows ∙ ap (λ w. mark_of w ++ more) same
    ∙ mark_on (name_of first) (initial_of first) (text_of first) more
