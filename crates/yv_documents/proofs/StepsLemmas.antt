-- The text of the line of steps.
use Rattle.std.proofs.Common.{◌≡◌, ◌∙◌, ℕ, List, ◌++◌, ap, subst, sym, append_assoc, IfOk, IfSome}
use Rattle.std.specs.declared.option.Option.TheVariants.{Some}
use Rattle.std.specs.declared.result.Result.{Result}

four : (a b c d e : List ℕ) → a ++ (b ++ (c ++ (d ++ e))) ≡ (a ++ (b ++ (c ++ d))) ++ e
four a b c d e =
    ap (λ (l : List ℕ). a ++ l) (ap (λ (l : List ℕ). b ++ l) (sym (append_assoc c d e)) ∙ sym (append_assoc b (c ++ d) e)) ∙ sym (append_assoc a (b ++ (c ++ d)) e)

-- four texts and one more, as one
pub text_of_four : {A E : Type 0} (bytes_of : A → List ℕ) (r : Result A E) (a b c d e : List ℕ) → IfOk r (λ s. IfSome (Some (a ++ (b ++ (c ++ (d ++ e))))) (λ bs. bytes_of s ≡ bs)) → IfOk r (λ s. bytes_of s ≡ (a ++ (b ++ (c ++ d))) ++ e)
text_of_four bytes_of r a b c d e h = subst (λ (l : List ℕ). IfOk r (λ s. bytes_of s ≡ l)) (four a b c d e) h
