-- What the pass takes is a condition.
use Rattle.std.proofs.Common.{◌≡◌, ℕ, zero, suc, ◌+◌, ◌<◌, ◌≤◌, Bool, true, false, ◌&&◌, nat_lt, List, [], ◌∷◌, ◌++◌, length, append_assoc, append-nil, sym, ◌∙◌, ap, subst, refl, arith}
use Rattle.std.proofs.lemmas.Bool.{and_parts, false≢true, ltb-true}
use Rattle.yv_text_if_feature.specs.Tokens.{Token}
use Rattle.yv_text_if_feature.specs.Tokens.{Open, Close, Not, And, Or, Name, Wrong}
use Rattle.yv_text_if_feature.specs.IfFeature.{IfFeature, IsIfFeature, IsExpression, IsTerm, IsFactor, term, either, factor, both, name, after_not, inner}
use Rattle.yv_text_if_feature.specs.IfFeature as made

-- whether what follows completes an expression, where an operand is wanted or not, and d
-- parentheses are open
abbrev pub accepts : Bool → ℕ → List Token → Bool
accepts true d (Name n ∷ ts) = accepts false d ts
accepts true d (Not ∷ ts) = accepts true d ts
accepts true d (Open ∷ ts) = nat_lt d 64 && accepts true (suc d) ts
accepts false d (And ∷ ts) = accepts true d ts
accepts false d (Or ∷ ts) = accepts true d ts
accepts false (suc d) (Close ∷ ts) = accepts false d ts
accepts false zero [] = true
accepts wanted d ts = false

-- a part in front, and what follows it
Found : (List Token → IfFeature → Type 0) → (List Token → Bool) → ℕ → List Token → Type 0
Found P ends d ts = (xs : List Token) × (rest : List Token) × (c : IfFeature) × (ts ≡ xs ++ rest) × P xs c × (length rest < length ts) × (accepts false d rest ≡ true) × (ends rest ≡ true)

abbrev anything : List Token → Bool
anything ts = true

abbrev no_and : List Token → Bool
no_and (And ∷ ts) = false
no_and ts = true

abbrev no_joint : List Token → Bool
no_joint (And ∷ ts) = false
no_joint (Or ∷ ts) = false
no_joint ts = true

abbrev Factors : ℕ → Type 0
Factors m = (n d : ℕ) (ts : List Token) → length ts ≤ m → n + d ≡ 64 → accepts true d ts ≡ true → Found (IsFactor n) anything d ts

abbrev Terms : ℕ → Type 0
Terms m = (n d : ℕ) (ts : List Token) → length ts ≤ m → n + d ≡ 64 → accepts true d ts ≡ true → Found (IsTerm n) no_and d ts

abbrev Expressions : ℕ → Type 0
Expressions m = (n d : ℕ) (ts : List Token) → length ts ≤ m → n + d ≡ 64 → accepts true d ts ≡ true → Found (IsExpression n) no_joint d ts

-- what stands behind an expression in parentheses
closed : (n d : ℕ) (ts : List Token) → suc n + d ≡ 64 → Found (IsExpression n) no_joint (suc d) ts → Found (IsFactor (suc n)) anything d (Open ∷ ts)
unfolding Found
closed n d ts e (xs, And ∷ rest, c, same, h, short, more, ends) = absurd (false≢true ends)
closed n d ts e (xs, Or ∷ rest, c, same, h, short, more, ends) = absurd (false≢true ends)
closed n d ts e (xs, Close ∷ rest, c, same, h, short, more, ends) =
    (Open ∷ xs ++ Close ∷ [], rest, c, rw (same, append_assoc) refl, inner h refl, omega (arith, short), more, refl)
closed n d ts e (xs, [], c, same, h, short, more, ends) = absurd (false≢true more)
closed n d ts e (xs, Open ∷ rest, c, same, h, short, more, ends) = absurd (false≢true more)
closed n d ts e (xs, Not ∷ rest, c, same, h, short, more, ends) = absurd (false≢true more)
closed n d ts e (xs, Name w ∷ rest, c, same, h, short, more, ends) = absurd (false≢true more)
closed n d ts e (xs, Wrong ∷ rest, c, same, h, short, more, ends) = absurd (false≢true more)

factors : (m : ℕ) → Factors m → Expressions m → Factors (suc m)
unfolding Found
factors m before inside n d [] short e h = absurd (false≢true h)
factors m before inside n d (Name w ∷ ts) short e h = (Name w ∷ [], ts, made.Name w, refl, name, omega arith, h, refl)
factors m before inside n d (Not ∷ ts) short e h =
    let f = before n d ts (omega (arith, short)) e h in
    (Not ∷ f.0, f.1, made.Not f.2, ap (λ x. Not ∷ x) f.3, after_not f.4, omega (arith, f.5), f.6, refl)
factors m before inside zero d (Open ∷ ts) short e h = absurd (omega (arith, ltb-true d 64 (and_parts _ _ h).0))
factors m before inside (suc n) d (Open ∷ ts) short e h =
    closed n d ts e (inside n (suc d) ts (omega (arith, short)) (omega arith) (and_parts _ _ h).1)
factors m before inside n d (Close ∷ ts) short e h = absurd (false≢true h)
factors m before inside n d (And ∷ ts) short e h = absurd (false≢true h)
factors m before inside n d (Or ∷ ts) short e h = absurd (false≢true h)
factors m before inside n d (Wrong ∷ ts) short e h = absurd (false≢true h)

term_behind : (m n d : ℕ) (ts : List Token) → length ts ≤ suc m → n + d ≡ 64 → Terms m → Found (IsFactor n) anything d ts → Found (IsTerm n) no_and d ts
unfolding Found
term_behind m n d ts short e before (xs, And ∷ rest, c, same, h, less, more, ends) =
    let g = before n d rest (omega (arith, less, short)) e more in
    (xs ++ And ∷ g.0, g.1, made.And c g.2, same ∙ ap (λ x. xs ++ And ∷ x) g.3 ∙ sym (append_assoc xs (And ∷ g.0) g.1), both h g.4 refl, omega (arith, less, g.5), g.6, g.7)
term_behind m n d ts short e before (xs, [], c, same, h, less, more, ends) = (xs, [], c, same, factor h, less, more, refl)
term_behind m n d ts short e before (xs, Open ∷ rest, c, same, h, less, more, ends) = (xs, Open ∷ rest, c, same, factor h, less, more, refl)
term_behind m n d ts short e before (xs, Close ∷ rest, c, same, h, less, more, ends) = (xs, Close ∷ rest, c, same, factor h, less, more, refl)
term_behind m n d ts short e before (xs, Not ∷ rest, c, same, h, less, more, ends) = (xs, Not ∷ rest, c, same, factor h, less, more, refl)
term_behind m n d ts short e before (xs, Or ∷ rest, c, same, h, less, more, ends) = (xs, Or ∷ rest, c, same, factor h, less, more, refl)
term_behind m n d ts short e before (xs, Name w ∷ rest, c, same, h, less, more, ends) = (xs, Name w ∷ rest, c, same, factor h, less, more, refl)
term_behind m n d ts short e before (xs, Wrong ∷ rest, c, same, h, less, more, ends) = (xs, Wrong ∷ rest, c, same, factor h, less, more, refl)

expression_behind : (m n d : ℕ) (ts : List Token) → length ts ≤ suc m → n + d ≡ 64 → Expressions m → Found (IsTerm n) no_and d ts → Found (IsExpression n) no_joint d ts
unfolding Found
expression_behind m n d ts short e before (xs, Or ∷ rest, c, same, h, less, more, ends) =
    let g = before n d rest (omega (arith, less, short)) e more in
    (xs ++ Or ∷ g.0, g.1, made.Or c g.2, same ∙ ap (λ x. xs ++ Or ∷ x) g.3 ∙ sym (append_assoc xs (Or ∷ g.0) g.1), either h g.4 refl, omega (arith, less, g.5), g.6, g.7)
expression_behind m n d ts short e before (xs, And ∷ rest, c, same, h, less, more, ends) = absurd (false≢true ends)
expression_behind m n d ts short e before (xs, [], c, same, h, less, more, ends) = (xs, [], c, same, term h, less, more, refl)
expression_behind m n d ts short e before (xs, Open ∷ rest, c, same, h, less, more, ends) = (xs, Open ∷ rest, c, same, term h, less, more, refl)
expression_behind m n d ts short e before (xs, Close ∷ rest, c, same, h, less, more, ends) = (xs, Close ∷ rest, c, same, term h, less, more, refl)
expression_behind m n d ts short e before (xs, Not ∷ rest, c, same, h, less, more, ends) = (xs, Not ∷ rest, c, same, term h, less, more, refl)
expression_behind m n d ts short e before (xs, Name w ∷ rest, c, same, h, less, more, ends) = (xs, Name w ∷ rest, c, same, term h, less, more, refl)
expression_behind m n d ts short e before (xs, Wrong ∷ rest, c, same, h, less, more, ends) = (xs, Wrong ∷ rest, c, same, term h, less, more, refl)

parts : (m : ℕ) → Factors m × Terms m × Expressions m
parts zero = (none (λ n. IsFactor n) anything, none (λ n. IsTerm n) no_and, none (λ n. IsExpression n) no_joint)
  where
    none : (P : ℕ → List Token → IfFeature → Type 0) (ends : List Token → Bool) (n d : ℕ) (ts : List Token) → length ts ≤ 0 → n + d ≡ 64 → accepts true d ts ≡ true → Found (P n) ends d ts
    none P ends n d [] short e h = absurd (false≢true h)
    none P ends n d (t ∷ ts) short e h = absurd (omega (arith, short))
parts (suc m) =
    let p = parts m in
    let f : Factors (suc m) = factors m p.0 p.2 in
    let t : Terms (suc m) = λ n d ts short e h. term_behind m n d ts short e p.1 (f n d ts short e h) in
    (f, t, λ n d ts short e h. expression_behind m n d ts short e p.2 (t n d ts short e h))

whole : (ts : List Token) → Found (IsExpression 64) no_joint 0 ts → (c : IfFeature) × IsIfFeature ts c
unfolding Found
whole ts (xs, [], c, same, h, less, more, ends) = (c, subst (λ x. IsIfFeature x c) (sym (same ∙ append-nil xs)) h)
whole ts (xs, And ∷ rest, c, same, h, less, more, ends) = absurd (false≢true ends)
whole ts (xs, Or ∷ rest, c, same, h, less, more, ends) = absurd (false≢true ends)
whole ts (xs, Open ∷ rest, c, same, h, less, more, ends) = absurd (false≢true more)
whole ts (xs, Close ∷ rest, c, same, h, less, more, ends) = absurd (false≢true more)
whole ts (xs, Not ∷ rest, c, same, h, less, more, ends) = absurd (false≢true more)
whole ts (xs, Name w ∷ rest, c, same, h, less, more, ends) = absurd (false≢true more)
whole ts (xs, Wrong ∷ rest, c, same, h, less, more, ends) = absurd (false≢true more)

-- what the pass takes is a condition
pub taken : (ts : List Token) → accepts true 0 ts ≡ true → (c : IfFeature) × IsIfFeature ts c
taken ts h = whole ts ((parts (length ts)).2 64 0 ts (omega arith) refl h)
