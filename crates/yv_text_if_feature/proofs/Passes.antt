-- One pass over the words finds the truth of the condition that they are.
use Rattle.std.proofs.Common.{◌≡◌, ℕ, suc, ◌+◌, Bool, true, false, not, cond, ◌&&◌, ◌||◌, nat_lt, List, [], ◌∷◌, ◌++◌, length, Option, Some, None, is_some, append_assoc, append-nil, sym, ◌∙◌, ap, refl, arith}
use Rattle.std.proofs.lemmas.Bool.{lt-ltb}
use Rattle.yv_text_if_feature.specs.Tokens.{Token}
use Rattle.yv_text_if_feature.specs.Tokens.{Open, Close, Not, And, Or, Name, Wrong}
use Rattle.yv_text_if_feature.specs.State.{differ, empty, ends, holds, with_not, with_factor, with_or}
use Rattle.yv_text_if_feature.specs.IfFeature.{IfFeature, IsIfFeature, IsExpression, IsTerm, IsFactor, term, either, factor, both, name, after_not, inner, truth}
use Rattle.yv_text_if_feature.specs.Truth.{IsTruth}
use Rattle.yv_text_if_feature.specs.declared.frame.Frame.{Frame}
use Rattle.yv_text_if_feature.proofs.AcceptedConditions.{accepts, taken}

differ_not : (f a : Bool) → differ (not f) a ≡ differ f (not a)
differ_not true true = refl
differ_not true false = refl
differ_not false a = refl

and_assoc : (a b c : Bool) → ((a && b) && c) ≡ (a && (b && c))
and_assoc true b c = refl
and_assoc false b c = refl

or_assoc : (a b c : Bool) → ((a || b) || c) ≡ (a || (b || c))
or_assoc true b c = refl
or_assoc false b c = refl

module _ (names : List ℕ → Bool) where
  mutual
    run_factor : {n : ℕ} {ts : List Token} {c : IfFeature} → IsFactor n ts c → (f : Frame) (fs : List Frame) → n + length fs ≡ 64 → (rest : List Token) → ends names true f fs (ts ++ rest) ≡ ends names false (with_factor (truth names c) f) fs rest
    run_factor name f fs e rest = refl
    run_factor (after_not {c = c} p) f fs e rest =
        run_factor p (with_not f) fs e rest ∙ ap (λ b. ends names false (record { earlier = f.earlier; term = f.term && b; negated = false }) fs rest) (differ_not f.negated (truth names c))
    run_factor (inner {n} {xs} p same) f fs e rest =
        let room : nat_lt (length fs) 64 ≡ true = lt-ltb (length fs) 64 (omega (arith, e)) in
        let q = run_expression p false (f ∷ fs) (omega (arith, e)) (Close ∷ rest) in
        let go : ends names true empty (f ∷ fs) ((xs ++ Close ∷ []) ++ rest) ≡ ends names false (with_factor (holds q.0) f) fs rest = ap (ends names true empty (f ∷ fs)) (append_assoc xs (Close ∷ []) rest) ∙ q.2 in
        let all : ends names true f fs (Open ∷ (xs ++ Close ∷ []) ++ rest) ≡ ends names false (with_factor (holds q.0) f) fs rest = rw room go in
        ap (λ ts. ends names true f fs (ts ++ rest)) same ∙ all ∙ ap (λ b. ends names false (with_factor b f) fs rest) q.1

    run_term : {n : ℕ} {ts : List Token} {c : IfFeature} → IsTerm n ts c → (earlier before : Bool) (fs : List Frame) → n + length fs ≡ 64 → (rest : List Token) → ends names true (record { earlier = earlier; term = before; negated = false }) fs (ts ++ rest) ≡ ends names false (record { earlier = earlier; term = before && truth names c; negated = false }) fs rest
    run_term (factor p) earlier before fs e rest = run_factor p (record { earlier = earlier; term = before; negated = false }) fs e rest
    run_term (both {xs = xs} {ys = ys} {c = c} {d = d} p q same) earlier before fs e rest =
        ap (λ ts. ends names true (record { earlier = earlier; term = before; negated = false }) fs (ts ++ rest)) same
        ∙ ap (ends names true (record { earlier = earlier; term = before; negated = false }) fs) (append_assoc xs (And ∷ ys) rest)
        ∙ run_factor p (record { earlier = earlier; term = before; negated = false }) fs e (And ∷ ys ++ rest)
        ∙ run_term q earlier (before && truth names c) fs e rest
        ∙ ap (λ b. ends names false (record { earlier = earlier; term = b; negated = false }) fs rest) (and_assoc before (truth names c) (truth names d))

    run_expression : {n : ℕ} {ts : List Token} {c : IfFeature} → IsExpression n ts c → (earlier : Bool) (fs : List Frame) → n + length fs ≡ 64 → (rest : List Token) → (g : Frame) × (holds g ≡ (earlier || truth names c)) × (ends names true (record { earlier = earlier; term = true; negated = false }) fs (ts ++ rest) ≡ ends names false g fs rest)
    run_expression (term {c = c} p) earlier fs e rest = (record { earlier = earlier; term = truth names c; negated = false }, refl, run_term p earlier true fs e rest)
    run_expression (either {xs = xs} {ys = ys} {c = c} {d = d} p q same) earlier fs e rest =
        let r = run_expression q (earlier || truth names c) fs e rest in (
          r.0,
          r.1 ∙ or_assoc earlier (truth names c) (truth names d),
          ap (λ ts. ends names true (record { earlier = earlier; term = true; negated = false }) fs (ts ++ rest)) same
              ∙ ap (ends names true (record { earlier = earlier; term = true; negated = false }) fs) (append_assoc xs (Or ∷ ys) rest)
              ∙ run_term p earlier true fs e (Or ∷ ys ++ rest)
              ∙ r.2,
        )

  -- the pass finds the truth
  found : (ts : List Token) (c : IfFeature) → IsIfFeature ts c → ends names true empty [] ts ≡ Some (truth names c)
  found ts c h =
      let r = run_expression h false [] refl [] in
      ap (ends names true empty []) (sym (append-nil ts)) ∙ r.2 ∙ ap Some r.1

  -- it takes what is taken by counting alone
  counted : (wanted : Bool) (f : Frame) (fs : List Frame) (ts : List Token) → is_some (ends names wanted f fs ts) ≡ accepts wanted (length fs) ts
  counted true f fs (Name n ∷ ts) = counted false (with_factor (names n) f) fs ts
  counted true f fs (Not ∷ ts) = counted true (with_not f) fs ts
  counted true f fs (Open ∷ ts) =
      let P : Bool → Type 0 = λ t. is_some (cond t (ends names true empty (f ∷ fs) ts) None) ≡ (t && accepts true (suc (length fs)) ts) in
      let at : (t : Bool) → P t = λ t. elim t as P [ true ↦ counted true empty (f ∷ fs) ts | false ↦ refl ] in
      at (nat_lt (length fs) 64)
  counted true f fs (Close ∷ ts) = refl
  counted true f fs (And ∷ ts) = refl
  counted true f fs (Or ∷ ts) = refl
  counted true f fs (Wrong ∷ ts) = refl
  counted true f fs [] = refl
  counted false f fs (And ∷ ts) = counted true f fs ts
  counted false f fs (Or ∷ ts) = counted true (with_or f) fs ts
  counted false f [] (Close ∷ ts) = refl
  counted false f (g ∷ fs) (Close ∷ ts) = counted false (with_factor (holds f) g) fs ts
  counted false f fs (Name n ∷ ts) = refl
  counted false f fs (Not ∷ ts) = refl
  counted false f fs (Open ∷ ts) = refl
  counted false f fs (Wrong ∷ ts) = refl
  counted false f [] [] = refl
  counted false f (g ∷ fs) [] = refl

  -- so what it finds is the truth
  pub told : (ts : List Token) (r : Option Bool) → ends names true empty [] ts ≡ r → IsTruth names ts r
  told ts None h = λ c made. (let e = found ts c made in let wrong : Some (truth names c) ≡ None = sym e ∙ h in cc)
  told ts (Some b) h =
      let p = taken ts (sym (counted true empty [] ts) ∙ ap is_some h) in
      let e : Some b ≡ Some (truth names p.0) = sym h ∙ found ts p.0 p.1 in
      (p.0, p.1, cc)
