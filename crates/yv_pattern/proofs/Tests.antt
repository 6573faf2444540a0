-- Tests of characters, taken apart.
use Rattle.std.proofs.Common.{◌≡◌, ℕ, ◌||◌, ◌==◌, Bool, true, false, Some, None, cond, refl, sym, ◌∙◌, ap}
use Rattle.std.proofs.lemmas.Bool.{eqb-true}
use Rattle.yv_pattern.specs.Characters.{is_punctuation, Escapes, line_feed, carriage_return, tab, punctuation}
use Rattle.yv_pattern.specs.InnerClasses.{escaped_character}

pub true_not_false : true ≡ false → ⊥
true_not_false e = cc

pub test : {P A : Type 0} (b : Bool) (x y z : A) → cond b x y ≡ z → (b ≡ true → x ≡ z → P) → (b ≡ false → y ≡ z → P) → P
test true x y z h f g = f refl h
test false x y z h f g = g refl h

pub some_is : {A : Type 0} (x y : A) → Some x ≡ Some y → x ≡ y
some_is x y e = cc

pub none_some : {A : Type 0} (x : A) → None ≡ Some x → ⊥
none_some x e = cc

pub or_false : (a b : Bool) → (a || b) ≡ false → (a ≡ false) × (b ≡ false)
or_false true b h = absurd (cc)
or_false false b h = (refl, h)

pub or_with_false : (a : Bool) → (a || false) ≡ a
or_with_false true = refl
or_with_false false = refl

unequal : (b : Bool) (c k : ℕ) → (c == k) ≡ b → is_punctuation k ≡ false → is_punctuation c ≡ true → (c == k) ≡ false
unequal true c k e f h = absurd (true_not_false (sym h ∙ ap is_punctuation (eqb-true c k e) ∙ f))
unequal false c k e f h = e

pub escapes_complete : (c d : ℕ) → Escapes c d → escaped_character c ≡ Some d
escapes_complete _ _ line_feed = refl
escapes_complete _ _ carriage_return = refl
escapes_complete _ _ tab = refl
escapes_complete _ _ (punctuation c h) = rw (unequal _ c 110 refl refl h, unequal _ c 114 refl refl h, unequal _ c 116 refl refl h, h) refl

pub escapes_sound : (c d : ℕ) → escaped_character c ≡ Some d → Escapes c d
escapes_sound c d h =
    test (c == 110) _ _ _ h (λ t e. rw (eqb-true c 110 t, ← some_is 10 d e) line_feed) (λ _ h.
    test (c == 114) _ _ _ h (λ t e. rw (eqb-true c 114 t, ← some_is 13 d e) carriage_return) (λ _ h.
    test (c == 116) _ _ _ h (λ t e. rw (eqb-true c 116 t, ← some_is 9 d e) tab) (λ _ h.
    test (is_punctuation c) _ _ _ h (λ t e. rw (← some_is c d e) (punctuation c t)) (λ _ e. absurd (none_some d e)))))
