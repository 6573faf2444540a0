-- What is found stands there, before the limit.
use Rattle.std.proofs.Common.{◌⊎◌, inl, inr, ◌≡◌, ℕ, ◌+◌, ◌<◌, ◌≤◌, ◌&&◌, not, min, Bool, true, false, if◌then◌else◌, nat_lt, List, [], ◌∷◌, refl, sym, ◌∙◌, ap, subst, arith, Option, Some, None}
use Rattle.std.specs.List.{Contains, slice_get}
use Rattle.std.specs.Option.{option_map, option_and_then, option_or}
use Rattle.std.proofs.lemmas.Bool.{cases_lt, ltb-true}
use Rattle.std.proofs.lemmas.Option.{same_Some}
use Rattle.std.proofs.lemmas.List.Elements.{Contains-append_right}
use Rattle.yv_expand_rounds.specs.declared.end.End.{End}
use Rattle.yv_expand_rounds.specs.declared.end.End.TheVariants as end
use Rattle.yv_expand_rounds.specs.declared.label.Label.{Label}
use Rattle.yv_expand_rounds.specs.Groups.{Groups, members_of}
use Rattle.yv_expand_rounds.specs.Labels.{is_named}
use Rattle.yv_expand_rounds.specs.Order.{is_given}
use Rattle.yv_expand_rounds.specs.Paths.{answer, end_at, before, path_end, first_named, is_shorthand, least, lesser, step_end}

pub there_first : (x : ℕ) (xs : List ℕ) → Contains (x ∷ xs) x
there_first x xs = (0, omega arith, refl)

pub there_later : (x i : ℕ) (xs : List ℕ) → Contains xs i → Contains (x ∷ xs) i
there_later x i xs h = Contains-append_right (x ∷ []) xs i h

pub not_none : {A : Type 0} {x : A} → None ≡ Some x → ⊥
not_none e = cc

lesser_of : (a b : Option ℕ) (i : ℕ) → lesser a b ≡ Some i → (a ≡ Some i) ⊎ (b ≡ Some i)
lesser_of None b i e = inr e
lesser_of (Some x) None i e = inl e
lesser_of (Some x) (Some y) i e = by (cases_lt x y)
  where
    same : min x y ≡ i
    same = same_Some (min x y) i e

    by : (x < y) ⊎ (y ≤ x) → (Some x ≡ Some i) ⊎ (Some y ≡ Some i)
    by (inl l) = inl (ap (λ (n : ℕ). Some n) (omega (arith, l, same)))
    by (inr l) = inr (ap (λ (n : ℕ). Some n) (omega (arith, l, same)))

pub least_there : (passes : ℕ → Bool) (xs : List ℕ) (i : ℕ) → least passes xs ≡ Some i → Contains xs i × (passes i ≡ true)
least_there passes [] i e = absurd (not_none e)
least_there passes (x ∷ xs) i e =
    by (passes x) refl (lesser_of (if passes x then Some x else None) (least passes xs) i e) (least_there passes xs i)
  where
    by : (b : Bool) → passes x ≡ b → ((if b then Some x else None) ≡ Some i) ⊎ (least passes xs ≡ Some i)
        → (least passes xs ≡ Some i → Contains xs i × (passes i ≡ true)) → Contains (x ∷ xs) i × (passes i ≡ true)
    by b is (inr h) later = (there_later x i xs (later h).0, (later h).1)
    by true is (inl h) later = (let same : x ≡ i = same_Some x i h in (subst (λ (j : ℕ). Contains (x ∷ xs) j) same (there_first x xs), ap passes (sym same) ∙ is))
    by false is (inl h) later = absurd (not_none h)

left_true : (a b : Bool) → (a && b) ≡ true → a ≡ true
left_true true b e = refl
left_true false b e = e

-- the first node of a name is one of the items, and has the name
pub found : (labels : List Label) (name : ℕ) (xs : List ℕ) (i : ℕ) → first_named labels name xs ≡ Some i → Contains xs i × (is_named labels name i ≡ true)
found labels name xs i e = by (least own xs) refl e
  where
    own : ℕ → Bool
    own i = is_named labels name i && not (is_given labels i)

    theirs : ℕ → Bool
    theirs i = is_named labels name i && is_given labels i

    by : (o : Option ℕ) → least own xs ≡ o → option_or o (least theirs xs) ≡ Some i → Contains xs i × (is_named labels name i ≡ true)
    by None at h = (let t = least_there theirs xs i h in (t.0, left_true (is_named labels name i) (is_given labels i) t.1))
    by (Some j) at h = (let t = least_there own xs i (at ∙ h) in (t.0, left_true (is_named labels name i) (not (is_given labels i)) t.1))

-- an end is among items from n on and before the limit
abbrev pub EndIsWithin : (n limit : ℕ) → End → Type 0
EndIsWithin n limit (end.Start g) = Unit {0}
EndIsWithin n limit (end.Node i) = (n ≤ i) × (i < limit)
EndIsWithin n limit (end.ShorthandCase i) = (n ≤ i) × (i < limit)

module _ (labels : List Label) (groups : Groups) (n limit : ℕ) (from : (x j : ℕ) → Contains (members_of groups x) j → n ≤ j) where
  pub answer_within : (g name i : ℕ) → answer labels groups limit g name ≡ Some i → (n ≤ i) × (i < limit)
  answer_within g name i e = by (first_named labels name (members_of groups g)) refl e
    where
      by : (o : Option ℕ) → first_named labels name (members_of groups g) ≡ o → before limit o ≡ Some i → (n ≤ i) × (i < limit)
      by None is h = absurd (not_none h)
      by (Some j) is h = at (nat_lt j limit) refl h
        where
          at : (b : Bool) → nat_lt j limit ≡ b → (if b then Some j else None) ≡ Some i → (n ≤ i) × (i < limit)
          at true l h = (let same : j ≡ i = same_Some j i h in
              let low : n ≤ j = from g j (found labels name (members_of groups g) j is).0 in
              let high : j < limit = ltb-true j limit l in (omega (arith, low, same), omega (arith, high, same)))
          at false l h = absurd (not_none h)

  arrived_within : (i j : ℕ) → (n ≤ j) × (j < limit) → EndIsWithin n limit (end_at labels i j)
  arrived_within i j w = by (is_shorthand (slice_get labels i) (slice_get labels j))
    where
      by : (b : Bool) → EndIsWithin n limit (if b then end.ShorthandCase j else end.Node j)
      by true = w
      by false = w

  step_within : (s e : End) (name : ℕ) → EndIsWithin n limit s → step_end labels groups limit s name ≡ Some e → EndIsWithin n limit e
  step_within (end.Start g) e name w is = by (answer labels groups limit g name) refl is
    where
      by : (o : Option ℕ) → answer labels groups limit g name ≡ o → option_map (λ j. end.Node j) o ≡ Some e → EndIsWithin n limit e
      by None at h = absurd (not_none h)
      by (Some j) at h = subst (EndIsWithin n limit) (same_Some _ _ h) (answer_within g name j at)
  step_within (end.Node i) e name w is = by (answer labels groups limit (i + 1) name) refl is
    where
      by : (o : Option ℕ) → answer labels groups limit (i + 1) name ≡ o → option_map (end_at labels i) o ≡ Some e → EndIsWithin n limit e
      by None at h = absurd (not_none h)
      by (Some j) at h = subst (EndIsWithin n limit) (same_Some _ _ h) (arrived_within i j (answer_within (i + 1) name j at))
  step_within (end.ShorthandCase j) e name w is = by (is_named labels name j) is
    where
      by : (b : Bool) → (if b then Some (end.Node j) else None) ≡ Some e → EndIsWithin n limit e
      by true h = subst (EndIsWithin n limit) (same_Some _ _ h) w
      by false h = absurd (not_none h)

  -- a path that begins at a group ends there
  pub end_within : (names : List ℕ) (s e : End) → EndIsWithin n limit s → path_end labels groups limit names s ≡ Some e → EndIsWithin n limit e
  end_within [] s e w is = subst (EndIsWithin n limit) (same_Some _ _ is) w
  end_within (name ∷ names) s e w is = by (λ m. end_within names m e) (step_end labels groups limit s name) refl is
    where
      by : ((m : End) → EndIsWithin n limit m → path_end labels groups limit names m ≡ Some e → EndIsWithin n limit e)
          → (o : Option End) → step_end labels groups limit s name ≡ o → option_and_then (path_end labels groups limit names) o ≡ Some e → EndIsWithin n limit e
      by later None at h = absurd (not_none h)
      by later (Some m) at h = later m (step_within s m name w at) h
