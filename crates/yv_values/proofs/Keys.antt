-- Keys with their places, as an index finds and adds them.
use Rattle.std.proofs.Common.{◌≡◌, ℕ, ◌+◌, ◌<◌, ◌⊎◌, ◌++◌, Bool, true, false, cond, List, [], ◌∷◌, length, Option, Some, None, IsSome, is_some, unwrap_or, Result, Ok, Err, OnOk, OnErr, if◌then◌else◌, Ordering, refl, sym, ◌∙◌, ap, subst, inl, inr, arith}
use Rattle.std.specs.Bool.{Decides}
use Rattle.std.specs.BTreeMap.{insert_entry}
use Rattle.std.specs.Map.{keys_of, lookup, set_value}
use Rattle.std.specs.Ordering.{is_eq, match_ordering}
use Rattle.std.proofs.lemmas.Map.Steps.{set_value_same}
use Rattle.std.specs.declared.cmp.Ordering.TheVariants.{Less, Equal, Greater}
use Rattle.yv_values.specs.declared.key.Key.{Key}
use Rattle.yv_values.specs.InnerKeys.{atoms_of, key_of, key_cmp}
use Rattle.yv_values.specs.InnerPlaces.{pairs_at, pairs_of, AreApart}
use Rattle.yv_values.specs.Pairs.{Pair, Keeps, IsLeast, IsWithin, Adds}
use Rattle.yv_values.specs.Places.{IsPlace, AddsPlace, IsLeastPlace, HasBetween}
use Rattle.yv_values.specs.Values.{Val}
use Rattle.yv_values.proofs.KeyOrder.{same_rows}

-- the test by which a map finds this key
abbrev pub finds : Key → Key → Bool
finds key other = is_eq (key_cmp key other)

at_split : (key : List Val) (ps : List ℕ) (rest : List Pair) (k : List Val) (p : ℕ) → Keeps (pairs_at key ps ++ rest) k p → ((key ≡ k) × IsPlace ps p) ⊎ Keeps rest k p
at_split key [] rest k p h = inr h
at_split key (x ∷ ps) rest k p (inl e) = inl (e.0, inl e.1)
at_split key (x ∷ ps) rest k p (inr h) = elim (at_split key ps rest k p h) [ inl a ↦ inl (a.0, inr a.1) | inr b ↦ inr b ]

at_join : (key : List Val) (ps : List ℕ) (rest : List Pair) (k : List Val) (p : ℕ) → ((key ≡ k) × IsPlace ps p) ⊎ Keeps rest k p → Keeps (pairs_at key ps ++ rest) k p
at_join key [] rest k p (inl h) = elim h.1 [ ]
at_join key [] rest k p (inr h) = h
at_join key (x ∷ ps) rest k p (inl (e, inl f)) = inl (e, f)
at_join key (x ∷ ps) rest k p (inl (e, inr h)) = inr (at_join key ps rest k p (inl (e, h)))
at_join key (x ∷ ps) rest k p (inr h) = inr (at_join key ps rest k p (inr h))

-- what a look-up in one more entry says
if_found : (b : Bool) (x y : List ℕ) (o : Option (List ℕ)) → cond b (Some x) o ≡ Some y → ((b ≡ true) × (x ≡ y)) ⊎ ((b ≡ false) × (o ≡ Some y))
if_found true x y o h = inl (refl, cc)
if_found false x y o h = inr (refl, h)

if_none : (b : Bool) (x : List ℕ) (o : Option (List ℕ)) → cond b (Some x) o ≡ None → (b ≡ false) × (o ≡ None)
if_none true x o h = absurd (cc)
if_none false x o h = (refl, h)

-- one place more at the first key
adds_here : (k : List Val) (old new : List ℕ) (rest : List Pair) (p : ℕ) → AddsPlace old new p → Adds (pairs_at k old ++ rest) (pairs_at k new ++ rest) k p
adds_here k old new rest p add q r = (
  λ h. elim (at_split k new rest q r h) [
    | inl a ↦ elim ((add r).0 a.1) [ inl c ↦ inl (at_join k old rest q r (inl (a.0, c))) | inr e ↦ inr (sym a.0, e) ]
    | inr b ↦ inl (at_join k old rest q r (inr b))
  ],
  λ s. elim s [
    | inl h ↦ elim (at_split k old rest q r h) [ inl a ↦ at_join k new rest q r (inl (a.0, (add r).1 (inl a.1))) | inr b ↦ at_join k new rest q r (inr b) ]
    | inr e ↦ at_join k new rest q r (inl (sym e.0, (add r).1 (inr e.1)))
  ],
)

-- one pair more behind the first key
adds_later : (k : List Val) (ps : List ℕ) (xs ys : List Pair) (key : List Val) (p : ℕ) → Adds xs ys key p → Adds (pairs_at k ps ++ xs) (pairs_at k ps ++ ys) key p
adds_later k ps xs ys key p add q r = (
  λ h. elim (at_split k ps ys q r h) [
    | inl a ↦ inl (at_join k ps xs q r (inl a))
    | inr b ↦ elim ((add q r).0 b) [ inl c ↦ inl (at_join k ps xs q r (inr c)) | inr e ↦ inr e ]
  ],
  λ s. elim s [
    | inl h ↦ elim (at_split k ps xs q r h) [ inl a ↦ at_join k ps ys q r (inl a) | inr b ↦ at_join k ps ys q r (inr ((add q r).1 (inl b))) ]
    | inr e ↦ at_join k ps ys q r (inr ((add q r).1 (inr e)))
  ],
)

some_place : (xs : List ℕ) (p : ℕ) → IsPlace xs p → 0 < length xs
some_place [] p h = elim h [ ]
some_place (x ∷ xs) p h = omega arith

place_of : (xs : List ℕ) → 0 < length xs → (p : ℕ) × IsPlace xs p
place_of [] h = absurd (omega arith)
place_of (x ∷ xs) h = (x, inl refl)

one_place : (p : ℕ) → AddsPlace [] (p ∷ []) p
one_place p q = (λ h. elim h [ inl e ↦ inr (sym e) | inr f ↦ inl f ], λ s. elim s [ inl f ↦ inr f | inr e ↦ inl (sym e) ])

-- where the order of two keys isn't `Equal`
placed : {X : Type 0} (P : X → Type 0) (o : Ordering) (x y z : X) → is_eq o ≡ false → P x → P z → P (match_ordering o x y z)
placed P Less x y z f g h = g
placed P Equal x y z f g h = absurd (cc)
placed P Greater x y z f g h = h

module _ (key : Key) where
  differs : (other : Key) → finds key other ≡ false → key_of other ≡ key_of key → ⊥
  differs other f e = let t : true ≡ false = sym ((same_rows (atoms_of key) (atoms_of other)).1 (sym e)) ∙ f in cc

  -- the places of the key that is found are kept at it
  pub found_keeps : (es : List (Key × List ℕ)) (ps : List ℕ) (p : ℕ) → lookup (finds key) es ≡ Some ps → IsPlace ps p → Keeps (pairs_of es) (key_of key) p
  found_keeps [] ps p f h = absurd (cc)
  found_keeps (e ∷ es) ps p f h = elim (if_found (finds key e.0) e.1 ps (lookup (finds key) es) f) [
    | inl t ↦ at_join (key_of e.0) e.1 (pairs_of es) _ p (inl (sym ((same_rows (atoms_of key) (atoms_of e.0)).0 t.0), subst (λ (xs : List ℕ). IsPlace xs p) (sym t.1) h))
    | inr g ↦ at_join (key_of e.0) e.1 (pairs_of es) _ p (inr (found_keeps es ps p g.1 h))
  ]

  -- and no others
  pub keeps_found : (es : List (Key × List ℕ)) (ps : List ℕ) (p : ℕ) → AreApart es → lookup (finds key) es ≡ Some ps → Keeps (pairs_of es) (key_of key) p → IsPlace ps p
  keeps_found [] ps p a f h = absurd (cc)
  keeps_found (e ∷ es) ps p a f h = elim (if_found (finds key e.0) e.1 ps (lookup (finds key) es) f) [
    | inl t ↦ elim (at_split (key_of e.0) e.1 (pairs_of es) _ p h) [
      | inl here ↦ subst (λ (xs : List ℕ). IsPlace xs p) t.1 here.1
      | inr later ↦ absurd (a.1 p (subst (λ (k : List Val). Keeps (pairs_of es) k p) ((same_rows (atoms_of key) (atoms_of e.0)).0 t.0) later))
    ]
    | inr g ↦ elim (at_split (key_of e.0) e.1 (pairs_of es) _ p h) [
      | inl here ↦ absurd (differs e.0 g.0 here.0)
      | inr later ↦ keeps_found es ps p a.2 g.1 later
    ]
  ]

  pub none_kept : (es : List (Key × List ℕ)) (p : ℕ) → lookup (finds key) es ≡ None → Keeps (pairs_of es) (key_of key) p → ⊥
  none_kept [] p f h = elim h [ ]
  none_kept (e ∷ es) p f h =
      let g = if_none (finds key e.0) e.1 (lookup (finds key) es) f in
      elim (at_split (key_of e.0) e.1 (pairs_of es) _ p h) [ inl here ↦ differs e.0 g.0 here.0 | inr later ↦ none_kept es p g.1 later ]

  pub least_found : (es : List (Key × List ℕ)) (ps : List ℕ) (p : ℕ) → AreApart es → lookup (finds key) es ≡ Some ps → IsLeastPlace ps p → IsLeast (pairs_of es) (key_of key) (Some p)
  least_found es ps p a f h = (found_keeps es ps p f h.0, λ q g. h.1 q (keeps_found es ps q a f g))

  -- a key of which nothing is kept isn't found
  pub not_found : (es : List (Key × List ℕ)) → AreApart es → ((p : ℕ) → Keeps (pairs_of es) (key_of key) p → ⊥) → lookup (finds key) es ≡ None
  not_found [] a none = refl
  not_found (e ∷ es) a none = by (finds key e.0) refl (λ h. not_found es a.2 h)
    where
      by : (b : Bool) → finds key e.0 ≡ b → (((p : ℕ) → Keeps (pairs_of es) (key_of key) p → ⊥) → lookup (finds key) es ≡ None) → cond b (Some e.1) (lookup (finds key) es) ≡ None
      by true t later =
          let one = place_of e.1 a.0 in
          absurd (none one.0 (at_join (key_of e.0) e.1 (pairs_of es) _ one.0 (inl (sym ((same_rows (atoms_of key) (atoms_of e.0)).0 t), one.1))))
      by false t later = later (λ p h. none p (at_join (key_of e.0) e.1 (pairs_of es) _ p (inr h)))

  pub within_found : (es : List (Key × List ℕ)) (ps : List ℕ) (b : Bool) (first last : ℕ) → AreApart es → lookup (finds key) es ≡ Some ps → Decides b (HasBetween ps first last) → Decides b (IsWithin (pairs_of es) (key_of key) first last)
  within_found es ps b first last a f d = (
    λ t. (let h = d.0 t in (h.0, found_keeps es ps h.0 f h.1, h.2, h.3)),
    λ h. d.1 (h.0, keeps_found es ps h.0 a f h.1, h.2, h.3),
  )

  -- one place more at the key that is found
  pub set_adds : (es : List (Key × List ℕ)) (ps new : List ℕ) (p : ℕ) → lookup (finds key) es ≡ Some ps → AddsPlace ps new p → Adds (pairs_of es) (pairs_of (set_value (finds key) es new)) (key_of key) p
  set_adds [] ps new p f h = absurd (cc)
  set_adds (e ∷ es) ps new p f h = elim (if_found (finds key e.0) e.1 ps (lookup (finds key) es) f) [
    | inl t ↦ rw t.0 (
        subst (λ (k : List Val). Adds (pairs_of (e ∷ es)) (pairs_at (key_of e.0) new ++ pairs_of es) k p) (sym ((same_rows (atoms_of key) (atoms_of e.0)).0 t.0)) (adds_here (key_of e.0) e.1 new (pairs_of es) p (subst (λ (xs : List ℕ). AddsPlace xs new p) (sym t.1) h))
        )
    | inr g ↦ rw g.0 (adds_later (key_of e.0) e.1 (pairs_of es) (pairs_of (set_value (finds key) es new)) (key_of key) p (set_adds es ps new p g.1 h))
  ]

  pub set_apart : (es : List (Key × List ℕ)) (ps new : List ℕ) (p : ℕ) → AreApart es → lookup (finds key) es ≡ Some ps → AddsPlace ps new p → AreApart (set_value (finds key) es new)
  set_apart [] ps new p a f h = absurd (cc)
  set_apart (e ∷ es) ps new p a f h = elim (if_found (finds key e.0) e.1 ps (lookup (finds key) es) f) [
    | inl t ↦ rw t.0 (some_place new p ((h p).1 (inr refl)), a.1, a.2)
    | inr g ↦ rw g.0 (
      a.0,
      λ r kept. elim ((set_adds es ps new p g.1 h (key_of e.0) r).0 kept) [ inl k ↦ a.1 r k | inr s ↦ differs e.0 g.0 s.0 ],
      set_apart es ps new p a.2 g.1 h,
    )
  ]

module _ (key : Key) (p : ℕ) where
  pub insert_adds : (es : List (Key × List ℕ)) → lookup (finds key) es ≡ None → Adds (pairs_of es) (pairs_of (insert_entry key_cmp es key (p ∷ []))) (key_of key) p
  insert_adds [] f = adds_here (key_of key) [] (p ∷ []) [] p (one_place p)
  insert_adds (e ∷ es) f =
      let g = if_none (finds key e.0) e.1 (lookup (finds key) es) f in
      placed (λ (xs : List (Key × List ℕ)). Adds (pairs_of (e ∷ es)) (pairs_of xs) (key_of key) p) (key_cmp key e.0) _ _ _ g.0
      (adds_here (key_of key) [] (p ∷ []) (pairs_of (e ∷ es)) p (one_place p))
      (adds_later (key_of e.0) e.1 (pairs_of es) _ (key_of key) p (insert_adds es g.1))

  pub insert_apart : (es : List (Key × List ℕ)) → AreApart es → lookup (finds key) es ≡ None → AreApart (insert_entry key_cmp es key (p ∷ []))
  insert_apart [] a f = (omega arith, λ r kept. kept, tt)
  insert_apart (e ∷ es) a f =
      let g = if_none (finds key e.0) e.1 (lookup (finds key) es) f in
      placed AreApart (key_cmp key e.0) _ _ _ g.0
      (omega arith, λ r kept. none_kept key (e ∷ es) r f kept, a)
      (a.0, λ r kept. elim ((insert_adds es g.1 (key_of e.0) r).0 kept) [ inl k ↦ a.1 r k | inr s ↦ differs key e.0 g.0 s.0 ], insert_apart es a.2 g.1)

-- an insert that leaves the keys as they are writes at the key that is found
module _ (key : Key) (new : List ℕ) where
  pub insert_sets : (es : List (Key × List ℕ)) → keys_of (insert_entry key_cmp es key new) ≡ keys_of es → insert_entry key_cmp es key new ≡ set_value (finds key) es new
  insert_sets [] h = absurd (cc)
  insert_sets (e ∷ es) h = by (key_cmp key e.0) h (λ g. insert_sets es g)
    where
      by : (o : Ordering) → keys_of (match_ordering o ((key, new) ∷ e ∷ es) ((e.0, new) ∷ es) (e ∷ insert_entry key_cmp es key new)) ≡ keys_of (e ∷ es)
          → (keys_of (insert_entry key_cmp es key new) ≡ keys_of es → insert_entry key_cmp es key new ≡ set_value (finds key) es new)
          → match_ordering o ((key, new) ∷ e ∷ es) ((e.0, new) ∷ es) (e ∷ insert_entry key_cmp es key new) ≡ cond (is_eq o) ((e.0, new) ∷ es) (e ∷ set_value (finds key) es new)
      by Less g later = let longer = ap (λ (ks : List Key). length ks) g in absurd (omega (arith, longer))
      by Equal g later = refl
      by Greater g later = let same : keys_of (insert_entry key_cmp es key new) ≡ keys_of es = cc in ap (λ xs. e ∷ xs) (later same)

-- after `add` at the key that is found, whether it had memory or not
module _ {X E : Type 0} (r : Result X E) (key : Key) (es : List (Key × List ℕ)) (ps new : List ℕ) (p : ℕ) (f : lookup (finds key) es ≡ Some ps) where
  pub apart_after : AreApart es → OnOk r (AddsPlace ps new p) → OnErr r (new ≡ ps) → AreApart (set_value (finds key) es new)
  apart_after a = by r
    where
      by : (s : Result X E) → OnOk s (AddsPlace ps new p) → OnErr s (new ≡ ps) → AreApart (set_value (finds key) es new)
      by (Ok x) added same = set_apart key es ps new p a f added
      by (Err e) added same = rw (same, set_value_same (finds key) es ps f) a

-- where it had none, nothing changed
pub same_after : {X E : Type 0} (r : Result X E) (key : Key) (es : List (Key × List ℕ)) (ps new : List ℕ) (old : List Pair) → lookup (finds key) es ≡ Some ps → new ≡ ps → pairs_of es ≡ old → OnErr r (pairs_of (set_value (finds key) es new) ≡ old)
same_after (Ok x) key es ps new old f same is = tt
same_after (Err e) key es ps new old f same is = ap pairs_of (ap (set_value (finds key) es) same ∙ set_value_same (finds key) es ps f) ∙ is

-- after one look-up that puts a place at the key, where it has none
module _ (key : Key) (p : ℕ) (es new : List (Key × List ℕ)) (apart : AreApart es) where
  stays : (ps : List ℕ) → lookup (finds key) es ≡ Some ps → new ≡ insert_entry key_cmp es key ps → keys_of new ≡ keys_of es → new ≡ es
  stays ps f is same = is ∙ insert_sets key ps es (ap keys_of (sym is) ∙ same) ∙ set_value_same (finds key) es ps f

  pub looked_up_apart : (o : Option (List ℕ)) → o ≡ lookup (finds key) es → new ≡ insert_entry key_cmp es key (unwrap_or o (p ∷ [])) → (IsSome o → keys_of new ≡ keys_of es) → AreApart new
  looked_up_apart None f is same = subst AreApart (sym is) (insert_apart key p es apart (sym f))
  looked_up_apart (Some ps) f is same = subst AreApart (sym (stays ps (sym f) is (same refl))) apart

  -- where there are as many entries as before, the key was known
  pub looked_up_known : (o : Option (List ℕ)) (q : ℕ) → o ≡ lookup (finds key) es → new ≡ insert_entry key_cmp es key (unwrap_or o (p ∷ [])) → (IsSome o → keys_of new ≡ keys_of es)
      → length new ≡ length es + (if is_some o then 0 else 1) → length new ≡ length es → IsLeastPlace (unwrap_or o (p ∷ [])) q
      → IsLeast (pairs_of es) (key_of key) (Some q) × (pairs_of new ≡ pairs_of es)
  looked_up_known None q f is same len known least = absurd (omega (arith, len, known))
  looked_up_known (Some ps) q f is same len known least = (least_found key es ps q apart (sym f) least, ap pairs_of (stays ps (sym f) is (same refl)))

  pub looked_up_new : (o : Option (List ℕ)) → o ≡ lookup (finds key) es → new ≡ insert_entry key_cmp es key (unwrap_or o (p ∷ []))
      → length new ≡ length es + (if is_some o then 0 else 1) → (length new ≡ length es → ⊥)
      → IsLeast (pairs_of es) (key_of key) None × Adds (pairs_of es) (pairs_of new) (key_of key) p
  looked_up_new None f is len other = (λ q k. none_kept key es q (sym f) k, subst (λ (xs : List (Key × List ℕ)). Adds (pairs_of es) (pairs_of xs) (key_of key) p) (sym is) (insert_adds key p es (sym f)))
  looked_up_new (Some ps) f is len other = absurd (other (omega (arith, len)))
