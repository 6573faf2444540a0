-- One more name with its number.
use Rattle.std.proofs.Common.{◌≡◌, ℕ, ◌+◌, Bool, true, false, cond, List, [], ◌∷◌, ◌++◌, length, map, take, drop, Option, None, Some, refl, sym, ◌∙◌, ap, arith}
use Rattle.std.specs.Ordering.{nat_cmp}
use Rattle.std.specs.Cmp.Lexicographic.{slice_cmp}
use Rattle.std.specs.Str.{bytes_eq}
use Rattle.std.specs.List.{slice_get}
use Rattle.std.specs.Option.{unwrap_or}
use Rattle.std.specs.BTreeMap.{BTreeMap, UpdatesBy}
use Rattle.std.proofs.lemmas.List.{map_push, take_more, length-take-le, take-append-drop}
use Rattle.std.proofs.lemmas.Map.Text.{is_eq-slice_cmp}
use Rattle.std.proofs.lemmas.Option.{slice_get_within, get_or_from_slice_get}
use Rattle.std.proofs.lemmas.Slice.Eq.{bytes_eq-Decides}
use denote.Ref.{Bor}
use Rattle.yv_expand_paths.specs.InnerNameNumbers.{place_of}
use Rattle.yv_expand_paths.specs.InnerNames.{lookup_in, keep_first}
use Rattle.yv_link_scopes.specs.InnerPlaces.{first_some}
use Rattle.yv_expand_paths.proofs.NamePlaces.{place_push, place_front}

chosen : (b : Bool) (old there : Option ℕ) (number given : ℕ) → (b ≡ true → old ≡ there) → given ≡ unwrap_or there number → cond b (Some given) old ≡ first_some old (cond b (Some number) None)
chosen true old None number given h is = ap (λ n. Some n) is ∙ ap (λ o. first_some o (Some number)) (sym (h refl))
chosen true old (Some x) number given h is = ap (λ n. Some n) is ∙ ap (λ o. first_some o (Some number)) (sym (h refl))
chosen false None there number given h is = refl
chosen false (Some x) there number given h is = refl

-- a name gets a number, or keeps the one that it has
pub kept : (old new : BTreeMap (Bor (List ℕ)) ℕ) (name : Bor (List ℕ)) (number given : ℕ) → given ≡ unwrap_or (lookup_in old name.now) number → UpdatesBy (λ x y. slice_cmp nat_cmp x.now y.now) (λ y. slice_cmp nat_cmp name.now y.now) old new (Some given) → (n : List ℕ) → lookup_in new n ≡ keep_first (lookup_in old) name.now number n
kept old new name number given is u n =
    u.0 (record { ref_ptr = (0, 0); now = n })
    ∙ ap (λ b. cond b (Some given) (lookup_in old n)) (is_eq-slice_cmp name.now n)
    ∙ chosen (bytes_eq name.now n) (lookup_in old n) (lookup_in old name.now) number given (λ h. ap (lookup_in old) (sym ((bytes_eq-Decides name.now n).0 h))) is

-- one more name of a list
pub told_more : (names : List (List ℕ)) (name : List ℕ) (number : ℕ) (old new : List ℕ → Option ℕ) → number ≡ length names → ((n : List ℕ) → old n ≡ place_of names n) → ((n : List ℕ) → new n ≡ keep_first old name number n) → (n : List ℕ) → new n ≡ place_of (names ++ name ∷ []) n
told_more names name number old new is before now n =
    now n
    ∙ ap (λ o. first_some o (cond (bytes_eq name n) (Some number) None)) (before n)
    ∙ ap (λ k. first_some (place_of names n) (cond (bytes_eq name n) (Some k) None)) is
    ∙ sym (place_push names name n)

-- what is told of the first so many names
abbrev pub Told : List (List ℕ) → ℕ → (List ℕ → Option ℕ) → Type 0
Told names i table = (n : List ℕ) → table n ≡ place_of (take i names) n

module _ (names : List (List ℕ)) (i : ℕ) (name : List ℕ) (at : slice_get names i ≡ Some name) where
  next : take (i + 1) names ≡ take i names ++ name ∷ []
  next = take_more names i name (slice_get_within names i name at) ∙ ap (λ y. take i names ++ y ∷ []) (get_or_from_slice_get names i name name at)

  pub told_next : (old new : List ℕ → Option ℕ) → Told names i old → ((n : List ℕ) → new n ≡ keep_first old name i n) → Told names (i + 1) new
  told_next old new before now n =
      told_more (take i names) name i old new (let w = slice_get_within names i name at in let e : length (take i names) ≡ i = length-take-le i names (omega (arith, w)) in sym e) before now n
      ∙ ap (λ l. place_of l n) (sym next)

  pub numbers_next : (table : List ℕ → Option ℕ) (given : ℕ) (old new : List ℕ) → Told names (i + 1) table → table name ≡ Some given → new ≡ old ++ given ∷ [] → map (λ n. Some n) old ≡ map (place_of names) (take i names) → map (λ n. Some n) new ≡ map (place_of names) (take (i + 1) names)
  numbers_next table given old new told is now before =
      let front : place_of (take (i + 1) names) name ≡ Some given = sym (told name) ∙ is in
      let whole : place_of names name ≡ Some given = ap (λ l. place_of l name) (sym (take-append-drop (i + 1) names)) ∙ place_front (take (i + 1) names) (drop (i + 1) names) name given front in
      ap (map (λ n. Some n)) now
      ∙ map_push (λ n. Some n) old given
      ∙ ap (λ l. l ++ Some given ∷ []) before
      ∙ ap (λ o. map (place_of names) (take i names) ++ o ∷ []) (sym whole)
      ∙ sym (map_push (place_of names) (take i names) name)
      ∙ ap (map (place_of names)) (sym next)

-- what is told behind all own names stays told of them
pub numbers_behind : (names others : List (List ℕ)) (list : List (List ℕ)) (numbers : List ℕ) → map (λ n. Some n) numbers ≡ map (place_of names) list → map (λ n. Some n) numbers ≡ map (place_of (names ++ others)) list
numbers_behind names others [] [] h = refl
numbers_behind names others [] (k ∷ ks) h = absurd (let bad : map (λ (n : ℕ). Some n) (k ∷ ks) ≡ [] = h in cc)
numbers_behind names others (n ∷ ns) [] h = absurd (let bad : [] ≡ map (place_of names) (n ∷ ns) = h in cc)
numbers_behind names others (n ∷ ns) (k ∷ ks) h =
    let parts : (Some k ≡ place_of names n) × (map (λ (n : ℕ). Some n) ks ≡ map (place_of names) ns) = (let e : Some k ∷ map (λ (n : ℕ). Some n) ks ≡ place_of names n ∷ map (place_of names) ns = h in (cc, cc)) in
    ap (λ o. o ∷ map (λ (n : ℕ). Some n) ks) (sym (place_front names others n k (sym parts.0)))
    ∙ ap (λ l. place_of (names ++ others) n ∷ l) (numbers_behind names others ns ks parts.1)
