-- The augments of a uses in order, of which those that give something have turns.
use Rattle.std.proofs.Common.{◌≡◌, ℕ, zero, suc, ◌+◌, ◌-◌, ◌<◌, ◌≤◌, ◌==◌, ◌&&◌, not, Bool, true, false, if◌then◌else◌, List, [], ◌∷◌, ◌++◌, length, get_or, map, take, drop, refl, sym, ◌∙◌, ap, arith, Option, Some, None, length-append, take-append-drop}
use Rattle.std.specs.List.{filter, slice_get}
use Rattle.std.proofs.lemmas.List.Elements.{filter-append}
use Rattle.std.proofs.lemmas.List.{append-nil, take_all, take_more}
use Rattle.std.proofs.lemmas.Option.{slice_get_within, slice_get-get_or, get_or_from_slice_get}
use Rattle.yv_link_scopes.specs.Rows.{Row}
use Rattle.yv_base_tables.specs.Families.{is_place, numbers_at, numbers_from}
use Rattle.yv_expand_rounds.specs.declared.label.Label.{Label}
use Rattle.yv_expand_rounds.specs.Turns.{State}
use Rattle.yv_expand_uses.specs.AugmentOrder.{augments_giving, giving_from, giving_places, is_giving, is_in, item_places}
use Rattle.yv_expand_statements.specs.StatementBlocks.{is_augment}
use Rattle.yv_expand_augments.specs.Augmentation.{copy_turn, turns_from}
use Rattle.yv_expand_uses.specs.Spots.{Whole}
use Rattle.yv_expand_augments.specs.MissingTargets.{after_turns, had_turns, next_number}
use Rattle.yv_expand_uses.specs.AugmentOrder.{augment_places, augments_in}
use Rattle.yv_expand_uses.specs.declared.spot.Spot.{Spot}

-- the places of augments that give something are among those of augments
data Among : List (Option ℕ) → List (Option ℕ) → Type 0 where
  none : Among [] []
  left_out : {q : Option ℕ} {ps qs : List (Option ℕ)} → Among ps qs → Among (None ∷ ps) (q ∷ qs)
  kept : {b : ℕ} {ps qs : List (Option ℕ)} → Among ps qs → Among (Some b ∷ ps) (Some b ∷ qs)

among_one : (a b : Bool) (scope : ℕ) (ps qs : List (Option ℕ)) → Among ps qs → Among ((if a && b then Some scope else None) ∷ ps) ((if a then Some scope else None) ∷ qs)
among_one true true scope ps qs rest = kept rest
among_one true false scope ps qs rest = left_out rest
among_one false b scope ps qs rest = left_out rest

are_among : (rows : List Row) (n : ℕ) (rs : List Row) → Among (giving_from rows n rs) (map (λ (r : Row). if is_augment r then Some r.scope else None) rs)
are_among rows n [] = none
are_among rows n (r ∷ rs) = among_one (is_augment r) (not (length (numbers_at (item_places rows) n) == 0)) r.scope _ _ (are_among rows (n + 1) rs)

skipped : (p : ℕ → Bool) (x : ℕ) (xs : List ℕ) → p x ≡ false → filter p (x ∷ xs) ≡ filter p xs
skipped p x xs h = ap (λ (b : Bool). if b then x ∷ filter p xs else filter p xs) h

taken : (p : ℕ → Bool) (x : ℕ) (xs : List ℕ) → p x ≡ true → filter p (x ∷ xs) ≡ x ∷ filter p xs
taken p x xs h = ap (λ (b : Bool). if b then x ∷ filter p xs else filter p xs) h

module _ (block : ℕ) (g : ℕ → Option (Option ℕ)) (n : ℕ) (ps qs : List (Option ℕ))
    (later : numbers_from block (n + 1) ps ≡ filter (λ a. is_in block (g a)) (numbers_from block (n + 1) qs)) where
  filtered_out : (q : Option ℕ) → is_in block (g n) ≡ false → numbers_from block n (None ∷ ps) ≡ filter (λ a. is_in block (g a)) (numbers_from block n (q ∷ qs))
  filtered_out q here = by (is_place block q)
    where
      by : (b : Bool) → numbers_from block (n + 1) ps ≡ filter (λ a. is_in block (g a)) (if b then n ∷ numbers_from block (n + 1) qs else numbers_from block (n + 1) qs)
      by true = later ∙ sym (skipped (λ a. is_in block (g a)) n (numbers_from block (n + 1) qs) here)
      by false = later

  filtered_in : (b : ℕ) → is_in block (g n) ≡ (b == block) → numbers_from block n (Some b ∷ ps) ≡ filter (λ a. is_in block (g a)) (numbers_from block n (Some b ∷ qs))
  filtered_in b here = by (b == block) refl
    where
      by : (t : Bool) → b == block ≡ t → (if t then n ∷ numbers_from block (n + 1) ps else numbers_from block (n + 1) ps)
          ≡ filter (λ a. is_in block (g a)) (if t then n ∷ numbers_from block (n + 1) qs else numbers_from block (n + 1) qs)
      by true is = ap (λ l. n ∷ l) later ∙ sym (taken (λ a. is_in block (g a)) n (numbers_from block (n + 1) qs) (here ∙ is))
      by false is = later

filtered : (block : ℕ) (g : ℕ → Option (Option ℕ)) (n : ℕ) (ps qs : List (Option ℕ)) → Among ps qs → ((k : ℕ) → slice_get ps k ≡ g (n + k))
    → numbers_from block n ps ≡ filter (λ a. is_in block (g a)) (numbers_from block n qs)
filtered block g n _ _ none told = refl
filtered block g n _ _ (left_out {q = q} {ps = ps} {qs = qs} rest) told =
    filtered_out block g n ps qs (filtered block g (n + 1) ps qs rest (λ k. told (suc k) ∙ ap g (let e : n + suc k ≡ n + 1 + k = omega arith in e))) q
    (ap (is_in block) (ap g (let e : n ≡ n + 0 = omega arith in e) ∙ sym (told 0)))
filtered block g n _ _ (kept {b = b} {ps = ps} {qs = qs} rest) told =
    filtered_in block g n ps qs (filtered block g (n + 1) ps qs rest (λ k. told (suc k) ∙ ap g (let e : n + suc k ≡ n + 1 + k = omega arith in e))) b
    (ap (is_in block) (ap g (let e : n ≡ n + 0 = omega arith in e) ∙ sym (told 0)))

-- those that give something are among all of a block
pub giving_filtered : (rows : List Row) (block : ℕ) → augments_giving rows block ≡ filter (is_giving rows block) (augments_in rows block)
unfolding giving_places
giving_filtered rows block =
    filtered block (slice_get (giving_places rows)) 0 (giving_from rows 0 rows) (augment_places rows) (are_among rows 0 rows)
    (λ k. ap (slice_get (giving_places rows)) (let e : k ≡ 0 + k = omega arith in e))

turns_snoc : (w : Whole) (labels : List Label) (s : Spot) (n : ℕ) (xs : List ℕ) (a : ℕ) (st : State)
    → turns_from w labels s n (xs ++ a ∷ []) st ≡ copy_turn w labels s (n + length xs) a (turns_from w labels s n xs st)
turns_snoc w labels s n [] a st = ap (λ (m : ℕ). copy_turn w labels s m a st) (let e : n ≡ n + 0 = omega arith in e)
turns_snoc w labels s n (x ∷ xs) a st =
    let next : State = copy_turn w labels s n x st in
    turns_snoc w labels s (n + 1) xs a next
    ∙ ap (λ (m : ℕ). copy_turn w labels s m a (turns_from w labels s (n + 1) xs next)) (let e : n + 1 + length xs ≡ n + length (x ∷ xs) = omega arith in e)

module _ (rows : List Row) (s : Spot) (k a : ℕ) (at : slice_get (augments_in rows s.statement) k ≡ Some a) where
  one_more : had_turns rows s (k + 1) ≡ had_turns rows s k ++ filter (is_giving rows s.statement) (a ∷ [])
  one_more =
      let all : List ℕ = augments_in rows s.statement in
      ap (filter (is_giving rows s.statement)) (take_more all k a (slice_get_within all k a at) ∙ ap (λ (z : ℕ). take k all ++ z ∷ []) (get_or_from_slice_get all k a a at))
      ∙ filter-append (is_giving rows s.statement) (take k all) (a ∷ [])

  with_turn : is_giving rows s.statement a ≡ true → had_turns rows s (k + 1) ≡ had_turns rows s k ++ a ∷ []
  with_turn h = one_more ∙ ap (λ l. had_turns rows s k ++ l) (taken (is_giving rows s.statement) a [] h)

  without_turn : is_giving rows s.statement a ≡ false → had_turns rows s (k + 1) ≡ had_turns rows s k
  without_turn h = one_more ∙ ap (λ l. had_turns rows s k ++ l) (skipped (is_giving rows s.statement) a [] h) ∙ append-nil (had_turns rows s k)

  -- the number of the next copy
  pub number_more : is_giving rows s.statement a ≡ true → next_number rows s (k + 1) ≡ next_number rows s k + 1
  number_more h = (let e = ap length (with_turn h) in let l = length-append (had_turns rows s k) (a ∷ []) in omega (arith, e, l))

  -- it is within those of the uses
  pub number_within : is_giving rows s.statement a ≡ true → next_number rows s k < s.first + length (augments_giving rows s.statement)
  number_within h =
      let all : List ℕ = augments_in rows s.statement in
      let p : ℕ → Bool = is_giving rows s.statement in
      let whole : filter p all ≡ had_turns rows s (k + 1) ++ filter p (drop (k + 1) all) =
      ap (filter p) (sym (take-append-drop (k + 1) all)) ∙ filter-append p (take (k + 1) all) (drop (k + 1) all) in
      let size = ap length (giving_filtered rows s.statement ∙ whole) in
      let parts = length-append (had_turns rows s (k + 1)) (filter p (drop (k + 1) all)) in
      let e = ap length (with_turn h) in
      let l = length-append (had_turns rows s k) (a ∷ []) in
      omega (arith, size, parts, e, l)

-- no copy has a higher number than those of the uses
pub number_most : (rows : List Row) (s : Spot) (k : ℕ) → next_number rows s k ≤ s.first + length (augments_giving rows s.statement)
number_most rows s k =
    let all : List ℕ = augments_in rows s.statement in
    let p : ℕ → Bool = is_giving rows s.statement in
    let whole : filter p all ≡ had_turns rows s k ++ filter p (drop k all) = ap (filter p) (sym (take-append-drop k all)) ∙ filter-append p (take k all) (drop k all) in
    let size = ap length (giving_filtered rows s.statement ∙ whole) in
    let parts = length-append (had_turns rows s k) (filter p (drop k all)) in
    omega (arith, size, parts)

-- one more turn
pub after_more : (w : Whole) (labels : List Label) (s : Spot) (k a : ℕ) (st : State) → slice_get (augments_in w.rows s.statement) k ≡ Some a → is_giving w.rows s.statement a ≡ true
    → copy_turn w labels s (next_number w.rows s k) a (after_turns w labels s k st) ≡ after_turns w labels s (k + 1) st
after_more w labels s k a st at h =
    sym (ap (λ l. turns_from w labels s s.first l st) (with_turn w.rows s k a at h) ∙ turns_snoc w labels s s.first (had_turns w.rows s k) a st)

-- augments that give nothing have no turns
module _ (rows : List Row) (s : Spot) (from to : ℕ) (within : to ≤ length (augments_in rows s.statement))
    (quiet : (k a : ℕ) → from ≤ k → k < to → slice_get (augments_in rows s.statement) k ≡ Some a → is_giving rows s.statement a ≡ false) where
  none_between : (n : ℕ) → from + n ≤ to → had_turns rows s (from + n) ≡ had_turns rows s from
  none_between zero le = ap (had_turns rows s) (let e : from + 0 ≡ from = omega arith in e)
  none_between (suc n) le =
      let all : List ℕ = augments_in rows s.statement in
      let k : ℕ = from + n in
      let a : ℕ = get_or all k 0 in
      let at : slice_get all k ≡ Some a = slice_get-get_or all k 0 (omega (arith, le, within)) in
      ap (had_turns rows s) (let e : from + suc n ≡ from + n + 1 = omega arith in e)
      ∙ without_turn rows s k a at (quiet k a (omega arith) (omega (arith, le)) at)
      ∙ none_between n (omega (arith, le))

  pub had_same : (k : ℕ) → from ≤ k → k ≤ to → had_turns rows s k ≡ had_turns rows s from
  had_same k ge le = ap (had_turns rows s) (let e : k ≡ from + (k - from) = omega (arith, ge) in e) ∙ none_between (k - from) (omega (arith, ge, le))

-- all had their turns
pub after_all : (w : Whole) (labels : List Label) (s : Spot) (k : ℕ) (st : State) → length (augments_in w.rows s.statement) ≤ k
    → after_turns w labels s k st ≡ turns_from w labels s s.first (augments_giving w.rows s.statement) st
after_all w labels s k st past =
    ap (λ l. turns_from w labels s s.first l st)
    (ap (filter (is_giving w.rows s.statement)) (take_all k (augments_in w.rows s.statement) past) ∙ sym (giving_filtered w.rows s.statement))
