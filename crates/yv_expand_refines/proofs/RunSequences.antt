-- Sequences that are made of runs, and the items that have them.
use Rattle.std.proofs.Common.{◌≡◌, ℕ, ◌+◌, ◌<◌, ◌≤◌, ◌⊎◌, inl, inr, zero, suc, List, [], ◌∷◌, ◌++◌, length, get_or, set, map, Option, Some, None, Vec, Global, refl, sym, ◌∙◌, ap, subst, arith, length-append}
use Rattle.std.specs.List.{slice_get}
use Rattle.std.specs.Option.{IfSome}
use Rattle.std.proofs.lemmas.List.{append-nil, get_or_append_left, get_or_push, get_or-map, length-map, map_push, map-set, set-get_or, set_past, get_or_past, get_or_default}
use Rattle.std.proofs.lemmas.Option.{same_Some, slice_get_within, get_or_from_slice_get, slice_get_cases}
use Rattle.yv_expand_refines.specs.Changes.{ChangesView, each, sequence_at}
use Rattle.yv_expand_refines.specs.InnerJoints.{AreJoined, Grows, join, joined_from, sequences_of}
use Rattle.yv_expand_refines.specs.declared.joints.Joint.{Joint}

-- an element of a list with one more
pushed : {X : Type 0} (xs : List X) (x y : X) (k : ℕ) → slice_get (xs ++ x ∷ []) k ≡ Some y → (slice_get xs k ≡ Some y) ⊎ ((k ≡ length xs) × (x ≡ y))
pushed [] x y zero e = inr (refl, same_Some x y e)
pushed [] x y (suc k) e = absurd (let bad : None ≡ Some y = e in cc)
pushed (z ∷ xs) x y zero e = inl e
pushed (z ∷ xs) x y (suc k) e = elim (pushed xs x y k e) [ inl h ↦ inl h | inr h ↦ inr (ap suc h.0, h.1) ]

-- an element of a list in which one was written
written : {X : Type 0} (xs : List X) (i k : ℕ) (y z : X) → slice_get (set xs i y) k ≡ Some z → (y ≡ z) ⊎ (slice_get xs k ≡ Some z)
written [] i k y z e = inr e
written (x ∷ xs) zero zero y z e = inl (same_Some y z e)
written (x ∷ xs) zero (suc k) y z e = inr e
written (x ∷ xs) (suc i) zero y z e = inr e
written (x ∷ xs) (suc i) (suc k) y z e = written xs i k y z e

-- two functions that agree on each element
map_alike : {X Y : Type 0} (f g : X → Y) (xs : List X) → ((k : ℕ) (x : X) → slice_get xs k ≡ Some x → f x ≡ g x) → map f xs ≡ map g xs
map_alike f g [] h = refl
map_alike f g (x ∷ xs) h = ap (λ y. y ∷ map f xs) (h zero x refl) ∙ ap (λ ys. g x ∷ ys) (map_alike f g xs (λ k y e. h (suc k) y e))

-- a sequence stays when others come behind
stays : (xs ys : List (List ℕ)) (front : Option ℕ) → IfSome front (λ f. f < length xs) → sequence_at (xs ++ ys) front ≡ sequence_at xs front
stays xs ys None h = refl
stays xs ys (Some f) h = get_or_append_left xs ys [] f h

-- an item past the last, or nothing more
pub nothing_noted : (lists : List (List ℕ)) (item : ℕ) (more : List ℕ) → (length lists ≤ item) ⊎ (more ≡ []) → lists ≡ set lists item (get_or lists item [] ++ more)
nothing_noted lists item more h = elim h [
  | inl past ↦ sym (set_past lists item (get_or lists item [] ++ more) past)
  | inr none ↦ sym (ap (λ m. set lists item (get_or lists item [] ++ m)) none ∙ ap (set lists item) (append-nil (get_or lists item [])) ∙ set-get_or lists item [])
]

module _ (runs : List (List ℕ)) where
  length-joined_from : (done : List (List ℕ)) (js : List Joint) → length (joined_from runs done js) ≡ length done + length js
  length-joined_from done [] = omega arith
  length-joined_from done (j ∷ js) = omega (arith, length-joined_from (done ++ join runs done j ∷ []) js, length-append done (join runs done j ∷ []))

  joined_from-append : (done : List (List ℕ)) (js : List Joint) (j : Joint) → joined_from runs done (js ++ j ∷ []) ≡ joined_from runs done js ++ join runs (joined_from runs done js) j ∷ []
  joined_from-append done [] j = refl
  joined_from-append done (i ∷ js) j = joined_from-append (done ++ join runs done i ∷ []) js j

  kept : (done : List (List ℕ)) (js : List Joint) (k : ℕ) → k < length done → get_or (joined_from runs done js) k [] ≡ get_or done k []
  kept done [] k lt = refl
  kept done (j ∷ js) k lt =
      kept (done ++ join runs done j ∷ []) js k (omega (arith, lt, length-append done (join runs done j ∷ []))) ∙ get_or_append_left done (join runs done j ∷ []) [] k lt

  sequence_kept : (done : List (List ℕ)) (js : List Joint) (front : Option ℕ) → IfSome front (λ f. f < length done) → sequence_at (joined_from runs done js) front ≡ sequence_at done front
  sequence_kept done js None h = refl
  sequence_kept done js (Some f) h = kept done js f h

  -- each sequence is as its joint says
  joined_at : (done : List (List ℕ)) (js : List Joint) (place : ℕ) (j : Joint) → slice_get js place ≡ Some j
      → ((k : ℕ) (i : Joint) → slice_get js k ≡ Some i → IfSome i.front (λ f. f < length done + k))
      → get_or (joined_from runs done js) (length done + place) [] ≡ join runs (joined_from runs done js) j
  joined_at done [] place j e h = absurd (let bad : None ≡ Some j = e in cc)
  joined_at done (i ∷ js) zero j e h =
      let x : List ℕ = join runs done i in
      let all : List (List ℕ) = joined_from runs (done ++ x ∷ []) js in
      let here : get_or all (length done + 0) [] ≡ x =
      kept (done ++ x ∷ []) js (length done + 0) (omega (arith, length-append done (x ∷ []))) ∙ get_or_push done x [] (length done + 0) (omega arith) in
      let before : IfSome i.front (λ f. f < length done) = within i.front (h zero i refl) in
      here
      ∙ ap (λ s. s ++ get_or runs i.run []) (sym (sequence_kept done (i ∷ js) i.front before))
      ∙ ap (λ (i : Joint). join runs all i) (same_Some i j e)
    where
      within : (front : Option ℕ) → IfSome front (λ f. f < length done + 0) → IfSome front (λ f. f < length done)
      within None h = h
      within (Some f) h = omega (arith, h)
  joined_at done (i ∷ js) (suc place) j e h =
      let x : List ℕ = join runs done i in
      let all : List (List ℕ) = joined_from runs (done ++ x ∷ []) js in
      ap (λ n. get_or all n []) (omega (arith, length-append done (x ∷ [])))
      ∙ joined_at (done ++ x ∷ []) js place j e (λ k y at. later y.front k (h (suc k) y at))
    where
      later : (front : Option ℕ) (k : ℕ) → IfSome front (λ f. f < length done + suc k) → IfSome front (λ f. f < length (done ++ join runs done i ∷ []) + k)
      later None k h = h
      later (Some f) k h = omega (arith, h, length-append done (join runs done i ∷ []))

  -- a run that comes behind changes no sequence
  pub one_run_more : (run : List ℕ) (done : List (List ℕ)) (js : List Joint) → ((k : ℕ) (j : Joint) → slice_get js k ≡ Some j → j.run < length runs)
      → joined_from (runs ++ run ∷ []) done js ≡ joined_from runs done js
  one_run_more run done [] h = refl
  one_run_more run done (j ∷ js) h =
      ap (λ s. joined_from (runs ++ run ∷ []) (done ++ (sequence_at done j.front ++ s) ∷ []) js) (get_or_append_left runs (run ∷ []) [] j.run (h zero j refl))
      ∙ one_run_more run (done ++ join runs done j ∷ []) js (λ k i e. h (suc k) i e)

  pub length-sequences_of : (js : List Joint) → length (sequences_of runs js) ≡ length js
  length-sequences_of js = omega (arith, length-joined_from [] js)

  -- how a sequence is made
  pub linked : (n : ℕ) (js : List Joint) (of : List (Option ℕ)) (place : ℕ) (j : Joint) → AreJoined n js of → slice_get js place ≡ Some j
      → get_or (sequences_of runs js) place [] ≡ join runs (sequences_of runs js) j
  linked n js of place j are e =
      ap (λ k. get_or (sequences_of runs js) k []) (omega arith) ∙ joined_at [] js place j e (λ k i at. from i.front k (are.fronts k i at))
    where
      from : (front : Option ℕ) (k : ℕ) → IfSome front (λ f. f < k) → IfSome front (λ f. f < 0 + k)
      from None k h = h
      from (Some f) k h = omega (arith, h)

  pub none_past : (js : List Joint) (place : ℕ) → length js ≤ place → get_or (sequences_of runs js) place [] ≡ []
  none_past js place past = get_or_past (sequences_of runs js) place [] (omega (arith, past, length-sequences_of js))

module _ (n : ℕ) (old new : List Joint) (of : List (Option ℕ)) (item place : ℕ) (j : Joint) where
  -- what was known of sequences and items stays so when an item gets one that goes on from its own
  pub given : AreJoined n old of → j.run < n → slice_get of item ≡ Some j.front → Grows j old new → slice_get new place ≡ Some j → AreJoined n new (set of item (Some place))
  given are run own grows at = record {
    runs = λ k i e. elim (either k i e) [ inl h ↦ are.runs k i h | inr h ↦ subst (λ (i : Joint). i.run < n) h.1 run ];
    fronts = λ k i e. elim (either k i e) [
      | inl h ↦ are.fronts k i h
      | inr h ↦ subst (λ (i : Joint). IfSome i.front (λ f. f < k)) h.1 (before j.front k h.0 (has j.front own))
    ];
    items = λ k p e. elim (written of item k (Some place) (Some p) e) [
      | inl h ↦ subst (λ p. p < length new) (same_Some place p h) (slice_get_within new place j at)
      | inr h ↦ (let lt = are.items k p h in omega (arith, lt, longer))
    ];
  }
    where
      longer : length old ≤ length new
      longer = elim grows [ inl h ↦ omega (arith, ap length h) | inr h ↦ omega (arith, ap length h, length-append old (j ∷ [])) ]

      either : (k : ℕ) (i : Joint) → slice_get new k ≡ Some i → (slice_get old k ≡ Some i) ⊎ ((k ≡ length old) × (j ≡ i))
      either k i e = elim grows [
        | inl h ↦ inl (ap (λ l. slice_get l k) (sym h) ∙ e)
        | inr h ↦ pushed old j i k (ap (λ l. slice_get l k) (sym h) ∙ e)
      ]

      has : (front : Option ℕ) → slice_get of item ≡ Some front → IfSome front (λ f. f < length old)
      has None e = tt
      has (Some f) e = are.items item f e

      before : (front : Option ℕ) (k : ℕ) → k ≡ length old → IfSome front (λ f. f < length old) → IfSome front (λ f. f < k)
      before None k e h = h
      before (Some f) k e h = omega (arith, e, h)

  module _ (runs : List (List ℕ)) where
    -- and the refines that change the item have the run behind them now
    pub noted : AreJoined n old of → j.run < n → slice_get of item ≡ Some j.front → Grows j old new → slice_get new place ≡ Some j
        → map (sequence_at (sequences_of runs new)) (set of item (Some place))
        ≡ set (map (sequence_at (sequences_of runs old)) of) item (get_or (map (sequence_at (sequences_of runs old)) of) item [] ++ get_or runs j.run [])
    noted are run own grows at =
        let before = sequences_of runs old in
        let after = sequences_of runs new in
        map-set (sequence_at after) of item (Some place)
        ∙ ap (λ l. set l item (get_or after place [])) (map_alike (sequence_at after) (sequence_at before) of (λ k x e. alike x (within k x e)))
        ∙ ap (set (map (sequence_at before) of) item)
        (linked runs n new (set of item (Some place)) place j (given are run own grows at) at
        ∙ ap (λ s. s ++ get_or runs j.run []) (alike j.front (within item j.front own) ∙ sym (get_or-map (sequence_at before) of item j.front [] (slice_get_within of item j.front own) ∙ ap (sequence_at before) (get_or_from_slice_get of item j.front j.front own))))
      where
        within : (k : ℕ) (x : Option ℕ) → slice_get of k ≡ Some x → IfSome x (λ p. p < length (sequences_of runs old))
        within k None e = tt
        within k (Some p) e = (let lt = are.items k p e in omega (arith, lt, length-sequences_of runs old))

        alike : (x : Option ℕ) → IfSome x (λ p. p < length (sequences_of runs old)) → sequence_at (sequences_of runs new) x ≡ sequence_at (sequences_of runs old) x
        alike x h = elim grows [
          | inl e ↦ ap (λ l. sequence_at (sequences_of runs l) x) e
          | inr e ↦ ap (λ l. sequence_at (sequences_of runs l) x) e
              ∙ ap (λ s. sequence_at s x) (joined_from-append runs [] old j)
              ∙ stays (sequences_of runs old) (join runs (sequences_of runs old) j ∷ []) x h
        ]

-- runs as they are kept
abbrev pub items_of : List (Vec ℕ Global) → List (List ℕ)
items_of runs = map (λ (v : Vec ℕ Global). v.items) runs

-- what is seen of a run more
pub run_added : (old new : List (Vec ℕ Global)) (run : Vec ℕ Global) (js : List Joint) (of : List (Option ℕ)) → new ≡ old ++ run ∷ [] → AreJoined (length old) js of
    → sequences_of (items_of new) js ≡ sequences_of (items_of old) js
run_added old new run js of e are =
    ap (λ runs. sequences_of (items_of runs) js) e
    ∙ ap (λ runs. sequences_of runs js) (map_push (λ (v : Vec ℕ Global). v.items) old run)
    ∙ one_run_more (items_of old) run.items [] js (λ k j at. (let lt = are.runs k j at in omega (arith, lt, length-map old (λ (v : Vec ℕ Global). v.items))))

-- how a sequence is made, of what callers see
pub linked_in : (n : ℕ) (js : List Joint) (of : List (Option ℕ)) (place : ℕ) (j : Joint) (runs seen sequences : List (List ℕ)) (run : List ℕ) → AreJoined n js of → slice_get js place ≡ Some j
    → runs ≡ seen → sequences_of runs js ≡ sequences → run ≡ get_or seen j.run [] → get_or sequences place [] ≡ sequence_at sequences j.front ++ run
linked_in n js of place j runs seen sequences run are at same is read =
    ap (λ s. get_or s place []) (sym is) ∙ linked runs n js of place j are at
    ∙ ap (λ s. sequence_at s j.front ++ get_or runs j.run []) is
    ∙ ap (λ r. sequence_at sequences j.front ++ r) (ap (λ r. get_or r j.run []) same ∙ sym read)

pub none_in : (js : List Joint) (place : ℕ) (runs sequences : List (List ℕ)) → slice_get js place ≡ None → sequences_of runs js ≡ sequences → get_or sequences place [] ≡ []
none_in js place runs sequences at is =
    ap (λ s. get_or s place []) (sym is) ∙ elim (slice_get_cases js place).1 [
      | inl there ↦ absurd (let bad : None ≡ Some there.0 = sym at ∙ there.2 in cc)
      | inr past ↦ none_past runs js place past.0
    ]

-- what an item gets, of what callers see
pub noted_in : (n : ℕ) (old new : List Joint) (of : List (Option ℕ)) (item place : ℕ) (front : Option ℕ) (run : ℕ) (runs : List (List ℕ)) (seen : ChangesView) → AreJoined n old of → run < n
    → slice_get of item ≡ Some front → Grows (record { front = front; run = run }) old new → slice_get new place ≡ Some (record { front = front; run = run })
    → record { runs = runs; sequences = sequences_of runs old; of = of } ≡ seen
    → map (sequence_at (sequences_of runs new)) (set of item (Some place)) ≡ set (each seen) item (get_or (each seen) item [] ++ get_or seen.runs run [])
noted_in n old new of item place front run runs seen are within own grows at is =
    noted n old new of item place (record { front = front; run = run }) runs are within own grows at
    ∙ ap (λ (x : ChangesView). set (each x) item (get_or (each x) item [] ++ get_or x.runs run [])) is

-- what an item has is there
pub had : (n : ℕ) (js : List Joint) (of : List (Option ℕ)) (item : ℕ) (runs sequences : List (List ℕ)) (x : Option ℕ) → AreJoined n js of → sequences_of runs js ≡ sequences
    → x ≡ get_or of item None → IfSome x (λ place. place < length sequences)
had n js of item runs sequences None are is read = tt
had n js of item runs sequences (Some p) are is read =
    elim (slice_get_cases of item).1 [
      | inl there ↦ (let lt = are.items item p (there.2 ∙ ap (λ y. Some y) (sym there.3 ∙ own there.0 there.1)) in omega (arith, lt, length-sequences_of runs js, ap length is))
      | inr past ↦ absurd (let bad : Some p ≡ None = read ∙ get_or_past of item None past.0 in cc)
    ]
  where
    own : (y : Option ℕ) → item < length of → get_or of item y ≡ Some p
    own y lt = get_or_default of item y None lt ∙ sym read
