-- Paths that are followed together: what was found grows level by level until nothing is left to be
-- found.
use Rattle.std.proofs.Common.{◌≡◌, ◌⊎◌, ℕ, zero, suc, ◌+◌, ◌<◌, ◌≤◌, true, List, [], ◌∷◌, ◌++◌, get_or, length, length-append, Option, None, Some, Result, Ok, Err, inl, inr, refl, sym, ◌∙◌, ap, subst, arith}
use Rattle.std.specs.List.{slice_get}
use Rattle.std.specs.Option.{option_and_then}
use Rattle.std.specs.Result.{OnOk}
use Rattle.std.proofs.lemmas.Bool.{cases_lt}
use Rattle.std.proofs.lemmas.Option.{same_Some, slice_get-get_or, slice_get_within}
use Rattle.yv_base_tables.specs.Fronts.{GoesOn, HaveFronts}
use Rattle.yv_expand_rounds.specs.declared.arrivals.Arrival.{Arrival}
use Rattle.yv_expand_rounds.specs.declared.end.End.{End}
use Rattle.yv_expand_rounds.specs.declared.end.End.TheVariants.{Start}
use Rattle.yv_expand_rounds.specs.declared.label.Label.{Label}
use Rattle.yv_expand_rounds.specs.Arrivals.{AreArrivals, Arrives}
use Rattle.yv_expand_rounds.specs.Groups.{Groups}
use Rattle.yv_expand_rounds.specs.Paths.{path_end, step_end}
use Rattle.yv_expand_rounds.specs.InnerArrivals.{AreMet, Branches, Follows, FollowsSome, Gains, Meets, is_at}
use Rattle.yv_expand_rounds.proofs.DescendingMembers.{kept_place, last_place, pushed_place}
use Rattle.yv_expand_rounds.proofs.FollowedPaths.{ended_append}

pub on_ok : {T E : Type 0} {P Q : Type 0} (r : Result T E) → OnOk r P → (P → Q) → OnOk r Q
on_ok (Ok x) p f = f p
on_ok (Err e) p f = p

-- an arrival is among these
abbrev pub IsFound : List Arrival → Arrival → Type 0
IsFound found a = (place : ℕ) × (slice_get found place ≡ Some a)

pub gains_weaker : (Sound Must Less : Arrival → Type 0) (old new : List Arrival) → Gains Sound Must old new → ((a : Arrival) → Less a → Must a) → Gains Sound Less old new
gains_weaker Sound Must Less old new g less = record { longer = g.longer; kept = g.kept; sound = g.sound; all = λ a m. g.all a (less a m) }

pub gains_sounder : (Sound More Must : Arrival → Type 0) (old new : List Arrival) → Gains Sound Must old new → ((a : Arrival) → Sound a → More a) → Gains More Must old new
gains_sounder Sound More Must old new g more = record { longer = g.longer; kept = g.kept; sound = λ place a past at. more a (g.sound place a past at); all = g.all }

pub gains_more : (Sound Must More : Arrival → Type 0) (old mid new : List Arrival) (next : Arrival) → Gains Sound Must old mid → new ≡ mid ++ next ∷ [] → Sound next
    → ((a : Arrival) → More a → Must a ⊎ (a ≡ next)) → Gains Sound More old new
gains_more Sound Must More old mid new next g is sound split =
    subst (λ (xs : List Arrival). Gains Sound More old xs) (sym is) (record {
      longer = (let l = g.longer in let e = length-append mid (next ∷ []) in omega (arith, l, e));
      kept = λ place a at. kept_place mid next a place (g.kept place a at);
      sound = λ place a past at. elim (pushed_place mid next a place at) [
        | inl before ↦ g.sound place a past before
        | inr last ↦ subst Sound (sym last.1) sound
      ];
      all = λ a m. elim (split a m) [
        | inl had ↦ let found = g.all a had in (found.0, kept_place mid next a found.0 found.1)
        | inr same ↦ (length mid, last_place mid next ∙ ap Some (sym same))
      ];
    })

-- what stood there stands there
pub stood : (Sound Must : Arrival → Type 0) (old new : List Arrival) (place : ℕ) (a : Arrival) → Gains Sound Must old new → place < length old → slice_get new place ≡ Some a
    → slice_get old place ≡ Some a
stood Sound Must old new place a g less at =
    let b : Arrival = get_or old place a in
    let was : slice_get old place ≡ Some b = slice_get-get_or old place a less in
    was ∙ ap Some (same_Some b a (sym (g.kept place b was) ∙ at))

pub gains_then : (Sound First Second Both : Arrival → Type 0) (old mid new : List Arrival) → Gains Sound First old mid → Gains Sound Second mid new
    → ((a : Arrival) → Both a → First a ⊎ Second a) → Gains Sound Both old new
gains_then Sound First Second Both old mid new g h split = record {
  longer = (let l = g.longer in let m = h.longer in omega (arith, l, m));
  kept = λ place a at. h.kept place a (g.kept place a at);
  sound = λ place a past at. elim (cases_lt place (length mid)) [
    | inl less ↦ g.sound place a past (stood Sound Second mid new place a h less at)
    | inr more ↦ h.sound place a more at
  ];
  all = λ a b. elim (split a b) [
    | inl first ↦ let found = g.all a first in (found.0, h.kept found.0 a found.1)
    | inr second ↦ h.all a second
  ];
}

abbrev arrival : ℕ → End → Arrival
arrival p e = record { path = p; end = e }

pub one_arrival : (p q : ℕ) (e f : End) → p ≡ q → e ≡ f → arrival p e ≡ arrival q f
one_arrival p q e f same is = ap (λ (n : ℕ). arrival n e) same ∙ ap (λ (x : End). arrival q x) is

last_apart : (x : ℕ) (xs : List ℕ) → (front : List ℕ) × (last : ℕ) × (x ∷ xs ≡ front ++ last ∷ [])
last_apart x [] = ([], x, refl)
last_apart x (y ∷ ys) = let rest = last_apart y ys in (x ∷ rest.0, rest.1, ap (λ l. x ∷ l) rest.2)

module _ (labels : List Label) (groups : Groups) (limit : ℕ) (paths : List (List ℕ)) where
  pub meets_split : (from a : Arrival) (items : List ℕ) (count item : ℕ) → slice_get items count ≡ Some item → Meets labels groups limit paths from items (count + 1) a
      → Meets labels groups limit paths from items count a ⊎ (Follows labels groups limit paths from a × (is_at a.end item ≡ true))
  meets_split from a items count item at m = elim (cases_lt m.place count) [
    | inl less ↦ inl (record { follows = m.follows; place = m.place; before = less; item = m.item; at = m.at; is = m.is })
    | inr more ↦
        let same : m.place ≡ count = (let b = m.before in omega (arith, b, more)) in
        let one : m.item ≡ item = same_Some m.item item (sym m.at ∙ ap (slice_get items) same ∙ at) in
        inr (m.follows, subst (λ (i : ℕ). is_at a.end i ≡ true) one m.is)
  ]

  pub branches_split : (from a : Arrival) (branches : List ℕ) (count path : ℕ) → slice_get branches count ≡ Some path
      → Branches labels groups limit paths from branches (count + 1) a
      → Branches labels groups limit paths from branches count a ⊎ (Follows labels groups limit paths from a × (a.path ≡ path))
  branches_split from a branches count path at b = elim (cases_lt b.place count) [
    | inl less ↦ inl (record { follows = b.follows; place = b.place; before = less; at = b.at })
    | inr more ↦
        let same : b.place ≡ count = (let l = b.before in omega (arith, l, more)) in
        inr (b.follows, same_Some a.path path (sym b.at ∙ ap (slice_get branches) same ∙ at))
  ]

  pub follows_split : (a from : Arrival) (found : List Arrival) (first count : ℕ) → slice_get found count ≡ Some from
      → FollowsSome labels groups limit paths found first (count + 1) a
      → FollowsSome labels groups limit paths found first count a ⊎ Follows labels groups limit paths from a
  follows_split a from found first count at f = elim (cases_lt f.place count) [
    | inl less ↦ inl (record { place = f.place; «from» = f.from; past = f.past; before = less; at = f.at; follows = f.follows })
    | inr more ↦
        let same : f.place ≡ count = (let l = f.before in omega (arith, l, more)) in
        let one : f.from ≡ from = same_Some f.from from (sym f.at ∙ ap (slice_get found) same ∙ at) in
        inr (subst (λ (x : Arrival). Follows labels groups limit paths x a) one f.follows)
  ]

  -- where the items are all that a step may come to, each path that goes on meets one
  pub meets_any : (from a : Arrival) (items : List ℕ) → AreMet labels groups limit from.end items → Follows labels groups limit paths from a
      → Meets labels groups limit paths from items (length items) a
  meets_any from a items are f =
      let among = are f.step a.end f.leads in
      record { follows = f; place = among.place; before = slice_get_within items among.place among.item among.at; item = among.item; at = among.at; is = among.is }

  through : (o : Option End) (e : End) → option_and_then (path_end labels groups limit []) o ≡ Some e → o ≡ Some e
  through None e h = absurd (let bad : None ≡ Some e = h in cc)
  through (Some x) e h = h

  last_step : (step : ℕ) (o : Option End) (e : End) → option_and_then (path_end labels groups limit (step ∷ [])) o ≡ Some e
      → (m : End) × (o ≡ Some m) × (step_end labels groups limit m step ≡ Some e)
  last_step step None e h = absurd (let bad : None ≡ Some e = h in cc)
  last_step step (Some m) e h = (m, refl, through (step_end labels groups limit m step) e h)

  module _ (start : ℕ) where
    abbrev Leads : List ℕ → End → Type 0
    Leads steps e = path_end labels groups limit steps (Start start) ≡ Some e

    arrives_more : (from a : Arrival) → Arrives labels groups limit start paths from → Follows labels groups limit paths from a → Arrives labels groups limit start paths a
    arrives_more from a here f =
        let same : here.steps ≡ f.path.steps = same_Some here.steps f.path.steps (sym here.of ∙ f.path.before) in
        let led : Leads f.path.steps from.end = subst (λ (steps : List ℕ). Leads steps from.end) same here.leads in
        record {
          steps = f.path.steps ++ f.step ∷ [];
          of = f.path.whole;
          leads =
              ended_append labels groups limit f.path.steps (f.step ∷ []) (Start start)
              ∙ ap (option_and_then (path_end labels groups limit (f.step ∷ []))) led
              ∙ ap (option_and_then (path_end labels groups limit [])) f.leads;
        }

    -- where all paths begin
    abbrev pub root : Arrival
    root = record { path = 0; end = Start start }

    -- a path has so many steps
    abbrev pub HasDepth : (path depth : ℕ) → Type 0
    HasDepth path depth = (steps : List ℕ) × (slice_get paths path ≡ Some steps) × (length steps ≡ depth)

    -- what was found leads somewhere, all that goes on from the first ones was found, and the
    -- others have so many steps
    pub record IsDeep (depth followed : ℕ) (found : List Arrival) : Type 0 where
      pub sound : (place : ℕ) (a : Arrival) → slice_get found place ≡ Some a → Arrives labels groups limit start paths a
      pub first : slice_get found 0 ≡ Some root
      pub closed : (place : ℕ) (x a : Arrival) → place < followed → slice_get found place ≡ Some x → Follows labels groups limit paths x a → IsFound found a
      pub deep : (place : ℕ) (a : Arrival) → followed ≤ place → slice_get found place ≡ Some a → HasDepth a.path depth

    pub deep_first : (found : List Arrival) → found ≡ root ∷ [] → HaveFronts paths → IsDeep 0 0 found
    deep_first found is fronts = subst (IsDeep 0 0) (sym is) (record {
      sound = λ place a at. subst (Arrives labels groups limit start paths) (only place a at) (record { steps = []; of = fronts.first; leads = refl });
      first = refl;
      closed = λ place x a less at f. absurd (omega (arith, less));
      deep = λ place a past at. subst (λ (x : Arrival). HasDepth x.path 0) (only place a at) ([], fronts.first, refl);
    })
      where
        only : (place : ℕ) (a : Arrival) → slice_get (root ∷ []) place ≡ Some a → root ≡ a
        only zero a at = same_Some root a at
        only (suc k) a at = absurd (let bad : None ≡ Some a = at in cc)

    abbrev Next : (found : List Arrival) → (followed : ℕ) → Arrival → Type 0
    Next found followed a = FollowsSome labels groups limit paths found followed (length found) a

    deeper : (depth followed : ℕ) (found : List Arrival) (a : Arrival) → IsDeep depth followed found → Next found followed a → HasDepth a.path (depth + 1)
    deeper depth followed found a old s =
        let had = old.deep s.place s.from s.past s.at in
        let g = s.follows.path in
        let same : had.0 ≡ g.steps = same_Some had.0 g.steps (sym had.1 ∙ g.before) in
        (g.steps ++ s.follows.step ∷ [], g.whole, length-append g.steps (s.follows.step ∷ []) ∙ ap (λ (l : List ℕ). length l + 1) (sym same) ∙ ap (λ n. n + 1) had.2)

    pub deep_more : (depth followed : ℕ) (found new : List Arrival) → IsDeep depth followed found → Gains (Next found followed) (Next found followed) found new
        → IsDeep (depth + 1) (length found) new
    deep_more depth followed found new old g = record {
      sound = λ place a at. elim (cases_lt place (length found)) [
        | inl less ↦ old.sound place a (stood (Next found followed) (Next found followed) found new place a g less at)
        | inr more ↦ let s = g.sound place a more at in arrives_more s.from a (old.sound s.place s.from s.at) s.follows
      ];
      first = g.kept 0 root old.first;
      closed = λ place x a less at f.
          let was = stood (Next found followed) (Next found followed) found new place x g less at in
          elim (cases_lt place followed) [
            | inl before ↦ let k = old.closed place x a before was f in (k.0, g.kept k.0 a k.1)
            | inr past ↦ g.all a (record { place = place; «from» = x; past = past; before = less; at = was; follows = f })
          ];
      deep = λ place a past at. deeper depth followed found a old (g.sound place a past at);
    }

    -- all that goes on from what was found was found
    abbrev pub AreClosed : List Arrival → Type 0
    AreClosed found = (place : ℕ) (x a : Arrival) → slice_get found place ≡ Some x → Follows labels groups limit paths x a → IsFound found a

    pub closed_all : (depth followed : ℕ) (found : List Arrival) → IsDeep depth followed found → length found ≤ followed → AreClosed found
    closed_all depth followed found deep all place x a at f =
        deep.closed place x a (let less = slice_get_within found place x at in omega (arith, less, all)) at f

    pub closed_deepest : (depth followed : ℕ) (found : List Arrival) → IsDeep depth followed found
        → ((path : ℕ) (steps : List ℕ) → slice_get paths path ≡ Some steps → length steps ≤ depth) → AreClosed found
    closed_deepest depth followed found deep most place x a at f = elim (cases_lt place followed) [
      | inl less ↦ deep.closed place x a less at f
      | inr past ↦ absurd (
          let had = deep.deep place x past at in
          let same : had.0 ≡ f.path.steps = same_Some had.0 f.path.steps (sym had.1 ∙ f.path.before) in
          let long : length f.path.steps ≡ depth = ap length (sym same) ∙ had.2 in
          let more : length (f.path.steps ++ f.step ∷ []) ≡ length f.path.steps + 1 = length-append f.path.steps (f.step ∷ []) in
          let bound = most a.path (f.path.steps ++ f.step ∷ []) f.path.whole in
          omega (arith, long, more, bound))
    ]

    found_of : (found : List Arrival) → HaveFronts paths → slice_get found 0 ≡ Some root → AreClosed found → (n : ℕ) (steps : List ℕ) (a : Arrival) → length steps ≡ n
        → slice_get paths a.path ≡ Some steps → Leads steps a.end → IsFound found a
    found_of found fronts first closed n [] a long of leads =
        (0, first ∙ ap Some (one_arrival 0 a.path (Start start) a.end (sym (fronts.alone a.path of)) (same_Some (Start start) a.end leads)))
    found_of found fronts first closed zero (x ∷ xs) a long of leads = absurd (omega (arith, long))
    found_of found fronts first closed (suc n) (x ∷ xs) a long of leads =
        let apart = last_apart x xs in
        let gone = fronts.front a.path apart.0 apart.1 (of ∙ ap Some apart.2) in
        let g : GoesOn paths gone.0 apart.1 a.path = gone.1 in
        let same : x ∷ xs ≡ g.steps ++ apart.1 ∷ [] = same_Some (x ∷ xs) (g.steps ++ apart.1 ∷ []) (sym of ∙ g.whole) in
        let count : length g.steps + 1 ≡ suc n = sym (length-append g.steps (apart.1 ∷ [])) ∙ ap length (sym same) ∙ long in
        let led = last_step apart.1 (path_end labels groups limit g.steps (Start start)) a.end
        (sym (ended_append labels groups limit g.steps (apart.1 ∷ []) (Start start)) ∙ ap (λ (l : List ℕ). path_end labels groups limit l (Start start)) (sym same) ∙ leads) in
        let b : Arrival = record { path = gone.0; end = led.0 } in
        let had = found_of found fronts first closed n g.steps b (omega (arith, count)) g.before led.1 in
        closed had.0 b a had.1 (record { step = apart.1; path = g; leads = led.2 })

    pub all_arrive : (depth followed : ℕ) (found : List Arrival) → HaveFronts paths → IsDeep depth followed found → AreClosed found
        → AreArrivals labels groups limit start paths found
    all_arrive depth followed found fronts deep closed = record {
      each = deep.sound;
      all = λ a arrives. found_of found fronts deep.first closed (length arrives.steps) arrives.steps a refl arrives.of arrives.leads;
    }
