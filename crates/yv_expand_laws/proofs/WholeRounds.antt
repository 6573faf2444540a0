-- The rounds of the augments of modules make of what is shown what they make of nodes.
use Rattle.std.proofs.Common.{◌⊎◌, inl, inr, ◌≡◌, ◌≢◌, ℕ, zero, suc, ◌+◌, ◌<◌, ◌≤◌, ◌&&◌, not, Bool, true, false, if◌then◌else◌, List, [], ◌∷◌, ◌++◌, length, length-set, get_or, refl, sym, ◌∙◌, ap, subst, arith, Option, Some, None}
use Rattle.std.specs.List.{Contains, slice_get}
use Rattle.std.specs.Option.{option_and_then}
use Rattle.std.proofs.lemmas.Bool.{cases_eq, false≢true}
use Rattle.std.proofs.lemmas.List.{get_or-set_other}
use Rattle.std.proofs.lemmas.List.Elements.{Contains-append_cases, Contains-append_left, Contains-append_right}
use Rattle.std.proofs.lemmas.Option.{same_Some}
use Rattle.yv_expand_rounds.specs.declared.end.End.{End}
use Rattle.yv_expand_rounds.specs.declared.end.End.TheVariants as end_is
use Rattle.yv_expand_rounds.specs.declared.label.Label.{Label}
use Rattle.yv_expand_rounds.specs.Groups.{Groups, group_of_augment, members_of, move_items}
use Rattle.yv_expand_rounds.specs.Paths.{path_end}
use Rattle.yv_expand_rounds.specs.Rounds.{AreApplied, is_any, round, rounds}
use Rattle.yv_expand_rounds.specs.Turns.{State, is_applied, is_some, is_taken, settle, target, target_of, turn}
use Rattle.yv_expand_definition.specs.Nodes.{Forest, Node, insert}
use Rattle.yv_expand_definition.specs.Paths.{Step}
use Rattle.yv_expand_laws.specs.Rounds.{AreSources, AwaitsTurn, IsRoundTurn}
use Rattle.yv_expand_laws.specs.Comes.{Hits}
use Rattle.yv_expand_laws.specs.Shows.{Agree, AreLabels, Items, Shows, Stand}
use Rattle.yv_expand_laws.specs.WholeRounds.{AreBetween, ArePlaces, AreWaiting, RoundOn, RoundsOn, RoundsShow, gives}
use Rattle.yv_expand_laws.specs.WholeRounds.AreWaiting.{no_places, was_applied, waits as waiting_here}
use Rattle.yv_expand_laws.specs.WholeRounds.RoundOn.{none_left, adds, without_target, waits}
use Rattle.yv_expand_laws.specs.WholeRounds.RoundsOn.{no_more as last_round, one_more}
use Rattle.yv_expand_laws.proofs.FoundItems.{not_none, there_first, there_later}
use Rattle.yv_expand_laws.proofs.FrameSequences.{moved_long, moved_other, moved_to, nothing_stands}
use Rattle.yv_expand_laws.proofs.Rounds.{round_adds}
use Rattle.yv_expand_laws.proofs.BlockNodes.{first_or}
use Rattle.yv_expand_laws.proofs.StableItems.{or_left, or_right, shows_on}
use Rattle.yv_expand_laws.proofs.WaitingAugments.{hit_target, miss_target, round_misses, round_takes, round_waits}
use Rattle.yv_expand_laws.proofs.PathAgreement.{not_so}

module _ (labels : List Label) where
  -- a turn leaves where other augments' paths ended
  turn_ends : (k start limit j : ℕ) (names : List ℕ) (st : State) → j ≢ k
      → get_or (turn labels k start limit names st).ends j None ≡ get_or st.ends j None
  turn_ends k start limit j names st other = by (is_applied st k) (path_end labels st.groups limit names (end_is.Start start))
    where
      by : (b : Bool) (o : Option End) → get_or (if b then st else settle labels k o st).ends j None ≡ get_or st.ends j None
      by true o = refl
      by false None = refl
      by false (Some e) = get_or-set_other st.ends k j (Some e) None other

  turn_long : (k start limit : ℕ) (names : List ℕ) (st : State) → length (turn labels k start limit names st).ends ≡ length st.ends
  turn_long k start limit names st = by (is_applied st k) (path_end labels st.groups limit names (end_is.Start start))
    where
      by : (b : Bool) (o : Option End) → length (if b then st else settle labels k o st).ends ≡ length st.ends
      by true o = refl
      by false None = refl
      by false (Some e) = length-set st.ends k (Some e)

  -- an augment that was applied has no more turns
  applied_still : (k start limit : ℕ) (names : List ℕ) (st : State) → is_applied st k ≡ true → turn labels k start limit names st ≡ st
  applied_still k start limit names st is =
      ap (λ (b : Bool). if b then st else settle labels k (path_end labels st.groups limit names (end_is.Start start)) st) is

  -- one that is applied by its turn is taken
  taken_so : (k start limit : ℕ) (names : List ℕ) (st : State) → is_applied st k ≡ false
      → is_applied (turn labels k start limit names st) k ≡ true
      → is_taken labels k start limit names st ≡ true
  taken_so k start limit names st isnt is = by (path_end labels st.groups limit names (end_is.Start start)) refl
    where
      by : (o : Option End) → path_end labels st.groups limit names (end_is.Start start) ≡ o
          → (not (is_applied st k) && is_some (path_end labels st.groups limit names (end_is.Start start))) ≡ true
      by (Some e) at = ap (λ (b : Bool). not b && is_some (path_end labels st.groups limit names (end_is.Start start))) isnt ∙ ap is_some at
      by None at =
          absurd (false≢true (sym isnt ∙ (ap (λ (s : State). is_applied s k)
          (sym (ap (λ (b : Bool). if b then st else settle labels k (path_end labels st.groups limit names (end_is.Start start)) st) isnt ∙ ap (λ o. settle labels k o st) at)) ∙ is)))

  other_waits : (k start limit j : ℕ) (names : List ℕ) (st : State) → j ≢ k
      → is_applied (turn labels k start limit names st) j ≡ is_applied st j
  other_waits k start limit j names st other = ap is_some (turn_ends k start limit j names st other)

  waiting_then : (k start limit : ℕ) (names : List ℕ) (st : State) (j : ℕ) (paths : List (List ℕ)) (ws : List ℕ) → k < j
      → AreWaiting st j paths ws
      → AreWaiting (turn labels k start limit names st) j paths ws
  waiting_then k start limit names st j _ _ l no_places = no_places
  waiting_then k start limit names st j _ _ l (was_applied {others = others} {waiting = ws} is rest) =
      was_applied (other_waits k start limit j names st (λ e. omega (arith, e, l)) ∙ is) (waiting_then k start limit names st (j + 1) others ws (omega (arith, l)) rest)
  waiting_then k start limit names st j _ _ l (waiting_here {others = others} {waiting = ws} is rest) =
      waiting_here (other_waits k start limit j names st (λ e. omega (arith, e, l)) ∙ is) (waiting_then k start limit names st (j + 1) others ws (omega (arith, l)) rest)

-- the augments that a round applies to no target, and those that no round applies to one
abbrev pub missed_of : {number : ℕ → ℕ} {path : ℕ → List Step} {block : ℕ → Forest → Type 0} {waiting still : List ℕ} {m after : Forest}
    → RoundOn number path block waiting m still after → List ℕ
missed_of none_left = []
missed_of (adds gives hits more) = missed_of more
missed_of (without_target {k = k} leads misses more) = k ∷ missed_of more
missed_of (waits nowhere more) = missed_of more

-- the augments that add in a round
abbrev pub added_of : {number : ℕ → ℕ} {path : ℕ → List Step} {block : ℕ → Forest → Type 0} {waiting still : List ℕ} {m after : Forest}
    → RoundOn number path block waiting m still after → List ℕ
added_of none_left = []
added_of (adds {k = k} gives hits more) = k ∷ added_of more
added_of (without_target leads misses more) = added_of more
added_of (waits nowhere more) = added_of more

abbrev pub all_missed : {number : ℕ → ℕ} {path : ℕ → List Step} {block : ℕ → Forest → Type 0} {waiting : List ℕ} {m after : Forest}
    → RoundsOn number path block waiting m after → List ℕ
all_missed (last_round {waiting = waiting} R) = waiting
all_missed (one_more R less more) = missed_of R ++ all_missed more

abbrev pub all_added : {number : ℕ → ℕ} {path : ℕ → List Step} {block : ℕ → Forest → Type 0} {waiting : List ℕ} {m after : Forest}
    → RoundsOn number path block waiting m after → List ℕ
all_added (last_round {waiting = waiting} R) = []
all_added (one_more R less more) = added_of R ++ all_added more

-- the blocks of those that add give something
added_give : {number : ℕ → ℕ} {path : ℕ → List Step} {block : ℕ → Forest → Type 0} {waiting still : List ℕ} {m after : Forest}
    → (R : RoundOn number path block waiting m still after) → (j : ℕ) → Contains (added_of R) j → (f : Forest) × block j f
added_give none_left j h = absurd (nothing_stands j h)
added_give {block = block} (adds {k = k} {b = b} given hits more) j h = elim (first_or k (added_of more) j h) [
  | inl same ↦ (b, subst (λ (n : ℕ). block n b) same given)
  | inr rest ↦ added_give more j rest
]
added_give (without_target leads misses more) j h = added_give more j h
added_give (waits nowhere more) j h = added_give more j h

pub all_added_give : {number : ℕ → ℕ} {path : ℕ → List Step} {block : ℕ → Forest → Type 0} {waiting : List ℕ} {m after : Forest}
    → (R : RoundsOn number path block waiting m after) → (j : ℕ) → Contains (all_added R) j → (f : Forest) × block j f
all_added_give (last_round R) j h = absurd (nothing_stands j h)
all_added_give (one_more R less more) j h = elim (Contains-append_cases (added_of R) (all_added more) j h) [
  | inl a ↦ added_give R j a
  | inr b ↦ all_added_give more j b
]

-- an augment adds to this node
abbrev pub AddsTo : {number : ℕ → ℕ} {path : ℕ → List Step} {block : ℕ → Forest → Type 0} {waiting still : List ℕ} {m after : Forest}
    → RoundOn number path block waiting m still after → ℕ → Node → Type 0
AddsTo none_left j g = ⊥
AddsTo (adds {k = k} {target = target} given hits more) j g = ((k ≡ j) × (target ≡ g)) ⊎ AddsTo more j g
AddsTo (without_target leads misses more) j g = AddsTo more j g
AddsTo (waits nowhere more) j g = AddsTo more j g

abbrev pub AllAddTo : {number : ℕ → ℕ} {path : ℕ → List Step} {block : ℕ → Forest → Type 0} {waiting : List ℕ} {m after : Forest}
    → RoundsOn number path block waiting m after → ℕ → Node → Type 0
AllAddTo (last_round R) j g = ⊥
AllAddTo (one_more R less more) j g = AddsTo R j g ⊎ AllAddTo more j g

-- each that adds does so to a node
added_to : {number : ℕ → ℕ} {path : ℕ → List Step} {block : ℕ → Forest → Type 0} {waiting still : List ℕ} {m after : Forest}
    → (R : RoundOn number path block waiting m still after) → (j : ℕ) → Contains (added_of R) j → (g : Node) × AddsTo R j g
added_to none_left j h = absurd (nothing_stands j h)
added_to (adds {k = k} {target = target} given hits more) j h = elim (first_or k (added_of more) j h) [
  | inl same ↦ (target, inl (same, refl))
  | inr rest ↦ (let r = added_to more j rest in (r.0, inr r.1))
]
added_to (without_target leads misses more) j h = added_to more j h
added_to (waits nowhere more) j h = added_to more j h

pub all_added_to : {number : ℕ → ℕ} {path : ℕ → List Step} {block : ℕ → Forest → Type 0} {waiting : List ℕ} {m after : Forest}
    → (R : RoundsOn number path block waiting m after) → (j : ℕ) → Contains (all_added R) j → (g : Node) × AllAddTo R j g
all_added_to (last_round R) j h = absurd (nothing_stands j h)
all_added_to (one_more R less more) j h = elim (Contains-append_cases (added_of R) (all_added more) j h) [
  | inl a ↦ (let r = added_to R j a in (r.0, inl r.1))
  | inr b ↦ (let r = all_added_to more j b in (r.0, inr r.1))
]

-- each that waits is missed, waits on or adds
pub round_sorts : {number : ℕ → ℕ} {path : ℕ → List Step} {block : ℕ → Forest → Type 0} {waiting still : List ℕ} {m after : Forest}
    → (R : RoundOn number path block waiting m still after) → (j : ℕ) → Contains waiting j
    → Contains (missed_of R) j ⊎ (Contains still j ⊎ Contains (added_of R) j)
round_sorts none_left j h = absurd (nothing_stands j h)
round_sorts (adds {k = k} {others = others} gives hits more) j h = elim (first_or k others j h) [
  | inl same ↦ inr (inr (subst (Contains (k ∷ added_of more)) same (there_first k (added_of more))))
  | inr rest ↦ elim (round_sorts more j rest) [ inl a ↦ inl a | inr (inl b) ↦ inr (inl b) | inr (inr c) ↦ inr (inr (there_later k j (added_of more) c)) ]
]
round_sorts (without_target {k = k} {others = others} leads misses more) j h = elim (first_or k others j h) [
  | inl same ↦ inl (subst (Contains (k ∷ missed_of more)) same (there_first k (missed_of more)))
  | inr rest ↦ elim (round_sorts more j rest) [ inl a ↦ inl (there_later k j (missed_of more) a) | inr b ↦ inr b ]
]
round_sorts (waits {k = k} {others = others} {still = still} nowhere more) j h = elim (first_or k others j h) [
  | inl same ↦ inr (inl (subst (Contains (k ∷ still)) same (there_first k still)))
  | inr rest ↦ elim (round_sorts more j rest) [ inl a ↦ inl a | inr (inl b) ↦ inr (inl (there_later k j still b)) | inr (inr c) ↦ inr (inr c) ]
]

pub rounds_sort : {number : ℕ → ℕ} {path : ℕ → List Step} {block : ℕ → Forest → Type 0} {waiting : List ℕ} {m after : Forest}
    → (R : RoundsOn number path block waiting m after) → (j : ℕ) → Contains waiting j → Contains (all_missed R) j ⊎ Contains (all_added R) j
rounds_sort (last_round R) j h = inl h
rounds_sort (one_more R less more) j h = elim (round_sorts R j h) [
  | inl a ↦ inl (Contains-append_left (missed_of R) (all_missed more) j a)
  | inr (inl b) ↦ elim (rounds_sort more j b) [
    | inl c ↦ inl (Contains-append_right (missed_of R) (all_missed more) j c)
    | inr c ↦ inr (Contains-append_right (added_of R) (all_added more) j c)
  ]
  | inr (inr b) ↦ inr (Contains-append_left (added_of R) (all_added more) j b)
]

module _ (labels : List Label) (its : Items) (are : AreLabels labels its) (giver_of : ℕ → Option ℕ) (givers : AreSources its giver_of) (number : ℕ → ℕ) (path : ℕ → List Step)
    (block : ℕ → Forest → Type 0) (first last : ℕ → ℕ) (paths : List (List ℕ)) (places : ArePlaces labels its number path first last paths) where
  abbrev Between : State → Forest → Type 0
  Between st m = AreBetween labels its giver_of number block first last (length paths) st m

  awaits : (k : ℕ) (st : State) (m : Forest) → k < length paths → is_applied st k ≡ false → (b : Between st m)
      → AwaitsTurn labels its k st m
  awaits k st m l isnt b =
      let many = b.copies in
      record { copies = omega (arith, l, many); waits = not_applied (get_or st.ends k None) isnt; whole = b.whole; within = b.within }
    where
      not_applied : (o : Option End) → is_some o ≡ false → o ≡ None
      not_applied None e = refl
      not_applied (Some x) e = absurd (false≢true (sym e))

  -- what holds between turns holds when one of another augment moved nothing
  still_between : (k : ℕ) (names : List ℕ) (st : State) (m : Forest) → is_applied (turn labels k 0 (length labels) names st) k ≡ true
      → (turn labels k 0 (length labels) names st).groups ≡ st.groups → Between st m → Between (turn labels k 0 (length labels) names st) m
  still_between k names st m done same b =
      let ends = turn_long labels k 0 (length labels) names st in
      let room = b.room in let copies = b.copies in let long = ap (λ (g : Groups). length g) same in
      let was : (j : ℕ) → is_applied (turn labels k 0 (length labels) names st) j ≡ false → is_applied st j ≡ false =
      λ j isnt. sym (other_waits labels k 0 (length labels) j names st (λ e. false≢true (sym isnt ∙ (ap (is_applied (turn labels k 0 (length labels) names st)) e ∙ done)))) ∙ isnt in
      record {
        room = omega (arith, room, ends, long);
        copies = omega (arith, copies, ends);
        whole = shows_same same b.whole;
        within = λ i there. b.within i (subst (λ gs. Contains (members_of gs 0) i) same there);
        blocks =
            λ j f l isnt gives. subst (λ gs. Shows its gs (group_of_augment labels j) (first j) (last j) f) (sym same) (b.blocks j f l (was j isnt) gives);
        own =
            λ j i l isnt there. b.own j i l (was j isnt) (subst (λ gs. Contains (members_of gs (group_of_augment labels j)) i) same there);
        not_theirs = λ j x i l isnt le there. b.not_theirs j x i l (was j isnt) le (subst (λ gs. Contains (members_of gs x) i) same there);
        away = λ j x l isnt o. b.away j x l (was j isnt) o;
      }
    where
      shows_same : {old new : Groups} {f : Forest} → new ≡ old → (s : Shows its old 0 0 (length labels) f)
          → Shows its new 0 0 (length labels) f
      shows_same {old = old} {new = new} {f = f} same s = record {
        items = s.items;
        owns = s.owns;
        bounds = s.bounds;
        orders = record {
          ascend = s.orders.ascend;
          all = λ i w. s.orders.all i (subst (λ gs. Contains (members_of gs 0) i) same w.0, w.1);
          only = λ i h. (let w = s.orders.only i h in (subst (λ gs. Contains (members_of gs 0) i) (sym same) w.0, w.1));
        };
        stand = subst (λ gs. Stand its gs s.owns s.items f) (sym same) s.stand;
      }

  -- when one has added what its block gives
  added_between : (k : ℕ) (names : List ℕ) (st : State) (m b below there : Forest) (target : Node) → k < length paths
      → slice_get paths k ≡ Some names → is_applied st k ≡ false
      → block k b → Hits (path k) m target below (insert (number k) b below) there → Between st m
      → Between (turn labels k 0 (length labels) names st) there
  added_between k names st m b below there target l at isnt gives hits between =
      let t : IsRoundTurn labels its giver_of (first k) (last k) k (number k) st m b = turn_of in
      let x = round_adds labels its are giver_of (first k) (last k) k (number k) names (path k) st m b below there target t (places.agree k names at) hits in
      let done = round_takes labels its are k names (path k) st m there _ (awaits k st m l isnt between) (places.agree k names at) hits.0 in
      let ends = turn_long labels k 0 (length labels) names st in
      let room = between.room in let copies = between.copies in
      let i : ℕ = x.2.0 in
      let same = x.2.2 in
      let long = ap (λ (g : Groups). length g) same ∙ moved_long labels (group_of_augment labels k) (i + 1) st.groups in
      let iu = (between.whole.bounds i x.2.1).1 in
      let was : (j : ℕ) → is_applied (turn labels k 0 (length labels) names st) j ≡ false → (j ≢ k) × (is_applied st j ≡ false) =
      λ j now. (let other : j ≢ k = λ e. false≢true (sym now ∙ (ap (is_applied (turn labels k 0 (length labels) names st)) e ∙ done)) in
      (other, sym (other_waits labels k 0 (length labels) j names st other) ∙ now)) in
      let elsewhere : (y : ℕ) → y ≢ group_of_augment labels k → y ≢ i + 1 → members_of (turn labels k 0 (length labels) names st).groups y ≡ members_of st.groups y =
      λ y p q. ap (λ gs. members_of gs y) same ∙ moved_other labels (group_of_augment labels k) (i + 1) y st.groups p q in
      record {
        room = omega (arith, room, ends, long);
        copies = omega (arith, copies, ends);
        whole = x.0;
        within = λ y h. between.within y (subst (λ ms. Contains ms y) (elsewhere 0 (λ e. omega (arith, e)) (λ e. omega (arith, e))) h);
        blocks = λ j f lj now is.
            (let w = was j now in
            let up = places.items j lj in
            shows_on st.groups (turn labels k 0 (length labels) names st).groups (group_of_augment labels j) (first j) (last j)
            (λ y u h. elsewhere (y + 1) (λ e. omega (arith, e, h, up))
            (λ e. elim (between.away j i lj w.1 x.2.1) [ inl p ↦ omega (arith, p, e, u) | inr p ↦ omega (arith, p, e, h) ]))
            (λ y u h there. subst (λ ms. Contains ms y) (at_group j w.0) there) (λ y u h there. subst (λ ms. Contains ms y) (sym (at_group j w.0)) there)
            (between.blocks j f lj w.1 is));
        own = λ j y lj now there. (let w = was j now in between.own j y lj w.1 (subst (λ ms. Contains ms y) (at_group j w.0) there));
        not_theirs = λ j y z lj now le there. (let w = was j now in by j y z lj w.0 w.1 le (cases_eq y (i + 1)) there);
        away = λ j y lj now o. (let w = was j now in elim (x.1 y o) [
          | inl p ↦ between.away j y lj w.1 p
          | inr p ↦ (let s = t.block.bounds y p in places.apart k j y (λ e. w.0 (sym e)) s.0 s.1)
        ]);
      }
    where
      turn_of : IsRoundTurn labels its giver_of (first k) (last k) k (number k) st m b
      turn_of =
          let many = between.copies in
          let B = between.blocks k b l isnt gives in
          record {
            givers = givers;
            room = between.room;
            copies = omega (arith, l, many);
            waits = (awaits k st m l isnt between).waits;
            whole = between.whole;
            block = B;
            within = between.within;
            own = λ i h. between.own k i l isnt h;
            items = places.items k l;
            not_theirs = λ x i le h. between.not_theirs k x i l isnt le h;
            apart = λ x o. not_so (between.whole.owns x) (λ p. (let s = B.bounds x o in let u = s.0 in let v = s.1 in
                elim (between.away k x l isnt p) [ inl q ↦ omega (arith, q, u) | inr q ↦ omega (arith, q, v) ]));
          }

      hit : (s : Shows its (turn labels k 0 (length labels) names st).groups 0 0 (length labels) there) × ((x : ℕ) → s.owns x ≡ true → (turn_of.whole.owns x ≡ true) ⊎ (turn_of.block.owns x ≡ true))
          × ((i : ℕ) × (turn_of.whole.owns i ≡ true) × ((turn labels k 0 (length labels) names st).groups ≡ move_items (group_of_augment labels k) (i + 1) st.groups))
      hit =
          round_adds labels its are giver_of (first k) (last k) k (number k) names (path k) st m b below there target turn_of (places.agree k names at) hits

      at_group : (j : ℕ) → j ≢ k
          → members_of (turn labels k 0 (length labels) names st).groups (group_of_augment labels j) ≡ members_of st.groups (group_of_augment labels j)
      at_group j other =
          let iu = (between.whole.bounds hit.2.0 hit.2.1).1 in
          ap (λ gs. members_of gs (group_of_augment labels j)) hit.2.2
          ∙ moved_other labels (group_of_augment labels k) (hit.2.0 + 1) (group_of_augment labels j) st.groups (λ e. other (omega (arith, e))) (λ e. omega (arith, e, iu))

      by : (j y z : ℕ) → j < length paths → j ≢ k → is_applied st j ≡ false → y ≤ length labels → (y ≡ hit.2.0 + 1) ⊎ (y ≢ hit.2.0 + 1)
          → Contains (members_of (turn labels k 0 (length labels) names st).groups y) z → giver_of z ≢ Some (number j)
      by j y z lj other waits_j le (inr isnt_i) there =
          between.not_theirs j y z lj waits_j le
          (subst (λ ms. Contains ms z) (ap (λ gs. members_of gs y) hit.2.2 ∙ moved_other labels (group_of_augment labels k) (hit.2.0 + 1) y st.groups (λ e. omega (arith, e, le)) isnt_i) there)
      by j y z lj other waits_j le (inl is_i) there =
          let iu = (between.whole.bounds hit.2.0 hit.2.1).1 in
          let room = between.room in
          let now : members_of (turn labels k 0 (length labels) names st).groups y ≡ members_of st.groups (hit.2.0 + 1) ++ members_of st.groups (group_of_augment labels k) =
          ap (λ gs. members_of gs y) hit.2.2 ∙ (ap (λ (n : ℕ). members_of (move_items (group_of_augment labels k) (hit.2.0 + 1) st.groups) n) is_i
          ∙ moved_to labels (group_of_augment labels k) (hit.2.0 + 1) st.groups (λ e. omega (arith, e, iu)) (omega (arith, iu, room))) in
          elim (Contains-append_cases (members_of st.groups (hit.2.0 + 1)) (members_of st.groups (group_of_augment labels k)) z (subst (λ ms. Contains ms z) now there)) [
            | inl p ↦ between.not_theirs j (hit.2.0 + 1) z lj waits_j (omega (arith, iu)) p
            | inr p ↦ (λ e. places.numbers j k lj l other (sym (same_Some (number k) (number j) (sym (between.own k z l isnt p).1 ∙ e))))
          ]

  -- one round
  record Went (k : ℕ) (rest : List (List ℕ)) (st : State) (waiting still : List ℕ) (after : Forest) : Type 0 where
    between : Between (round labels k rest st) after
    waiting_now : AreWaiting (round labels k rest st) k rest still
    fewer : length still ≤ length waiting
    none_went : length still ≡ length waiting → round labels k rest st ≡ st
    some_went : length still < length waiting → is_any labels k rest st ≡ true

  -- the turns of those behind leave an augment as it is
  round_keeps : (k : ℕ) (rest : List (List ℕ)) (st : State) (j : ℕ) → j < k → is_applied (round labels k rest st) j ≡ is_applied st j
  round_keeps k [] st j l = refl
  round_keeps k (names ∷ others) st j l =
      round_keeps (k + 1) others (turn labels k 0 (length labels) names st) j (omega (arith, l)) ∙ other_waits labels k 0 (length labels) j names st (λ e. omega (arith, e, l))

  -- the first augment had a turn that changed nothing
  same_then : (k : ℕ) (names : List ℕ) (others : List (List ℕ)) (st : State) → turn labels k 0 (length labels) names st ≡ st
      → round labels k (names ∷ others) st ≡ round labels (k + 1) others st
  same_then k names others st same = ap (round labels (k + 1) others) same

  any_then : (k : ℕ) (names : List ℕ) (others : List (List ℕ)) (st : State) → turn labels k 0 (length labels) names st ≡ st
      → is_any labels (k + 1) others st ≡ true
      → is_any labels k (names ∷ others) st ≡ true
  any_then k names others st same any =
      or_right (is_taken labels k 0 (length labels) names st) (is_any labels (k + 1) others (turn labels k 0 (length labels) names st)) (ap (is_any labels (k + 1) others) same ∙ any)

  -- the first augment was applied
  done_then : (k : ℕ) (names : List ℕ) (others : List (List ℕ)) (st : State) (waiting still : List ℕ) (after : Forest)
      → is_applied st k ≡ false
      → is_applied (turn labels k 0 (length labels) names st) k ≡ true
      → Went (k + 1) others (turn labels k 0 (length labels) names st) waiting still after
      → Went k (names ∷ others) st (k ∷ waiting) still after
  done_then k names others st waiting still after isnt done w =
      let few = w.fewer in
      record {
        between = w.between;
        waiting_now = was_applied (round_keeps (k + 1) others (turn labels k 0 (length labels) names st) k (omega arith) ∙ done) w.waiting_now;
        fewer = omega (arith, few);
        none_went = λ e. absurd (omega (arith, e, few));
        some_went =
            λ l. or_left (is_taken labels k 0 (length labels) names st) (is_any labels (k + 1) others (turn labels k 0 (length labels) names st)) (taken_so labels k 0 (length labels) names st isnt done);
      }

  -- those behind the first augment went on, from where its turn left them
  abbrev Later : (k : ℕ) → List (List ℕ) → Forest → Type 0
  Later k others after =
      (st : State) (m : Forest) (waiting still : List ℕ) → AreWaiting st (k + 1) others waiting → Between st m → RoundOn number path block waiting m still after
      → Went (k + 1) others st waiting still after

  first_went : (k : ℕ) (names : List ℕ) (others : List (List ℕ)) (after : Forest) → slice_get paths k ≡ Some names → k < length paths
      → Later k others after
      → (st : State) (m : Forest) {waiting still : List ℕ} → AreWaiting st k (names ∷ others) waiting → Between st m
      → RoundOn number path block waiting m still after
      → Went k (names ∷ others) st waiting still after
  first_went k names others after here l later st m {still = still} (was_applied {waiting = waiting} is more) b R =
      let same = applied_still labels k 0 (length labels) names st is in
      let w = later st m waiting still more b R in
      let few = w.fewer in
      record {
        between = subst (λ s. Between s after) (sym (same_then k names others st same)) w.between;
        waiting_now =
            subst (λ s. AreWaiting s k (names ∷ others) still) (sym (same_then k names others st same)) (was_applied (round_keeps (k + 1) others st k (omega arith) ∙ is) w.waiting_now);
        fewer = few;
        none_went = λ e. same_then k names others st same ∙ w.none_went e;
        some_went = λ l. any_then k names others st same (w.some_went l);
      }
  first_went k names others after here l later st m (waiting_here {waiting = waiting} isnt more) b (adds {still = still} {b = f} {below = below} {there = there} {target = refine_target} gives hits R) =
      let done = round_takes labels its are k names (path k) st m there _ (awaits k st m l isnt b) (places.agree k names here) hits.0 in
      done_then k names others st waiting still after isnt done
      (later (turn labels k 0 (length labels) names st) there waiting still (waiting_then labels k 0 (length labels) names st (k + 1) others waiting (omega arith) more)
      (added_between k names st m f below there refine_target l here isnt gives hits b) R)
  first_went k names others after here l later st m (waiting_here {waiting = waiting} isnt more) b (without_target {still = still} {there = there} {e = e} leads misses R) =
      let waits_now = awaits k st m l isnt b in
      let done = round_takes labels its are k names (path k) st m there e waits_now (places.agree k names here) leads in
      let same = round_misses labels its are k names (path k) st m waits_now (places.agree k names here) misses in
      done_then k names others st waiting still after isnt done
      (later (turn labels k 0 (length labels) names st) m waiting still (waiting_then labels k 0 (length labels) names st (k + 1) others waiting (omega arith) more)
      (still_between k names st m done same b) R)
  first_went k names others after here l later st m (waiting_here {waiting = waiting} isnt more) b (waits {still = still} nowhere R) =
      let w = later st m waiting still more b R in
      let few = w.fewer in
      record {
        between = subst (λ s. Between s after) (sym (same_then k names others st same)) w.between;
        waiting_now =
            subst (λ s. AreWaiting s k (names ∷ others) (k ∷ still)) (sym (same_then k names others st same)) (waiting_here (round_keeps (k + 1) others st k (omega arith) ∙ isnt) w.waiting_now);
        fewer = omega (arith, few);
        none_went = λ e. same_then k names others st same ∙ w.none_went (omega (arith, e));
        some_went = λ l. any_then k names others st same (w.some_went (omega (arith, l)));
      }
    where
      same : turn labels k 0 (length labels) names st ≡ st
      same =
          let s = places.steps k names here in
          subst (λ z. turn labels k 0 (length labels) z st ≡ st) (sym s.2)
          (round_waits labels its are k s.0 s.1 (path k) st m (awaits k st m l isnt b) (subst (λ z. Agree labels its z (path k)) s.2 (places.agree k names here)) nowhere)

  none_went_on : (k : ℕ) (st : State) (m after : Forest) {waiting still : List ℕ} → AreWaiting st k [] waiting → Between st m
      → RoundOn number path block waiting m still after
      → Went k [] st waiting still after
  none_went_on k st m after no_places b none_left =
      record { between = b; waiting_now = no_places; fewer = omega arith; none_went = λ e. refl; some_went = λ l. absurd (omega (arith, l)) }

  went : (k : ℕ) (rest : List (List ℕ))
      → ((j : ℕ) (names : List ℕ) → slice_get rest j ≡ Some names → slice_get paths (k + j) ≡ Some names) → k + length rest ≡ length paths
      → (after : Forest) (st : State) (m : Forest) (waiting still : List ℕ) → AreWaiting st k rest waiting → Between st m
      → RoundOn number path block waiting m still after
      → Went k rest st waiting still after
  went k [] at long after st m waiting still ws b R = none_went_on k st m after ws b R
  went k (names ∷ others) at long after st m waiting still ws b R =
      first_went k names others after (ap (slice_get paths) (let e : k ≡ k + 0 = omega arith in e) ∙ at 0 names refl) (omega (arith, long))
      (went (k + 1) others (λ j n is. ap (slice_get paths) (let e : k + 1 + j ≡ k + suc j = omega arith in e) ∙ at (suc j) n is) (omega (arith, long)) after) st m ws b R

  rounds_same : (count : ℕ) (st : State) → round labels 0 paths st ≡ st → rounds labels 0 paths count st ≡ st
  rounds_same zero st same = refl
  rounds_same (suc n) st same = ap (rounds labels 0 paths n) same ∙ rounds_same n st same

  rounds_go : (count : ℕ) (st : State) (m after : Forest) {waiting : List ℕ} → AreWaiting st 0 paths waiting → Between st m
      → RoundsOn number path block waiting m after
      → is_any labels 0 paths (rounds labels 0 paths count st) ≡ false
      → Shows its (rounds labels 0 paths count st).groups 0 0 (length labels) after
  rounds_go count st m after {waiting = waiting} ws b (last_round R) over =
      let w = went 0 paths (λ j n is. ap (slice_get paths) (let e : 0 + j ≡ j = omega arith in e) ∙ is) (omega arith) m st m waiting waiting ws b R in
      subst (λ (s : State). Shows its s.groups 0 0 (length labels) m) (sym (rounds_same count st (w.none_went refl))) b.whole
  rounds_go zero st m after {waiting = waiting} ws b (one_more {still = still} {there = there} R less more) over =
      let w = went 0 paths (λ j n is. ap (slice_get paths) (let e : 0 + j ≡ j = omega arith in e) ∙ is) (omega arith) there st m waiting still ws b R in
      absurd (false≢true (sym over ∙ w.some_went less))
  rounds_go (suc n) st m after {waiting = waiting} ws b (one_more {still = still} {there = there} R less more) over =
      let w = went 0 paths (λ j n is. ap (slice_get paths) (let e : 0 + j ≡ j = omega arith in e) ∙ is) (omega arith) there st m waiting still ws b R in
      rounds_go n (round labels 0 paths st) there after w.waiting_now w.between more over

  -- where the path of an augment that was applied ended stays
  turn_stays : (k : ℕ) (names : List ℕ) (st : State) (j : ℕ) → is_applied st j ≡ true
      → get_or (turn labels k 0 (length labels) names st).ends j None ≡ get_or st.ends j None
  turn_stays k names st j is = elim (cases_eq j k) [
    | inl same ↦
        ap (λ (s : State). get_or s.ends j None) (applied_still labels k 0 (length labels) names st (ap (is_applied st) (sym same) ∙ is))
    | inr other ↦ turn_ends labels k 0 (length labels) j names st other
  ]

  round_stays : (k : ℕ) (rest : List (List ℕ)) (st : State) (j : ℕ) → is_applied st j ≡ true
      → get_or (round labels k rest st).ends j None ≡ get_or st.ends j None
  round_stays k [] st j is = refl
  round_stays k (names ∷ others) st j is =
      let same = turn_stays k names st j is in
      round_stays (k + 1) others (turn labels k 0 (length labels) names st) j (ap is_some same ∙ is) ∙ same

  rounds_stay : (count : ℕ) (st : State) (j : ℕ) → is_applied st j ≡ true
      → get_or (rounds labels 0 paths count st).ends j None ≡ get_or st.ends j None
  rounds_stay zero st j is = refl
  rounds_stay (suc n) st j is =
      let same = round_stays 0 paths st j is in
      rounds_stay n (round labels 0 paths st) j (ap is_some same ∙ is) ∙ same

  -- what is known of the targets of those that waited, after a round
  record Aimed (st : State) (waiting still missed : List ℕ) (adding : ℕ → Node → Type 0) : Type 0 where
    none_there : (j : ℕ) → Contains missed j → (is_applied st j ≡ true) × (target_of labels st.ends j ≡ None)
    one_there : (j : ℕ) → Contains waiting j → Contains missed j ⊎ (Contains still j ⊎ ((i : ℕ) × (target_of labels st.ends j ≡ Some i)))
    added_there : (j : ℕ) (g : Node) → adding j g → (is_applied st j ≡ true) × ((i : ℕ) × (target_of labels st.ends j ≡ Some i) × (g ≡ its.node_of i))

  abbrev AimedLater : (k : ℕ) → List (List ℕ) → Forest → Type 0
  AimedLater k others after =
      (st : State) (m : Forest) (waiting still : List ℕ) → AreWaiting st (k + 1) others waiting → Between st m → (R : RoundOn number path block waiting m still after)
      → Aimed (round labels (k + 1) others st) waiting still (missed_of R) (λ j g. AddsTo R j g)

  -- an end that an augment has now it has after the turns of those behind
  settled_later : (k : ℕ) (others : List (List ℕ)) (st : State) → is_applied st k ≡ true
      → (is_applied (round labels (k + 1) others st) k ≡ true)
      × (target_of labels (round labels (k + 1) others st).ends k ≡ target_of labels st.ends k)
  settled_later k others st is =
      (let same = round_stays (k + 1) others st k is in (ap is_some same ∙ is, ap (option_and_then (target labels)) same))

  applied_target : (st : State) (k i : ℕ) → target_of labels st.ends k ≡ Some i → is_applied st k ≡ true
  applied_target st k i is = by (get_or st.ends k None) is
    where
      by : (o : Option End) → option_and_then (target labels) o ≡ Some i → is_some o ≡ true
      by None h = absurd (not_none h)
      by (Some e) h = refl

  first_aimed : (k : ℕ) (names : List ℕ) (others : List (List ℕ)) (after : Forest) → slice_get paths k ≡ Some names → k < length paths
      → AimedLater k others after
      → (st : State) (m : Forest) {waiting still : List ℕ} → AreWaiting st k (names ∷ others) waiting → Between st m
      → (R : RoundOn number path block waiting m still after)
      → Aimed (round labels k (names ∷ others) st) waiting still (missed_of R) (λ j g. AddsTo R j g)
  first_aimed k names others after here l later st m {still = still} (was_applied {waiting = waiting} is more) b R =
      subst (λ s. Aimed s waiting still (missed_of R) (λ j g. AddsTo R j g)) (sym (same_then k names others st (applied_still labels k 0 (length labels) names st is)))
      (later st m waiting still more b R)
  first_aimed k names others after here l later st m (waiting_here {waiting = waiting} isnt more) b (adds {still = still} {b = f} {below = below} {there = there} {target = refine_target} gives hits R) =
      let s = places.steps k names here in
      let agree = subst (λ z. Agree labels its z (path k)) s.2 (places.agree k names here) in
      let aimed = hit_target labels its are k s.0 s.1 (path k) st m (awaits k st m l isnt b) agree refine_target below (insert (number k) f below) there hits in
      let here_now = subst (λ z. target_of labels (turn labels k 0 (length labels) z st).ends k ≡ Some aimed.0) (sym s.2) aimed.1 in
      let now : State = turn labels k 0 (length labels) names st in
      let w = later now there waiting still (waiting_then labels k 0 (length labels) names st (k + 1) others waiting (omega arith) more)
      (added_between k names st m f below there refine_target l here isnt gives hits b) R in
      let at_end = settled_later k others now (applied_target now k aimed.0 here_now) in
      record {
        none_there = w.none_there;
        added_there = λ j g h. elim h [
          | inl (same, node) ↦
              subst (λ (n : ℕ). (is_applied (round labels (k + 1) others now) n ≡ true)
              × ((i : ℕ) × (target_of labels (round labels (k + 1) others now).ends n ≡ Some i) × (g ≡ its.node_of i))) same
              (at_end.0, (aimed.0, at_end.1 ∙ here_now, sym node ∙ aimed.2))
          | inr rest ↦ w.added_there j g rest
        ];
        one_there = λ j h. elim (first_or k waiting j h) [
          | inl same ↦ subst (λ (n : ℕ). Contains (missed_of R) n ⊎ (Contains still n ⊎ ((i : ℕ) × (target_of labels (round labels (k + 1) others now).ends n ≡ Some i)))) same
              (inr (inr (aimed.0, (settled_later k others now (applied_target now k aimed.0 here_now)).1 ∙ here_now)))
          | inr rest ↦ w.one_there j rest
        ];
      }
  first_aimed k names others after here l later st m (waiting_here {waiting = waiting} isnt more) b (without_target {still = still} {there = there} {e = e} leads misses R) =
      let waits_now = awaits k st m l isnt b in
      let done = round_takes labels its are k names (path k) st m there e waits_now (places.agree k names here) leads in
      let same = round_misses labels its are k names (path k) st m waits_now (places.agree k names here) misses in
      let s = places.steps k names here in
      let agree = subst (λ z. Agree labels its z (path k)) s.2 (places.agree k names here) in
      let missed = miss_target labels its are k s.0 s.1 (path k) st m waits_now agree misses in
      let here_now = subst (λ z. target_of labels (turn labels k 0 (length labels) z st).ends k ≡ None) (sym s.2) missed in
      let now : State = turn labels k 0 (length labels) names st in
      let w = later now m waiting still (waiting_then labels k 0 (length labels) names st (k + 1) others waiting (omega arith) more) (still_between k names st m done same b) R in
      let at_end = settled_later k others now done in
      record {
        none_there = λ j h. elim (first_or k (missed_of R) j h) [
          | inl is ↦ subst (λ (n : ℕ). (is_applied (round labels (k + 1) others now) n ≡ true) × (target_of labels (round labels (k + 1) others now).ends n ≡ None)) is (at_end.0, at_end.1 ∙ here_now)
          | inr rest ↦ w.none_there j rest
        ];
        one_there = λ j h. elim (first_or k waiting j h) [
          | inl is ↦ inl (subst (Contains (k ∷ missed_of R)) is (there_first k (missed_of R)))
          | inr rest ↦ elim (w.one_there j rest) [ inl x ↦ inl (there_later k j (missed_of R) x) | inr y ↦ inr y ]
        ];
        added_there = w.added_there;
      }
  first_aimed k names others after here l later st m (waiting_here {waiting = waiting} isnt more) b (waits {still = still} nowhere R) =
      let s = places.steps k names here in
      let same : turn labels k 0 (length labels) names st ≡ st =
      subst (λ z. turn labels k 0 (length labels) z st ≡ st) (sym s.2)
      (round_waits labels its are k s.0 s.1 (path k) st m (awaits k st m l isnt b) (subst (λ z. Agree labels its z (path k)) s.2 (places.agree k names here)) nowhere) in
      let w = later st m waiting still more b R in
      subst (λ z. Aimed z (k ∷ waiting) (k ∷ still) (missed_of R) (λ j g. AddsTo R j g)) (sym (same_then k names others st same)) (record {
        none_there = w.none_there;
        one_there = λ j h. elim (first_or k waiting j h) [
          | inl is ↦ inr (inl (subst (Contains (k ∷ still)) is (there_first k still)))
          | inr rest ↦ elim (w.one_there j rest) [ inl x ↦ inl x | inr y ↦ elim y [ inl z ↦ inr (inl (there_later k j still z)) | inr z ↦ inr (inr z) ] ]
        ];
        added_there = w.added_there;
      })

  none_aimed : (k : ℕ) (st : State) (m after : Forest) {waiting still : List ℕ} → AreWaiting st k [] waiting
      → (R : RoundOn number path block waiting m still after)
      → Aimed st waiting still (missed_of R) (λ j g. AddsTo R j g)
  none_aimed k st m after no_places none_left =
      record { none_there = λ j h. absurd (nothing_stands j h); one_there = λ j h. absurd (nothing_stands j h); added_there = λ j g h. absurd h }

  aimed : (k : ℕ) (rest : List (List ℕ))
      → ((j : ℕ) (names : List ℕ) → slice_get rest j ≡ Some names → slice_get paths (k + j) ≡ Some names) → k + length rest ≡ length paths
      → (after : Forest) (st : State) (m : Forest) (waiting still : List ℕ) → AreWaiting st k rest waiting → Between st m
      → (R : RoundOn number path block waiting m still after)
      → Aimed (round labels k rest st) waiting still (missed_of R) (λ j g. AddsTo R j g)
  aimed k [] at long after st m waiting still ws b R = none_aimed k st m after ws R
  aimed k (names ∷ others) at long after st m waiting still ws b R =
      first_aimed k names others after (ap (slice_get paths) (let e : k ≡ k + 0 = omega arith in e) ∙ at 0 names refl) (omega (arith, long))
      (aimed (k + 1) others (λ j n is. ap (slice_get paths) (let e : k + 1 + j ≡ k + suc j = omega arith in e) ∙ at (suc j) n is) (omega (arith, long)) after) st m ws b R

  -- those that wait have no target
  waiting_none : (st : State) (k : ℕ) (rest : List (List ℕ)) (waiting : List ℕ) → AreWaiting st k rest waiting → (j : ℕ)
      → Contains waiting j → target_of labels st.ends j ≡ None
  waiting_none st k _ _ no_places j h = absurd (nothing_stands j h)
  waiting_none st k _ _ (was_applied {others = others} {waiting = ws} is more) j h = waiting_none st (k + 1) others ws more j h
  waiting_none st k _ _ (waiting_here {others = others} {waiting = ws} isnt more) j h = elim (first_or k ws j h) [
    | inl same ↦ subst (λ (n : ℕ). target_of labels st.ends n ≡ None) same (by (get_or st.ends k None) isnt)
    | inr rest ↦ waiting_none st (k + 1) others ws more j rest
  ]
    where
      by : (o : Option End) → is_some o ≡ false → option_and_then (target labels) o ≡ None
      by None e = refl
      by (Some x) e = absurd (false≢true (sym e))

  -- after all rounds those have no target that were missed, and the others that waited have one
  record AllAimed (st : State) (waiting missed : List ℕ) (adding : ℕ → Node → Type 0) : Type 0 where
    none_there : (j : ℕ) → Contains missed j → target_of labels st.ends j ≡ None
    one_there : (j : ℕ) → Contains waiting j → Contains missed j ⊎ ((i : ℕ) × (target_of labels st.ends j ≡ Some i))
    added_there : (j : ℕ) (g : Node) → adding j g → (i : ℕ) × (target_of labels st.ends j ≡ Some i) × (g ≡ its.node_of i)

  rounds_aim : (count : ℕ) (st : State) (m after : Forest) {waiting : List ℕ} → AreWaiting st 0 paths waiting → Between st m
      → (R : RoundsOn number path block waiting m after)
      → is_any labels 0 paths (rounds labels 0 paths count st) ≡ false → AllAimed (rounds labels 0 paths count st) waiting (all_missed R) (λ j g. AllAddTo R j g)
  rounds_aim count st m after {waiting = waiting} ws b (last_round R) over =
      let w = went 0 paths (λ j n is. ap (slice_get paths) (let e : 0 + j ≡ j = omega arith in e) ∙ is) (omega arith) m st m waiting waiting ws b R in
      subst (λ (s : State). AllAimed s waiting waiting (λ j g. ⊥)) (sym (rounds_same count st (w.none_went refl)))
      (record { none_there = waiting_none st 0 paths waiting ws; one_there = λ j h. inl h; added_there = λ j g h. absurd h })
  rounds_aim zero st m after {waiting = waiting} ws b (one_more {still = still} {there = there} R less more) over =
      let w = went 0 paths (λ j n is. ap (slice_get paths) (let e : 0 + j ≡ j = omega arith in e) ∙ is) (omega arith) there st m waiting still ws b R in
      absurd (false≢true (sym over ∙ w.some_went less))
  rounds_aim (suc n) st m after {waiting = waiting} ws b (one_more {still = still} {there = there} R less more) over =
      let w = went 0 paths (λ j n is. ap (slice_get paths) (let e : 0 + j ≡ j = omega arith in e) ∙ is) (omega arith) there st m waiting still ws b R in
      let x = aimed 0 paths (λ j n is. ap (slice_get paths) (let e : 0 + j ≡ j = omega arith in e) ∙ is) (omega arith) there st m waiting still ws b R in
      let r = rounds_aim n (round labels 0 paths st) there after w.waiting_now w.between more over in
      let stays : (j : ℕ) → is_applied (round labels 0 paths st) j ≡ true
      → target_of labels (rounds labels 0 paths n (round labels 0 paths st)).ends j ≡ target_of labels (round labels 0 paths st).ends j =
      λ j is. ap (option_and_then (target labels)) (rounds_stay n (round labels 0 paths st) j is) in
      record {
        none_there = λ j h. elim (Contains-append_cases (missed_of R) (all_missed more) j h) [
          | inl a ↦ (let y = x.none_there j a in stays j y.0 ∙ y.1)
          | inr c ↦ r.none_there j c
        ];
        one_there = λ j h. elim (x.one_there j h) [
          | inl a ↦ inl (Contains-append_left (missed_of R) (all_missed more) j a)
          | inr y ↦ elim y [
            | inl c ↦ elim (r.one_there j c) [ inl d ↦ inl (Contains-append_right (missed_of R) (all_missed more) j d) | inr d ↦ inr d ]
            | inr z ↦ inr (z.0, stays j (applied_target (round labels 0 paths st) j z.0 z.1) ∙ z.1)
          ]
        ];
        added_there = λ j g h. elim h [
          | inl a ↦ (let y = x.added_there j g a in (y.1.0, stays j y.0 ∙ y.1.1, y.1.2))
          | inr c ↦ r.added_there j g c
        ];
      }

  pub targets_of : {waiting : List ℕ} {m after : Forest} (st new : State) → Between st m → AreWaiting st 0 paths waiting
      → (R : RoundsOn number path block waiting m after)
      → AreApplied labels 0 paths st new
      → ((j : ℕ) → Contains (all_missed R) j → target_of labels new.ends j ≡ None)
      × ((j : ℕ) → Contains waiting j → Contains (all_missed R) j ⊎ ((i : ℕ) × (target_of labels new.ends j ≡ Some i)))
      × ((j : ℕ) (g : Node) → AllAddTo R j g → (i : ℕ) × (target_of labels new.ends j ≡ Some i) × (g ≡ its.node_of i))
  targets_of {waiting = waiting} {m = m} {after = after} st new b ws R over =
      let r = subst (λ (s : State). AllAimed s waiting (all_missed R) (λ j g. AllAddTo R j g)) (sym over.is)
      (rounds_aim over.count st m after ws b R (subst (λ s. is_any labels 0 paths s ≡ false) over.is over.last)) in
      (r.none_there, r.one_there, r.added_there)

-- whatever tells which nodes the blocks give
pub rounds_by : (labels : List Label) (its : Items) (giver_of : ℕ → Option ℕ) → AreLabels labels its
    → (number : ℕ → ℕ) (path : ℕ → List Step) (block : ℕ → Forest → Type 0)
    (first last : ℕ → ℕ) (paths : List (List ℕ)) (st new : State) (waiting : List ℕ) (m end : Forest) → AreSources its giver_of → ArePlaces labels its number path first last paths
    → AreBetween labels its giver_of number block first last (length paths) st m → AreWaiting st 0 paths waiting
    → RoundsOn number path block waiting m end
    → AreApplied labels 0 paths st new → Shows its new.groups 0 0 (length labels) end
rounds_by labels its giver_of are number path block first last paths st new waiting m after givers places b ws R over =
    subst (λ (s : State). Shows its s.groups 0 0 (length labels) after) (sym over.is)
    (rounds_go labels its are giver_of givers number path block first last paths places over.count st m after ws b R
    (subst (λ s. is_any labels 0 paths s ≡ false) over.is over.last))

pub rounds_show : (labels : List Label) (its : Items) (giver_of : ℕ → Option ℕ) → AreLabels labels its → RoundsShow labels its giver_of
rounds_show labels its giver_of are number path block first last paths st new waiting m after givers places b ws R over =
    rounds_by labels its giver_of are number path (gives block) first last paths st new waiting m after givers places b ws R over
