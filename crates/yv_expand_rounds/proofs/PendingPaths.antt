-- How rounds go on, where the paths of augments that wait are followed on from where they were
-- left.
use Rattle.std.proofs.Common.{inl, inr, ◌≡◌, ◌≢◌, ◌⊎◌, ℕ, suc, ◌+◌, ◌≤◌, ◌<◌, Bool, true, false, ◌||◌, if◌then◌else◌, List, [], ◌++◌, drop, set, replicate, length, refl, sym, ◌∙◌, ap, subst, arith, Option, Some, None}
use Rattle.std.specs.List.{slice_get}
use Rattle.std.proofs.lemmas.Bool.{cases_eq, cases_lt}
use Rattle.std.proofs.lemmas.List.{drop_all, get_or_past, get_or-set_other, get_or-set_same}
use Rattle.std.proofs.lemmas.Option.{same_Some}
use Rattle.yv_expand_rounds.specs.declared.label.Label.{Label}
use Rattle.yv_expand_rounds.specs.declared.end.End.{End}
use Rattle.yv_expand_rounds.specs.declared.end.End.TheVariants as end
use Rattle.yv_expand_rounds.specs.declared.trail.Trail.{Trail}
use Rattle.yv_expand_rounds.specs.declared.rounds.PathProgress.{PathProgress}
use Rattle.yv_expand_rounds.specs.declared.augmentation.Augmentation.{Augmentation}
use Rattle.yv_expand_rounds.specs.Groups.{Groups, group_of_augment, members_of, move_items}
use Rattle.yv_expand_rounds.specs.Turns.{State, give, is_applied, resolve, settle, target}
use Rattle.yv_expand_rounds.specs.Rounds.{round, rounds, is_any, AreApplied}
use Rattle.yv_expand_rounds.specs.InnerHiddenNodes.{IsClosed, Updates, is_hidden}
use Rattle.yv_expand_rounds.specs.InnerState.{IsAugmentation}
use Rattle.yv_expand_rounds.specs.InnerPendingPaths.{AreWaiting, IsTrail, KeepFirst, StillLead}
use Rattle.yv_expand_rounds.proofs.GroupMembers.{set_at}
use Rattle.yv_expand_rounds.proofs.RoundProgress.{Going, turned, takes, going_none, going_more, going_all, one_more, idle_round}
use Rattle.yv_expand_rounds.proofs.FollowedPaths.{Displaces, trail_kept}
use Rattle.yv_expand_rounds.proofs.DisplacedNodes.{none_closed}
use Rattle.yv_expand_rounds.proofs.Parents.{get_front}
use Rattle.yv_expand_rounds.proofs.Targets.{target_is}

-- what stands in a group stands there still, but in one
abbrev StayIn : (but : ℕ) → Groups → Groups → Type 0
StayIn but old new = (g place i : ℕ) → g ≢ but → slice_get (members_of old g) place ≡ Some i → slice_get (members_of new g) place ≡ Some i

-- nothing comes to stand in groups, but in one, and below the node at this end
abbrev ComeTo : (but : ℕ) → Option End → Groups → Groups → Type 0
ComeTo but e old new = (i : ℕ) → i + 1 ≢ but → (members_of new (i + 1) ≡ members_of old (i + 1)) ⊎ (e ≡ Some (end.Node i))

-- a group with an item is there
group_within : (groups : Groups) (g place i : ℕ) → slice_get (members_of groups g) place ≡ Some i → g < length groups
group_within groups g place i at = elim (cases_lt g (length groups)) [
  | inl l ↦ l
  | inr past ↦ absurd (let bad : None ≡ Some i = ap (λ ms. slice_get ms place) (sym (get_or_past groups g [] past)) ∙ at in cc)
]

moved_stay : (from to : ℕ) (groups : Groups) → StayIn from groups (move_items from to groups)
moved_stay from to groups g place i ne at =
    let A : List ℕ = members_of groups to ++ members_of groups from in
    let within : g < length groups = group_within groups g place i at in
    let other : members_of (move_items from to groups) g ≡ members_of (set groups to A) g = get_or-set_other (set groups to A) from g [] [] ne in
    elim (cases_eq g to) [
      | inl same ↦
          let now : members_of (move_items from to groups) g ≡ A =
          other ∙ ap (members_of (set groups to A)) same ∙ get_or-set_same groups to A [] (let l : to < length groups = omega (arith, within, same) in l) in
          let was : slice_get (members_of groups to) place ≡ Some i = ap (λ n. slice_get (members_of groups n) place) (sym same) ∙ at in
          ap (λ ms. slice_get ms place) now ∙ get_front (members_of groups to) (members_of groups from) i place was
      | inr apart ↦ ap (λ ms. slice_get ms place) (other ∙ get_or-set_other groups to g A [] apart) ∙ at
    ]

moved_come : (from to : ℕ) (groups : Groups) (g : ℕ) → g ≢ from → g ≢ to → members_of (move_items from to groups) g ≡ members_of groups g
moved_come from to groups g ne apart =
    let A : List ℕ = members_of groups to ++ members_of groups from in
    get_or-set_other (set groups to A) from g [] [] ne ∙ get_or-set_other groups to g A [] apart

given_stay : (from : ℕ) (o : Option ℕ) (groups : Groups) → StayIn from groups (give from o groups)
given_stay from None groups = λ g place i ne at. at
given_stay from (Some t) groups = moved_stay from (t + 1) groups

given_come : (labels : List Label) (from : ℕ) (e : End) (o : Option ℕ) (groups : Groups) → target labels e ≡ o → ComeTo from (Some e) groups (give from o groups)
given_come labels from e None groups is = λ i ne. inl refl
given_come labels from e (Some t) groups is = λ i ne. elim (cases_eq i t) [
  | inl same ↦ inr (ap Some (target_is labels e i (is ∙ ap Some (sym same))))
  | inr apart ↦ inl (moved_come from (t + 1) groups (i + 1) ne (λ x. apart (let y : i ≡ t = omega (arith, x) in y)))
]

settled_stay : (labels : List Label) (k : ℕ) (e : Option End) (st : State) (b : Bool)
    → StayIn (group_of_augment labels k) st.groups (if b then st else settle labels k e st).groups
settled_stay labels k e st true = λ g place i ne at. at
settled_stay labels k None st false = λ g place i ne at. at
settled_stay labels k (Some e) st false = given_stay (group_of_augment labels k) (target labels e) st.groups

settled_come : (labels : List Label) (k : ℕ) (e : Option End) (st : State) (b : Bool)
    → ComeTo (group_of_augment labels k) e st.groups (if b then st else settle labels k e st).groups
settled_come labels k e st true = λ i ne. inl refl
settled_come labels k None st false = λ i ne. inl refl
settled_come labels k (Some e) st false = given_come labels (group_of_augment labels k) e (target labels e) st.groups refl

-- after a turn all that stands below hidden items is hidden, and trails lead where they did
pub still_lead : (labels : List Label) (k : ℕ) (e : Option End) (st : State) (before after : List Bool) (gone : List ℕ) → IsClosed labels st.groups before
    → KeepFirst labels (group_of_augment labels k) st.groups (resolve labels k e st).groups gone
    → Updates (resolve labels k e st).groups before after e gone → StillLead labels st.groups (resolve labels k e st).groups before after
still_lead labels k e st before after gone closed keeps updates =
    let own : ℕ = group_of_augment labels k in
    let old : Groups = st.groups in
    let new : Groups = (resolve labels k e st).groups in
    let stay : StayIn own old new = settled_stay labels k e st (is_applied st k) in
    let come : ComeTo own e old new = settled_come labels k e st (is_applied st k) in
    let beyond : (i : ℕ) → i < length labels → i + 1 ≢ own = λ (i : ℕ) (l : i < length labels) (x : i + 1 ≡ own). omega (arith, l, x) in
    let now : IsClosed labels new after = λ (i : ℕ) (l : i < length labels) (h : is_hidden after i ≡ true).
    elim (updates.besides i h) [
      | inl was ↦ elim (come i (beyond i l)) [
        | inl same ↦ λ place j at. updates.grow j (closed i l was place j (ap (λ ms. slice_get ms place) (sym same) ∙ at))
        | inr here ↦ updates.there i here was
      ]
      | inr covered ↦ covered
    ] in
    let displaces : Displaces labels own old new after = record {
      beyond = omega arith;
      first_is = λ g name i ne is. elim (keeps g name i ne is) [ inl still ↦ inl still | inr o ↦ inr (updates.displaced_are i o) ];
      closed = λ i l h place j at. now i l h place j (stay (i + 1) place j (beyond i l) at);
    } in
    record { closed = now; lead = λ names ends are. trail_kept labels own old new before after names ends displaces updates.grow are }

-- the first of the augments had their turns, and so far the paths were followed
pub record Resumes (labels : List Label) (first : ℕ) (paths : List (List ℕ)) (st : State) (i : ℕ) (any : Bool) (waiting : PathProgress) (augmentation : Augmentation) : Type 0 where
  pub going : Going labels first paths st i any augmentation
  pub wait : AreWaiting labels going.now.groups paths waiting

pub resumes_none : (labels : List Label) (first : ℕ) (paths : List (List ℕ)) (st : State) (waiting : PathProgress) (augmentation : Augmentation) → IsAugmentation labels st augmentation
    → AreWaiting labels st.groups paths waiting → Resumes labels first paths st 0 false waiting augmentation
resumes_none labels first paths st waiting augmentation is are = record { going = going_none labels first paths st augmentation is; wait = are }

or_if : (a b : Bool) → (if b then true else a) ≡ (a || b)
or_if true true = refl
or_if true false = refl
or_if false true = refl
or_if false false = refl

pub resumes_more : (labels : List Label) (first : ℕ) (paths : List (List ℕ)) (st : State) (i : ℕ) (any applied : Bool) (before after : PathProgress) (t : Trail)
    (old new : Augmentation) (names : List ℕ) → (r : Resumes labels first paths st i any before old) → slice_get paths i ≡ Some names
    → IsAugmentation labels (turned labels (first + i) names r.going.now) new → applied ≡ takes labels (first + i) names r.going.now
    → after.trails.items ≡ set before.trails.items i t
    → IsTrail labels (turned labels (first + i) names r.going.now).groups after.hidden.marks.items names t.ends.items
    → StillLead labels r.going.now.groups (turned labels (first + i) names r.going.now).groups before.hidden.marks.items after.hidden.marks.items
    → Resumes labels first paths st (i + 1) (any || applied) after new
resumes_more labels first paths st i any applied before after t old new names r at is tells trails own still =
    let g : Going labels first paths st (i + 1) (if applied then true else any) new = going_more labels first paths st i any applied old new names r.going at is tells in
    let new_groups : Groups = (turned labels (first + i) names r.going.now).groups in
    subst (λ (b : Bool). Resumes labels first paths st (i + 1) b after new) (or_if any applied) (record {
      going = g;
      wait = record {
        closed = still.closed;
        trails = λ j ns q path trail. elim (set_at before.trails.items i j t q (ap (λ (l : List Trail). slice_get l j) (sym trails) ∙ trail)) [
          | inl (here, same) ↦
              let names_are : names ≡ ns = same_Some names ns (sym at ∙ ap (slice_get paths) (sym here) ∙ path) in
              subst (λ (x : Trail). IsTrail labels new_groups after.hidden.marks.items ns x.ends.items) (sym same)
              (subst (λ (x : List ℕ). IsTrail labels new_groups after.hidden.marks.items x t.ends.items) names_are own)
          | inr (ne, was) ↦ still.lead ns q.ends.items (r.wait.trails j ns q path was)
        ];
      };
    })

-- no path was followed yet, and nothing is hidden
pub are_new : (labels : List Label) (groups : Groups) (paths : List (List ℕ)) (waiting : PathProgress)
    → ((j : ℕ) (t : Trail) → slice_get waiting.trails.items j ≡ Some t → t.ends.items ≡ []) → waiting.hidden.marks.items ≡ replicate (length labels) false
    → AreWaiting labels groups paths waiting
are_new labels groups paths waiting none shown = record {
  closed = none_closed labels groups waiting.hidden.marks.items shown;
  trails = λ j names t path at place e there.
      absurd (let bad : None ≡ Some e = ap (λ (l : List End). slice_get l place) (sym (none j t at)) ∙ there in cc);
}

-- one more augment was applied, or none
pub fewer_or : (any applied : Bool) (new old whole : ℕ) → new + (if applied then 1 else 0) ≡ old → old + (if any then 1 else 0) ≤ whole
    → new + (if any || applied then 1 else 0) ≤ whole
fewer_or true true new old whole e l = omega (arith, e, l)
fewer_or true false new old whole e l = omega (arith, e, l)
fewer_or false true new old whole e l = omega (arith, e, l)
fewer_or false false new old whole e l = omega (arith, e, l)

-- all had their turns
pub resumes_all : (labels : List Label) (first : ℕ) (paths : List (List ℕ)) (st : State) (i : ℕ) (any : Bool) (waiting : PathProgress) (augmentation : Augmentation)
    → length paths ≤ i → Resumes labels first paths st i any waiting augmentation
    → IsAugmentation labels (round labels first paths st) augmentation × (any ≡ is_any labels first paths st)
resumes_all labels first paths st i any waiting augmentation past r = going_all labels first paths st i any augmentation past r.going

pub resumes_waiting : (labels : List Label) (first : ℕ) (paths : List (List ℕ)) (st : State) (i : ℕ) (any : Bool) (waiting : PathProgress) (augmentation : Augmentation)
    → length paths ≤ i → Resumes labels first paths st i any waiting augmentation → AreWaiting labels (round labels first paths st).groups paths waiting
resumes_waiting labels first paths st i any waiting augmentation past r =
    let done : drop i paths ≡ [] = drop_all i paths past in
    let same : r.going.now ≡ round labels first paths st = ap (λ l. round labels (first + i) l r.going.now) (sym done) ∙ r.going.goes in
    subst (λ (s : State). AreWaiting labels s.groups paths waiting) same r.wait

-- so many rounds were made, and so far the paths were followed
pub record Runs (labels : List Label) (first : ℕ) (paths : List (List ℕ)) (st : State) (waiting : PathProgress) (augmentation : Augmentation) : Type 0 where
  pub count : ℕ
  pub is : IsAugmentation labels (rounds labels first paths count st) augmentation
  pub wait : AreWaiting labels (rounds labels first paths count st).groups paths waiting

pub runs_none : (labels : List Label) (first : ℕ) (paths : List (List ℕ)) (st : State) (waiting : PathProgress) (augmentation : Augmentation) → IsAugmentation labels st augmentation
    → AreWaiting labels st.groups paths waiting → Runs labels first paths st waiting augmentation
runs_none labels first paths st waiting augmentation is are = record { count = 0; is = is; wait = are }

pub runs_more : (labels : List Label) (first : ℕ) (paths : List (List ℕ)) (st : State) (before after : PathProgress) (old new : Augmentation)
    → (r : Runs labels first paths st before old) → IsAugmentation labels (round labels first paths (rounds labels first paths r.count st)) new
    → AreWaiting labels (round labels first paths (rounds labels first paths r.count st)).groups paths after → Runs labels first paths st after new
runs_more labels first paths st before after old new r is wait =
    let next : round labels first paths (rounds labels first paths r.count st) ≡ rounds labels first paths (suc r.count) st = one_more labels first paths r.count st in
    record {
      count = suc r.count;
      is = subst (λ (s : State). IsAugmentation labels s new) next is;
      wait = subst (λ (s : State). AreWaiting labels s.groups paths after) next wait;
    }

pub runs_done : (labels : List Label) (first : ℕ) (paths : List (List ℕ)) (st : State) (waiting : PathProgress) (old new : Augmentation)
    (r : Runs labels first paths st waiting old) → IsAugmentation labels (round labels first paths (rounds labels first paths r.count st)) new
    → false ≡ is_any labels first paths (rounds labels first paths r.count st) → (s : State) × AreApplied labels first paths st s × IsAugmentation labels s new
runs_done labels first paths st waiting old new r is idle =
    let now : State = rounds labels first paths r.count st in
    let still : round labels first paths now ≡ now = idle_round labels first paths now (sym idle) in
    (now, record { count = r.count; is = refl; last = sym idle }, subst (λ (s : State). IsAugmentation labels s new) still is)
