-- Paths that were followed, and that lead there still when items moved.
use Rattle.std.proofs.Common.{inl, inr, ◌≡◌, ◌≢◌, ℕ, ◌+◌, ◌≤◌, ◌<◌, ◌-◌, ◌⊎◌, nat_lt, Bool, true, false, if◌then◌else◌, List, [], ◌∷◌, ◌++◌, take, drop, set, get_or, length, length-append, refl, sym, ◌∙◌, ap, subst, arith, Option, Some, None}
use Rattle.std.specs.List.{slice_get}
use Rattle.std.specs.Option.{option_map, option_and_then}
use Rattle.std.proofs.lemmas.Bool.{ltb-true, lt-ltb, le-ltb, cases_lt, cases_order}
use Rattle.std.proofs.lemmas.List.{take_more, take-append-drop, take_all, get_or-set_same, get_or-set_other}
use Rattle.std.proofs.lemmas.Option.{get_or_from_slice_get, slice_get-get_or, slice_get_read, same_Some}
use Rattle.yv_expand_rounds.specs.declared.label.Label.{Label}
use Rattle.yv_expand_rounds.specs.declared.group.Group.{Group}
use Rattle.yv_expand_rounds.specs.declared.end.End.{End}
use Rattle.yv_expand_rounds.specs.declared.end.End.TheVariants as end
use Rattle.yv_expand_rounds.specs.Groups.{Groups, members_of, move_items}
use Rattle.yv_expand_rounds.specs.Labels.{is_named}
use Rattle.yv_expand_rounds.specs.Paths.{first_named, before, is_shorthand, end_at, step_end, path_end}
use Rattle.yv_expand_rounds.specs.InnerGroups.{AreGroups, IsGroup, Keep, firsts}
use Rattle.yv_expand_rounds.specs.InnerHiddenNodes.{Grow, IsClosed, is_hidden, is_hidden_at}
use Rattle.yv_expand_rounds.specs.InnerPendingPaths.{first, KeepFirst, Lead, IsTrail, IsFollowed, end_reached, last_end}
use Rattle.yv_expand_rounds.proofs.DescendingMembers.{last_place, pushed_place}
use Rattle.yv_expand_rounds.proofs.RoundProgress.{rest_of}
use Rattle.yv_expand_rounds.proofs.Meeting.{answered_is}

and_then_append : (labels : List Label) (groups : Groups) (limit : ℕ) (xs ys : List ℕ) (o : Option End)
    → ((e : End) → path_end labels groups limit (xs ++ ys) e ≡ option_and_then (path_end labels groups limit ys) (path_end labels groups limit xs e))
    → option_and_then (path_end labels groups limit (xs ++ ys)) o
    ≡ option_and_then (path_end labels groups limit ys) (option_and_then (path_end labels groups limit xs) o)
and_then_append labels groups limit xs ys None h = refl
and_then_append labels groups limit xs ys (Some e) h = h e

-- a path behind another
pub ended_append : (labels : List Label) (groups : Groups) (limit : ℕ) (xs ys : List ℕ) (e : End)
    → path_end labels groups limit (xs ++ ys) e ≡ option_and_then (path_end labels groups limit ys) (path_end labels groups limit xs e)
ended_append labels groups limit [] ys e = refl
ended_append labels groups limit (x ∷ xs) ys e =
    and_then_append labels groups limit xs ys (step_end labels groups limit e x) (λ e'. ended_append labels groups limit xs ys e')

-- one step more
pub leads_more : (labels : List Label) (groups : Groups) (limit : ℕ) (names : List ℕ) (step : ℕ) (s e next : End) → step < length names
    → path_end labels groups limit (take step names) s ≡ Some e → step_end labels groups limit e (get_or names step 0) ≡ Some next
    → path_end labels groups limit (take (step + 1) names) s ≡ Some next
leads_more labels groups limit names step s e next l leads at =
    let name : ℕ = get_or names step 0 in
    ap (λ ns. path_end labels groups limit ns s) (take_more names step 0 l)
    ∙ ended_append labels groups limit (take step names) (name ∷ []) s
    ∙ ap (option_and_then (path_end labels groups limit (name ∷ []))) leads
    ∙ ap (option_and_then (path_end labels groups limit [])) at

-- a step that leads nowhere
pub stops_there : (labels : List Label) (groups : Groups) (limit : ℕ) (names : List ℕ) (step : ℕ) (e : End) → step < length names
    → step_end labels groups limit e (get_or names step 0) ≡ None → path_end labels groups limit (drop step names) e ≡ None
stops_there labels groups limit names step e l at =
    ap (λ ns. path_end labels groups limit ns e) (rest_of names step (get_or names step 0) (slice_get-get_or names step 0 l))
    ∙ ap (option_and_then (path_end labels groups limit (drop (step + 1) names))) at

-- where a path that was followed as far as it leads ends
pub followed_end : (labels : List Label) (groups : Groups) (names : List ℕ) (old new : List End) → IsFollowed labels groups names old new
    → path_end labels groups (length labels) names (end.Start 0) ≡ end_reached names new
followed_end labels groups names old new f = elim (cases_lt (length new) (length names)) [
  | inl l ↦
      let test : nat_lt (length new) (length names) ≡ true = lt-ltb (length new) (length names) l in
      ap (λ ns. path_end labels groups (length labels) ns (end.Start 0)) (sym (take-append-drop (length new) names))
      ∙ ended_append labels groups (length labels) (take (length new) names) (drop (length new) names) (end.Start 0)
      ∙ ap (option_and_then (path_end labels groups (length labels) (drop (length new) names))) f.leads
      ∙ f.stops l
      ∙ ap (λ b. if b then None else Some (last_end new)) (sym test)
  | inr l ↦
      let test : nat_lt (length new) (length names) ≡ false = le-ltb (length new) (length names) l in
      ap (λ ns. path_end labels groups (length labels) ns (end.Start 0)) (sym (take_all (length new) names l))
      ∙ f.leads
      ∙ ap (λ b. if b then None else Some (last_end new)) (sym test)
]

-- the last of these is the one that was pushed
pub last_pushed : (ends : List End) (e : End) → last_end (ends ++ e ∷ []) ≡ e
last_pushed ends e =
    let n : length (ends ++ e ∷ []) ≡ length ends + 1 = length-append ends (e ∷ []) in
    ap (λ k. get_or (ends ++ e ∷ []) k (end.Start 0)) (let same : length (ends ++ e ∷ []) - 1 ≡ length ends = omega (arith, n) in same)
    ∙ get_or_from_slice_get (ends ++ e ∷ []) (length ends) e (end.Start 0) (last_place ends e)

-- so far a path was followed on
pub record Follows (labels : List Label) (groups : Groups) (names : List ℕ) (old new : List End) : Type 0 where
  pub leads : Lead labels groups names (length new) (last_end new)
  pub each : (place : ℕ) (e : End) → slice_get new place ≡ Some e → (slice_get old place ≡ Some e) ⊎ Lead labels groups names (place + 1) e

pub follows_none : (labels : List Label) (groups : Groups) (names : List ℕ) (ends : List End) → Lead labels groups names (length ends) (last_end ends)
    → Follows labels groups names ends ends
follows_none labels groups names ends leads = record { leads = leads; each = λ place e at. inl at }

pub follows_more : (labels : List Label) (groups : Groups) (names : List ℕ) (old mid new : List End) (next : End) → Follows labels groups names old mid
    → length mid < length names → step_end labels groups (length labels) (last_end mid) (get_or names (length mid) 0) ≡ Some next → new ≡ mid ++ next ∷ []
    → Follows labels groups names old new
follows_more labels groups names old mid new next f l at is =
    let here : Lead labels groups names (length mid + 1) next = leads_more labels groups (length labels) names (length mid) (end.Start 0) (last_end mid) next l f.leads at in
    let count : length (mid ++ next ∷ []) ≡ length mid + 1 = length-append mid (next ∷ []) in
    subst (λ (xs : List End). Follows labels groups names old xs) (sym is) (record {
      leads = subst (λ n. Lead labels groups names n (last_end (mid ++ next ∷ []))) (sym count)
          (subst (λ (e : End). Lead labels groups names (length mid + 1) e) (sym (last_pushed mid next)) here);
      each = λ place e found. elim (pushed_place mid next e place found) [
        | inl before ↦ f.each place e before
        | inr last ↦ inr (subst (λ n. Lead labels groups names (n + 1) e) (sym last.0) (subst (λ (x : End). Lead labels groups names (length mid + 1) x) (sym last.1) here))
      ];
    })

-- the step behind those that were followed
pub follows_step : (labels : List Label) (groups : Groups) (names : List ℕ) (mid : List End) (limit k : ℕ) (e : End) (o : Option End) → limit ≡ length labels
    → e ≡ last_end mid → k ≡ length mid → step_end labels groups limit e (get_or names k 0) ≡ o
    → step_end labels groups (length labels) (last_end mid) (get_or names (length mid) 0) ≡ o
follows_step labels groups names mid limit k e o limit_is end_is here at =
    ap (λ n. step_end labels groups n (last_end mid) (get_or names (length mid) 0)) (sym limit_is)
    ∙ ap (λ x. step_end labels groups limit x (get_or names (length mid) 0)) (sym end_is)
    ∙ ap (λ j. step_end labels groups limit e (get_or names j 0)) (sym here)
    ∙ at

pub follows_all : (labels : List Label) (groups : Groups) (names : List ℕ) (old new : List End) → Follows labels groups names old new
    → (length new < length names → step_end labels groups (length labels) (last_end new) (get_or names (length new) 0) ≡ None) → IsFollowed labels groups names old new
follows_all labels groups names old new f stops = record {
  leads = f.leads;
  each = f.each;
  stops = λ l. stops_there labels groups (length labels) names (length new) (last_end new) l (stops l);
}

-- where no step of a trail leads to a hidden node, its last one leads where it did
pub trail_leads : (labels : List Label) (groups : Groups) (marks : List Bool) (names : List ℕ) (ends : List End) → IsTrail labels groups marks names ends
    → is_hidden_at marks (last_end ends) ≡ false → Lead labels groups names (length ends) (last_end ends)
trail_leads labels groups marks names [] are shown = refl
trail_leads labels groups marks names (x ∷ xs) are shown =
    let n : length (x ∷ xs) - 1 ≡ length xs = omega arith in
    let at : slice_get (x ∷ xs) (length xs) ≡ Some (last_end (x ∷ xs)) =
    slice_get-get_or (x ∷ xs) (length xs) (end.Start 0) (omega arith) ∙ ap (λ k. Some (get_or (x ∷ xs) k (end.Start 0))) (sym n) in
    elim (are (length xs) (last_end (x ∷ xs)) at) [
      | inl leads ↦ subst (λ k. Lead labels groups names k (last_end (x ∷ xs))) (let e : length xs + 1 ≡ length (x ∷ xs) = omega arith in e) leads
      | inr hidden ↦ absurd (let bad : true ≡ false = sym hidden ∙ shown in cc)
    ]

-- a path was followed on from where it was left
pub followed_trail : (labels : List Label) (groups : Groups) (marks : List Bool) (names : List ℕ) (before old new : List End) → IsTrail labels groups marks names before
    → ((place : ℕ) (e : End) → slice_get old place ≡ Some e → slice_get before place ≡ Some e) → IsFollowed labels groups names old new
    → IsTrail labels groups marks names new
followed_trail labels groups marks names before old new are kept f place e at = elim (f.each place e at) [
  | inl was ↦ are place e (kept place e was)
  | inr leads ↦ inl leads
]

pub kept_trail : (labels : List Label) (groups : Groups) (marks : List Bool) (names : List ℕ) (before old : List End) → IsTrail labels groups marks names before
    → ((place : ℕ) (e : End) → slice_get old place ≡ Some e → slice_get before place ≡ Some e) → IsTrail labels groups marks names old
kept_trail labels groups marks names before old are kept place e at = are place e (kept place e at)

-- a place whose group is below the top or an item's
abbrev Below : ℕ → End → Type 0
Below n (end.Start g) = g ≤ n
Below n (end.Node i) = i < n
Below n (end.ShorthandCase i) = i < n

answered_by : (n i : ℕ) (f : ℕ → End) (e : End) (b : Bool) → nat_lt i n ≡ b → option_map f (if b then Some i else None) ≡ Some e → (j : ℕ) × (j < n) × (f j ≡ e)
answered_by n i f e true test h = (i, ltb-true i n test, same_Some (f i) e h)
answered_by n i f e false test h = absurd (let bad : None ≡ Some e = h in cc)

answered : (n : ℕ) (f : ℕ → End) (o : Option ℕ) (e : End) → option_map f (before n o) ≡ Some e → (j : ℕ) × (j < n) × (f j ≡ e)
answered n f None e h = absurd (let bad : None ≡ Some e = h in cc)
answered n f (Some i) e h = answered_by n i f e (nat_lt i n) refl h

below_either : (n j : ℕ) (b : Bool) → j < n → Below n (if b then end.ShorthandCase j else end.Node j)
below_either n j true l = l
below_either n j false l = l

below_named : (n j : ℕ) (b : Bool) (e : End) → j < n → (if b then Some (end.Node j) else None) ≡ Some e → Below n e
below_named n j true e l h = subst (Below n) (same_Some (end.Node j) e h) l
below_named n j false e l h = absurd (let bad : None ≡ Some e = h in cc)

stepped_below : (labels : List Label) (groups : Groups) (n : ℕ) (e e' : End) (name : ℕ) → Below n e → step_end labels groups n e name ≡ Some e' → Below n e'
stepped_below labels groups n (end.Start g) e' name l h =
    let a = answered n (λ j. end.Node j) (first labels groups g name) e' h in subst (Below n) a.2 a.1
stepped_below labels groups n (end.Node i) e' name l h =
    let a = answered n (end_at labels i) (first labels groups (i + 1) name) e' h in
    subst (Below n) a.2 (below_either n a.0 (is_shorthand (slice_get labels i) (slice_get labels a.0)) a.1)
stepped_below labels groups n (end.ShorthandCase j) e' name l h = below_named n j (is_named labels name j) e' l h

step_by : (f : ℕ → End) (i : ℕ) (e : End) (b : Bool) → option_map f (if b then Some i else None) ≡ Some e → f i ≡ e
step_by f i e true h = same_Some (f i) e h
step_by f i e false h = absurd (let bad : None ≡ Some e = h in cc)

step_answered : (f : ℕ → End) (limit i : ℕ) (e : End) → option_map f (before limit (Some i)) ≡ Some e → f i ≡ e
step_answered f limit i e h = step_by f i e (nat_lt i limit) h

hidden_either : (marks : List Bool) (j : ℕ) (b : Bool) → is_hidden_at marks (if b then end.ShorthandCase j else end.Node j) ≡ is_hidden marks j
hidden_either marks j true = refl
hidden_either marks j false = refl

hidden_arrived : (labels : List Label) (marks : List Bool) (i j : ℕ) → is_hidden_at marks (end_at labels i j) ≡ is_hidden marks j
hidden_arrived labels marks i j = hidden_either marks j (is_shorthand (slice_get labels i) (slice_get labels j))

hidden_named : (marks : List Bool) (j : ℕ) (b : Bool) (e : End) → is_hidden marks j ≡ true → (if b then Some (end.Node j) else None) ≡ Some e → is_hidden_at marks e ≡ true
hidden_named marks j true e hidden h = subst (λ x. is_hidden_at marks x ≡ true) (same_Some (end.Node j) e h) hidden
hidden_named marks j false e hidden h = absurd (let bad : None ≡ Some e = h in cc)

-- a step from a hidden node leads to a hidden one
stepped_hidden : (labels : List Label) (groups : Groups) (marks : List Bool) (e e' : End) (name : ℕ) → IsClosed labels groups marks → Below (length labels) e
    → is_hidden_at marks e ≡ true → step_end labels groups (length labels) e name ≡ Some e' → is_hidden_at marks e' ≡ true
stepped_hidden labels groups marks (end.Start g) e' name closed below hidden h = absurd (let bad : false ≡ true = hidden in cc)
stepped_hidden labels groups marks (end.Node p) e' name closed below hidden h =
    let a = answered_is labels name (members_of groups (p + 1)) (end_at labels p) (length labels) e' (first labels groups (p + 1) name) refl h in
    subst (λ x. is_hidden_at marks x ≡ true) a.3 (hidden_arrived labels marks p a.0 ∙ closed p below hidden a.1.0 a.0 a.1.1)
stepped_hidden labels groups marks (end.ShorthandCase j) e' name closed below hidden h = hidden_named marks j (is_named labels name j) e' hidden h

abbrev Goes : List Label → Groups → List ℕ → Option End → Option End
Goes labels groups names o = option_and_then (path_end labels groups (length labels) names) o

goes_hidden : (labels : List Label) (groups : Groups) (marks : List Bool) (names : List ℕ) (e' : End) (o : Option End)
    → ((x : End) → o ≡ Some x → path_end labels groups (length labels) names x ≡ Some e' → is_hidden_at marks e' ≡ true)
    → Goes labels groups names o ≡ Some e' → is_hidden_at marks e' ≡ true
goes_hidden labels groups marks names e' None rest h = absurd (let bad : None ≡ Some e' = h in cc)
goes_hidden labels groups marks names e' (Some x) rest h = rest x refl h

-- a path from a hidden node leads to a hidden one
ended_hidden : (labels : List Label) (groups : Groups) (marks : List Bool) (names : List ℕ) (e e' : End) → IsClosed labels groups marks → Below (length labels) e
    → is_hidden_at marks e ≡ true → path_end labels groups (length labels) names e ≡ Some e' → is_hidden_at marks e' ≡ true
ended_hidden labels groups marks [] e e' closed below hidden h = subst (λ x. is_hidden_at marks x ≡ true) (same_Some e e' h) hidden
ended_hidden labels groups marks (name ∷ names) e e' closed below hidden h =
    goes_hidden labels groups marks names e' (step_end labels groups (length labels) e name)
    (λ x at rest. ended_hidden labels groups marks names x e' closed (stepped_below labels groups (length labels) e x name below at)
    (stepped_hidden labels groups marks e x name closed below hidden at) rest) h

step_kept : (f : ℕ → End) (marks : List Bool) (limit : ℕ) (o o' : Option ℕ) (e : End) → ((i : ℕ) → is_hidden_at marks (f i) ≡ is_hidden marks i)
    → ((i : ℕ) → o ≡ Some i → (o' ≡ Some i) ⊎ (is_hidden marks i ≡ true)) → option_map f (before limit o) ≡ Some e
    → (option_map f (before limit o') ≡ Some e) ⊎ (is_hidden_at marks e ≡ true)
step_kept f marks limit None o' e at h was = absurd (let bad : None ≡ Some e = was in cc)
step_kept f marks limit (Some i) o' e at h was = elim (h i refl) [
  | inl same ↦ inl (ap (λ x. option_map f (before limit x)) same ∙ was)
  | inr hidden ↦ inr (subst (λ x. is_hidden_at marks x ≡ true) (step_answered f limit i e was) (at i ∙ hidden))
]

-- what a turn did: each node that was the first of its name is the first still, but in one group,
-- or it is hidden, and what stood below hidden items is hidden
pub record Displaces (labels : List Label) (but : ℕ) (old new : Groups) (marks : List Bool) : Type 0 where
  pub beyond : length labels < but
  pub first_is : (g name i : ℕ) → g ≢ but → first labels old g name ≡ Some i → (first labels new g name ≡ Some i) ⊎ (is_hidden marks i ≡ true)
  pub closed : IsClosed labels old marks

-- a step that leads somewhere leads there still, or to a hidden node
stepped_kept : (labels : List Label) (but limit : ℕ) (old new : Groups) (marks : List Bool) (e e' : End) (name : ℕ) → Displaces labels but old new marks
    → Below (length labels) e → step_end labels old limit e name ≡ Some e' → (step_end labels new limit e name ≡ Some e') ⊎ (is_hidden_at marks e' ≡ true)
stepped_kept labels but limit old new marks (end.Start g) e' name keeps below was =
    let l = keeps.beyond in
    step_kept (λ j. end.Node j) marks limit (first labels old g name) (first labels new g name) e' (λ i. refl)
    (λ i. keeps.first_is g name i (λ x. omega (arith, x, l, below))) was
stepped_kept labels but limit old new marks (end.Node p) e' name keeps below was =
    let l = keeps.beyond in
    step_kept (end_at labels p) marks limit (first labels old (p + 1) name) (first labels new (p + 1) name) e' (hidden_arrived labels marks p)
    (λ i. keeps.first_is (p + 1) name i (λ x. omega (arith, x, l, below))) was
stepped_kept labels but limit old new marks (end.ShorthandCase i) e' name keeps below was = inl was

goes_kept : (labels : List Label) (but : ℕ) (old new : Groups) (marks : List Bool) (names : List ℕ) (name : ℕ) (e e' : End) (o : Option End)
    → Displaces labels but old new marks → Below (length labels) e → step_end labels old (length labels) e name ≡ o
    → ((x : End) → Below (length labels) x → path_end labels old (length labels) names x ≡ Some e'
    → (path_end labels new (length labels) names x ≡ Some e') ⊎ (is_hidden_at marks e' ≡ true))
    → Goes labels old names o ≡ Some e' → (Goes labels new names (step_end labels new (length labels) e name) ≡ Some e') ⊎ (is_hidden_at marks e' ≡ true)
goes_kept labels but old new marks names name e e' None keeps below at rest h = absurd (let bad : None ≡ Some e' = h in cc)
goes_kept labels but old new marks names name e e' (Some x) keeps below at rest h =
    let under : Below (length labels) x = stepped_below labels old (length labels) e x name below at in
    elim (stepped_kept labels but (length labels) old new marks e x name keeps below at) [
      | inl same ↦ elim (rest x under h) [
        | inl there ↦ inl (ap (Goes labels new names) same ∙ there)
        | inr hidden ↦ inr hidden
      ]
      | inr hidden ↦ inr (ended_hidden labels old marks names x e' keeps.closed under hidden h)
    ]

-- a path that leads somewhere leads there still, or to a hidden node
ended_kept : (labels : List Label) (but : ℕ) (old new : Groups) (marks : List Bool) (names : List ℕ) (e e' : End) → Displaces labels but old new marks
    → Below (length labels) e → path_end labels old (length labels) names e ≡ Some e'
    → (path_end labels new (length labels) names e ≡ Some e') ⊎ (is_hidden_at marks e' ≡ true)
ended_kept labels but old new marks [] e e' keeps below was = inl was
ended_kept labels but old new marks (name ∷ names) e e' keeps below was =
    goes_kept labels but old new marks names name e e' (step_end labels old (length labels) e name) keeps below refl
    (λ x under h. ended_kept labels but old new marks names x e' keeps under h) was

grown_at : (old new : List Bool) (e : End) → Grow old new → is_hidden_at old e ≡ true → is_hidden_at new e ≡ true
grown_at old new (end.Start g) grow h = h
grown_at old new (end.Node i) grow h = grow i h
grown_at old new (end.ShorthandCase i) grow h = grow i h

-- a trail leads where it did
pub trail_kept : (labels : List Label) (but : ℕ) (old new : Groups) (marks marks' : List Bool) (names : List ℕ) (ends : List End) → Displaces labels but old new marks'
    → Grow marks marks' → IsTrail labels old marks names ends → IsTrail labels new marks' names ends
trail_kept labels but old new marks marks' names ends keeps grow are place e at = elim (are place e at) [
  | inl leads ↦ ended_kept labels but old new marks' (take (place + 1) names) (end.Start 0) e keeps (omega arith) leads
  | inr hidden ↦ inr (grown_at marks marks' e grow hidden)
]

-- where no item that moved comes before one of its name, what was the first is the first still
pub moved_keeps_first : (labels sp : List Label) (groups : Groups) (all : List Group) (from to : ℕ) (taken emptied second : Group) (moving : List ℕ)
    → sp ≡ labels → AreGroups labels groups all → from < length all → to < length all → from ≢ to → taken ≡ get_or all from taken
    → second ≡ get_or (set all from emptied) to second → moving ≡ taken.members.items
    → (gone : List ℕ) → ((members : List ℕ) → IsGroup sp members second → Keep (firsts sp members) (firsts sp (members ++ moving)) gone)
    → KeepFirst labels from groups (move_items from to groups) gone
moved_keeps_first labels sp groups all from to taken emptied second moving same are lf lt other at_first at_second moves gone keeps =
    let A : List ℕ = members_of groups to ++ members_of groups from in
    let was : IsGroup labels (members_of groups from) taken = are.group from taken (slice_get_read all _ from taken refl lf at_first) in
    let to_is : second ≡ get_or all to second = at_second ∙ get_or-set_other all from to emptied second (λ e. other (sym e)) in
    let had : IsGroup labels (members_of groups to) second = are.group to second (slice_get_read all _ to second refl lt to_is) in
    let move_is : moving ≡ members_of groups from = moves ∙ was.members_are in
    let kept : Keep (firsts labels (members_of groups to)) (firsts labels A) gone =
    subst (λ (x : List Label). Keep (firsts x (members_of groups to)) (firsts x A) gone) same
    (subst (λ (ms : List ℕ). Keep (firsts sp (members_of groups to)) (firsts sp (members_of groups to ++ ms)) gone) move_is
    (keeps (members_of groups to) (subst (λ (x : List Label). IsGroup x (members_of groups to) second) (sym same) had))) in
    let there : members_of (move_items from to groups) to ≡ A =
    get_or-set_other (set groups to A) from to [] [] (λ e. other (sym e)) ∙ get_or-set_same groups to A [] (omega (arith, lt, are.each)) in
    λ g name i ne before_. elim (cases_order g to) [
      | inl e ↦
          let at : first labels groups to name ≡ Some i = ap (λ x. first labels groups x name) (sym e) ∙ before_ in
          elim (kept name i at) [
            | inl still ↦ inl (ap (λ x. first labels (move_items from to groups) x name) e ∙ ap (first_named labels name) there ∙ still)
            | inr displaced ↦ inr displaced
          ]
      | inr apart ↦
          let nt : g ≢ to = λ e. elim apart [ inl x ↦ omega (arith, e, x) | inr x ↦ omega (arith, e, x) ] in
          inl (ap (first_named labels name) (get_or-set_other (set groups to A) from g [] [] ne ∙ get_or-set_other groups to g A [] nt) ∙ before_)
    ]
