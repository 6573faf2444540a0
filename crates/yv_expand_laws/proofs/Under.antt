-- What stands at any depth, when one item enters a group and when items move from one group to
-- another.
use Rattle.std.proofs.Common.{◌⊎◌, inl, inr, ◌≡◌, ◌≢◌, ℕ, ◌+◌, ◌<◌, nat_lt, Bool, true, false, if◌then◌else◌, List, [], ◌∷◌, ◌++◌, length, refl, sym, ◌∙◌, ap, subst, Option, Some, None}
use Rattle.std.specs.List.{Contains, slice_get}
use Rattle.std.specs.Option.{option_and_then, option_map}
use Rattle.std.proofs.lemmas.Bool.{cases_eq}
use Rattle.std.proofs.lemmas.Option.{same_Some}
use Rattle.std.proofs.lemmas.List.{get_or-set_same, get_or-set_other}
use Rattle.std.proofs.lemmas.List.Elements.{Contains-append_cases, Contains-append_left, Contains-append_right, Contains-push, Contains-push_cases}
use Rattle.yv_expand_rounds.specs.declared.end.End.{End}
use Rattle.yv_expand_rounds.specs.declared.end.End.TheVariants as end
use Rattle.yv_expand_rounds.specs.declared.label.Label.{Label}
use Rattle.yv_expand_rounds.specs.Groups.{Groups, members_of, move_items}
use Rattle.yv_expand_rounds.specs.Paths.{answer, end_at, before, path_end, first_named, is_shorthand, step_end}
use Rattle.yv_expand_rounds.specs.Labels.{is_named}
use Rattle.yv_expand_rounds.specs.Placements.{enter}
use Rattle.yv_expand_rounds.specs.Turns.{State}
use Rattle.yv_expand_laws.specs.Under.{Under}
use Rattle.yv_expand_laws.specs.Under.Under.{below_item, in_group}
use Rattle.yv_expand_laws.proofs.FoundItems.{found, not_none}
use Rattle.yv_expand_laws.proofs.FrameSequences.{moved_from, moved_other, moved_to, nothing_stands}

pub none_under : (groups : Groups) (g : ℕ) {x : ℕ} → members_of groups g ≡ [] → Under groups g x → ⊥
none_under groups g {x = x} empty (in_group there) = nothing_stands x (subst (λ ms. Contains ms x) empty there)
none_under groups g empty (below_item u there) = none_under groups g empty u

-- what is so of all that stands anywhere is so of what stands here
pub so_under : (P : ℕ → Type 0) (groups : Groups) (g : ℕ) {x : ℕ} → ((y j : ℕ) → Contains (members_of groups y) j → P j) → Under groups g x → P x
so_under P groups g {x = x} all (in_group there) = all g x there
so_under P groups g {x = x} all (below_item {i = i} u there) = all (i + 1) x there

-- in groups that are the same the same stands
pub kept_under : (old new : Groups) (g : ℕ) {x : ℕ} → members_of new g ≡ members_of old g
    → ((j : ℕ) → Under old g j → members_of new (j + 1) ≡ members_of old (j + 1)) → Under old g x → Under new g x
kept_under old new g {x = x} same inner (in_group there) = in_group (subst (λ ms. Contains ms x) (sym same) there)
kept_under old new g {x = x} same inner (below_item {i = i} u there) =
    below_item (kept_under old new g same inner u) (subst (λ ms. Contains ms x) (sym (inner i u)) there)

pub was_under : (old new : Groups) (g : ℕ) {x : ℕ} → members_of new g ≡ members_of old g
    → ((j : ℕ) → Under old g j → members_of new (j + 1) ≡ members_of old (j + 1)) → Under new g x → Under old g x
was_under old new g {x = x} same inner (in_group there) = in_group (subst (λ ms. Contains ms x) same there)
was_under old new g {x = x} same inner (below_item {i = i} u there) =
    let v = was_under old new g same inner u in below_item v (subst (λ ms. Contains ms x) (inner i v) there)

-- one item enters a group
module _ (lo g : ℕ) (st : State) (room : g < length st.groups) where
  enters_cases : (y x : ℕ) → Contains (members_of (enter lo g st).groups y) x → Contains (members_of st.groups y) x ⊎ (x ≡ lo)
  enters_cases y x there = by (cases_eq y g)
    where
      by : (y ≡ g) ⊎ (y ≢ g) → Contains (members_of st.groups y) x ⊎ (x ≡ lo)
      by (inr other) = inl (subst (λ ms. Contains ms x) (get_or-set_other st.groups g y (members_of st.groups g ++ lo ∷ []) [] other) there)
      by (inl same) =
          let now : members_of (enter lo g st).groups y ≡ members_of st.groups y ++ lo ∷ [] =
          ap (members_of (enter lo g st).groups) same ∙ (get_or-set_same st.groups g (members_of st.groups g ++ lo ∷ []) [] room
          ∙ ap (λ (z : ℕ). members_of st.groups z ++ lo ∷ []) (sym same)) in
          elim (Contains-push_cases (members_of st.groups y) lo x (subst (λ ms. Contains ms x) now there)) [ inl was ↦ inl was | inr is ↦ inr (sym is) ]

  enters_keeps : (y x : ℕ) → Contains (members_of st.groups y) x → Contains (members_of (enter lo g st).groups y) x
  enters_keeps y x there = by (cases_eq y g)
    where
      by : (y ≡ g) ⊎ (y ≢ g) → Contains (members_of (enter lo g st).groups y) x
      by (inr other) = subst (λ ms. Contains ms x) (sym (get_or-set_other st.groups g y (members_of st.groups g ++ lo ∷ []) [] other)) there
      by (inl same) =
          subst (λ (z : ℕ). Contains (members_of (enter lo g st).groups z) x) (sym same)
          (subst (λ ms. Contains ms x) (sym (get_or-set_same st.groups g (members_of st.groups g ++ lo ∷ []) [] room))
          (Contains-append_left (members_of st.groups g) (lo ∷ []) x (subst (λ (z : ℕ). Contains (members_of st.groups z) x) same there)))

  pub enters_here : Under (enter lo g st).groups g lo
  enters_here = in_group (subst (λ ms. Contains ms lo) (sym (get_or-set_same st.groups g (members_of st.groups g ++ lo ∷ []) [] room)) (Contains-push (members_of st.groups g) lo))

  pub enters_more : {x : ℕ} → Under st.groups g x → Under (enter lo g st).groups g x
  enters_more {x = x} (in_group there) = in_group (enters_keeps g x there)
  enters_more {x = x} (below_item {i = i} u there) = below_item (enters_more u) (enters_keeps (i + 1) x there)

  pub enters_below : {x : ℕ} → Under st.groups (lo + 1) x → Under (enter lo g st).groups g x
  enters_below {x = x} (in_group there) = below_item enters_here (enters_keeps (lo + 1) x there)
  enters_below {x = x} (below_item {i = i} u there) = below_item (enters_below u) (enters_keeps (i + 1) x there)

  pub enters_only : {x : ℕ} → Under (enter lo g st).groups g x → (x ≡ lo) ⊎ (Under st.groups (lo + 1) x ⊎ Under st.groups g x)
  enters_only {x = x} (in_group there) = elim (enters_cases g x there) [ inl was ↦ inr (inr (in_group was)) | inr is ↦ inl is ]
  enters_only {x = x} (below_item {i = i} u there) = elim (enters_cases (i + 1) x there) [
    | inr is ↦ inl is
    | inl was ↦ elim (enters_only u) [
      | inl same ↦ inr (inl (in_group (subst (λ (z : ℕ). Contains (members_of st.groups (z + 1)) x) same was)))
      | inr (inl v) ↦ inr (inl (below_item v was))
      | inr (inr v) ↦ inr (inr (below_item v was))
    ]
  ]

-- the items of one group become those of an item's
module _ (labels : List Label) (groups : Groups) (own i g : ℕ) (other : own ≢ i + 1) (room : i + 1 < length groups) (own_room : own < length groups) (apart : g ≢ own)
    (away : (y j : ℕ) → Contains (members_of groups y) j → j + 1 ≢ own) where
  moves_cases : (y x : ℕ) → Contains (members_of (move_items own (i + 1) groups) y) x → Contains (members_of groups y) x ⊎ Contains (members_of groups own) x
  moves_cases y x there = by (cases_eq y own) (cases_eq y (i + 1))
    where
      by : (y ≡ own) ⊎ (y ≢ own) → (y ≡ i + 1) ⊎ (y ≢ i + 1) → Contains (members_of groups y) x ⊎ Contains (members_of groups own) x
      by (inl f) t = absurd (nothing_stands x (subst (λ ms. Contains ms x) (ap (members_of (move_items own (i + 1) groups)) f ∙ moved_from labels own (i + 1) groups own_room) there))
      by (inr f) (inr t) = inl (subst (λ ms. Contains ms x) (moved_other labels own (i + 1) y groups f t) there)
      by (inr f) (inl t) =
          elim (Contains-append_cases (members_of groups (i + 1)) (members_of groups own) x
          (subst (λ ms. Contains ms x) (ap (members_of (move_items own (i + 1) groups)) t ∙ moved_to labels own (i + 1) groups other room) there)) [
            | inl a ↦ inl (subst (λ (z : ℕ). Contains (members_of groups z) x) (sym t) a)
            | inr b ↦ inr b
          ]

  moves_keeps : (y x : ℕ) → y ≢ own → Contains (members_of groups y) x → Contains (members_of (move_items own (i + 1) groups) y) x
  moves_keeps y x not_own there = by (cases_eq y (i + 1))
    where
      by : (y ≡ i + 1) ⊎ (y ≢ i + 1) → Contains (members_of (move_items own (i + 1) groups) y) x
      by (inr t) = subst (λ ms. Contains ms x) (sym (moved_other labels own (i + 1) y groups not_own t)) there
      by (inl t) =
          subst (λ (z : ℕ). Contains (members_of (move_items own (i + 1) groups) z) x) (sym t)
          (subst (λ ms. Contains ms x) (sym (moved_to labels own (i + 1) groups other room))
          (Contains-append_left (members_of groups (i + 1)) (members_of groups own) x (subst (λ (z : ℕ). Contains (members_of groups z) x) t there)))

  pub moves_more : {x : ℕ} → Under groups g x → Under (move_items own (i + 1) groups) g x
  moves_more {x = x} (in_group there) = in_group (moves_keeps g x apart there)
  moves_more {x = x} (below_item {i = j} u there) =
      below_item (moves_more u) (moves_keeps (j + 1) x (so_under (λ (z : ℕ). z + 1 ≢ own) groups g away u) there)

  pub moves_below : {x : ℕ} → Under groups g i → Under groups own x → Under (move_items own (i + 1) groups) g x
  moves_below {x = x} at (in_group there) =
      below_item (moves_more at) (subst (λ ms. Contains ms x) (sym (moved_to labels own (i + 1) groups other room))
      (Contains-append_right (members_of groups (i + 1)) (members_of groups own) x there))
  moves_below {x = x} at (below_item {i = j} u there) =
      below_item (moves_below at u) (moves_keeps (j + 1) x (so_under (λ (z : ℕ). z + 1 ≢ own) groups own away u) there)

  pub moves_only : {x : ℕ} → Under (move_items own (i + 1) groups) g x → Under groups g x ⊎ Under groups own x
  moves_only {x = x} (in_group there) = elim (moves_cases g x there) [ inl a ↦ inl (in_group a) | inr b ↦ inr (in_group b) ]
  moves_only {x = x} (below_item {i = j} u there) = elim (moves_cases (j + 1) x there) [
    | inr b ↦ inr (in_group b)
    | inl a ↦ elim (moves_only u) [ inl v ↦ inl (below_item v a) | inr v ↦ inr (below_item v a) ]
  ]

-- a path that begins at a group ends at an item that stands there
module _ (labels : List Label) (groups : Groups) (limit g : ℕ) where
  abbrev pub EndsUnder : End → Type 0
  EndsUnder (end.Start h) = h ≡ g
  EndsUnder (end.Node i) = Under groups g i
  EndsUnder (end.ShorthandCase i) = Under groups g i

  answer_there : (h name i : ℕ) → answer labels groups limit h name ≡ Some i → Contains (members_of groups h) i
  answer_there h name i e = by (first_named labels name (members_of groups h)) refl e
    where
      at : (j : ℕ) → first_named labels name (members_of groups h) ≡ Some j → (b : Bool) → (if b then Some j else None) ≡ Some i → Contains (members_of groups h) i
      at j is true s = (let t = found labels name (members_of groups h) j is in subst (Contains (members_of groups h)) (same_Some j i s) t.0)
      at j is false s = absurd (not_none s)

      by : (o : Option ℕ) → first_named labels name (members_of groups h) ≡ o → before limit o ≡ Some i → Contains (members_of groups h) i
      by None is s = absurd (not_none s)
      by (Some j) is s = at j is (nat_lt j limit) s

  arrived_under : (i j : ℕ) → Under groups g j → EndsUnder (end_at labels i j)
  arrived_under i j u = by (is_shorthand (slice_get labels i) (slice_get labels j))
    where
      by : (b : Bool) → EndsUnder (if b then end.ShorthandCase j else end.Node j)
      by true = u
      by false = u

  step_under : (s e : End) (name : ℕ) → EndsUnder s → step_end labels groups limit s name ≡ Some e → EndsUnder e
  step_under (end.Start h) e name w is = by (answer labels groups limit h name) refl is
    where
      by : (o : Option ℕ) → answer labels groups limit h name ≡ o → option_map (λ j. end.Node j) o ≡ Some e → EndsUnder e
      by None at s = absurd (not_none s)
      by (Some j) at s =
          subst EndsUnder (same_Some _ _ s) (let c = answer_there h name j at in in_group (subst (λ (z : ℕ). Contains (members_of groups z) j) w c))
  step_under (end.Node i) e name w is = by (answer labels groups limit (i + 1) name) refl is
    where
      by : (o : Option ℕ) → answer labels groups limit (i + 1) name ≡ o → option_map (end_at labels i) o ≡ Some e → EndsUnder e
      by None at s = absurd (not_none s)
      by (Some j) at s = subst EndsUnder (same_Some _ _ s) (arrived_under i j (below_item w (answer_there (i + 1) name j at)))
  step_under (end.ShorthandCase j) e name w is = by (is_named labels name j) is
    where
      by : (b : Bool) → (if b then Some (end.Node j) else None) ≡ Some e → EndsUnder e
      by true s = subst EndsUnder (same_Some _ _ s) w
      by false s = absurd (not_none s)

  pub ends_under : (names : List ℕ) (s e : End) → EndsUnder s → path_end labels groups limit names s ≡ Some e → EndsUnder e
  ends_under [] s e w is = subst EndsUnder (same_Some _ _ is) w
  ends_under (name ∷ names) s e w is = by (λ m. ends_under names m e) (step_end labels groups limit s name) refl is
    where
      by : ((m : End) → EndsUnder m → path_end labels groups limit names m ≡ Some e → EndsUnder e)
          → (o : Option End) → step_end labels groups limit s name ≡ o → option_and_then (path_end labels groups limit names) o ≡ Some e → EndsUnder e
      by later None at h = absurd (not_none h)
      by later (Some m) at h = later m (step_under s m name w at) h
