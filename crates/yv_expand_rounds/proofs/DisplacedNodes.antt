-- Nodes that were displaced, and those that are hidden.
use Rattle.std.proofs.Common.{◌≡◌, inl, inr, ℕ, ◌+◌, ◌-◌, ◌<◌, ◌≤◌, not, Bool, true, false, if◌then◌else◌, List, [], ◌∷◌, ◌++◌, get_or, set, replicate, length, length-append, refl, sym, ◌∙◌, ap, subst, arith, Option, Some, None}
use Rattle.std.specs.List.{slice_get}
use Rattle.std.proofs.lemmas.Bool.{cases_eq, cases_lt}
use Rattle.std.proofs.lemmas.List.{get_or_past, get_or-replicate, get_or-set_other, get_or-set_same}
use Rattle.std.proofs.lemmas.List.Sums.{sum_by-set}
use Rattle.std.proofs.lemmas.Option.{same_Some, slice_get-get_or, slice_get_within}
use Rattle.yv_expand_rounds.specs.declared.label.Label.{Label}
use Rattle.yv_expand_rounds.specs.declared.end.End.{End}
use Rattle.yv_expand_rounds.specs.declared.end.End.TheVariants as end
use Rattle.yv_expand_rounds.specs.Groups.{Groups, members_of}
use Rattle.yv_expand_rounds.specs.InnerGroups.{IsOneOf, Keep, KeepBut}
use Rattle.yv_expand_rounds.specs.InnerHiddenNodes.{Grow, Hides, IsClosed, IsCovered, Spreads, Updates, is_hidden, is_hidden_at, count_shown}
use Rattle.yv_expand_rounds.proofs.DescendingMembers.{kept_place, last_place}

pub one_of_pushed : (items : List ℕ) (i x : ℕ) → IsOneOf items i → IsOneOf (items ++ x ∷ []) i
one_of_pushed items i x o = (o.0, kept_place items x i o.0 o.1)

-- one item more was added, which took the place of none
pub keep_none : (a b d : ℕ → Option ℕ) (gone : List ℕ) → Keep a b gone → KeepBut b d None → Keep a d gone
keep_none a b d gone old new n i is = elim (old n i is) [
  | inl here ↦ elim (new n i here) [
    | inl there ↦ inl there
    | inr bad ↦ absurd (let e : None ≡ Some i = bad in cc)
  ]
  | inr o ↦ inr o
]

-- one item more was added, which took the place of this one
pub keep_one : (a b d : ℕ → Option ℕ) (gone : List ℕ) (node : ℕ) → Keep a b gone → KeepBut b d (Some node) → Keep a d (gone ++ node ∷ [])
keep_one a b d gone node old new n i is = elim (old n i is) [
  | inl here ↦ elim (new n i here) [
    | inl there ↦ inl there
    | inr last ↦ inr (length gone, last_place gone node ∙ last)
  ]
  | inr o ↦ inr (one_of_pushed gone i node o)
]

-- what isn't hidden is there
pub shown_within : (marks : List Bool) (i : ℕ) → is_hidden marks i ≡ false → i < length marks
shown_within marks i h = elim (cases_lt i (length marks)) [
  | inl l ↦ l
  | inr past ↦ absurd (let bad : true ≡ false = sym (get_or_past marks i true past) ∙ h in cc)
]

abbrev one_if_not : Bool → ℕ
one_if_not m = if not m then 1 else 0

pub hides_none : (marks : List Bool) (found : List ℕ) → Hides marks marks found found
hides_none marks found = record { grow = λ i h. h; kept = λ place i at. at; found = λ i h. inl h; fewer = refl }

pub hides_one : (marks new : List Bool) (before after : List ℕ) (item : ℕ) → is_hidden marks item ≡ false → new ≡ set marks item true → after ≡ before ++ item ∷ []
    → Hides marks new before after
hides_one marks new before after item is e f =
    let l : item < length marks = shown_within marks item is in
    subst (λ (ms : List Bool). Hides marks ms before after) (sym e) (subst (λ (xs : List ℕ). Hides marks (set marks item true) before xs) (sym f) (record {
      grow = λ i h. elim (cases_eq i item) [
        | inl same ↦ ap (is_hidden (set marks item true)) same ∙ get_or-set_same marks item true true l
        | inr other ↦ get_or-set_other marks item i true true other ∙ h
      ];
      kept = λ place i at. kept_place before item i place at;
      found = λ i h. elim (cases_eq i item) [
        | inl same ↦ inr (length before, last_place before item ∙ ap Some (sym same))
        | inr other ↦ inl (sym (get_or-set_other marks item i true true other) ∙ h)
      ];
      fewer =
          let moved : count_shown (set marks item true) + one_if_not (get_or marks item true) ≡ count_shown marks + 0 = sum_by-set one_if_not marks item true true l in
          let one : one_if_not (get_or marks item true) ≡ 1 = ap one_if_not is in
          let more : length (before ++ item ∷ []) ≡ length before + 1 = length-append before (item ∷ []) in
          omega (arith, moved, one, more);
    }))

pub hides_then : (a b d : List Bool) (x y z : List ℕ) → Hides a b x y → Hides b d y z → Hides a d x z
hides_then a b d x y z p q = record {
  grow = λ i h. q.grow i (p.grow i h);
  kept = λ place i at. q.kept place i (p.kept place i at);
  found = λ i h. elim (q.found i h) [
    | inl before ↦ elim (p.found i before) [
      | inl old ↦ inl old
      | inr o ↦ inr (o.0, q.kept o.0 i o.1)
    ]
    | inr o ↦ inr o
  ];
  fewer = (let e = p.fewer in let f = q.fewer in omega (arith, e, f));
}

-- all that stands below an item stays hidden
pub covered_grows : (groups : Groups) (old new : List Bool) (i : ℕ) → Grow old new → IsCovered groups old i → IsCovered groups new i
covered_grows groups old new i grow covered place j at = grow j (covered place j at)

-- what stands below the first of the items that were found is hidden
pub record Spreading (groups : Groups) (old new : List Bool) (before after : List ℕ) (place : ℕ) : Type 0 where
  pub hides : Hides old new before after
  pub done : (k i : ℕ) → k < place → slice_get after k ≡ Some i → IsCovered groups new i

pub spreading_none : (groups : Groups) (marks : List Bool) (found : List ℕ) → Spreading groups marks marks found found 0
spreading_none groups marks found = record { hides = hides_none marks found; done = λ k i l at. absurd (omega (arith, l)) }

pub spreading_more : (groups : Groups) (old mid new : List Bool) (before after more : List ℕ) (place item : ℕ) (below : List ℕ) → Spreading groups old mid before after place
    → slice_get after place ≡ Some item → below ≡ members_of groups (item + 1) → Hides mid new after more
    → ((k i : ℕ) → slice_get below k ≡ Some i → is_hidden new i ≡ true) → Spreading groups old new before more (place + 1)
spreading_more groups old mid new before after more place item below s at is hides all = record {
  hides = hides_then old mid new before after more s.hides hides;
  done = λ k i l found. elim (cases_eq k place) [
    | inl same ↦
        let one : item ≡ i = same_Some item i (sym (hides.kept place item at) ∙ ap (slice_get more) (sym same) ∙ found) in
        λ p j there. all p j (ap (λ xs. slice_get xs p) is ∙ ap (λ n. slice_get (members_of groups (n + 1)) p) one ∙ there)
    | inr other ↦
        let less : k < place = omega (arith, l, other) in
        let within : place < length after = slice_get_within after place item at in
        let here : slice_get after k ≡ Some (get_or after k 0) = slice_get-get_or after k 0 (omega (arith, less, within)) in
        let one : get_or after k 0 ≡ i = same_Some (get_or after k 0) i (sym (hides.kept k (get_or after k 0) here) ∙ found) in
        covered_grows groups mid new i hides.grow (s.done k i less (here ∙ ap Some one))
  ];
}

pub spreading_all : (groups : Groups) (old new : List Bool) (before after : List ℕ) (place : ℕ) → length after ≤ place → Spreading groups old new before after place
    → Spreads groups old new before
spreading_all groups old new before after place past s =
    let all : (i : ℕ) → IsOneOf after i → IsCovered groups new i = λ (i : ℕ) (o : IsOneOf after i).
    (let within = slice_get_within after o.0 i o.1 in s.done o.0 i (omega (arith, within, past)) o.1) in
    record {
      grow = s.hides.grow;
      besides = λ i h. elim (s.hides.found i h) [ inl was ↦ inl was | inr o ↦ inr (all i o) ];
      below = λ i o. all i (o.0, s.hides.kept o.0 i o.1);
    }

-- nodes were displaced, and what stands below them was hidden
pub updated : (groups : Groups) (old mid new : List Bool) (e : Option End) (displaced first found : List ℕ) → Hides old mid first found
    → ((i : ℕ) → e ≡ Some (end.Node i) → is_hidden old i ≡ true → IsOneOf first i)
    → ((place i : ℕ) → slice_get displaced place ≡ Some i → is_hidden mid i ≡ true) → Spreads groups mid new found → Updates groups old new e displaced
updated groups old mid new e displaced first found hides there all spreads = record {
  grow = λ i h. spreads.grow i (hides.grow i h);
  displaced_are = λ i o. spreads.grow i (all o.0 i o.1);
  besides = λ i h. elim (spreads.besides i h) [
    | inl was ↦ elim (hides.found i was) [ inl before ↦ inl before | inr o ↦ inr (spreads.below i o) ]
    | inr covered ↦ inr covered
  ];
  there = λ i is h. (let o = there i is h in spreads.below i (o.0, hides.kept o.0 i o.1));
}

-- where nothing is hidden, nothing has to be below
pub none_closed : (labels : List Label) (groups : Groups) (marks : List Bool) → marks ≡ replicate (length labels) false → IsClosed labels groups marks
none_closed labels groups marks is i l h =
    absurd (let bad : true ≡ false = sym h ∙ ap (λ ms. get_or ms i true) is ∙ get_or-replicate (length labels) i false true l in cc)

-- the end of a path that is hidden is no start
pub hidden_some : (marks : List Bool) (ends : List End) → is_hidden_at marks (get_or ends (length ends - 1) (end.Start 0)) ≡ true → 0 < length ends
hidden_some marks [] h = absurd (let bad : false ≡ true = h in cc)
hidden_some marks (x ∷ xs) h = omega arith
