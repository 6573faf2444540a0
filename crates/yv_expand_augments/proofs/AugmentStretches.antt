-- The stretches of the augments of a uses, one by one.
use Rattle.std.proofs.Common.{◌≡◌, ℕ, zero, suc, ◌+◌, ◌<◌, ◌≤◌, ◌==◌, ◌&&◌, not, ◌⊎◌, inl, inr, ⊎_elim, Bool, true, false, if◌then◌else◌, List, [], ◌∷◌, drop, length, refl, sym, ◌∙◌, ap, subst, arith, Option, Some, None, eqb-true}
use Rattle.std.specs.List.{slice_get}
use Rattle.std.specs.Option.{is_some, option_and_then}
use Rattle.std.proofs.lemmas.Bool.{cases_eq, cases_lt}
use Rattle.std.proofs.lemmas.Option.{same_Some, slice_get_within}
use Rattle.yv_text_statement.specs.Order.{Among, IsLeast, IsLesser, IsUpTo}
use Rattle.yv_text_statement.specs.declared.refusal.Code.TheVariants as code
use Rattle.yv_text_statement.specs.declared.refusal.Refusal.{Refusal}
use Rattle.yv_text_statement.proofs.Least.{least_lesser, least_same, up_to_trans}
use Rattle.yv_link_scopes.specs.Rows.{Row}
use Rattle.yv_expand_rounds.specs.declared.end.End.TheVariants.{Start}
use Rattle.yv_expand_rounds.specs.declared.augmentation.Augmentation.{Augmentation}
use Rattle.yv_expand_rounds.specs.declared.label.Label.{Label}
use Rattle.yv_expand_rounds.specs.Groups.{group_of_augment, members_of}
use Rattle.yv_expand_rounds.specs.InnerState.{IsAugmentation}
use Rattle.yv_expand_rounds.specs.Paths.{path_end}
use Rattle.yv_expand_rounds.specs.Turns.{State, target}
use Rattle.yv_expand_augments.specs.Refusals.{RefusesIf}
use Rattle.yv_expand_uses.specs.AugmentOrder.{augments_giving}
use Rattle.yv_expand_augments.specs.Augmentation.{copy_turn, last_of, turns, turns_from}
use Rattle.yv_expand_uses.specs.Paths.{path_in}
use Rattle.yv_expand_statements.specs.Kinds.{is_uses}
use Rattle.yv_expand_augments.specs.InnerSchedule.{AreIdle, AreOrdered, AreStretches, IsCovered, IsEnded, IsFrom, IsSource, IsReady, IsRefusalOf, IsStretch, MissesBetween, MissesIdle, added_to}
use Rattle.yv_expand_uses.specs.Spots.{Whole}
use Rattle.yv_expand_augments.specs.MissingTargets.{MissesInTurn, MissesOf, after_turns, next_number, node_reached}
use Rattle.yv_expand_uses.specs.AugmentOrder.{augments_in}
use Rattle.yv_expand_augments.specs.declared.schedule.AddressedAugment.{AddressedAugment}
use Rattle.yv_expand_augments.specs.declared.schedule.Stretch.{Stretch}
use Rattle.yv_expand_uses.specs.declared.spot.Spot.{Spot}
use Rattle.yv_expand_augments.proofs.AugmentSchedule.{known_before}
use Rattle.yv_expand_augments.proofs.AugmentTurns.{after_all, after_more, had_same, number_more}

-- the least of some is the least of more, where none of these comes before all of the first
least_among : (P Q : Refusal → Type 0) (o : Option Refusal) → ((f : Refusal) → P f → Q f) → ((f : Refusal) → Q f → (g : Refusal) × P g × IsUpTo g f)
    → IsLeast P o → IsLeast Q o
least_among P Q None to back h = λ f q. (let b = back f q in h b.0 b.1)
least_among P Q (Some r) to back h = (to r h.0, λ f q. (let b = back f q in up_to_trans r b.0 f (h.1 b.0 b.1) b.2))

-- the refusals of a statement, where the same holds
refused_same : (rows : List Row) (P Q : Type 0) (k : ℕ) (o : Option Refusal) → (P → Q) → (Q → P)
    → IsLeast (RefusesIf rows code.AugmentTarget P k) o → IsLeast (RefusesIf rows code.AugmentTarget Q k) o
refused_same rows P Q k o to back =
    least_same (RefusesIf rows code.AugmentTarget P k) (RefusesIf rows code.AugmentTarget Q k) o
    (λ f h. (h.0, h.1, (to h.2.0, h.2.1)))
    (λ f h. (h.0, h.1, (back h.2.0, h.2.1)))

module _ (rows : List Row) (lead : List ℕ → Option ℕ) (idle : List AddressedAugment) where
  abbrev pub Misses : ℕ → AddressedAugment → Refusal → Type 0
  Misses place x f = RefusesIf rows code.AugmentTarget (lead x.path.items ≡ None) x.augment f

  refusal_of : (place : ℕ) (x : AddressedAugment) (f : Refusal) → Misses place x f → IsRefusalOf rows x.augment f
  refusal_of place x f h = (h.0, h.1, (tt, h.2.1))

  -- the first that adds to no node is refused before all others
  pub first_found : (i : ℕ) (x : AddressedAugment) (r : Refusal) → AreOrdered rows idle → slice_get idle i ≡ Some x → IsLeast (Among idle Misses i) None
      → IsLeast (Misses i x) (Some r) → IsLeast (MissesIdle rows lead idle) (Some r)
  first_found i x r ordered at before h = (
    (i, slice_get_within idle i x at, x, at, h.0),
    λ g m. elim (cases_lt m.0 i) [
      | inl lt ↦ absurd (before g (m.0, lt, m.2, m.3, m.4))
      | inr ge ↦ elim (cases_eq m.0 i) [
        | inl e ↦ (let same : m.2 ≡ x = same_Some m.2 x (sym m.3 ∙ ap (slice_get idle) e ∙ at) in h.1 g (subst (λ (y : AddressedAugment). Misses i y g) same m.4))
        | inr ne ↦ ordered i m.0 x m.2 r g (omega (arith, ge, ne)) at m.3 (refusal_of i x r h.0) (refusal_of m.0 m.2 g m.4)
      ]
    ],
  )

  pub found_told : (i : ℕ) (x : AddressedAugment) (o : Option Refusal) → is_some o ≡ true → AreOrdered rows idle → slice_get idle i ≡ Some x → IsLeast (Among idle Misses i) None
      → IsLeast (Misses i x) o → IsLeast (MissesIdle rows lead idle) o
  found_told i x None some ordered at before h = absurd (let bad : false ≡ true = some in cc)
  found_told i x (Some r) some ordered at before h = first_found i x r ordered at before h

pub none_told : (P : Refusal → Type 0) (o : Option Refusal) → is_some o ≡ false → IsLeast P o → IsLeast P None
none_told P None none h = h
none_told P (Some r) none h = absurd (let bad : true ≡ false = none in cc)

-- augments that give nothing take no numbers
pub number_idle : (w : Whole) (s : Spot) (from to : ℕ) (idle : List AddressedAugment) → AreIdle w s.statement s.module_file from to idle
    → next_number w.rows s to ≡ next_number w.rows s from
number_idle w s from to idle are = ap (λ (l : List ℕ). s.first + length l) (had_same w.rows s from to are.within are.quiet to are.ascend (omega arith))

module _ (w : Whole) (labels : List Label) (s : Spot) (end : ℕ) (st : State) (from to : ℕ) (idle : List AddressedAugment) (are : AreIdle w s.statement s.module_file from to idle) where
  -- what one that gives nothing asks depends on its path alone
  asks_same : (k a : ℕ) → from ≤ k → k < to → slice_get (augments_in w.rows s.statement) k ≡ Some a
      → node_reached w labels s end (next_number w.rows s k) a (after_turns w labels s k st) ≡ added_to labels (after_turns w labels s from st) end s.group (path_in w s.module_file a)
  asks_same k a ge lt at =
      let now : State = after_turns w labels s k st in
      let path : List ℕ = path_in w s.module_file a in
      let limit : ℕ = last_of (members_of now.groups (group_of_augment labels (next_number w.rows s k))) in
      ap (λ (b : Bool). option_and_then (target labels) (path_end labels now.groups (if b then limit else end) path (Start s.group))) (are.quiet k a ge lt at)
      ∙ ap (λ (l : List ℕ). added_to labels (turns_from w labels s s.first l st) end s.group path) (had_same w.rows s from to are.within are.quiet k ge (omega (arith, lt)))

  between : (f : Refusal) → MissesIdle w.rows (added_to labels (after_turns w labels s from st) end s.group) idle f → MissesBetween w labels s end st from to f
  between f h =
      let x : AddressedAugment = h.2 in
      let it : IsFrom w s.statement s.module_file from to x = are.among h.0 x h.3 in
      let told = h.4 in
      let miss : node_reached w labels s end (next_number w.rows s it.place) x.augment (after_turns w labels s it.place st) ≡ None =
      asks_same it.place x.augment it.from_on it.before it.at ∙ ap (added_to labels (after_turns w labels s from st) end s.group) (sym it.path) ∙ told.2.0 in
      (it.place, it.from_on, it.before, x.augment, it.at, (told.0, told.1, (miss, told.2.1)))

  covered : (f : Refusal) → MissesBetween w labels s end st from to f
      → (g : Refusal) × MissesIdle w.rows (added_to labels (after_turns w labels s from st) end s.group) idle g × IsUpTo g f
  covered f h =
      let told = h.5 in
      let c : IsCovered w.rows idle (path_in w s.module_file h.3) f = are.each h.0 h.3 f h.1 h.2 h.4 (told.0, told.1, (tt, told.2.1)) in
      let own = c.refused in
      let miss : added_to labels (after_turns w labels s from st) end s.group c.addressed.path.items ≡ None =
      ap (added_to labels (after_turns w labels s from st) end s.group) c.path_is ∙ sym (asks_same h.0 h.3 h.1 h.2 h.4) ∙ told.2.0 in
      (c.refusal, (c.place, slice_get_within idle c.place c.addressed c.at, c.addressed, c.at, (own.0, own.1, (miss, own.2.1))), c.first)

  -- the least refusal of those that give nothing
  pub idle_least : (o : Option Refusal) → IsLeast (MissesIdle w.rows (added_to labels (after_turns w labels s from st) end s.group) idle) o
      → IsLeast (MissesBetween w labels s end st from to) o
  idle_least o =
      least_among (MissesIdle w.rows (added_to labels (after_turns w labels s from st) end s.group) idle) (MissesBetween w labels s end st from to) o between covered

  pub idle_told : (o : Option Refusal) (same : List AddressedAugment) → same ≡ idle
      → (AreOrdered w.rows same → IsLeast (MissesIdle w.rows (added_to labels (after_turns w labels s from st) end s.group) same) o) → IsLeast (MissesBetween w labels s end st from to) o
  idle_told o same is told =
      idle_least o (subst (λ (l : List AddressedAugment). IsLeast (MissesIdle w.rows (added_to labels (after_turns w labels s from st) end s.group) l) o) is
      (told (subst (AreOrdered w.rows) (sym is) are.ordered)))

  -- they have no turns
  pub ready_idle : (number : ℕ) (g : Augmentation) → IsReady w labels s st from number g → IsReady w labels s st to number g
  ready_idle number g ready =
      let same = had_same w.rows s from to are.within are.quiet to are.ascend (omega arith) in
      record {
        augmentation = subst (λ (l : List ℕ). IsAugmentation labels (turns_from w labels s s.first l st) g) (sym same) ready.augmentation;
        long = ready.long;
        next = ready.next ∙ ap (λ (l : List ℕ). s.first + length l) (sym same);
        room = ready.room;
      }

module _ (w : Whole) (labels : List Label) (s : Spot) (end : ℕ) (st : State) (place : ℕ) (x : AddressedAugment) (gives : IsSource w s.statement s.module_file place x) where
  -- where the path of one that gives something leads
  leads_same : (number : ℕ) → number ≡ next_number w.rows s place
      → added_to labels (after_turns w labels s place st) (last_of (members_of (after_turns w labels s place st).groups (group_of_augment labels number))) s.group x.path.items
      ≡ node_reached w labels s end (next_number w.rows s place) x.augment (after_turns w labels s place st)
  leads_same number is =
      let now : State = after_turns w labels s place st in
      let limit : ℕ → ℕ = λ n. last_of (members_of now.groups (group_of_augment labels n)) in
      let walked : ℕ → List ℕ → Option ℕ = λ l path. added_to labels now l s.group path in
      ap (λ (n : ℕ). walked (limit n) x.path.items) is
      ∙ ap (walked (limit (next_number w.rows s place))) gives.path
      ∙ sym (ap (λ (b : Bool). walked (if b then limit (next_number w.rows s place) else end) (path_in w s.module_file x.augment)) gives.gives)

  pub giver_least : (number : ℕ) (o : Option Refusal) → number ≡ next_number w.rows s place
      → IsLeast (RefusesIf w.rows code.AugmentTarget (added_to labels (after_turns w labels s place st)
      (last_of (members_of (after_turns w labels s place st).groups (group_of_augment labels number))) s.group x.path.items ≡ None) x.augment) o
      → IsLeast (MissesInTurn w labels s end st place x.augment) o
  giver_least number o is =
      let same = leads_same number is in
      refused_same w.rows _ (node_reached w labels s end (next_number w.rows s place) x.augment (after_turns w labels s place st) ≡ None) x.augment o
      (λ p. sym same ∙ p) (λ p. same ∙ p)

  pub ready_giver : (number next : ℕ) (g : Augmentation) → next ≡ number + 1 → length labels ≡ w.items → number ≡ next_number w.rows s place
      → s.first + length (augments_giving w.rows s.statement) ≤ length st.ends → IsAugmentation labels (copy_turn w labels s number x.augment (after_turns w labels s place st)) g
      → IsReady w labels s st (place + 1) next g
  ready_giver number next g more long is room h =
      let count = number_more w.rows s place x.augment gives.at gives.gives in
      record {
        augmentation = subst (λ (n : State). IsAugmentation labels n g)
            (ap (λ (n : ℕ). copy_turn w labels s n x.augment (after_turns w labels s place st)) is ∙ after_more w labels s place x.augment st gives.at gives.gives) h;
        long = long;
        next = omega (arith, more, is, count);
        room = room;
      }

  -- one more that gives something
  pub between_more : (from : ℕ) (a b c : Option Refusal) → from ≤ place → IsLesser a b c → IsLeast (MissesBetween w labels s end st from place) a
      → IsLeast (MissesInTurn w labels s end st place x.augment) b → IsLeast (MissesBetween w labels s end st from (place + 1)) c
  between_more from a b c ge l p q =
      least_same (λ f. MissesBetween w labels s end st from place f ⊎ MissesInTurn w labels s end st place x.augment f) (MissesBetween w labels s end st from (place + 1)) c
      (λ f. ⊎_elim (λ h. (h.0, h.1, omega (arith, h.2), h.3, h.4, h.5)) (λ h. (place, ge, omega arith, x.augment, gives.at, h)))
      (λ f h. elim (cases_eq h.0 place) [
        | inl e ↦ inr (
            let same : h.3 ≡ x.augment = same_Some h.3 x.augment (sym h.4 ∙ ap (slice_get (augments_in w.rows s.statement)) e ∙ gives.at) in
            subst (λ (n : ℕ). MissesInTurn w labels s end st n x.augment f) e (subst (λ (m : ℕ). MissesInTurn w labels s end st h.0 m f) same h.5))
        | inr ne ↦ inl (h.0, h.1, omega (arith, h.2), h.3, h.4, h.5)
      ])
      (least_lesser (MissesBetween w labels s end st from place) (MissesInTurn w labels s end st place x.augment) a b c l p q)

module _ (w : Whole) (labels : List Label) (s : Spot) (end : ℕ) (st : State) where
  abbrev First : ℕ → Refusal → Type 0
  First n f = Among (augments_in w.rows s.statement) (MissesInTurn w labels s end st) n f

  -- one more stretch
  pub among_more : (from to : ℕ) (a b c : Option Refusal) → from ≤ to → IsLesser a b c → IsLeast (First from) a → IsLeast (MissesBetween w labels s end st from to) b
      → IsLeast (First to) c
  among_more from to a b c le l p q =
      least_same (λ f. First from f ⊎ MissesBetween w labels s end st from to f) (First to) c
      (λ f. ⊎_elim (λ h. (h.0, omega (arith, h.1, le), h.2, h.3, h.4)) (λ h. (h.0, h.2, h.3, h.4, h.5)))
      (λ f h. elim (cases_lt h.0 from) [
        | inl lt ↦ inl (h.0, lt, h.2, h.3, h.4)
        | inr ge ↦ inr (h.0, ge, h.1, h.2, h.3, h.4)
      ])
      (least_lesser (First from) (MissesBetween w labels s end st from to) a b c l p q)

stretch_ends : (w : Whole) (statement module_file place to : ℕ) (giving : Option AddressedAugment) → IsEnded w statement module_file place to giving → place ≤ to
stretch_ends w statement module_file place to None h = omega (arith, h)
stretch_ends w statement module_file place to (Some x) h = (let e = h.0 in omega (arith, e))

pub stretch_ascends : (w : Whole) (statement module_file from to : ℕ) (stretch : Stretch) → IsStretch w statement module_file from to stretch → from ≤ to
stretch_ascends w statement module_file from to stretch h =
    let first = h.idle.ascend in
    let last = stretch_ends w statement module_file h.place to stretch.giving h.ended in
    omega (arith, first, last)

-- before the first stretch
pub ready_first : (w : Whole) (labels : List Label) (s : Spot) (st : State) (g : Augmentation) → IsAugmentation labels st g → length labels ≡ w.items
    → s.first + length (augments_giving w.rows s.statement) ≤ length st.ends → IsReady w labels s st 0 s.first g
ready_first w labels s st g is long room = record { augmentation = is; long = long; next = omega arith; room = room }

-- a stretch and those after it
pub next_stretch : (w : Whole) (statement module_file at to : ℕ) (xs : List Stretch) (i : ℕ) (x : Stretch) → slice_get xs i ≡ Some x → AreStretches w statement module_file at to (drop i xs)
    → (next : ℕ) × IsStretch w statement module_file at next x × AreStretches w statement module_file next to (drop (i + 1) xs)
next_stretch w statement module_file at to [] i x there h = absurd (let bad : None ≡ Some x = there in cc)
next_stretch w statement module_file at to (y ∷ ys) zero x there h = (h.0, subst (IsStretch w statement module_file at h.0) (same_Some y x there) h.1, h.2)
next_stretch w statement module_file at to (y ∷ ys) (suc i) x there h =
    let rest = next_stretch w statement module_file at to ys i x there h in
    (rest.0, rest.1, subst (λ (n : ℕ). AreStretches w statement module_file rest.0 to (drop n (y ∷ ys))) (let e : suc (i + 1) ≡ suc i + 1 = omega arith in e) rest.2)

-- an item without augments
module _ (w : Whole) (labels : List Label) (s : Spot) (end : ℕ) (st : State)
    (h : (is_uses s.label.kind && not (length (augments_in w.rows s.statement) == 0)) ≡ false) where
  none_there : (b : Bool) → (b && not (length (augments_in w.rows s.statement) == 0)) ≡ false → b ≡ true → length (augments_in w.rows s.statement) ≡ 0
  none_there true e uses = eqb-true (length (augments_in w.rows s.statement)) 0 (known_before (length (augments_in w.rows s.statement) == 0) e)
  none_there false e uses = absurd (let bad : false ≡ true = uses in cc)

  pub no_turns : turns w labels s st ≡ st
  no_turns = by (is_uses s.label.kind) refl
    where
      by : (b : Bool) → is_uses s.label.kind ≡ b → (if b then turns_from w labels s s.first (augments_giving w.rows s.statement) st else st) ≡ st
      by true e = sym (after_all w labels s 0 st (let none = none_there (is_uses s.label.kind) h e in omega (arith, none)))
      by false e = refl

  pub none_refused : IsLeast (MissesOf w labels s end st) None
  none_refused = λ f m. (let none = none_there (is_uses s.label.kind) h m.0 in let lt = m.1.1 in absurd (omega (arith, none, lt)))
