-- The augments of a uses in order, as they are worked out.
use Rattle.std.proofs.Common.{◌≡◌, ℕ, ◌+◌, ◌<◌, ◌≤◌, not, ◌⊎◌, inl, inr, Bool, true, false, cond, List, [], ◌∷◌, ◌++◌, length, refl, sym, ◌∙◌, ap, subst, arith, Option, Some, None, eqb-true}
use Rattle.std.specs.List.{list_any, slice_get}
use Rattle.std.specs.Ordering.{is_eq, nat_cmp}
use Rattle.std.specs.Cmp.{Equal-is}
use Rattle.std.specs.BTreeMap.{is_at}
use Rattle.std.specs.BTreeSet.{BTreeSet, UpdatesBy, contains}
use Rattle.std.proofs.lemmas.Bool.{cases_eq}
use Rattle.std.proofs.lemmas.Map.Lookups.{exact_unsigned}
use Rattle.std.proofs.lemmas.Option.{same_Some, slice_get_within}
use Rattle.yv_text_statement.specs.Order.{IsUpTo, refusal_at}
use Rattle.yv_text_statement.specs.declared.refusal.Code.TheVariants as code
use Rattle.yv_text_statement.specs.declared.refusal.Refusal.{Refusal}
use Rattle.yv_text_statement.proofs.Least.{up_to_trans}
use Rattle.yv_link_scopes.specs.Rows.{Row}
use Rattle.yv_base_tables.specs.Fronts.{KeepPaths}
use Rattle.yv_expand_uses.specs.AugmentOrder.{is_giving}
use Rattle.yv_expand_uses.specs.Paths.{path_in}
use Rattle.yv_expand_augments.specs.InnerSchedule.{AreIdle, AreOrdered, AreStretches, IsCovered, IsEnded, IsFollowed, IsFrom, IsGathering, IsNext, IsPassed, IsPathOf, IsRefusalOf, IsSchedule, IsStretch, is_of_module, stretches_of}
use Rattle.yv_expand_uses.specs.Spots.{Whole}
use Rattle.yv_expand_uses.specs.AugmentOrder.{augments_in}
use Rattle.yv_expand_augments.specs.declared.schedule.AddressedAugment.{AddressedAugment}
use Rattle.yv_expand_augments.specs.declared.schedule.ScheduleDraft.{ScheduleDraft}
use Rattle.yv_expand_augments.specs.declared.schedule.Schedule.{Schedule}
use Rattle.yv_expand_augments.specs.declared.schedule.Stretch.{Stretch}
use Rattle.yv_expand_uses.proofs.ListGrowth.{get_before, get_last, keep_before, last_or_before}

pub up_to_itself : (f : Refusal) → IsUpTo f f
up_to_itself f = inr (refl, inr (refl, inr (refl, inr (refl, inr (refl, tt)))))

-- a statement has one refusal
pub refusal_one : (rows : List Row) (a : ℕ) (f g : Refusal) → IsRefusalOf rows a f → IsRefusalOf rows a g → f ≡ g
refusal_one rows a f g h j =
    h.2.1 ∙ ap (λ (r : Row). refusal_at code.AugmentTarget r.file r.head) (same_Some h.0 j.0 (sym h.1 ∙ j.1)) ∙ sym j.2.1

-- one number more
pub contains_more : (old new : BTreeSet ℕ) (n : ℕ) → UpdatesBy nat_cmp (nat_cmp n) old new true → (number : ℕ) → contains nat_cmp new number ≡ true
    → (n ≡ number) ⊎ (contains nat_cmp old number ≡ true)
contains_more old new n u number h = by (is_eq (nat_cmp n number)) refl
  where
    by : (same : Bool) → is_eq (nat_cmp n number) ≡ same → (n ≡ number) ⊎ (contains nat_cmp old number ≡ true)
    by true e = inl (exact_unsigned n number ((Equal-is (nat_cmp n number)).0 e))
    by false e = inr (sym (u.0 number ∙ ap (λ b. cond b true (contains nat_cmp old number)) e) ∙ h)

pub none_in : (numbers : BTreeSet ℕ) (number : ℕ) → numbers.keys ≡ [] → contains nat_cmp numbers number ≡ false
none_in numbers number e = ap (list_any (is_at (nat_cmp number))) e

-- nothing lies between a place and itself
pub none_idle : (w : Whole) (statement module_file from : ℕ) → from ≤ length (augments_in w.rows statement) → AreIdle w statement module_file from from []
none_idle w statement module_file from within = record {
  ascend = omega arith;
  within = within;
  quiet = λ k a ge lt at. absurd (omega (arith, ge, lt));
  among = λ i x at. absurd (let bad : None ≡ Some x = at in cc);
  each = λ k a f ge lt at h. absurd (omega (arith, ge, lt));
  ordered = λ i k x y f g lt at there h j. absurd (let bad : None ≡ Some x = at in cc);
}

-- one more stretch
pub stretches_more : (w : Whole) (statement module_file from to next : ℕ) (xs : List Stretch) (x : Stretch) → AreStretches w statement module_file from to xs
    → IsStretch w statement module_file to next x → AreStretches w statement module_file from next (xs ++ x ∷ [])
stretches_more w statement module_file from to next [] x h it = (next, subst (λ (n : ℕ). IsStretch w statement module_file n next x) (sym h) it, refl)
stretches_more w statement module_file from to next (y ∷ ys) x h it = (h.0, h.1, stretches_more w statement module_file h.0 to next ys x h.2 it)

-- a stretch ends at a place of the augments
pub ended_within : (w : Whole) (statement module_file place next : ℕ) (giving : Option AddressedAugment) → place ≤ length (augments_in w.rows statement)
    → IsEnded w statement module_file place next giving → next ≤ length (augments_in w.rows statement)
ended_within w statement module_file place next None le h = omega (arith, le, h)
ended_within w statement module_file place next (Some x) le h =
    (let lt = slice_get_within (augments_in w.rows statement) place x.augment h.1.at in let e = h.0 in omega (arith, lt, e))

-- one more that gives nothing
module _ (w : Whole) (statement module_file from k : ℕ) (idle : List AddressedAugment) (x : AddressedAugment) (f : Refusal) (are : AreIdle w statement module_file from k idle) (next : IsNext w statement module_file k x f)
    (passed : (i : ℕ) (y : AddressedAugment) (g : Refusal) → slice_get idle i ≡ Some y → IsRefusalOf w.rows y.augment g → IsUpTo g f) where
  same_here : (j a : ℕ) → j ≡ k → slice_get (augments_in w.rows statement) j ≡ Some a → x.augment ≡ a
  same_here j a e at = same_Some x.augment a (sym next.at ∙ ap (slice_get (augments_in w.rows statement)) (sym e) ∙ at)

  still_quiet : (j a : ℕ) → from ≤ j → j < k + 1 → slice_get (augments_in w.rows statement) j ≡ Some a → is_giving w.rows statement a ≡ false
  still_quiet j a ge lt at = elim (cases_eq j k) [
    | inl e ↦ subst (λ (n : ℕ). is_giving w.rows statement n ≡ false) (same_here j a e at) next.quiet
    | inr ne ↦ are.quiet j a ge (omega (arith, lt, ne)) at
  ]

  still_within : k + 1 ≤ length (augments_in w.rows statement)
  still_within = (let lt = slice_get_within (augments_in w.rows statement) k x.augment next.at in omega (arith, lt))

  still_from : (y : AddressedAugment) → IsFrom w statement module_file from k y → IsFrom w statement module_file from (k + 1) y
  still_from y it = record {
    place = it.place;
    from_on = it.from_on;
    before = (let lt = it.before in omega (arith, lt));
    at = it.at;
    path = it.path;
    refusal = it.refusal;
    refused = it.refused;
  }

  now_from : IsFrom w statement module_file from (k + 1) x
  now_from = record {
    place = k;
    from_on = are.ascend;
    before = omega arith;
    at = next.at;
    path = next.path;
    refusal = f;
    refused = next.refused;
  }

  each_more : (new : List AddressedAugment) → ((path : List ℕ) (g : Refusal) → IsCovered w.rows idle path g → IsCovered w.rows new path g) → IsCovered w.rows new (path_in w module_file x.augment) f
      → (j a : ℕ) (g : Refusal) → from ≤ j → j < k + 1 → slice_get (augments_in w.rows statement) j ≡ Some a → IsRefusalOf w.rows a g → IsCovered w.rows new (path_in w module_file a) g
  each_more new before here j a g ge lt at h = elim (cases_eq j k) [
    | inl e ↦
        let same : x.augment ≡ a = same_here j a e at in
        let one : f ≡ g = refusal_one w.rows a f g (subst (λ (n : ℕ). IsRefusalOf w.rows n f) same next.refused) h in
        subst (λ (r : Refusal). IsCovered w.rows new (path_in w module_file a) r) one (subst (λ (n : ℕ). IsCovered w.rows new (path_in w module_file n) f) same here)
    | inr ne ↦ before (path_in w module_file a) g (are.each j a g ge (omega (arith, lt, ne)) at h)
  ]

  covered_before : (path : List ℕ) (g : Refusal) → IsCovered w.rows idle path g → IsCovered w.rows (idle ++ x ∷ []) path g
  covered_before path g c = record {
    place = c.place;
    addressed = c.addressed;
    at = keep_before idle x c.place c.addressed c.at;
    path_is = c.path_is;
    refusal = c.refusal;
    refused = c.refused;
    first = c.first;
  }

  ordered_more : AreOrdered w.rows (idle ++ x ∷ [])
  ordered_more i j y z g h lt at there refused_y refused_z =
      last_or_before (λ n. IsUpTo g h) idle x z j there
      (λ old.
      let less = slice_get_within idle j z old in
      are.ordered i j y z g h lt (sym (get_before idle x i (omega (arith, lt, less))) ∙ at) old refused_y refused_z)
      (λ last is.
      let old : slice_get idle i ≡ Some y = sym (get_before idle x i (omega (arith, lt, last))) ∙ at in
      let one : f ≡ h = refusal_one w.rows x.augment f h next.refused (subst (λ (a : AddressedAugment). IsRefusalOf w.rows a.augment h) is refused_z) in
      subst (λ (r : Refusal). IsUpTo g r) one (passed i y g old refused_y))

  pub idle_push : AreIdle w statement module_file from (k + 1) (idle ++ x ∷ [])
  idle_push = record {
    ascend = (let le = are.ascend in omega (arith, le));
    within = still_within;
    quiet = still_quiet;
    among = λ i y at. last_or_before (λ n. IsFrom w statement module_file from (k + 1) y) idle x y i at
        (λ old. still_from y (are.among i y old))
        (λ last is. subst (λ (a : AddressedAugment). IsFrom w statement module_file from (k + 1) a) (sym is) now_from);
    each = each_more (idle ++ x ∷ []) covered_before (record {
      place = length idle;
      addressed = x;
      at = get_last idle x;
      path_is = next.path;
      refusal = f;
      refused = next.refused;
      first = up_to_itself f;
    });
    ordered = ordered_more;
  }

  -- another has its path
  pub idle_same : (place : ℕ) (y : AddressedAugment) → slice_get idle place ≡ Some y → y.path.items ≡ x.path.items → AreIdle w statement module_file from (k + 1) idle
  idle_same place y at same = record {
    ascend = (let le = are.ascend in omega (arith, le));
    within = still_within;
    quiet = still_quiet;
    among = λ i z there. still_from z (are.among i z there);
    each = each_more idle (λ path g c. c)
        (let it : IsFrom w statement module_file from k y = are.among place y at in record {
          place = place;
          addressed = y;
          at = at;
          path_is = same ∙ next.path;
          refusal = it.refusal;
          refused = it.refused;
          first = passed place y it.refusal at it.refused;
        });
    ordered = are.ordered;
  }

-- what isn't refused after the last one isn't refused after the next
passed_by : (last : Option Refusal) (rows : List Row) (a : ℕ) (f g : Refusal) → ((l : Refusal) → last ≡ Some l → l.code ≡ code.AugmentTarget) → IsFollowed last f → IsRefusalOf rows a f → IsPassed last g
    → IsUpTo g f
passed_by None rows a f g told followed h p = absurd p
passed_by (Some l) rows a f g told followed h p =
    up_to_trans g l f p (followed (told l refl ∙ sym (ap (λ (r : Refusal). r.code) h.2.1)))

pub all_passed : (w : Whole) (statement module_file count : ℕ) (g : ScheduleDraft) (x : AddressedAugment) (f : Refusal) → IsGathering w statement module_file count g → IsNext w statement module_file count x f → IsFollowed g.last f
    → (i : ℕ) (y : AddressedAugment) (h : Refusal) → slice_get g.idle.items i ≡ Some y → IsRefusalOf w.rows y.augment h → IsUpTo h f
all_passed w statement module_file count g x f is next followed i y h at refused =
    passed_by g.last w.rows x.augment f h is.code followed next.refused (is.passed i y h at refused)

pub refusal_code : (rows : List Row) (a : ℕ) (f l : Refusal) → IsRefusalOf rows a f → Some f ≡ Some l → l.code ≡ code.AugmentTarget
refusal_code rows a f l h e = ap (λ (r : Refusal). r.code) (sym (same_Some f l e) ∙ h.2.1)

-- paths that are known keep their numbers
pub path_of_keep : (old new : List (List ℕ)) (idle : List AddressedAugment) (number : ℕ) → KeepPaths old new → IsPathOf old idle number → IsPathOf new idle number
path_of_keep old new idle number keep it = record {
  place = it.place;
  addressed = it.addressed;
  at = it.at;
  path = keep number it.addressed.path.items it.path;
}

pub path_of_before : (paths : List (List ℕ)) (idle : List AddressedAugment) (x : AddressedAugment) (number : ℕ) → IsPathOf paths idle number → IsPathOf paths (idle ++ x ∷ []) number
path_of_before paths idle x number it = record {
  place = it.place;
  addressed = it.addressed;
  at = keep_before idle x it.place it.addressed it.at;
  path = it.path;
}

pub known_before : (b : Bool) → not b ≡ false → b ≡ true
known_before true h = refl
known_before false h = (let bad : true ≡ false = h in cc)

-- what is kept for a module
pub kept_for : (w : Whole) (statement module_file : ℕ) (o : Option Schedule) → is_of_module module_file o ≡ true → ((s : Schedule) → o ≡ Some s → IsSchedule w statement s)
    → AreStretches w statement module_file 0 (length (augments_in w.rows statement)) (stretches_of o)
kept_for w statement module_file None h all = (let bad : false ≡ true = h in cc)
kept_for w statement module_file (Some s) h all =
    subst (λ (n : ℕ). AreStretches w statement n 0 (length (augments_in w.rows statement)) s.stretches.items) (eqb-true s.module_file module_file h) (all s refl)

-- one more that gives nothing isn't refused after itself
pub passed_push : (rows : List Row) (idle : List AddressedAugment) (x : AddressedAugment) (f : Refusal) → IsRefusalOf rows x.augment f
    → ((i : ℕ) (y : AddressedAugment) (g : Refusal) → slice_get idle i ≡ Some y → IsRefusalOf rows y.augment g → IsUpTo g f)
    → (i : ℕ) (y : AddressedAugment) (g : Refusal) → slice_get (idle ++ x ∷ []) i ≡ Some y → IsRefusalOf rows y.augment g → IsUpTo g f
passed_push rows idle x f h before i y g at refused =
    last_or_before (λ n. IsUpTo g f) idle x y i at
    (λ old. before i y g old refused)
    (λ last is.
    let one : f ≡ g = refusal_one rows x.augment f g h (subst (λ (a : AddressedAugment). IsRefusalOf rows a.augment g) is refused) in
    subst (λ (r : Refusal). IsUpTo r f) one (up_to_itself f))

pub path_of_last : (paths : List (List ℕ)) (idle : List AddressedAugment) (x : AddressedAugment) (number : ℕ) → slice_get paths number ≡ Some x.path.items → IsPathOf paths (idle ++ x ∷ []) number
path_of_last paths idle x number at = record { place = length idle; addressed = x; at = get_last idle x; path = at }

-- a stretch ends
pub stretch_done : (w : Whole) (statement module_file count next : ℕ) (g : ScheduleDraft) (x : Stretch) (new : List Stretch) → new ≡ g.stretches.items ++ x ∷ [] → x.idle.items ≡ g.idle.items
    → IsGathering w statement module_file count g → IsEnded w statement module_file count next x.giving → AreStretches w statement module_file 0 next new
stretch_done w statement module_file count next g x new more same is ended =
    subst (AreStretches w statement module_file 0 next) (sym more)
    (stretches_more w statement module_file 0 is.from next g.stretches.items x is.done
    (record { place = count; idle = subst (AreIdle w statement module_file is.from count) (sym same) is.idle; ended = ended }))
