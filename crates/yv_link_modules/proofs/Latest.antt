-- The greatest dates, as statements are met.
use Rattle.std.proofs.Common.{◌≡◌, ◌≢◌, ℕ, ◌+◌, ◌<◌, ◌==◌, ◌&&◌, inl, inr, zero, suc, not, Bool, true, false, cond, List, [], ◌∷◌, ◌++◌, length, map, take, refl, sym, ◌∙◌, ap, subst, arith, Option, Some, None, codes, eqb-true, eq-eqb, length-append}
use Rattle.std.specs.List.{All, filter, slice_get}
use Rattle.std.specs.Option.{option_and_then}
use Rattle.std.specs.Ordering.{nat_cmp, ordering_reverse}
use Rattle.std.specs.declared.cmp.Ordering.{Ordering}
use Rattle.std.specs.declared.cmp.Ordering.TheVariants.{Less, Equal, Greater}
use Rattle.std.specs.Cmp.Lexicographic.{slice_cmp, nat_list_cmp_total}
use Rattle.std.specs.Str.{bytes_eq}
use Rattle.std.proofs.lemmas.Bool.{cases_eq, false≢true}
use Rattle.std.proofs.lemmas.List.{map-append, append-nil}
use Rattle.std.proofs.lemmas.List.Elements.{All-contains, All-push, All-weaker, Contains-append_left, Contains-push, filter-append}
use Rattle.std.proofs.lemmas.Map.Lookups.{exact_bytes}
use Rattle.std.proofs.lemmas.Slice.Eq.{bytes_eq-Decides}
use Rattle.yv_link_scopes.specs.Files.{Briefs, has_word, file_named}
use Rattle.yv_link_scopes.specs.Rows.{Row, name_in}
use Rattle.yv_link_modules.specs.Dates.{is_revision, dates_of, dated_file, IsGreatest, IsOtherDate, IsUpToDate, takes_date}
use Rattle.yv_link_modules.specs.InnerDates.{Dates, date_at, later, later_date, is_date, is_other, is_other_date, IsGreatestOf, AreGreatest}
use Rattle.yv_link_modules.proofs.Flags.{take_next}

less_or_greater : Less ≢ Greater
less_or_greater e = cc

equal_or_greater : Equal ≢ Greater
equal_or_greater e = cc

own_turn : (o : Ordering) → o ≡ ordering_reverse o → o ≢ Greater
own_turn Less e = cc
own_turn Equal e = equal_or_greater
own_turn Greater e = cc

up_to_itself : (d : List ℕ) → IsUpToDate d d
up_to_itself d = own_turn (slice_cmp nat_cmp d d) (nat_list_cmp_total.antisymm d d)

turned : (d e : List ℕ) → slice_cmp nat_cmp d e ≡ Greater → IsUpToDate e d
turned d e h g = let t : slice_cmp nat_cmp e d ≡ Less = nat_list_cmp_total.antisymm e d ∙ ap ordering_reverse h in less_or_greater (sym t ∙ g)

up_to_trans : (a b c : List ℕ) → IsUpToDate a b → IsUpToDate b c → IsUpToDate a c
up_to_trans a b c p q = by (slice_cmp nat_cmp a b) (slice_cmp nat_cmp b c) refl refl
  where
    by : (x y : Ordering) → slice_cmp nat_cmp a b ≡ x → slice_cmp nat_cmp b c ≡ y → IsUpToDate a c
    by Greater y e f = absurd (p e)
    by Equal y e f = λ g. q (sym (nat_list_cmp_total.congr a b c e) ∙ g)
    by Less Greater e f = absurd (q f)
    by Less Less e f = λ g. less_or_greater (sym (nat_list_cmp_total.trans a b c e f) ∙ g)
    by Less Equal e f = λ g.
        let back : slice_cmp nat_cmp c b ≡ Equal = nat_list_cmp_total.antisymm c b ∙ ap ordering_reverse f in
        let past : slice_cmp nat_cmp c a ≡ Greater = nat_list_cmp_total.congr c b a back ∙ nat_list_cmp_total.antisymm b a ∙ ap ordering_reverse e in
        less_or_greater (sym (nat_list_cmp_total.antisymm a c ∙ ap ordering_reverse past) ∙ g)

up_to_both : (d e : List ℕ) → IsUpToDate d e → IsUpToDate e d → d ≡ e
up_to_both d e p q = by (slice_cmp nat_cmp d e) refl
  where
    by : (x : Ordering) → slice_cmp nat_cmp d e ≡ x → d ≡ e
    by Greater h = absurd (p h)
    by Equal h = exact_bytes d e h
    by Less h = absurd (q (nat_list_cmp_total.antisymm e d ∙ ap ordering_reverse h))

-- one date more
greatest_of_more : (dates : List (List ℕ)) (o : Option (List ℕ)) (date : List ℕ) → IsGreatestOf dates o → IsGreatest (dates ++ date ∷ []) (later o date)
greatest_of_more dates None date e =
    (Contains-push dates date, All-push (λ d. IsUpToDate d date) dates date (subst (λ (xs : List (List ℕ)). All (λ d. IsUpToDate d date) xs) (sym e) (λ k d l. absurd (omega (arith, l)))) (up_to_itself date))
greatest_of_more dates (Some d) date h = by (slice_cmp nat_cmp d date) refl
  where
    last : IsUpToDate d date → IsGreatest (dates ++ date ∷ []) date
    last le = (Contains-push dates date, All-push (λ x. IsUpToDate x date) dates date (All-weaker (λ x. IsUpToDate x d) (λ x. IsUpToDate x date) (λ x p. up_to_trans x d date p le) dates h.1) (up_to_itself date))

    by : (x : Ordering) → slice_cmp nat_cmp d date ≡ x → IsGreatest (dates ++ date ∷ []) (later_date x d date)
    by Greater e = (Contains-append_left dates (date ∷ []) d h.0, All-push (λ x. IsUpToDate x d) dates date h.1 (turned d date e))
    by Equal e = last (λ g. equal_or_greater (sym e ∙ g))
    by Less e = last (λ g. less_or_greater (sym e ∙ g))

dates_step : (rows : List Row) (i : ℕ) (r : Row) (file : ℕ) → slice_get rows i ≡ Some r → dates_of (take (i + 1) rows) file ≡ dates_of (take i rows) file ++ map name_in (cond (is_revision file r) (r ∷ []) [])
dates_step rows i r file at =
    ap (λ rs. dates_of rs file) (take_next rows i r at)
    ∙ ap (map name_in) (filter-append (is_revision file) (take i rows) (r ∷ []))
    ∙ map-append name_in (filter (is_revision file) (take i rows)) (cond (is_revision file r) (r ∷ []) [])

dates_same : (rows : List Row) (i : ℕ) (r : Row) (file : ℕ) → slice_get rows i ≡ Some r → is_revision file r ≡ false → dates_of (take (i + 1) rows) file ≡ dates_of (take i rows) file
dates_same rows i r file at plain =
    dates_step rows i r file at ∙ ap (λ b. dates_of (take i rows) file ++ map name_in (cond b (r ∷ []) [])) plain ∙ append-nil (dates_of (take i rows) file)

dates_more : (rows : List Row) (i : ℕ) (r : Row) (file : ℕ) → slice_get rows i ≡ Some r → is_revision file r ≡ true → dates_of (take (i + 1) rows) file ≡ dates_of (take i rows) file ++ name_in r ∷ []
dates_more rows i r file at found =
    dates_step rows i r file at ∙ ap (λ b. dates_of (take i rows) file ++ map name_in (cond b (r ∷ []) [])) found

both_true : (a b : Bool) → a ≡ true → b ≡ true → (a && b) ≡ true
both_true a b e f = ap (λ x. x && b) e ∙ f

one_false : (a b : Bool) → a ≡ false → (a && b) ≡ false
one_false a b e = ap (λ x. x && b) e

other_false : (a b : Bool) → b ≡ false → (a && b) ≡ false
other_false true b e = e
other_false false b e = refl

not_same : (a b : ℕ) → a ≢ b → (a == b) ≡ false
not_same a b ne = by (a == b) refl
  where
    by : (x : Bool) → (a == b) ≡ x → x ≡ false
    by true e = absurd (ne (eqb-true a b e))
    by false e = refl

-- a revision of a file
pub greatest_more : (n : ℕ) (rows : List Row) (i : ℕ) (r : Row) (old new : Dates) (date : List ℕ) → slice_get rows i ≡ Some r → has_word (codes "revision") r.head ≡ true → date ≡ name_in r → length new ≡ length old → date_at new r.file ≡ Some (later (date_at old r.file) date) → ((f : ℕ) → f ≢ r.file → date_at new f ≡ date_at old f) → AreGreatest n (take i rows) old → AreGreatest n (take (i + 1) rows) new
greatest_more n rows i r old new date at word is each kept others h = record {
  each = each ∙ h.each;
  greatest = λ f lt. elim (cases_eq f r.file) [
    | inl e ↦ subst (λ (g : ℕ). IsGreatestOf (dates_of (take (i + 1) rows) g) (date_at new g)) (sym e) (here (h.greatest r.file (subst (λ (g : ℕ). g < n) e lt)))
    | inr ne ↦ (let same = dates_same rows i r f at (other_false (has_word (codes "revision") r.head) (r.file == f) (not_same r.file f (λ q. ne (sym q)))) in
        subst (λ (ds : List (List ℕ)). IsGreatestOf ds (date_at new f)) (sym same) (subst (λ (o : Option (List ℕ)). IsGreatestOf (dates_of (take i rows) f) o) (sym (others f ne)) (h.greatest f lt)))
  ];
}
  where
    here : IsGreatestOf (dates_of (take i rows) r.file) (date_at old r.file) → IsGreatestOf (dates_of (take (i + 1) rows) r.file) (date_at new r.file)
    here g =
        let more : dates_of (take (i + 1) rows) r.file ≡ dates_of (take i rows) r.file ++ date ∷ [] = dates_more rows i r r.file at (both_true (has_word (codes "revision") r.head) (r.file == r.file) word (eq-eqb r.file r.file refl)) ∙ ap (λ d. dates_of (take i rows) r.file ++ d ∷ []) (sym is) in
        subst (λ (o : Option (List ℕ)). IsGreatestOf (dates_of (take (i + 1) rows) r.file) o) (sym kept)
        (subst (λ (ds : List (List ℕ)). IsGreatest ds (later (date_at old r.file) date)) (sym more) (greatest_of_more (dates_of (take i rows) r.file) (date_at old r.file) date g))

-- another statement
pub greatest_same : (n : ℕ) (rows : List Row) (i : ℕ) (r : Row) (dates : Dates) → slice_get rows i ≡ Some r → has_word (codes "revision") r.head ≡ false → AreGreatest n (take i rows) dates → AreGreatest n (take (i + 1) rows) dates
greatest_same n rows i r dates at plain h = record {
  each = h.each;
  greatest = λ f lt. subst (λ (ds : List (List ℕ)). IsGreatestOf ds (date_at dates f)) (sym (dates_same rows i r f at (one_false (has_word (codes "revision") r.head) (r.file == f) plain))) (h.greatest f lt);
}

-- nothing is kept yet
pub record AreEmpty (n : ℕ) (dates : Dates) : Type 0 where
  pub each : length dates ≡ n
  pub none : (file : ℕ) → date_at dates file ≡ None

empty_push : (dates : Dates) (file : ℕ) → ((f : ℕ) → date_at dates f ≡ None) → date_at (dates ++ None ∷ []) file ≡ None
empty_push [] zero h = refl
empty_push [] (suc file) h = refl
empty_push (d ∷ dates) zero h = h 0
empty_push (d ∷ dates) (suc file) h = empty_push dates file (λ f. h (suc f))

pub empty_start : AreEmpty 0 []
empty_start = record { each = refl; none = λ file. refl }

pub empty_more : (n : ℕ) (old new : Dates) → new ≡ old ++ None ∷ [] → AreEmpty n old → AreEmpty (n + 1) new
empty_more n old new e h = record {
  each = (let l = ap length e in omega (arith, l, h.each, length-append old (None ∷ [])));
  none = λ file. ap (λ ds. date_at ds file) e ∙ empty_push old file h.none;
}

pub greatest_start : (n m : ℕ) (rows : List Row) (dates : Dates) → m ≡ n → AreEmpty m dates → AreGreatest n (take 0 rows) dates
greatest_start n m rows dates e h = record {
  each = h.each ∙ e;
  greatest = λ file lt. subst (λ (o : Option (List ℕ)). IsGreatestOf (dates_of (take 0 rows) file) o) (sym (h.none file)) refl;
}

greatest_one : (dates : List (List ℕ)) (d e : List ℕ) → IsGreatest dates d → IsGreatest dates e → d ≡ e
greatest_one dates d e p q = up_to_both d e (within d e p q) (within e d q p)
  where
    within : (x y : List ℕ) → IsGreatest dates x → IsGreatest dates y → IsUpToDate x y
    within x y h g = All-contains (λ z. IsUpToDate z y) dates x g.1 h.0

of_none : (dates : List (List ℕ)) (date : List ℕ) → dates ≡ [] → IsGreatest dates date → ⊥
of_none dates date e h = let l = h.0.1 in let z = ap length e in omega (arith, l, z)

date_not : (dates : List (List ℕ)) (o : Option (List ℕ)) (date : List ℕ) → IsGreatestOf dates o → not (is_date o date) ≡ true → IsGreatest dates date → ⊥
date_not dates None date e t g = of_none dates date e g
date_not dates (Some d) date h t g = false≢true (sym (ap not ((bytes_eq-Decides d date).1 (greatest_one dates d date h g))) ∙ t)

date_is_not : (dates : List (List ℕ)) (o : Option (List ℕ)) (date : List ℕ) → IsGreatestOf dates o → (IsGreatest dates date → ⊥) → not (is_date o date) ≡ true
date_is_not dates None date e g = refl
date_is_not dates (Some d) date h g = by (bytes_eq d date) refl
  where
    by : (b : Bool) → bytes_eq d date ≡ b → not b ≡ true
    by true e = absurd (g (subst (λ (x : List ℕ). IsGreatest dates x) ((bytes_eq-Decides d date).0 e) h))
    by false e = refl

and_left : (a b : Bool) → (a && b) ≡ true → a ≡ true
and_left true b h = refl
and_left false b h = h

and_right : (a b : Bool) → (a && b) ≡ true → b ≡ true
and_right true b h = h
and_right false b h = absurd (false≢true h)

-- what the kept dates tell of a statement
pub other_to : (files : Briefs) (rows : List Row) (dates : Dates) (r : Row) → ((k f : ℕ) → dated_file files rows k ≡ Some f → f < length files) → AreGreatest (length files) rows dates → is_other_date files rows dates r ≡ true → IsOtherDate files rows r
other_to files rows dates r within h t =
    let o = by (dated_file files rows r.scope) refl (and_right (has_word (codes "revision-date") r.head) (is_other dates (name_in r) (dated_file files rows r.scope)) t) in
    (and_left (has_word (codes "revision-date") r.head) (is_other dates (name_in r) (dated_file files rows r.scope)) t, o.0, o.1, o.2)
  where
    by : (o : Option ℕ) → dated_file files rows r.scope ≡ o → is_other dates (name_in r) o ≡ true → (file : ℕ) × (dated_file files rows r.scope ≡ Some file) × (IsGreatest (dates_of rows file) (name_in r) → ⊥)
    by None e u = absurd (false≢true u)
    by (Some file) e u = (file, e, date_not (dates_of rows file) (date_at dates file) (name_in r) (h.greatest file (within r.scope file e)) u)

pub other_from : (files : Briefs) (rows : List Row) (dates : Dates) (r : Row) → ((k f : ℕ) → dated_file files rows k ≡ Some f → f < length files) → AreGreatest (length files) rows dates → IsOtherDate files rows r → is_other_date files rows dates r ≡ true
other_from files rows dates r within h o =
    both_true (has_word (codes "revision-date") r.head) (is_other dates (name_in r) (dated_file files rows r.scope)) o.0
    (ap (is_other dates (name_in r)) o.2 ∙ date_is_not (dates_of rows o.1) (date_at dates o.1) (name_in r) (h.greatest o.1 (within r.scope o.1 o.2)) o.3)

-- a date is asked of a file that has the name
pub dated_named : (files : Briefs) (rows : List Row) (k f : ℕ) → dated_file files rows k ≡ Some f → (name : List ℕ) × (file_named files name ≡ Some f)
dated_named files rows k f e = by (slice_get rows k) e
  where
    at : (p : Row) (b : Bool) → cond b (file_named files (name_in p)) None ≡ Some f → (name : List ℕ) × (file_named files name ≡ Some f)
    at p true q = (name_in p, q)
    at p false q = cc

    by : (o : Option Row) → option_and_then (λ (p : Row). cond (takes_date p.head) (file_named files (name_in p)) None) o ≡ Some f → (name : List ℕ) × (file_named files name ≡ Some f)
    by None q = cc
    by (Some p) q = at p (takes_date p.head) q
