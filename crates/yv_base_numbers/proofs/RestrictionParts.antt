-- What the parts of a restriction's text say.
use Rattle.std.proofs.Common.{◌≡◌, ℕ, ◌==◌, true, false, ◌&&◌, List, [], ◌∷◌, ◌++◌, map, Option, Some, None, Result, Ok, Err, option_map, refl, sym, ◌∙◌, ap, subst, append_assoc}
use Rattle.std.specs.Prelude.{IfOk, IfSome, IfNone}
use Rattle.std.specs.List.{slice_split}
use Rattle.std.proofs.lemmas.Bool.{and_parts, and_from, both_ways}
use Rattle.yv_base_numbers.specs.RestrictedIntervals.{Interval, ascend, lie_within}
use Rattle.yv_base_numbers.specs.InnerParts.{onto, all_of}
use Rattle.yv_base_numbers.specs.Restrictions.{part_of, Restricts}

-- behind those that were read
abbrev pub behind : List Interval → Option (List Interval) → Option (List Interval)
behind is rest = option_map (λ js. is ++ js) rest

pub behind_one : (is : List Interval) (i : Interval) (rest : Option (List Interval)) → behind is (onto (Some i) rest) ≡ behind (is ++ i ∷ []) rest
behind_one is i None = refl
behind_one is i (Some js) = ap Some (sym (append_assoc is (i ∷ []) js))

pub sound : (f : List ℕ → Option Interval) (ts : List (List ℕ)) (is : List Interval) → all_of f ts ≡ Some is → map f ts ≡ map (λ i. Some i) is
sound f [] is h = from_none is h
  where
    from_none : (js : List Interval) → Some [] ≡ Some js → [] ≡ map (λ i. Some i) js
    from_none [] e = refl
    from_none (j ∷ js) e = absurd (cc)
sound f (t ∷ ts) is h = by_cases (f t) (all_of f ts) is h refl (λ js e. sound f ts js e)
  where
    by_cases : (o : Option Interval) (rest : Option (List Interval)) (js : List Interval) → onto o rest ≡ Some js → f t ≡ o → ((ks : List Interval) → rest ≡ Some ks → map f ts ≡ map (λ i. Some i) ks) → f t ∷ map f ts ≡ map (λ i. Some i) js
    by_cases None rest js e g more = absurd (cc)
    by_cases (Some i) None js e g more = absurd (cc)
    by_cases (Some i) (Some ks) [] e g more = absurd (cc)
    by_cases (Some i) (Some ks) (j ∷ js) e g more =
        let same : i ∷ ks ≡ j ∷ js = cc in
        let first : i ≡ j = cc in
        let others : ks ≡ js = cc in
        ap (λ (o : Option Interval). o ∷ map f ts) (g ∙ ap Some first) ∙ ap (λ (os : List (Option Interval)). Some j ∷ os) (more ks refl ∙ ap (map (λ i. Some i)) others)

pub complete : (f : List ℕ → Option Interval) (ts : List (List ℕ)) (is : List Interval) → map f ts ≡ map (λ i. Some i) is → all_of f ts ≡ Some is
complete f [] [] h = refl
complete f [] (i ∷ is) h = absurd (cc)
complete f (t ∷ ts) [] h = absurd (cc)
complete f (t ∷ ts) (i ∷ is) h =
    let first : f t ≡ Some i = cc in
    let others : map f ts ≡ map (λ i. Some i) is = cc in
    ap (λ (o : Option Interval). onto o (all_of f ts)) first ∙ ap (onto (Some i)) (complete f ts is others)

pub restricts_from : (digits : Option ℕ) (base : List Interval) (text : List ℕ) (ts : List (List ℕ)) (is : List Interval) → ts ≡ slice_split (λ c. c == 124) text → all_of (part_of digits base) ts ≡ Some is → (ascend is && lie_within base is) ≡ true → Restricts digits base text is
restricts_from digits base text ts is cut read test =
    let tests = and_parts (ascend is) (lie_within base is) test in
    record {
      parts = ap (map (part_of digits base)) (sym cut) ∙ sound (part_of digits base) ts is read;
      ascending = tests.0;
      within = tests.1;
    }

read_so : (digits : Option ℕ) (base : List Interval) (text : List ℕ) (ts : List (List ℕ)) (is : List Interval) → ts ≡ slice_split (λ c. c == 124) text → Restricts digits base text is → all_of (part_of digits base) ts ≡ Some is
read_so digits base text ts is cut r = complete (part_of digits base) ts is (ap (map (part_of digits base)) cut ∙ r.parts)

pub refused_from : (digits : Option ℕ) (base : List Interval) (text : List ℕ) (ts : List (List ℕ)) (js : List Interval) → ts ≡ slice_split (λ c. c == 124) text → all_of (part_of digits base) ts ≡ Some js → (ascend js && lie_within base js) ≡ false → (is : List Interval) → Restricts digits base text is → ⊥
refused_from digits base text ts js cut read test is r =
    let both : Some js ≡ Some is = sym read ∙ read_so digits base text ts is cut r in
    let same : js ≡ is = cc in
    both_ways (ascend js && lie_within base js) test (subst (λ (ks : List Interval). (ascend ks && lie_within base ks) ≡ true) (sym same) (and_from (ascend is) (lie_within base is) r.ascending r.within))

pub none_from : (digits : Option ℕ) (base : List Interval) (text : List ℕ) (ts : List (List ℕ)) → ts ≡ slice_split (λ c. c == 124) text → all_of (part_of digits base) ts ≡ None → (is : List Interval) → Restricts digits base text is → ⊥
none_from digits base text ts cut read is r =
    let both : None ≡ Some is = sym read ∙ read_so digits base text ts is cut r in
    cc

pub some_restricted : {E : Type 0} (digits : Option ℕ) (base : List Interval) (text : List ℕ) (ts : List (List ℕ)) (js : List Interval) (r : Result (Option (List Interval)) E) → ts ≡ slice_split (λ c. c == 124) text → all_of (part_of digits base) ts ≡ Some js → IfOk r (λ found. IfSome found (λ v. v ≡ js)) → IfOk r (λ found. IfSome found (λ v. (ascend js && lie_within base js) ≡ true)) → IfOk r (λ found. IfSome found (λ v. Restricts digits base text v))
some_restricted digits base text ts js (Ok (Some v)) cut read same test = subst (Restricts digits base text) (sym same) (restricts_from digits base text ts js cut read test)
some_restricted digits base text ts js (Ok None) cut read same test = tt
some_restricted digits base text ts js (Err e) cut read same test = tt

pub none_restricted : {E : Type 0} (digits : Option ℕ) (base : List Interval) (text : List ℕ) (ts : List (List ℕ)) (js : List Interval) (r : Result (Option (List Interval)) E) → ts ≡ slice_split (λ c. c == 124) text → all_of (part_of digits base) ts ≡ Some js → IfOk r (λ found. IfNone found ((ascend js && lie_within base js) ≡ false)) → IfOk r (λ found. IfNone found ((is : List Interval) → Restricts digits base text is → ⊥))
none_restricted digits base text ts js (Ok (Some v)) cut read test = tt
none_restricted digits base text ts js (Ok None) cut read test = refused_from digits base text ts js cut read test
none_restricted digits base text ts js (Err e) cut read test = tt
