-- How far a scan goes, place by place.
use Rattle.std.proofs.Common.{◌≡◌, ◌≢◌, ℕ, zero, suc, ◌+◌, ◌<◌, ◌≤◌, Option, subst, Bool, true, false, cond, ◌==◌, List, [], ◌∷◌, ◌++◌, length, drop, get_or, refl, sym, ◌∙◌, ap, arith, drop-cons, add-one, Some, None, length-append}
use Rattle.yv_source.specs.Pieces.{Piece, begins, begins_two, until, up_to_quote, Before, Apart, UnquotedWord, QuotedText}
use Rattle.yv_source.specs.Inner.Scan.{First, tail, closed_piece, closed_by_two, unless_unquoted, is_unquoted, begins_mark, ends_comment, pair_len}
use Rattle.yv_source.proofs.Accepts.{append_nil}
use Rattle.yv_source.proofs.Keyword.{false_true}
use Rattle.std.proofs.lemmas.Bool.Decides.{eqb_tells}
use Rattle.std.proofs.Common.{inl, inr}
use Rattle.std.proofs.lemmas.Bool.{eqb-true}
use Rattle.yv_source.proofs.MachineViews.{length-until}
use Rattle.std.proofs.lemmas.List.{drop_all, drop-drop, length-drop}
use Rattle.std.specs.Option.{unwrap_or}
use Rattle.memchr.specs.Find.{IsFirstByte}

-- at a place that stops
pub until-stop : (stop : List ℕ → Bool) (xs : List ℕ) (i : ℕ) → i < length xs → stop (drop i xs) ≡ true → length (until stop (drop i xs)) ≡ 0
until-stop stop xs i h e =
    let d = drop-cons xs i 0 h in
    ap (λ l. length (until stop l)) d
    ∙ ap (λ v. length (cond v [] (get_or xs i 0 ∷ until stop (drop (suc i) xs)))) (sym (ap stop d) ∙ e)

-- at one that does not
pub until-more : (stop : List ℕ → Bool) (xs : List ℕ) (i : ℕ) → i < length xs → stop (drop i xs) ≡ false → length (until stop (drop i xs)) ≡ suc (length (until stop (drop (suc i) xs)))
until-more stop xs i h e =
    let d = drop-cons xs i 0 h in
    ap (λ l. length (until stop l)) d
    ∙ ap (λ v. length (cond v [] (get_or xs i 0 ∷ until stop (drop (suc i) xs)))) (sym (ap stop d) ∙ e)

-- the loops' invariant at the next place
pub until-kept : (stop : List ℕ → Bool) (xs : List ℕ) (i : ℕ) → i < length xs → stop (drop i xs) ≡ false → length (until stop xs) ≡ i + length (until stop (drop i xs)) → length (until stop xs) ≡ i + 1 + length (until stop (drop (i + 1) xs))
until-kept stop xs i h e inv =
    let m = until-more stop xs i h e in
    rw add-one (omega (arith, inv, m))

pub give_quoted-kept_escaped : (xs : List ℕ) (i : ℕ) → i < length xs → length (up_to_quote false xs) ≡ i + length (up_to_quote true (drop i xs)) → length (up_to_quote false xs) ≡ i + 1 + length (up_to_quote false (drop (i + 1) xs))
give_quoted-kept_escaped xs i h inv =
    let m : length (up_to_quote true (drop i xs)) ≡ suc (length (up_to_quote false (drop (suc i) xs))) = ap (λ l. length (up_to_quote true l)) (drop-cons xs i 0 h) in
    rw add-one (omega (arith, inv, m))

pub give_quoted-kept : (xs : List ℕ) (i : ℕ) → i < length xs → (get_or xs i 0 == 34) ≡ false → length (up_to_quote false xs) ≡ i + length (up_to_quote false (drop i xs)) → length (up_to_quote false xs) ≡ i + 1 + length (up_to_quote (get_or xs i 0 == 92) (drop (i + 1) xs))
give_quoted-kept xs i h e inv =
    let m : length (up_to_quote false (drop i xs)) ≡ suc (length (up_to_quote (get_or xs i 0 == 92) (drop (suc i) xs))) =
    ap (λ l. length (up_to_quote false l)) (drop-cons xs i 0 h)
    ∙ ap (λ v. length (cond v [] (get_or xs i 0 ∷ up_to_quote (get_or xs i 0 == 92) (drop (suc i) xs)))) e
    in
    rw add-one (omega (arith, inv, m))

-- a text that is closed, or not
pub closed_none : (p : Piece) (inner after rest : List ℕ) → inner ++ after ≡ rest → length inner ≡ length rest → closed_piece p after ≡ None
closed_none p inner [] rest w e = refl
closed_none p inner (b ∷ after) rest w e = absurd (let n = ap length w in omega (arith, e, n, length-append inner (b ∷ after)))

pub closed_some : (p : Piece) (inner after rest : List ℕ) → inner ++ after ≡ rest → length inner ≢ length rest → (more : List ℕ) × (closed_piece p after ≡ Some (p, more))
closed_some p inner [] rest w e = absurd (e (ap length (sym (append_nil inner)) ∙ ap length w))
closed_some p inner (b ∷ after) rest w e = (after, refl)

pub closed_by_two_none : (p : Piece) (inner after rest : List ℕ) → inner ++ after ≡ rest → length inner ≡ length rest → closed_by_two p after ≡ None
closed_by_two_none p inner [] rest w e = refl
closed_by_two_none p inner (b ∷ after) rest w e = absurd (let n = ap length w in omega (arith, e, n, length-append inner (b ∷ after)))

pub closed_by_two_some : (p : Piece) (inner after rest : List ℕ) → inner ++ after ≡ rest → length inner ≢ length rest → (more : List ℕ) × (closed_by_two p after ≡ Some (p, more))
closed_by_two_some p inner [] rest w e = absurd (e (ap length (sym (append_nil inner)) ∙ ap length w))
closed_by_two_some p inner (b ∷ after) rest w e = (tail after, refl)

pub unless_none : (before : Before) → unless_unquoted before None ≡ None
unless_none Apart = refl
unless_none UnquotedWord = refl
unless_none QuotedText = refl

pub unless_apart : (before : Before) (f : First) → is_unquoted before ≡ false → unless_unquoted before f ≡ f
unless_apart Apart f e = refl
unless_apart UnquotedWord f e = absurd (false_true (sym e))
unless_apart QuotedText f e = refl

pub unless_inside : (before : Before) (f : First) → is_unquoted before ≡ true → unless_unquoted before f ≡ None
unless_inside Apart f e = absurd (false_true e)
unless_inside UnquotedWord f e = refl
unless_inside QuotedText f e = absurd (false_true e)

pub not_equal : (a b : ℕ) → (a ≡ b → ⊥) → (a == b) ≡ false
not_equal a b n = elim (eqb_tells a b) [ inl e ↦ absurd (n e.1) | inr e ↦ e.0 ]

-- ---- searches
not_true : (v : Bool) → (v ≡ true → ⊥) → v ≡ false
not_true true h = absurd (h refl)
not_true false h = refl

-- a front without a place that stops
reaches : (stop : List ℕ → Bool) (xs : List ℕ) (i : ℕ) → i ≤ length xs → ((j : ℕ) → j < i → stop (drop j xs) ≡ false) → length (until stop xs) ≡ i + length (until stop (drop i xs))
reaches stop xs zero le goes = omega arith
reaches stop xs (suc i) le goes =
    let P : ℕ → Type 0 = λ k. length (until stop xs) ≡ k + length (until stop (drop k xs)) in
    subst P (add-one i) (until-kept stop xs i (omega arith) (goes i (omega arith)) (reaches stop xs i (omega arith) (λ j l. goes j (omega arith))))

-- the first byte that passes a test is the first place that stops there
pub found_at : (stop : List ℕ → Bool) (test : ℕ → Bool) (xs : List ℕ) → ((b : ℕ) (rest : List ℕ) → stop (b ∷ rest) ≡ test b) → (r : Option ℕ) → IsFirstByte test xs r → unwrap_or r (length xs) ≡ length (until stop xs)
found_at stop test xs agrees None h =
    let none = reaches stop xs (length xs) (omega arith) (λ j l. ap stop (drop-cons xs j 0 l) ∙ agrees _ _ ∙ not_true _ (h j (omega arith) l)) in
    let rest : length (until stop (drop (length xs) xs)) ≡ 0 = ap (λ l. length (until stop l)) (drop_all (length xs) xs (omega arith)) in
    omega (arith, none, rest)
found_at stop test xs agrees (Some k) h =
    let first = h.0 in
    let none = reaches stop xs k (omega (arith, first.high)) (λ j l. ap stop (drop-cons xs j 0 (omega (arith, l, first.high))) ∙ agrees _ _ ∙ not_true _ (first.before j (omega arith) l)) in
    let rest = until-stop stop xs k first.high (ap stop (drop-cons xs k 0 first.high) ∙ agrees _ _ ∙ h.1) in
    omega (arith, none, rest)

-- a search that stops no later
coarse_at : (stop weak : List ℕ → Bool) (x : ℕ) (xs : List ℕ) (v : Bool) → weak (x ∷ xs) ≡ v → (v ≡ false → stop (x ∷ xs) ≡ false) → length (until stop xs) ≡ length (until weak xs) + length (until stop (drop (length (until weak xs)) xs))
    → length (until stop (x ∷ xs)) ≡ length (until weak (x ∷ xs)) + length (until stop (drop (length (until weak (x ∷ xs))) (x ∷ xs)))
coarse_at stop weak x xs true e h others =
    let n : length (until weak (x ∷ xs)) ≡ 0 = rw e refl in
    let d : length (until stop (drop (length (until weak (x ∷ xs))) (x ∷ xs))) ≡ length (until stop (x ∷ xs)) = ap (λ k. length (until stop (drop k (x ∷ xs)))) n in
    omega (arith, n, d)
coarse_at stop weak x xs false e h others =
    let n : length (until weak (x ∷ xs)) ≡ suc (length (until weak xs)) = rw e refl in
    let m : length (until stop (x ∷ xs)) ≡ suc (length (until stop xs)) = rw (h refl) refl in
    let d : length (until stop (drop (length (until weak (x ∷ xs))) (x ∷ xs))) ≡ length (until stop (drop (length (until weak xs)) xs)) = ap (λ k. length (until stop (drop k (x ∷ xs)))) n in
    omega (arith, n, m, d, others)

pub coarse : (stop weak : List ℕ → Bool) → ((l : List ℕ) → weak l ≡ false → stop l ≡ false) → (xs : List ℕ) → length (until stop xs) ≡ length (until weak xs) + length (until stop (drop (length (until weak xs)) xs))
coarse stop weak h [] = refl
coarse stop weak h (x ∷ xs) = coarse_at stop weak x xs (weak (x ∷ xs)) refl (λ e. h (x ∷ xs) e) (coarse stop weak h xs)

-- where a search stopped
stopped_at : (stop : List ℕ → Bool) (x : ℕ) (xs : List ℕ) (v : Bool) → stop (x ∷ xs) ≡ v → (v ≡ false → stop (drop (length (until stop xs)) xs) ≡ true) → stop (drop (length (until stop (x ∷ xs))) (x ∷ xs)) ≡ true
stopped_at stop x xs true e h = let n : length (until stop (x ∷ xs)) ≡ 0 = rw e refl in ap (λ k. stop (drop k (x ∷ xs))) n ∙ e
stopped_at stop x xs false e h =
    let n : length (until stop (x ∷ xs)) ≡ suc (length (until stop xs)) = rw e refl in
    ap (λ k. stop (drop k (x ∷ xs))) n ∙ h refl

until_one : (stop : List ℕ → Bool) (x : ℕ) (xs : List ℕ) → stop (x ∷ xs) ≡ false → length (until stop (x ∷ xs)) ≡ suc (length (until stop xs))
until_one stop x xs e = rw e refl

pub stopped : (stop : List ℕ → Bool) (xs : List ℕ) → length (until stop xs) < length xs → stop (drop (length (until stop xs)) xs) ≡ true
stopped stop [] lt = absurd (omega arith)
stopped stop (x ∷ xs) lt =
    stopped_at stop x xs (stop (x ∷ xs)) refl (λ e. stopped stop xs (let n = until_one stop x xs e in omega (arith, n, lt)))

-- ---- the end of a comment
pub no_comment_end : (l : List ℕ) → begins 42 l ≡ false → begins_two 42 47 l ≡ false
no_comment_end [] h = refl
no_comment_end (x ∷ xs) h = rw h refl

pub comment_ends : (l : List ℕ) → ends_comment l ≡ true → length (until (begins_two 42 47) l) ≡ 0
comment_ends [] h = refl
comment_ends (x ∷ xs) h = rw h refl

pub comment_goes_on : (l : List ℕ) → ends_comment l ≡ false → (0 < length l) × (begins_two 42 47 l ≡ false)
comment_goes_on [] h = absurd (false_true (sym h))
comment_goes_on (x ∷ xs) h = (omega arith, h)

-- how far a comment was searched
pub record SearchedTo (stop : List ℕ → Bool) (xs : List ℕ) (at : ℕ) : Type 0 where
  pub within : at ≤ length xs
  pub so_far : length (until stop xs) ≡ at + length (until stop (drop at xs))

pub searched_on : (stop weak : List ℕ → Bool) (xs ys : List ℕ) (at k : ℕ) → ((l : List ℕ) → weak l ≡ false → stop l ≡ false) → SearchedTo stop xs at → ys ≡ drop at xs → k ≡ length (until weak ys) → SearchedTo stop xs (at + k)
searched_on stop weak xs ys at k h s same e =
    let f : k ≡ length (until weak (drop at xs)) = e ∙ ap (λ l. length (until weak l)) same in
    let c = coarse stop weak h (drop at xs) in
    let n = ap (λ m. length (until stop (drop m (drop at xs)))) (sym f) in
    let d = ap (λ l. length (until stop l)) (drop-drop k at xs) in
    record {
      within = omega (arith, s.within, f, length-until weak (drop at xs), length-drop at xs);
      so_far = omega (arith, s.so_far, c, n, d, f);
    }

pub comment_found : (xs ys : List ℕ) (at : ℕ) → SearchedTo (begins_two 42 47) xs at → ys ≡ drop at xs → ends_comment ys ≡ true → at ≡ length (until (begins_two 42 47) xs)
comment_found xs ys at s same e =
    let z = comment_ends (drop at xs) (ap ends_comment (sym same) ∙ e) in
    omega (arith, s.so_far, z)

pub comment_on : (xs ys : List ℕ) (at : ℕ) → SearchedTo (begins_two 42 47) xs at → ys ≡ drop at xs → ends_comment ys ≡ false → SearchedTo (begins_two 42 47) xs (at + 1)
comment_on xs ys at s same e =
    let g = comment_goes_on (drop at xs) (ap ends_comment (sym same) ∙ e) in
    let lt : at < length xs = omega (arith, g.0, length-drop at xs) in
    record { within = omega (arith, lt); so_far = until-kept (begins_two 42 47) xs at lt g.1 s.so_far }

-- ---- the end of a double-quoted text
-- at a double quote or a backslash, or at the text's end
abbrev pub is_at_mark : List ℕ → Bool
is_at_mark [] = true
is_at_mark (x ∷ xs) = begins_mark (x ∷ xs)

abbrev MarkFound : List ℕ → Type 0
MarkFound xs =
    (length (up_to_quote false xs) ≡ length (until begins_mark xs) + length (up_to_quote false (drop (length (until begins_mark xs)) xs)))
    × (is_at_mark (drop (length (until begins_mark xs)) xs) ≡ true)

mark_at : (x : ℕ) (xs : List ℕ) (v w : Bool) → (x == 34) ≡ v → (x == 92) ≡ w → MarkFound xs → MarkFound (x ∷ xs)
mark_at x xs true w e f others =
    let m : begins_mark (x ∷ xs) ≡ true = rw e refl in
    let n : length (until begins_mark (x ∷ xs)) ≡ 0 = rw m refl in
    let d : length (up_to_quote false (drop (length (until begins_mark (x ∷ xs))) (x ∷ xs))) ≡ length (up_to_quote false (x ∷ xs)) = ap (λ k. length (up_to_quote false (drop k (x ∷ xs)))) n in (
      omega (arith, n, d),
      ap (λ k. is_at_mark (drop k (x ∷ xs))) n ∙ m,
    )
mark_at x xs false true e f others =
    let m : begins_mark (x ∷ xs) ≡ true = rw (e, f) refl in
    let n : length (until begins_mark (x ∷ xs)) ≡ 0 = rw m refl in
    let d : length (up_to_quote false (drop (length (until begins_mark (x ∷ xs))) (x ∷ xs))) ≡ length (up_to_quote false (x ∷ xs)) = ap (λ k. length (up_to_quote false (drop k (x ∷ xs)))) n in (
      omega (arith, n, d),
      ap (λ k. is_at_mark (drop k (x ∷ xs))) n ∙ m,
    )
mark_at x xs false false e f others =
    let m : begins_mark (x ∷ xs) ≡ false = rw (e, f) refl in
    let n = until_one begins_mark x xs m in
    let q : length (up_to_quote false (x ∷ xs)) ≡ suc (length (up_to_quote false xs)) = rw (e, f) refl in
    let d : length (up_to_quote false (drop (length (until begins_mark (x ∷ xs))) (x ∷ xs))) ≡ length (up_to_quote false (drop (length (until begins_mark xs)) xs)) = ap (λ k. length (up_to_quote false (drop k (x ∷ xs)))) n in (
      omega (arith, n, q, d, others.0),
      ap (λ k. is_at_mark (drop k (x ∷ xs))) n ∙ others.1,
    )

mark_found : (xs : List ℕ) → MarkFound xs
mark_found [] = (refl, refl)
mark_found (x ∷ xs) = mark_at x xs (x == 34) (x == 92) refl refl (mark_found xs)

pub record QuotedTo (xs : List ℕ) (at : ℕ) : Type 0 where
  pub within : at ≤ length xs
  pub so_far : length (up_to_quote false xs) ≡ at + length (up_to_quote false (drop at xs))

pub quoted_on : (xs ys : List ℕ) (at k : ℕ) → QuotedTo xs at → ys ≡ drop at xs → k ≡ length (until begins_mark ys) → QuotedTo xs (at + k) × (is_at_mark (drop (at + k) xs) ≡ true)
quoted_on xs ys at k s same e =
    let f : k ≡ length (until begins_mark (drop at xs)) = e ∙ ap (λ l. length (until begins_mark l)) same in
    let m = mark_found (drop at xs) in
    let n = ap (λ j. length (up_to_quote false (drop j (drop at xs)))) (sym f) in
    let d = ap (λ l. length (up_to_quote false l)) (drop-drop k at xs) in (
      record {
        within = omega (arith, s.within, f, length-until begins_mark (drop at xs), length-drop at xs);
        so_far = omega (arith, s.so_far, m.0, n, d, f);
      },
      ap is_at_mark (sym (drop-drop k at xs) ∙ ap (λ j. drop j (drop at xs)) f) ∙ m.1,
    )

pair_none : (l : List ℕ) → is_at_mark l ≡ true → pair_len l ≡ 0 → length (up_to_quote false l) ≡ 0
pair_none [] m p = refl
pair_none (x ∷ xs) m p = at (x == 34) (x == 92) refl refl xs p
  where
    at : (v w : Bool) → (x == 34) ≡ v → (x == 92) ≡ w → (ys : List ℕ) → pair_len (x ∷ ys) ≡ 0 → length (up_to_quote false (x ∷ ys)) ≡ 0
    at true w e f ys p = rw e refl
    at false true e f [] p = absurd (let q : pair_len (x ∷ []) ≡ 1 = rw f refl in omega (arith, p, q))
    at false true e f (y ∷ ys) p = absurd (let q : pair_len (x ∷ y ∷ ys) ≡ 2 = rw f refl in omega (arith, p, q))
    at false false e f ys p = absurd (let n : begins_mark (x ∷ xs) ≡ false = rw (e, f) refl in false_true (sym n ∙ m))

pair_some : (l : List ℕ) → (pair_len l ≡ 0 → ⊥) → (pair_len l ≤ length l) × (length (up_to_quote false l) ≡ pair_len l + length (up_to_quote false (drop (pair_len l) l)))
pair_some [] n = absurd (n refl)
pair_some (x ∷ []) n = at (x == 92) refl
  where
    at : (w : Bool) → (x == 92) ≡ w → (pair_len (x ∷ []) ≤ length (x ∷ [])) × (length (up_to_quote false (x ∷ [])) ≡ pair_len (x ∷ []) + length (up_to_quote false (drop (pair_len (x ∷ [])) (x ∷ []))))
    at true f = let q : x ≡ 92 = eqb-true x 92 f in subst (λ z. (pair_len (z ∷ []) ≤ 1) × (length (up_to_quote false (z ∷ [])) ≡ pair_len (z ∷ []) + length (up_to_quote false (drop (pair_len (z ∷ [])) (z ∷ []))))) (sym q) (omega arith, omega arith)
    at false f = absurd (n (rw f refl))
pair_some (x ∷ y ∷ ys) n = at (x == 92) refl
  where
    at : (w : Bool) → (x == 92) ≡ w → (pair_len (x ∷ y ∷ ys) ≤ length (x ∷ y ∷ ys)) × (length (up_to_quote false (x ∷ y ∷ ys)) ≡ pair_len (x ∷ y ∷ ys) + length (up_to_quote false (drop (pair_len (x ∷ y ∷ ys)) (x ∷ y ∷ ys))))
    at true f = let q : x ≡ 92 = eqb-true x 92 f in subst (λ z. (pair_len (z ∷ y ∷ ys) ≤ length (z ∷ y ∷ ys)) × (length (up_to_quote false (z ∷ y ∷ ys)) ≡ pair_len (z ∷ y ∷ ys) + length (up_to_quote false (drop (pair_len (z ∷ y ∷ ys)) (z ∷ y ∷ ys))))) (sym q) (omega arith, omega arith)
    at false f = absurd (n (rw f refl))

pub quoted_ends : (xs ys : List ℕ) (at n : ℕ) → QuotedTo xs at × (is_at_mark (drop at xs) ≡ true) → ys ≡ drop at xs → n ≡ pair_len ys → n ≡ 0 → at ≡ length (up_to_quote false xs)
quoted_ends xs ys at n (s, m) same e z =
    let p = pair_none (drop at xs) m (ap pair_len (sym same) ∙ sym e ∙ z) in
    omega (arith, s.so_far, p)

pub quoted_past : (xs ys : List ℕ) (at n : ℕ) → QuotedTo xs at × (is_at_mark (drop at xs) ≡ true) → ys ≡ drop at xs → n ≡ pair_len ys → (n ≡ 0 → ⊥) → QuotedTo xs (at + n)
quoted_past xs ys at n (s, m) same e z =
    let is : n ≡ pair_len (drop at xs) = e ∙ ap pair_len same in
    let p = pair_some (drop at xs) (λ o. z (is ∙ o)) in
    let d = ap (λ l. length (up_to_quote false l)) (drop-drop (pair_len (drop at xs)) at xs) in
    let P : ℕ → Type 0 = λ k. QuotedTo xs (at + k) in
    subst P (sym is) (record {
      within = omega (arith, s.within, p.0, length-drop at xs);
      so_far = omega (arith, s.so_far, p.1, d);
    })
