-- Texts between the bytes that end them, part by part.
use Rattle.std.proofs.Common.{◌≡◌, ◌≤◌, ◌<◌, ◌==◌, ◌∙◌, ℕ, zero, suc, ◌+◌, ◌-◌, min, Bool, true, false, cond, List, [], ◌∷◌, ◌++◌, length, take, drop, refl, sym, ap, subst, arith, append_assoc, eq-eqb, eqb-true}
use Rattle.std.specs.declared.option.Option.{Option}
use Rattle.std.specs.declared.option.Option.TheVariants.{None, Some}
use Rattle.std.specs.List.{slice_index, slice_range}
use Rattle.std.specs.Prelude.{MatchOption}
use Rattle.std.specs.declared.alloc.Global.{Global}
use Rattle.std.specs.declared.vec.Vec.{Vec}
use Rattle.std.specs.Io.KnownBytes.{Consumes, IsAtEnd, Keeps, prepend_known}
use Rattle.std.proofs.KnownBytes.{Consumes-kept, Consumes-nil, Consumes-trans}
use Rattle.std.proofs.lemmas.List.{append-nil, drop-drop, drop-take, length-take, take-append-drop}
use Rattle.std.proofs.lemmas.Bool.{false≢true}
use Rattle.memchr.specs.Find.{is_byte}
use Rattle.yv_batch.specs.Pieces.{Passes, pieces, put_first, TakesPiece}
use Rattle.yv_batch.specs.InnerPieces.{HasMore, IsEnd, IsKept, IsPassed, IsPlace, IsTaken, IsUnderway, Lacks}

-- ---- what a search says

not_true : (b : Bool) → (b ≡ true → ⊥) → b ≡ false
not_true true h = absurd (h refl)
not_true false h = refl

-- none of the bytes before a place ends a text
pub lacks_front : (end : ℕ) (xs : List ℕ) (n : ℕ) → ((k : ℕ) → k < n → is_byte end (slice_index xs k) ≡ true → ⊥) → Lacks end (take n xs)
lacks_front end [] zero h = tt
lacks_front end [] (suc n) h = tt
lacks_front end (x ∷ xs) zero h = tt
lacks_front end (x ∷ xs) (suc n) h = (not_true (x == end) (h zero (omega arith)), lacks_front end xs n (λ k lt. h (suc k) (omega (arith, lt))))

-- the first byte that ends one
pub place_found : (end : ℕ) (xs : List ℕ) (n : ℕ) → ((k : ℕ) → k < n → is_byte end (slice_index xs k) ≡ true → ⊥) → n < length xs → is_byte end (slice_index xs n) ≡ true → IsPlace end xs n
place_found end xs n before lt here = record { within = omega arith; lacks = lacks_front end xs n before; ends = λ _. eqb-true (slice_index xs n) end here }

pub place_none : (end : ℕ) (xs : List ℕ) → ((k : ℕ) → k < length xs → is_byte end (slice_index xs k) ≡ true → ⊥) → IsPlace end xs (length xs)
place_none end xs none = record { within = omega arith; lacks = lacks_front end xs (length xs) none; ends = λ lt. absurd (omega arith) }

-- ---- bytes at hand that are passed

pub prepend_consumes : (bs cs front : List ℕ) (known : Option (List ℕ)) → bs ≡ front ++ cs → Consumes (prepend_known bs known) (prepend_known cs known) front
prepend_consumes bs cs front None e = tt
prepend_consumes bs cs front (Some xs) e = ap (λ (l : List ℕ). l ++ xs) e ∙ append_assoc front cs xs

-- the bytes at hand, after so many
pub range_after : (xs : List ℕ) (from to count : ℕ) → from + count ≤ to → slice_range xs from to ≡ take count (slice_range xs from to) ++ slice_range xs (from + count) to
range_after xs from to count le =
    let all : List ℕ = slice_range xs from to in
    let rest : to - from ≡ count + (to - (from + count)) = omega (arith, le) in
    sym (take-append-drop count all)
    ∙ ap (λ (l : List ℕ). take count all ++ l)
    (ap (λ (m : ℕ). drop count (take m (drop from xs))) rest ∙ drop-take count (to - (from + count)) (drop from xs)
    ∙ ap (take (to - (from + count))) (drop-drop count from xs))

pub lacks_append : (end : ℕ) (xs ys : List ℕ) → Lacks end xs → Lacks end ys → Lacks end (xs ++ ys)
lacks_append end [] ys h k = k
lacks_append end (x ∷ xs) ys h k = (h.0, lacks_append end xs ys h.1 k)

-- ---- a text and its end

pub pieces_ended : (end : ℕ) (passed ys : List ℕ) → Lacks end passed → pieces end (passed ++ end ∷ ys) ≡ passed ∷ pieces end ys
pieces_ended end [] ys h = ap (λ (b : Bool). cond b ([] ∷ pieces end ys) (put_first end (pieces end ys))) (eq-eqb end end refl)
pieces_ended end (x ∷ xs) ys h =
    ap (λ (b : Bool). cond b ([] ∷ pieces end (xs ++ end ∷ ys)) (put_first x (pieces end (xs ++ end ∷ ys)))) h.0
    ∙ ap (put_first x) (pieces_ended end xs ys h.1)

pieces_last : (end x : ℕ) (xs : List ℕ) → Lacks end (x ∷ xs) → pieces end (x ∷ xs) ≡ (x ∷ xs) ∷ []
pieces_last end x [] h = ap (λ (b : Bool). cond b ([] ∷ []) ((x ∷ []) ∷ [])) h.0
pieces_last end x (y ∷ ys) h =
    ap (λ (b : Bool). cond b ([] ∷ pieces end (y ∷ ys)) (put_first x (pieces end (y ∷ ys)))) h.0 ∙ ap (put_first x) (pieces_last end y ys h.1)

-- more of a text was passed
pub underway_more : (end : ℕ) (a b c : Option (List ℕ)) (xs ys : List ℕ) → IsUnderway end a b xs → Lacks end ys → Consumes b c ys → IsUnderway end a c (xs ++ ys)
underway_more end a b c xs ys h lacks more = record { lacks = lacks_append end xs ys h.lacks lacks; consumed = Consumes-trans a b c xs ys h.consumed more }

pub underway_kept : (end : ℕ) (a b c : Option (List ℕ)) (xs : List ℕ) → IsUnderway end a b xs → Keeps b c → IsUnderway end a c xs
underway_kept end a b c xs h same = record { lacks = h.lacks; consumed = Consumes-kept a b c xs h.consumed same }

pub underway_start : (end : ℕ) (a : Option (List ℕ)) → IsUnderway end a a []
underway_start end a = record { lacks = tt; consumed = Consumes-nil a }

-- it ended
pub passes_ended : (end : ℕ) (a b c : Option (List ℕ)) (xs ys : List ℕ) → IsUnderway end a b xs → Lacks end ys → Consumes b c (ys ++ end ∷ []) → Passes end a c (xs ++ ys)
passes_ended end None b c xs ys h lacks ended = tt
passes_ended end (Some old) None c xs ys h lacks ended = absurd h.consumed
passes_ended end (Some old) (Some mid) None xs ys h lacks ended = absurd ended
passes_ended end (Some old) (Some mid) (Some new) xs ys h lacks ended =
    let whole : old ≡ (xs ++ ys) ++ end ∷ new = h.consumed ∙ ap (λ (l : List ℕ). xs ++ l) (ended ∙ append_assoc ys (end ∷ []) new) ∙ sym (append_assoc xs ys (end ∷ new)) in
    ap (pieces end) whole ∙ pieces_ended end (xs ++ ys) new (lacks_append end xs ys h.lacks lacks)

-- the bytes ended after it
last_of : (end : ℕ) (old xs : List ℕ) → Lacks end xs → old ≡ xs → HasMore (Some old) → pieces end old ≡ xs ∷ []
last_of end [] xs lacks e more = absurd more
last_of end (a ∷ old) [] lacks e more = absurd (subst (λ (l : List ℕ). HasMore (Some l)) e tt)
last_of end (a ∷ old) (x ∷ xs) lacks e more = ap (pieces end) e ∙ pieces_last end x xs lacks

pub passes_last : (end : ℕ) (a b : Option (List ℕ)) (xs : List ℕ) → IsUnderway end a b xs → IsAtEnd b → HasMore a → Passes end a b xs
passes_last end None b xs h ended more = tt
passes_last end (Some old) None xs h ended more = absurd h.consumed
passes_last end (Some old) (Some mid) xs h ended more =
    let whole : old ≡ xs = h.consumed ∙ ap (λ (l : List ℕ). xs ++ l) ended ∙ append-nil xs in
    last_of end old xs h.lacks whole more ∙ ap (λ (l : List ℕ). xs ∷ pieces end l) (sym ended)

-- ---- bytes that are still to come

pub more_at_hand : (mid : List ℕ) (known : Option (List ℕ)) → 0 < length mid → HasMore (prepend_known mid known)
more_at_hand mid None lt = tt
more_at_hand [] (Some xs) lt = absurd (omega arith)
more_at_hand (b ∷ mid) (Some xs) lt = tt

more_before : (old xs mid : List ℕ) → old ≡ xs ++ mid → HasMore (Some mid) → HasMore (Some old)
more_before old [] mid e more = subst (λ (l : List ℕ). HasMore (Some l)) (sym e) more
more_before old (x ∷ xs) mid e more = subst (λ (l : List ℕ). HasMore (Some l)) (sym e) tt

pub more_earlier : (a b : Option (List ℕ)) (xs : List ℕ) → Consumes a b xs → HasMore b → HasMore a
more_earlier None b xs h more = tt
more_earlier (Some old) None xs h more = absurd h
more_earlier (Some old) (Some mid) xs h more = more_before old xs mid h more

-- some of it was passed
pub more_passed : (end : ℕ) (a b : Option (List ℕ)) (xs : List ℕ) → IsUnderway end a b xs → 0 < length xs → HasMore a
more_passed end None b xs h lt = tt
more_passed end (Some old) None xs h lt = absurd h.consumed
more_passed end (Some old) (Some mid) [] h lt = absurd (omega arith)
more_passed end (Some old) (Some mid) (x ∷ xs) h lt = subst (λ (l : List ℕ). HasMore (Some l)) (sym h.consumed) tt

-- ---- the bytes that are kept of it

pub take_zero : (xs : List ℕ) → take 0 xs ≡ []
take_zero [] = refl
take_zero (x ∷ xs) = refl

take_nil : (n : ℕ) → take {A = ℕ} n [] ≡ []
take_nil zero = refl
take_nil (suc n) = refl

front_of_both : (limit : ℕ) (xs ys : List ℕ) → take limit xs ++ take (limit - length (take limit xs)) ys ≡ take limit (xs ++ ys)
front_of_both zero [] ys = refl
front_of_both zero (x ∷ xs) ys = take_zero ys
front_of_both (suc n) [] ys = let all : suc n - length {A = ℕ} [] ≡ suc n = omega arith in ap (λ (m : ℕ). take m ys) all
front_of_both (suc n) (x ∷ xs) ys =
    let rest : suc n - length (x ∷ take n xs) ≡ n - length (take n xs) = omega arith in
    ap (λ (m : ℕ). x ∷ (take n xs ++ take m ys)) rest ∙ ap (λ (l : List ℕ). x ∷ l) (front_of_both n xs ys)

-- old far old there is room
pub front_more : (limit : ℕ) (front xs ys : List ℕ) (room : ℕ) → front ≡ take limit xs → room ≡ limit - length front → front ++ take room ys ≡ take limit (xs ++ ys)
front_more limit front xs ys room first is =
    ap (λ (f : List ℕ). f ++ take room ys) first
    ∙ ap (λ (m : ℕ). take limit xs ++ take m ys) (is ∙ ap (λ (f : List ℕ). limit - length f) first)
    ∙ front_of_both limit xs ys

pub take_min : (count room : ℕ) (xs : List ℕ) → count ≤ length xs → take (min count room) xs ≡ take room (take count xs)
take_min zero room xs le = let none : min zero room ≡ zero = omega arith in ap (λ (m : ℕ). take m xs) none ∙ take_zero xs ∙ sym (ap (take room) (take_zero xs) ∙ take_nil room)
take_min (suc count) zero xs le = let none : min (suc count) zero ≡ zero = omega arith in ap (λ (m : ℕ). take m xs) none ∙ take_zero xs ∙ sym (take_zero (take (suc count) xs))
take_min (suc count) (suc room) [] le = absurd (omega arith)
take_min (suc count) (suc room) (x ∷ xs) le =
    let here : min (suc count) (suc room) ≡ suc (min count room) = omega arith in
    ap (λ (m : ℕ). take m (x ∷ xs)) here ∙ ap (λ (l : List ℕ). x ∷ l) (take_min count room xs (omega (arith, le)))

-- ---- parts of it that are passed and kept

pub goes_on : (end : ℕ) (old new : Option (List ℕ)) (part : List ℕ) (is_whole : Bool) → is_whole ≡ false → IsPassed end old new part is_whole → Consumes old new part
goes_on end old new part false e h = h
goes_on end old new part true e h = absurd (false≢true (sym e))

pub is_over : (end : ℕ) (old new : Option (List ℕ)) (part : List ℕ) (is_whole : Bool) → is_whole ≡ true → IsPassed end old new part is_whole → Consumes old new (part ++ end ∷ [])
is_over end old new part true e h = h
is_over end old new part false e h = absurd (false≢true e)

pub taken_some : (end limit : ℕ) (old new : Option (List ℕ)) (front : List ℕ) (is_whole : Bool) → is_whole ≡ false → IsTaken end limit old new front is_whole → IsKept end limit old new front
taken_some end limit old new front false e h = h
taken_some end limit old new front true e h = absurd (false≢true (sym e))

pub taken_all : (end limit : ℕ) (old new : Option (List ℕ)) (front : List ℕ) (is_whole : Bool) → is_whole ≡ true → IsTaken end limit old new front is_whole → TakesPiece end limit old new front
taken_all end limit old new front true e h = h
taken_all end limit old new front false e h = absurd (false≢true e)

pub kept_on : (end limit : ℕ) (a b c : Option (List ℕ)) (front : List ℕ) → IsKept end limit a b front → Keeps b c → IsKept end limit a c front
kept_on end limit a b c front h same = record { passed = h.passed; underway = underway_kept end a b c h.passed h.underway same; first = h.first }

pub kept_start : (end limit : ℕ) (a : Option (List ℕ)) (front : List ℕ) → front ≡ [] → IsKept end limit a a front
kept_start end limit a front none = record { passed = []; underway = underway_start end a; first = none ∙ sym (take_nil limit) }

-- one more part
pub taken_part : (end limit : ℕ) (start old new : Option (List ℕ)) (front more bytes : List ℕ) (count room : ℕ) (is_whole : Bool) → IsPlace end bytes count → IsPassed end old new (take count bytes) is_whole
    → IsKept end limit start old front → more ≡ front ++ take (min count room) bytes → room ≡ limit - length front → IsTaken end limit start new more is_whole
taken_part end limit start old new front more bytes count room false place passed kept items is = record {
  passed = kept.passed ++ take count bytes;
  underway = underway_more end start old new kept.passed (take count bytes) kept.underway place.lacks passed;
  first = items ∙ ap (λ (l : List ℕ). front ++ l) (take_min count room bytes place.within) ∙ front_more limit front kept.passed (take count bytes) room kept.first is;
}
taken_part end limit start old new front more bytes count room true place passed kept items is = record {
  piece = kept.passed ++ take count bytes;
  passes = passes_ended end start old new kept.passed (take count bytes) kept.underway place.lacks passed;
  first = items ∙ ap (λ (l : List ℕ). front ++ l) (take_min count room bytes place.within) ∙ front_more limit front kept.passed (take count bytes) room kept.first is;
}

pub none_passed : (limit : ℕ) (passed : List ℕ) → 0 < limit → take limit passed ≡ [] → passed ≡ []
none_passed limit [] lt e = refl
none_passed zero (x ∷ xs) lt e = absurd (omega arith)
none_passed (suc n) (x ∷ xs) lt e = absurd (cc)

end_of : (end : ℕ) (a b : Option (List ℕ)) (passed : List ℕ) → IsUnderway end a b passed → passed ≡ [] → IsAtEnd b → IsAtEnd a
end_of end None b passed h none ended = tt
end_of end (Some xs) None passed h none ended = absurd h.consumed
end_of end (Some xs) (Some ys) passed h none ended = h.consumed ∙ ap (λ (l : List ℕ). l ++ ys) none ∙ ended

kept_of : (a b : Option (List ℕ)) (passed : List ℕ) → Consumes a b passed → passed ≡ [] → Keeps a b
kept_of None b passed h none = tt
kept_of (Some xs) None passed h none = absurd h
kept_of (Some xs) (Some ys) passed h none = sym (h ∙ ap (λ (l : List ℕ). l ++ ys) none)

-- the bytes ended
pub read_end : (end limit : ℕ) (a b : Option (List ℕ)) (front : List ℕ) (o : Option (Vec ℕ Global)) → 0 < limit → IsKept end limit a b front → IsAtEnd b
    → MatchOption o (front ≡ []) (λ v. (v.items ≡ front) × (0 < length v.items)) → MatchOption o (IsEnd a b) (λ v. TakesPiece end limit a b v.items)
read_end end limit a b front None lt kept ended none =
    let nothing : kept.passed ≡ [] = none_passed limit kept.passed lt (sym kept.first ∙ none) in
    (end_of end a b kept.passed kept.underway nothing ended, kept_of a b kept.passed kept.underway.consumed nothing)
read_end end limit a b front (Some v) lt kept ended some =
    let first : v.items ≡ take limit kept.passed = some.0 ∙ kept.first in
    let more : 0 < length kept.passed = omega (arith, some.1, ap length first, length-take limit kept.passed) in
    record {
      piece = kept.passed;
      passes = passes_last end a b kept.passed kept.underway ended (more_passed end a b kept.passed kept.underway more);
      first = first;
    }
