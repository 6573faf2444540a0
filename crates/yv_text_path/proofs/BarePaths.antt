-- A path without what is in brackets is the path without its predicates.
use Rattle.std.proofs.Common.{◌≡◌, ℕ, zero, suc, ◌==◌, ◌<◌, ◌≤◌, ◌+◌, Bool, true, false, not, cond, List, [], ◌∷◌, ◌++◌, length, take, drop, append_assoc, append-nil, sym, ◌∙◌, ap, subst, refl, arith}
use Rattle.std.specs.Prelude.{if◌then◌else◌, Contains}
use Rattle.std.specs.List.{list_all, before_first, after_first, position_or_len}
use Rattle.std.proofs.lemmas.Bool.{and_parts, and_from, false≢true, eqb-true}
use Rattle.std.proofs.lemmas.Bool.Decides.{nat_tests}
use Rattle.yv_text_if_feature.specs.Bytes.{is_blank}
use Rattle.yv_text_if_feature.specs.Names.{is_name}
use Rattle.yv_text_path.specs.Pieces.{is_word_byte}
use Rattle.yv_text_path.specs.SpacedTokens.{AreSpaced}
use Rattle.yv_text_path.specs.SpacedTokens as spaced
use Rattle.yv_text_path.specs.Predicates.{AreNameTokens, AreUpTokens, AreKeyTokens, IsPredicate, ArePredicates}
use Rattle.yv_text_path.specs.Predicates as made
use Rattle.yv_text_path.specs.Paths.{Descends, IsRelativePath, IsPath}
use Rattle.yv_text_path.specs.Paths as path
use Rattle.yv_text_path.specs.InnerBrackets.{outside}
use Rattle.yv_text_path.proofs.WordNames.{name_bytes}

-- another byte than `[`, or than `]`
abbrev no_opening : ℕ → Bool
no_opening b = not (b == 91)

abbrev no_closing : ℕ → Bool
no_closing b = not (b == 93)

word_no_opening : (b : ℕ) → is_word_byte b ≡ true → no_opening b ≡ true
word_no_opening b h = grind (arith, nat_tests)

word_no_closing : (b : ℕ) → is_word_byte b ≡ true → no_closing b ≡ true
word_no_closing b h = grind (arith, nat_tests)

blank_no_closing : (b : ℕ) → is_blank b ≡ true → no_closing b ≡ true
blank_no_closing b h = grind (arith, nat_tests)

each : (p q : ℕ → Bool) → ((b : ℕ) → p b ≡ true → q b ≡ true) → (bs : List ℕ) → list_all p bs ≡ true → list_all q bs ≡ true
each p q f [] h = refl
each p q f (b ∷ bs) h = let s = and_parts _ _ h in and_from _ _ (f b s.0) (each p q f bs s.1)

all-append : (p : ℕ → Bool) (xs ys : List ℕ) → list_all p xs ≡ true → list_all p ys ≡ true → list_all p (xs ++ ys) ≡ true
all-append p [] ys h k = k
all-append p (x ∷ xs) ys h k = let s = and_parts _ _ h in and_from _ _ s.0 (all-append p xs ys s.1 k)

name_no_opening : (w : List ℕ) → is_name w ≡ true → list_all no_opening w ≡ true
name_no_opening w h = each is_word_byte no_opening word_no_opening w (name_bytes w h)

name_no_closing : (w : List ℕ) → is_name w ≡ true → list_all no_closing w ≡ true
name_no_closing w h = each is_word_byte no_closing word_no_closing w (name_bytes w h)

-- ### what is read outside and inside of brackets

not_is : (t : Bool) → not t ≡ true → t ≡ false
not_is false h = refl
not_is true h = absurd (false≢true h)

skip_outside : (w rest : List ℕ) → list_all no_opening w ≡ true → outside false (w ++ rest) ≡ w ++ outside false rest
skip_outside [] rest h = refl
skip_outside (b ∷ bs) rest h =
    let s = and_parts _ _ h in
    ap (λ (t : Bool). if t then outside true (bs ++ rest) else b ∷ outside false (bs ++ rest)) (not_is (b == 91) s.0)
    ∙ ap (λ (x : List ℕ). b ∷ x) (skip_outside bs rest s.1)

skip_inside : (w rest : List ℕ) → list_all no_closing w ≡ true → outside true (w ++ 93 ∷ rest) ≡ outside false rest
skip_inside [] rest h = refl
skip_inside (b ∷ bs) rest h =
    let s = and_parts _ _ h in
    ap (λ (t : Bool). outside t (bs ++ 93 ∷ rest)) s.0 ∙ skip_inside bs rest s.1

-- ### no token has a `]`

names_no_closing : {ts ns : List (List ℕ)} → AreNameTokens ts ns → list_all (list_all no_closing) ts ≡ true
names_no_closing (made.last_name {name} is) = and_from _ _ (name_no_closing name is) refl
names_no_closing (made.more_names {name} is more) = and_from _ _ (name_no_closing name is) (names_no_closing more)

up_no_closing : {ts ns : List (List ℕ)} → AreUpTokens ts ns → list_all (list_all no_closing) ts ≡ true
up_no_closing (made.up_once more) = names_no_closing more
up_no_closing (made.up_again more) = up_no_closing more

key_no_closing : {ts ns : List (List ℕ)} → AreKeyTokens ts ns → list_all (list_all no_closing) ts ≡ true
key_no_closing (made.key {name} is more) = and_from _ _ (name_no_closing name is) (up_no_closing more)

spaced_no_closing : {ts : List (List ℕ)} {text : List ℕ} → list_all (list_all no_closing) ts ≡ true → AreSpaced ts text → list_all no_closing text ≡ true
spaced_no_closing h spaced.nothing = refl
spaced_no_closing h (spaced.blank {tokens} {b} e s) = and_from _ _ (blank_no_closing b e) (spaced_no_closing h s)
spaced_no_closing h (spaced.token {tokens} {first} {rest} s same) =
    let p = and_parts _ _ h in
    ap (list_all no_closing) same ∙ all-append no_closing first rest p.0 (spaced_no_closing p.1 s)

-- ### the parts of a path

predicate_left_out : {text : List ℕ} {ns : List (List ℕ)} (tail : List ℕ) → IsPredicate text ns → outside false (text ++ tail) ≡ outside false tail
predicate_left_out tail (made.predicate {inside} tokens s same) =
    ap (λ (x : List ℕ). outside false (x ++ tail)) same
    ∙ ap (outside true) (append_assoc inside (93 ∷ []) tail)
    ∙ skip_inside inside tail (spaced_no_closing (key_no_closing tokens) s)

predicates_left_out : {text : List ℕ} {ns : List (List ℕ)} (tail : List ℕ) → ArePredicates text ns → outside false (text ++ tail) ≡ outside false tail
predicates_left_out tail made.none = refl
predicates_left_out tail (made.more {first} {rest} p ps same) =
    ap (λ (x : List ℕ). outside false (x ++ tail)) same ∙ ap (outside false) (append_assoc first rest tail)
    ∙ predicate_left_out (rest ++ tail) p ∙ predicates_left_out tail ps

descends_bare : {text bare : List ℕ} {ns : List (List ℕ)} → Descends text bare ns → outside false text ≡ bare
descends_bare (path.last {name} {predicates} is ps same) =
    ap (outside false) same ∙ skip_outside name predicates (name_no_opening name is)
    ∙ ap (λ (x : List ℕ). name ++ x) (ap (outside false) (sym (append-nil predicates)) ∙ predicates_left_out [] ps) ∙ append-nil name
descends_bare (path.more name {predicates} {rest} is ps d same) =
    ap (outside false) same ∙ skip_outside name (predicates ++ 47 ∷ rest) (name_no_opening name is)
    ∙ ap (λ (x : List ℕ). name ++ x) (predicates_left_out (47 ∷ rest) ps ∙ ap (λ (x : List ℕ). 47 ∷ x) (descends_bare d))

relative_bare : {text bare : List ℕ} {ns : List (List ℕ)} → IsRelativePath text bare ns → outside false text ≡ bare
relative_bare (path.once d) = ap (λ (x : List ℕ). 46 ∷ 46 ∷ 47 ∷ x) (descends_bare d)
relative_bare (path.again r) = ap (λ (x : List ℕ). 46 ∷ 46 ∷ 47 ∷ x) (relative_bare r)

-- a path without what is in brackets is its path without predicates
pub path_bare : {text bare : List ℕ} {ns : List (List ℕ)} → IsPath text bare ns → outside false text ≡ bare
path_bare (path.absolute d) = ap (λ (x : List ℕ). 47 ∷ x) (descends_bare d)
path_bare (path.relative r) = relative_bare r

-- ### texts without a `[`

-- with no `[` in it, a text is what is outside of brackets
pub nothing_left_out : (text : List ℕ) → (Contains text 91 → ⊥) → outside false text ≡ text
nothing_left_out [] h = refl
nothing_left_out (b ∷ bs) h =
    let P : Bool → Type 0 = λ t. (b == 91) ≡ t → (if t then outside true bs else b ∷ outside false bs) ≡ b ∷ bs in
    let at : (t : Bool) → P t = λ t. elim t as P [
      | true ↦ λ e. absurd (h (0, omega arith, eqb-true b 91 e))
      | false ↦ λ e. ap (λ (x : List ℕ). b ∷ x) (nothing_left_out bs (λ k. h (suc k.0, omega (arith, k.1), k.2)))
    ] in
    at (b == 91) refl

-- ### how the code goes over a text

one_more : (n : ℕ) → 1 + n ≡ suc n
one_more n = omega arith

two_more : (n : ℕ) → 1 + n + 1 ≡ suc (n + 1)
two_more n = omega arith

first_at : (b : ℕ) (bs : List ℕ) (n : ℕ) → (n < length bs → outside false bs ≡ take n bs ++ outside true (drop (n + 1) bs))
    → (t : Bool) → cond (not t) (1 + n) 0 < suc (length bs)
    → (if t then outside true bs else b ∷ outside false bs) ≡ take (cond (not t) (1 + n) 0) (b ∷ bs) ++ outside true (drop (cond (not t) (1 + n) 0 + 1) (b ∷ bs))
first_at b bs n f true h = refl
first_at b bs n f false h =
    let P : ℕ → Type 0 = λ m. b ∷ outside false bs ≡ take m (b ∷ bs) ++ outside true (drop (1 + n + 1) (b ∷ bs)) in
    let Q : ℕ → Type 0 = λ m. b ∷ outside false bs ≡ take (suc n) (b ∷ bs) ++ outside true (drop m (b ∷ bs)) in
    subst P (sym (one_more n)) (subst Q (sym (two_more n)) (ap (λ (x : List ℕ). b ∷ x) (f (omega arith))))

-- what comes before the first `[`, and what is inside and after it
pub outside_first : (text : List ℕ) → position_or_len (λ b. b == 91) text < length text
    → outside false text ≡ before_first (λ b. b == 91) text ++ outside true (after_first (λ b. b == 91) text)
outside_first [] h = absurd (omega arith)
outside_first (b ∷ bs) h = first_at b bs (position_or_len (λ b. b == 91) bs) (outside_first bs) (b == 91) h

none_at : (b : ℕ) (bs : List ℕ) (n : ℕ) → (n ≡ length bs → outside false bs ≡ bs)
    → (t : Bool) → cond (not t) (1 + n) 0 ≡ suc (length bs) → (if t then outside true bs else b ∷ outside false bs) ≡ b ∷ bs
none_at b bs n f true h = absurd (omega arith)
none_at b bs n f false h = ap (λ (x : List ℕ). b ∷ x) (f (omega arith))

-- with no `[`, all of it
pub outside_none : (text : List ℕ) → position_or_len (λ b. b == 91) text ≡ length text → outside false text ≡ text
outside_none [] h = refl
outside_none (b ∷ bs) h = none_at b bs (position_or_len (λ b. b == 91) bs) (outside_none bs) (b == 91) h

inside_at : (b : ℕ) (bs : List ℕ) (n : ℕ) → outside true bs ≡ outside false (drop (n + 1) bs)
    → (t : Bool) → outside (not t) bs ≡ outside false (drop (cond (not t) (1 + n) 0 + 1) (b ∷ bs))
inside_at b bs n f true = refl
inside_at b bs n f false =
    let Q : ℕ → Type 0 = λ m. outside true bs ≡ outside false (drop m (b ∷ bs)) in
    subst Q (sym (two_more n)) f

-- what is inside, up to the first `]`, counts for nothing
pub inside_first : (text : List ℕ) → outside true text ≡ outside false (after_first (λ b. b == 93) text)
inside_first [] = refl
inside_first (b ∷ bs) = inside_at b bs (position_or_len (λ b. b == 93) bs) (inside_first bs) (b == 93)

drop_past : (xs : List ℕ) (n : ℕ) → length xs ≤ n → drop n xs ≡ []
drop_past [] zero h = refl
drop_past [] (suc n) h = refl
drop_past (x ∷ xs) zero h = absurd (omega arith)
drop_past (x ∷ xs) (suc n) h = drop_past xs n (omega arith)

-- with no such byte, nothing comes after it
pub after_none : (c : ℕ) (text : List ℕ) → position_or_len (λ b. b == c) text ≡ length text → after_first (λ b. b == c) text ≡ []
after_none c text h = drop_past text (position_or_len (λ b. b == c) text + 1) (omega (arith, h))

-- one turn: the steps before a `[`, and what is outside of brackets after the next `]`
pub one_turn : (text steps predicate rest : List ℕ) → position_or_len (λ b. b == 91) text < length text
    → steps ≡ before_first (λ b. b == 91) text → predicate ≡ after_first (λ b. b == 91) text → rest ≡ after_first (λ b. b == 93) predicate
    → steps ++ outside false rest ≡ outside false text
one_turn text steps predicate rest h p q e =
    ap (λ (x : List ℕ). steps ++ outside false x) e ∙ ap (λ (x : List ℕ). steps ++ x) (sym (inside_first predicate))
    ∙ ap (λ (x : List ℕ). x ++ outside true predicate) p ∙ ap (λ (x : List ℕ). before_first (λ b. b == 91) text ++ outside true x) q
    ∙ sym (outside_first text h)
