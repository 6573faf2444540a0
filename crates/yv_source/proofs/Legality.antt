-- The characters so far, and those that are left.
use Rattle.std.proofs.Common.{◌≡◌, ℕ, zero, suc, ◌+◌, ◌<◌, ◌≤◌, true, false, ◌&&◌, List, [], ◌∷◌, ◌++◌, length, take, drop, refl, sym, ◌∙◌, ap, arith, length-append, append_assoc, append-nil}
use Rattle.std.specs.Prelude.{IsUtf8, slice_index, encode_utf8_all}
use Rattle.std.specs.Str.{chars}
use Rattle.std.specs.Char.{len_utf8}
use lib.Utf8.{encode}
use Rattle.std.specs.Str.{IsAscii}
use Rattle.std.proofs.lemmas.Str.{encodes-chars, length-encode, encode_ascii, chars-nil, chars-append, chars-IsAscii, chars_past_char, IsUtf8-nil, IsUtf8-append, IsUtf8-take, IsUtf8-from_ascii, IsUtf8-past_char, IsCharBoundary-at_seam, drop_past_char}
use Rattle.std.specs.declared.str.Chars.{Chars}
use Rattle.std.specs.Str.Iter.{chars_rest, chars_steps}
use Rattle.std.specs.Prelude.{Option, Some, None, IfSome, IsCharBoundary}
use Rattle.std.proofs.lemmas.List.{take-append-drop, length-take-le, take_at, drop_at}
use Rattle.std.proofs.lemmas.List.Folds.{list_all-append}
use Rattle.std.proofs.lemmas.Bool.Decides.{nat_tests}
use Rattle.yv_source.specs.Inner.Plain.{is_common}
use Rattle.std.specs.List.{list_all}
use Rattle.std.specs.Prelude.{IsTrue, IsFalse, ◌↔◌, Result, Err}
use Rattle.std.proofs.Common.{lit<, subst, inl, inr}
use Rattle.yv_text_statement.specs.declared.refusal.Code.TheVariants as code
use Rattle.yv_text_statement.specs.declared.refusal.Refusal.{Refusal}
use Rattle.yv_text_statement.specs.declared.refusal.Stop.{Stop}
use Rattle.yv_text_statement.specs.declared.refusal.Stop.TheVariants.{Fault}
use Rattle.yv_source.specs.Legal.{is_legal, most_bytes, IsIllegalAt}
use Rattle.yv_source.specs.Answer.{refusal_in, IsBadFile}
use Rattle.yv_source.proofs.Keyword.{false_true, and_first, and_second}

-- there is one first character that isn't legal
not_here : (c d : ℕ) (g s : List ℕ) → c ≡ d → IsTrue (list_all is_legal (d ∷ g)) → IsFalse (is_legal c) → ⊥
not_here c d g s e h i = false_true (sym i ∙ ap is_legal e ∙ and_first (is_legal d) (list_all is_legal g) h)

first_same : (f g r s : List ℕ) (c d : ℕ) → f ++ c ∷ r ≡ g ++ d ∷ s → IsTrue (list_all is_legal f) → IsTrue (list_all is_legal g) → IsFalse (is_legal c) → IsFalse (is_legal d) → f ≡ g
first_same [] [] r s c d e h k i j = refl
first_same [] (y ∷ g) r s c d e h k i j = let p : c ≡ y = cc in absurd (not_here c y g s p k i)
first_same (x ∷ f) [] r s c d e h k i j = let p : d ≡ x = cc in absurd (not_here d x f r p h j)
first_same (x ∷ f) (y ∷ g) r s c d e h k i j =
    let p : x ≡ y = cc in
    let q : f ++ c ∷ r ≡ g ++ d ∷ s = cc in
    let t = first_same f g r s c d q (and_second (is_legal x) (list_all is_legal f) h) (and_second (is_legal y) (list_all is_legal g) k) i j in
    λ n. p n ∷ t n

pub one_illegal : (text : List ℕ) (a b : ℕ) → IsIllegalAt text a → IsIllegalAt text b → a ≡ b
one_illegal text a b (f, c, r, e, h, i, p) (g, d, s, e', k, j, q) =
    p ∙ ap (λ l. length (encode_utf8_all l)) (first_same f g r s c d (sym e ∙ e') h k i j) ∙ sym q

-- a file that isn't taken
abbrev pub refused_as : (A : Type 0) → Refusal → Result A Refusal
refused_as A r = Err r

refusal_same : {A : Type 0} (r s : Refusal) → refused_as A r ≡ refused_as A s → r ≡ s
refusal_same r s e = cc

-- a refusal as the stop of a call that also needs memory
abbrev pub stopped_as : (A : Type 0) → Refusal → Result A Stop
stopped_as A r = Err (Fault r)

pub refused_in_stop : {A B : Type 0} (bytes : List ℕ) (own : Refusal) → ((r : Refusal) → (refused_as A own ≡ refused_as A r) ↔ IsBadFile bytes r)
    → (r : Refusal) → (stopped_as B own ≡ stopped_as B r) ↔ IsBadFile bytes r
refused_in_stop {A} {B} bytes own h r = (
  λ e. let same : own ≡ r = cc in (h r).0 (ap (refused_as A) same),
  λ b. ap (stopped_as B) (refusal_same own r ((h r).1 b)),
)

-- a file is refused for its first such character, and for nothing else
pub refuses_character : {A : Type 0} (bytes text : List ℕ) (at : ℕ) (own : Refusal) → length bytes ≤ most_bytes → text ≡ bytes → IsUtf8 bytes → IsIllegalAt text at → own ≡ refusal_in bytes code.BadCharacter at → (r : Refusal) → (refused_as A own ≡ refused_as A r) ↔ IsBadFile bytes r
refuses_character {A} bytes text at own size same u illegal is r =
    let P : List ℕ → Type 0 = λ l. IsIllegalAt l at in
    let here = subst P same illegal in (
      λ e. inr (inr ((size, u), at, here, refusal_same r (refusal_in bytes code.BadCharacter at) (sym e ∙ ap (refused_as A) is))),
      λ b. elim b [
        | inl x ↦ absurd (let more : most_bytes < length bytes = x.0 in omega (arith, size, more))
        | inr y ↦ elim y [
          | inl x ↦ absurd (x.0.1 u)
          | inr x ↦ ap (refused_as A) (is ∙ ap (λ n. refusal_in bytes code.BadCharacter n) (one_illegal bytes at x.1 here x.2) ∙ sym x.3)
        ]
      ],
    )

-- a common character is a byte, and legal
common_is : (c : ℕ) → is_common c ≡ true → (is_legal c ≡ true) × (c < 128)
common_is c h = (grind (arith, nat_tests), grind (arith, nat_tests))

ascii_cons : (x : ℕ) (xs : List ℕ) → x < 128 → IsAscii xs → (i : ℕ) → slice_index (x ∷ xs) i < 128
ascii_cons x xs h a zero = h
ascii_cons x xs h a (suc i) = a i

pub all_common : (xs : List ℕ) → list_all is_common xs ≡ true → IsAscii xs × (list_all is_legal xs ≡ true)
all_common [] h = (λ i. lit< tt, refl)
all_common (x ∷ xs) h =
    let here = common_is x (and_first (is_common x) (list_all is_common xs) h) in
    let others = all_common xs (and_second (is_common x) (list_all is_common xs) h) in
    (ascii_cons x xs here.1 others.0, ap (λ v. v && list_all is_legal xs) here.0 ∙ others.1)

-- a text behind common characters is one
pub past_common : (xs ys : List ℕ) → IsAscii xs → IsUtf8 (xs ++ ys) → IsUtf8 ys
past_common [] ys a u = u
past_common (x ∷ xs) ys a u =
    past_common xs ys (λ i. a (suc i)) (IsUtf8-past_char (x ∷ (xs ++ ys)) (xs ++ ys) x u (ap (λ l. l ++ (xs ++ ys)) (sym (encode_ascii x (a 0)))))

-- a text is legal up to a place
pub record LegalTo (text : List ℕ) (at : ℕ) : Type 0 where
  pub front : List ℕ
  pub rest : List ℕ
  pub is : text ≡ front ++ rest
  pub at_is : at ≡ length front
  pub front_utf8 : IsUtf8 front
  pub rest_utf8 : IsUtf8 rest
  pub legal : list_all is_legal (chars front) ≡ true

pub legal_start : (text : List ℕ) → IsUtf8 text → LegalTo text 0
legal_start text u = record { front = []; rest = text; is = refl; at_is = refl; front_utf8 = IsUtf8-nil; rest_utf8 = u; legal = ap (list_all is_legal) chars-nil }

module _ {text : List ℕ} {at : ℕ} (so_far : LegalTo text at) where
  pub legal_rest : drop at text ≡ so_far.rest
  legal_rest = ap (λ n. drop n text) so_far.at_is ∙ ap (drop (length so_far.front)) so_far.is ∙ drop_at so_far.front so_far.rest (length so_far.front) refl

  pub legal_boundary : IsCharBoundary text at
  legal_boundary =
      let P : ℕ → Type 0 = λ n. IsCharBoundary text n in
      subst P (sym so_far.at_is) (IsCharBoundary-at_seam text so_far.front so_far.rest so_far.is so_far.rest_utf8)

  pub legal_within : at ≤ length text
  legal_within = omega (arith, so_far.at_is, ap length so_far.is, length-append so_far.front so_far.rest)

  -- behind more that is legal
  legal_on : (more rest : List ℕ) → so_far.rest ≡ more ++ rest → IsUtf8 more → IsUtf8 rest → list_all is_legal (chars more) ≡ true → LegalTo text (at + length more)
  legal_on more rest e u v h =
      record {
        front = so_far.front ++ more;
        rest = rest;
        is = so_far.is ∙ ap (λ l. so_far.front ++ l) e ∙ sym (append_assoc so_far.front more rest);
        at_is = omega (arith, so_far.at_is, length-append so_far.front more);
        front_utf8 = IsUtf8-append so_far.front more so_far.front_utf8 u;
        rest_utf8 = v;
        legal = ap (list_all is_legal) (chars-append so_far.front more so_far.front_utf8) ∙ list_all-append is_legal (chars so_far.front) (chars more) ∙ rw (so_far.legal, h) refl;
      }

  legal_behind : (n : ℕ) → n ≤ length (drop at text) → list_all is_common (take n (drop at text)) ≡ true → LegalTo text (at + n)
  legal_behind n le h =
      let xs : List ℕ = take n (drop at text) in
      let ys : List ℕ = drop n (drop at text) in
      let e : so_far.rest ≡ xs ++ ys = sym legal_rest ∙ sym (take-append-drop n (drop at text)) in
      let c = all_common xs h in
      let U : List ℕ → Type 0 = λ l. IsUtf8 l in
      let v = past_common xs ys c.0 (subst U e so_far.rest_utf8) in
      let P : ℕ → Type 0 = λ k. LegalTo text (at + k) in
      subst P (length-take-le n (drop at text) le) (legal_on xs ys e (IsUtf8-from_ascii xs c.0) v (ap (list_all is_legal) (chars-IsAscii xs c.0) ∙ c.1))

  pub legal_run : (ys : List ℕ) (n : ℕ) → ys ≡ drop at text → n ≤ length ys → list_all is_common (take n ys) ≡ true → LegalTo text (at + n)
  legal_run ys n same le h =
      let P : List ℕ → Type 0 = λ l. (n ≤ length l) × (list_all is_common (take n l) ≡ true) in
      let p = subst P same (le, h) in
      legal_behind n p.0 p.1

  module _ (c : ℕ) (rest : List ℕ) (e : drop at text ≡ encode c ++ rest) where
    front_is : so_far.rest ≡ encode c ++ rest
    front_is = sym legal_rest ∙ e

    others_utf8 : IsUtf8 rest
    others_utf8 = IsUtf8-past_char so_far.rest rest c so_far.rest_utf8 front_is

    one_utf8 : IsUtf8 (encode c)
    one_utf8 =
        let U : List ℕ → Type 0 = λ l. IsUtf8 l in
        let t = IsUtf8-take so_far.rest (length (encode c)) so_far.rest_utf8 (IsCharBoundary-at_seam so_far.rest (encode c) rest front_is others_utf8) in
        subst U (ap (take (length (encode c))) front_is ∙ take_at (encode c) rest (length (encode c)) refl) t

    one_char : chars (encode c) ≡ c ∷ []
    one_char = chars_past_char (encode c) [] c one_utf8 (sym (append-nil (encode c))) ∙ ap (λ l. c ∷ l) chars-nil

    pub legal_past : is_legal c ≡ true → LegalTo text (at + len_utf8 c)
    legal_past h =
        let P : ℕ → Type 0 = λ k. LegalTo text (at + k) in
        subst P (length-encode c) (legal_on (encode c) rest front_is one_utf8 others_utf8 (ap (list_all is_legal) one_char ∙ rw h refl))

    pub legal_room : at + len_utf8 c ≤ length text
    legal_room =
        omega (arith, so_far.at_is, ap length so_far.is, length-append so_far.front so_far.rest, ap length front_is, length-append (encode c) rest, length-encode c)

    pub illegal_at : is_legal c ≡ false → IsIllegalAt text at
    illegal_at h = (
      chars so_far.front,
      c,
      chars rest,
      ap chars so_far.is ∙ chars-append so_far.front so_far.rest so_far.front_utf8 ∙ ap (λ l. chars so_far.front ++ l) (chars_past_char so_far.rest rest c so_far.rest_utf8 front_is),
      so_far.legal,
      h,
      so_far.at_is ∙ ap length (sym (encodes-chars so_far.front so_far.front_utf8)),
    )

  pub legal_all : drop at text ≡ [] → list_all is_legal (chars text) ≡ true
  legal_all e =
      ap (λ l. list_all is_legal (chars l)) (so_far.is ∙ ap (λ l. so_far.front ++ l) (sym legal_rest ∙ e) ∙ append-nil so_far.front) ∙ so_far.legal

-- the character that `chars` yields first
pub front_char : (r : Option ℕ) (s t : Chars) (text : List ℕ) → chars_rest s ≡ text → chars_steps s r t → IfSome r (λ c. text ≡ encode c ++ drop (len_utf8 c) text)
front_char None s t text e h = tt
front_char (Some c) s t text e h =
    let is : text ≡ encode c ++ chars_rest t = sym e ∙ h.0 in
    let n : len_utf8 c ≡ 0 + len_utf8 c = omega arith in
    is ∙ ap (λ l. encode c ++ l) (sym (ap (λ k. drop k text) n ∙ drop_past_char text (chars_rest t) 0 c is))
