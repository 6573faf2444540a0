-- What is read at the front is an item of the grammar.
use Rattle.std.proofs.Common.{◌≡◌, ℕ, ◌+◌, ◌&&◌, ◌||◌, ◌==◌, not, Bool, true, false, List, [], ◌∷◌, ◌++◌, take, drop, length, nat_le, ◌⊎◌, inl, inr, Option, Some, None, refl, sym, ◌∙◌, ap, subst, arith, append_assoc, length-append, length-take, codes, encode_utf8_all}
use Rattle.std.specs.Prelude.{option_map}
use Rattle.std.specs.List.{position}
use Rattle.std.proofs.Math.Seq.{drop-append_seam}
use Rattle.std.proofs.lemmas.Bool.{eqb-true, leb-true}
use Rattle.std.proofs.lemmas.List.Quantifiers.{position-Some}
use Rattle.yv_pattern.specs.declared.mark.Mark.{Mark}
use Rattle.yv_pattern.specs.declared.mark.Mark.TheVariants as mark
use Rattle.yv_pattern.specs.declared.part.Part.{Part}
use Rattle.yv_pattern.specs.declared.part.Part.TheVariants as part
use Rattle.yv_pattern.specs.declared.part.FoundPart.{FoundPart}
use Rattle.yv_pattern.specs.declared.class.Sign.{Sign}
use Rattle.yv_pattern.specs.declared.place.Place.{Place}
use Rattle.yv_pattern.specs.declared.place.Place.TheVariants.{Outside}
use Rattle.yv_pattern.specs.Categories.{is_category}
use Rattle.yv_pattern.specs.Counts.{IsTimes, optional, any_number, at_least_once, braces}
use Rattle.yv_pattern.specs.Classes as class
use Rattle.yv_pattern.specs.Classes.{IsSign, IsItem}
use Rattle.yv_pattern.specs.Atoms as atom
use Rattle.yv_pattern.specs.Atoms.{IsSingle, begins_turned}
use Rattle.yv_pattern.specs.InnerClasses.{escaped_character, part_of_size, sign, category_part, category_at, closes, escaped_sign, sign_at, range_to, character_or_range, set_escape, set_at, item_from, item_at}
use Rattle.yv_pattern.specs.InnerCounts.{is_count}
use Rattle.yv_pattern.specs.InnerParts.{escape, escape_at, is_special, plain, count_part, class_at, part_outside, place_after, after_item, mark_outside, translation}
use Rattle.yv_pattern.proofs.FirstOccurrences.{at_found}
use Rattle.yv_pattern.proofs.CountCorrectness.{counts_sound}
use Rattle.yv_pattern.proofs.Tests.{test, some_is, none_some, or_false, or_with_false, escapes_sound, true_not_false}

pub record SignFound (first : Bool) (xs : List ℕ) (s : Sign) : Type 0 where
  pub own : List ℕ
  pub rest : List ℕ
  pub is : xs ≡ own ++ rest
  pub size : s.size ≡ length own
  pub spelled : IsSign (first || closes rest) own s.character

mapped : {A B : Type 0} (f : A → B) (o : Option A) (z : B) → option_map f o ≡ Some z → (x : A) × (o ≡ Some x) × (f x ≡ z)
mapped f None z e = absurd (none_some z e)
mapped f (Some x) z e = (x, refl, some_is (f x) z e)

escaped_found : (first : Bool) (cs : List ℕ) (s : Sign) → escaped_sign cs ≡ Some s → SignFound first (92 ∷ cs) s
escaped_found first [] s e = absurd (none_some s e)
escaped_found first (c ∷ cs) s e =
    let m = mapped (sign 2) (escaped_character c) s e in
    subst (SignFound first (92 ∷ c ∷ cs)) m.2 (record { own = 92 ∷ c ∷ []; rest = cs; is = refl; size = refl; spelled = class.escape _ c m.0 (escapes_sound c m.0 m.1) })

not_so : (x y : Bool) → y ≡ true → (y && not x) ≡ false → x ≡ true
not_so true y e h = refl
not_so false true e h = absurd (true_not_false h)
not_so false false e h = absurd (true_not_false (sym e))

plain_sign : (b x : Bool) (c : ℕ) → (c == 45) ≡ b → (c == 92) ≡ false → (c == 91 || c == 93) ≡ false → (c == 45 && not x) ≡ false → IsSign x (c ∷ []) c
plain_sign true x c e f g h = rw (not_so x (c == 45) e h, eqb-true c 45 e) class.hyphen
plain_sign false x c e f g h =
    let b = or_false (c == 91) _ g in
    class.plain x c (rw (b.0, b.1, f, e) refl)

pub sign_sound : (first : Bool) (xs : List ℕ) (s : Sign) → sign_at first xs ≡ Some s → SignFound first xs s
sign_sound first [] s e = absurd (none_some s e)
sign_sound first (c ∷ cs) s e =
    test (c == 92) _ _ _ e (λ t e. rw (eqb-true c 92 t) (escaped_found first cs s e)) (λ f e.
    test (c == 91 || c == 93) _ _ _ e (λ t e. absurd (none_some s e)) (λ g e.
    test (c == 45 && not (first || closes cs)) _ _ _ e (λ t e. absurd (none_some s e)) (λ h e.
    subst (SignFound first (c ∷ cs)) (some_is (sign 1 c) s e) (record { own = c ∷ []; rest = cs; is = refl; size = refl; spelled = plain_sign _ (first || closes cs) c refl f g h }))))

pub record ItemFound (first : Bool) (xs : List ℕ) (f : FoundPart) : Type 0 where
  pub own : List ℕ
  pub rest : List ℕ
  pub is : xs ≡ own ++ rest
  pub size : f.size ≡ length own
  pub spelled : IsItem first (closes rest) own (translation f.part own)
  pub place : (p : Place) → place_after p f.part ≡ after_item p

alone : (first : Bool) (own rest : List ℕ) (low : Sign) (f : FoundPart) → low.size ≡ length own → IsSign (first || closes rest) own low.character → Some (part_of_size low.size (part.Literal low.character)) ≡ Some f → ItemFound first (own ++ rest) f
alone first own rest low f z s e = subst (ItemFound first (own ++ rest)) (some_is _ f e) (record { own = own; rest = rest; is = refl; size = z; spelled = class.single first (closes rest) own low.character s; place = λ p. refl })

lower : (first : Bool) (own ds : List ℕ) (c : ℕ) → IsSign (first || closes (45 ∷ ds)) own c → IsSign first own c
lower first own ds c s = subst (λ (b : Bool). IsSign b own c) (or_with_false first) s

range_found : (first : Bool) (own ds : List ℕ) (low : Sign) (o : Option Sign) (f : FoundPart) → low.size ≡ length own → IsSign first own low.character → sign_at false ds ≡ o → range_to low o ≡ Some f → ItemFound first (own ++ 45 ∷ ds) f
range_found first own ds low None f z s q e = absurd (none_some f e)
range_found first own ds low (Some high) f z s q e =
    let h = sign_sound false ds high q in
    test (nat_le low.character high.character) _ _ _ e (λ t e.
    subst (ItemFound first (own ++ 45 ∷ ds)) (some_is _ f e) (record {
      own = own ++ 45 ∷ h.own;
      rest = h.rest;
      is = ap (λ (x : List ℕ). own ++ 45 ∷ x) h.is ∙ sym (append_assoc own (45 ∷ h.own) h.rest);
      size = omega (arith, z, h.size, length-append own (45 ∷ h.own));
      spelled = class.range first (closes h.rest) own h.own low.character high.character s h.spelled (leb-true _ _ t);
      place = λ p. refl;
    })) (λ t e. absurd (none_some f e))

from_sign : (first : Bool) (own rest : List ℕ) (low : Sign) (f : FoundPart) → low.size ≡ length own → IsSign (first || closes rest) own low.character → character_or_range low rest ≡ Some f → ItemFound first (own ++ rest) f
from_sign first own [] low f z s e = alone first own [] low f z s e
from_sign first own (c ∷ ds) low f z s e =
    test (c == 45 && not (closes ds)) _ _ _ e
    (λ t e. hyphen_next c (eqb-true c 45 (first_so _ _ t)) s e)
    (λ t e. alone first own (c ∷ ds) low f z s e)
  where
    first_so : (a b : Bool) → (a && b) ≡ true → a ≡ true
    first_so true b h = refl
    first_so false b h = absurd (true_not_false (sym h))

    hyphen_next : (c : ℕ) → c ≡ 45 → IsSign (first || closes (c ∷ ds)) own low.character → range_to low (sign_at false ds) ≡ Some f → ItemFound first (own ++ c ∷ ds) f
    hyphen_next c k s e =
        rw k (range_found first own ds low _ f z (lower first own ds low.character (subst (λ (x : ℕ). IsSign (first || closes (x ∷ ds)) own low.character) k s)) refl e)

pub record NameFound (cs : List ℕ) (f : FoundPart) : Type 0 where
  pub name : List ℕ
  pub rest : List ℕ
  pub is : cs ≡ 123 ∷ (name ++ 125 ∷ []) ++ rest
  pub category : is_category name ≡ true
  pub found : f ≡ part_of_size (length name + 4) part.Category

named_found : (cs : List ℕ) (o : Option ℕ) (f : FoundPart) → position (λ d. d == 125) cs ≡ o → category_part cs o ≡ Some f → NameFound (123 ∷ cs) f
named_found cs None f q e = absurd (none_some f e)
named_found cs (Some i) f q e =
    test (is_category (take i cs)) _ _ _ e (λ t e.
    let within = (position-Some (λ d. d == 125) cs i 0 q).0 in
    let size : length (take i cs) ≡ i = omega (arith, length-take i cs, within) in
    record {
      name = take i cs;
      rest = drop (i + 1) cs;
      is = ap (λ (x : List ℕ). 123 ∷ x) (at_found 125 cs i q ∙ sym (append_assoc (take i cs) (125 ∷ []) (drop (i + 1) cs)));
      category = t;
      found = sym (some_is _ f e) ∙ ap (λ (n : ℕ). part_of_size (n + 4) part.Category) (sym size);
    }) (λ t e. absurd (none_some f e))

category_found : (cs : List ℕ) (f : FoundPart) → category_at cs ≡ Some f → NameFound cs f
category_found [] f e = absurd (none_some f e)
category_found (c ∷ cs) f e = test (c == 123) _ _ _ e (λ t e. rw (eqb-true c 123 t) (named_found cs _ f refl e)) (λ t e. absurd (none_some f e))

set_item : (first : Bool) (own rest : List ℕ) (f g : FoundPart) → Some g ≡ Some f → g.size ≡ length own → IsItem first (closes rest) own (translation g.part own) → ((p : Place) → place_after p g.part ≡ after_item p) → ItemFound first (own ++ rest) f
set_item first own rest f g e z i y = subst (ItemFound first (own ++ rest)) (some_is g f e) (record { own = own; rest = rest; is = refl; size = z; spelled = i; place = y })

category_item : (first : Bool) (cs : List ℕ) (f : FoundPart) → NameFound cs f → ItemFound first (92 ∷ 112 ∷ cs) f
category_item first cs f n = rw n.found (record {
  own = 92 ∷ 112 ∷ 123 ∷ n.name ++ 125 ∷ [];
  rest = n.rest;
  is = ap (λ (x : List ℕ). 92 ∷ 112 ∷ x) n.is;
  size = omega (arith, length-append n.name (125 ∷ []));
  spelled = class.category first (closes n.rest) n.name n.category;
  place = λ p. refl;
})

escape_found : (first : Bool) (cs : List ℕ) (f : FoundPart) → set_escape cs ≡ Some f → ItemFound first (92 ∷ cs) f
escape_found first [] f e = absurd (none_some f e)
escape_found first (c ∷ cs) f e =
    test (c == 100) _ _ _ e (λ t e. rw (eqb-true c 100 t) (set_item first (codes "\\d") cs f (part_of_size 2 part.Digit) e refl (class.digit first (closes cs)) (λ p. refl))) (λ _ e.
    test (c == 115) _ _ _ e (λ t e. rw (eqb-true c 115 t) (set_item first (codes "\\s") cs f (part_of_size 2 part.Space) e refl (class.space first (closes cs)) (λ p. refl))) (λ _ e.
    test (c == 119) _ _ _ e (λ t e. rw (eqb-true c 119 t) (set_item first (codes "\\w") cs f (part_of_size 2 part.Word) e refl (class.word first (closes cs)) (λ p. refl))) (λ _ e.
    test (c == 112) _ _ _ e (λ t e. rw (eqb-true c 112 t) (category_item first cs f (category_found cs f e))) (λ _ e. absurd (none_some f e)))))

set_found : (first : Bool) (xs : List ℕ) (f : FoundPart) → set_at xs ≡ Some f → ItemFound first xs f
set_found first [] f e = absurd (none_some f e)
set_found first (c ∷ cs) f e = test (c == 92) _ _ _ e (λ t e. rw (eqb-true c 92 t) (escape_found first cs f e)) (λ t e. absurd (none_some f e))

item_by : (first : Bool) (xs : List ℕ) (o : Option Sign) (f : FoundPart) → sign_at first xs ≡ o → item_from o xs ≡ Some f → ItemFound first xs f
item_by first xs None f q e = set_found first xs f e
item_by first xs (Some low) f q e =
    let s = sign_sound first xs low q in
    let dropped : drop low.size xs ≡ s.rest = (λ i. drop (s.size i) (s.is i)) ∙ drop-append_seam s.own s.rest in
    subst (λ (x : List ℕ). ItemFound first x f) (sym s.is) (from_sign first s.own s.rest low f s.size s.spelled (ap (character_or_range low) (sym dropped) ∙ e))

pub item_sound : (first : Bool) (xs : List ℕ) (f : FoundPart) → item_at first xs ≡ Some f → ItemFound first xs f
item_sound first xs f e = item_by first xs _ f refl e

-- one token of a pattern: an atom that holds no pattern, how often it stands, a parenthesis or a
-- bar
pub data IsToken : List ℕ → Mark → List ℕ → Type 0 where
  single : (cs bs : List ℕ) → IsSingle cs bs → IsToken cs mark.Atom bs
  times : (cs : List ℕ) → IsTimes cs → IsToken cs mark.Times (encode_utf8_all cs)
  opening : IsToken (codes "(") mark.Opening (codes "(?:")
  closing : IsToken (codes ")") mark.Closing (codes ")")
  bar : IsToken (codes "|") mark.Bar (codes "|")

pub record TokenFound (xs : List ℕ) (f : FoundPart) : Type 0 where
  pub own : List ℕ
  pub rest : List ℕ
  pub is : xs ≡ own ++ rest
  pub size : f.size ≡ length own
  pub token : IsToken own (mark_outside f.part) (translation f.part own)
  pub place : place_after Outside f.part ≡ Outside

pub record Opens (xs : List ℕ) (f : FoundPart) : Type 0 where
  pub rest : List ℕ
  pub is : xs ≡ 91 ∷ rest
  pub plain : begins_turned rest ≡ false
  pub found : f ≡ part_of_size 1 part.Class

pub record Turns (xs : List ℕ) (f : FoundPart) : Type 0 where
  pub rest : List ℕ
  pub is : xs ≡ 91 ∷ 94 ∷ rest
  pub found : f ≡ part_of_size 2 part.NotClass

abbrev pub PartFound : List ℕ → FoundPart → Type 0
PartFound xs f = TokenFound xs f ⊎ Opens xs f ⊎ Turns xs f

token : (own rest : List ℕ) (f g : FoundPart) → Some g ≡ Some f → g.size ≡ length own → IsToken own (mark_outside g.part) (translation g.part own) → place_after Outside g.part ≡ Outside → PartFound (own ++ rest) f
token own rest f g e z t y = inl (subst (TokenFound (own ++ rest)) (some_is g f e) (record { own = own; rest = rest; is = refl; size = z; token = t; place = y }))

sized_found : (n : ℕ) (o : Option Part) (f : FoundPart) → option_map (part_of_size n) o ≡ Some f → (p : Part) × (o ≡ Some p) × (Some (part_of_size n p) ≡ Some f)
sized_found n None f e = absurd (none_some f e)
sized_found n (Some p) f e = (p, refl, e)

category_token : (letter : ℕ) (cs : List ℕ) (f : FoundPart) → (letter ≡ 112) ⊎ (letter ≡ 80) → NameFound cs f → TokenFound (92 ∷ letter ∷ cs) f
category_token letter cs f (inl l) n = rw (l, n.found) (record {
  own = 92 ∷ 112 ∷ 123 ∷ n.name ++ 125 ∷ [];
  rest = n.rest;
  is = ap (λ (x : List ℕ). 92 ∷ 112 ∷ x) n.is;
  size = omega (arith, length-append n.name (125 ∷ []));
  token = single _ _ (atom.category n.name n.category);
  place = refl;
})
category_token letter cs f (inr l) n = rw (l, n.found) (record {
  own = 92 ∷ 80 ∷ 123 ∷ n.name ++ 125 ∷ [];
  rest = n.rest;
  is = ap (λ (x : List ℕ). 92 ∷ 80 ∷ x) n.is;
  size = omega (arith, length-append n.name (125 ∷ []));
  token = single _ _ (atom.not_category n.name n.category);
  place = refl;
})

letter_of : (c : ℕ) (a b : Bool) → (c == 112) ≡ a → (c == 80) ≡ b → (a || b) ≡ true → (c ≡ 112) ⊎ (c ≡ 80)
letter_of c true b e f h = inl (eqb-true c 112 e)
letter_of c false true e f h = inr (eqb-true c 80 f)
letter_of c false false e f h = absurd (true_not_false (sym h))

escape_token : (c : ℕ) (cs : List ℕ) (f : FoundPart) → (p : Part) × (escape c ≡ Some p) × (Some (part_of_size 2 p) ≡ Some f) → PartFound (92 ∷ c ∷ cs) f
escape_token c cs f m =
    let s = λ (q : Part) (e : Some q ≡ Some m.0). ap (λ (x : Part). Some (part_of_size 2 x)) (some_is q m.0 e) ∙ m.2 in
    test (c == 100) _ _ _ m.1 (λ t e. rw (eqb-true c 100 t) (token (codes "\\d") cs f (part_of_size 2 part.Digit) (s _ e) refl (single _ _ atom.digit) refl)) (λ _ h.
    test (c == 68) _ _ _ h (λ t e. rw (eqb-true c 68 t) (token (codes "\\D") cs f (part_of_size 2 part.NotDigit) (s _ e) refl (single _ _ atom.not_digit) refl)) (λ _ h.
    test (c == 115) _ _ _ h (λ t e. rw (eqb-true c 115 t) (token (codes "\\s") cs f (part_of_size 2 part.Space) (s _ e) refl (single _ _ atom.space) refl)) (λ _ h.
    test (c == 83) _ _ _ h (λ t e. rw (eqb-true c 83 t) (token (codes "\\S") cs f (part_of_size 2 part.NotSpace) (s _ e) refl (single _ _ atom.not_space) refl)) (λ _ h.
    test (c == 119) _ _ _ h (λ t e. rw (eqb-true c 119 t) (token (codes "\\w") cs f (part_of_size 2 part.Word) (s _ e) refl (single _ _ atom.word) refl)) (λ _ h.
    test (c == 87) _ _ _ h (λ t e. rw (eqb-true c 87 t) (token (codes "\\W") cs f (part_of_size 2 part.NotWord) (s _ e) refl (single _ _ atom.not_word) refl)) (λ _ h.
    let x = mapped (λ (d : ℕ). part.Literal d) (escaped_character c) m.0 h in
    token (92 ∷ c ∷ []) cs f (part_of_size 2 (part.Literal x.0)) (ap (λ (x : Part). Some (part_of_size 2 x)) x.2 ∙ m.2) refl (single _ _ (atom.escape c x.0 (escapes_sound c x.0 x.1))) refl))))))

escape_part : (cs : List ℕ) (f : FoundPart) → escape_at cs ≡ Some f → PartFound (92 ∷ cs) f
escape_part [] f e = absurd (none_some f e)
escape_part (c ∷ cs) f e =
    test (c == 112 || c == 80) _ _ _ e
    (λ t e. inl (category_token c cs f (letter_of c _ _ refl refl t) (category_found cs f e)))
    (λ t e. escape_token c cs f (sized_found 2 (escape c) f e))

braced_found : (cs : List ℕ) (o : Option ℕ) (f : FoundPart) → position (λ c. c == 125) cs ≡ o → count_part cs o ≡ Some f → PartFound (123 ∷ cs) f
braced_found cs None f q e = absurd (none_some f e)
braced_found cs (Some i) f q e =
    test (is_count (take i cs)) _ _ _ e (λ t e.
    let within = (position-Some (λ d. d == 125) cs i 0 q).0 in
    let size : length (take i cs) ≡ i = omega (arith, length-take i cs, within) in
    inl (subst (TokenFound (123 ∷ cs)) (some_is _ f e) (record {
      own = 123 ∷ take i cs ++ 125 ∷ [];
      rest = drop (i + 1) cs;
      is = ap (λ (x : List ℕ). 123 ∷ x) (at_found 125 cs i q ∙ sym (append_assoc (take i cs) (125 ∷ []) (drop (i + 1) cs)));
      size = omega (arith, length-append (take i cs) (125 ∷ []), size);
      token = times _ (braces (take i cs) (counts_sound (take i cs) t));
      place = refl;
    }))) (λ t e. absurd (none_some f e))

class_found : (cs : List ℕ) (f : FoundPart) → class_at cs ≡ f → PartFound (91 ∷ cs) f
class_found [] f e = inr (inl (record { rest = []; is = refl; plain = refl; found = sym e }))
class_found (c ∷ cs) f e =
    test (c == 94) _ _ _ e
    (λ t e. inr (inr (record { rest = cs; is = ap (λ (x : ℕ). 91 ∷ x ∷ cs) (eqb-true c 94 t); found = sym e })))
    (λ t e. inr (inl (record { rest = c ∷ cs; is = refl; plain = t; found = sym e })))

as_times : (ts bs : List ℕ) → IsTimes ts → encode_utf8_all ts ≡ bs → IsToken ts mark.Times bs
as_times ts bs t e = subst (IsToken ts mark.Times) e (times ts t)

plain_token : (c : ℕ) (cs : List ℕ) (f : FoundPart) → (c == 92) ≡ false → (c == 123) ≡ false → (c == 91) ≡ false → (p : Part) × (plain c ≡ Some p) × (Some (part_of_size 1 p) ≡ Some f) → PartFound (c ∷ cs) f
unfolding lib.Utf8.encode
plain_token c cs f n92 n123 n91 m =
    let s = λ (q : Part) (e : Some q ≡ Some m.0). ap (λ (x : Part). Some (part_of_size 1 x)) (some_is q m.0 e) ∙ m.2 in
    test (c == 46) _ _ _ m.1 (λ t e. rw (eqb-true c 46 t) (token (codes ".") cs f (part_of_size 1 part.Any) (s _ e) refl (single _ _ atom.any) refl)) (λ n46 h.
    test (c == 40) _ _ _ h (λ t e. rw (eqb-true c 40 t) (token (codes "(") cs f (part_of_size 1 part.Opening) (s _ e) refl opening refl)) (λ n40 h.
    test (c == 41) _ _ _ h (λ t e. rw (eqb-true c 41 t) (token (codes ")") cs f (part_of_size 1 part.Closing) (s _ e) refl closing refl)) (λ n41 h.
    test (c == 124) _ _ _ h (λ t e. rw (eqb-true c 124 t) (token (codes "|") cs f (part_of_size 1 part.Bar) (s _ e) refl bar refl)) (λ n124 h.
    test (c == 63) _ _ _ h (λ t e. rw (eqb-true c 63 t) (token (codes "?") cs f (part_of_size 1 part.Optional) (s _ e) refl (as_times (codes "?") (codes "?") optional refl) refl)) (λ n63 h.
    test (c == 42) _ _ _ h (λ t e. rw (eqb-true c 42 t) (token (codes "*") cs f (part_of_size 1 part.Star) (s _ e) refl (as_times (codes "*") (codes "*") any_number refl) refl)) (λ n42 h.
    test (c == 43) _ _ _ h (λ t e. rw (eqb-true c 43 t) (token (codes "+") cs f (part_of_size 1 part.Plus) (s _ e) refl (as_times (codes "+") (codes "+") at_least_once refl) refl)) (λ n43 h.
    test (is_special c) _ _ _ h (λ t e. absurd (none_some m.0 e)) (λ n e.
    let a = or_false (c == 123 || c == 125) (c == 93) n in
    let b = or_false (c == 123) (c == 125) a.0 in
    token (c ∷ []) cs f (part_of_size 1 (part.Literal c)) (s _ e) refl (single _ _ (atom.plain c (rw (n46, n92, n63, n42, n43, n123, b.1, n40, n41, n91, a.1, n124) refl))) refl))))))))

pub part_sound : (xs : List ℕ) (f : FoundPart) → part_outside xs ≡ Some f → PartFound xs f
part_sound [] f e = absurd (none_some f e)
part_sound (c ∷ cs) f e =
    test (c == 92) _ _ _ e (λ t e. rw (eqb-true c 92 t) (escape_part cs f e)) (λ n92 e.
    test (c == 123) _ _ _ e (λ t e. rw (eqb-true c 123 t) (braced_found cs _ f refl e)) (λ n123 e.
    test (c == 91) _ _ _ e (λ t e. rw (eqb-true c 91 t) (class_found cs f (some_is _ f e))) (λ n91 e.
    plain_token c cs f n92 n123 n91 (sized_found 1 (plain c) f e))))
