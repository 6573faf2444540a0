-- Each item of a class is read as one.
use Rattle.std.proofs.Common.{◌≡◌, ℕ, suc, ◌+◌, ◌≤◌, ◌||◌, ◌==◌, not, Bool, true, false, List, [], ◌∷◌, ◌++◌, length, nat_le, nat_eq, Some, cond, refl, sym, ◌∙◌, ap, arith, append_assoc, length-append}
use Rattle.std.specs.List.{list_all, list_any, position}
use Rattle.std.proofs.Math.Seq.{take-append_seam, drop-append_seam}
use Rattle.std.proofs.lemmas.Bool.Decides.{nat_tests}
use Rattle.yv_pattern.specs.declared.part.Part.TheVariants as part
use Rattle.yv_pattern.specs.declared.part.FoundPart.{FoundPart}
use Rattle.yv_pattern.specs.declared.place.Place.{Place}
use Rattle.yv_pattern.specs.Categories.{is_category, second_letters, may_follow}
use Rattle.std.proofs.lemmas.Bool.{eqb-true}
use Rattle.yv_pattern.specs.Classes.{IsSign, plain, hyphen, escape, IsItem, single, range, digit, space, word, category}
use Rattle.yv_pattern.specs.InnerClasses.{part_of_size, sign, category_part, closes, is_range, sign_at, character_or_range, item_from, item_at}
use Rattle.yv_pattern.specs.InnerParts.{place_after, after_item, translation}
use Rattle.yv_pattern.proofs.FirstOccurrences.{both, finds}
use Rattle.yv_pattern.proofs.Tests.{or_false, escapes_complete, true_not_false}

pub sign_complete : (b first : Bool) (cs : List ℕ) (c : ℕ) (rest : List ℕ) → IsSign b cs c → (b ≡ true → (first || closes rest) ≡ true) → sign_at first (cs ++ rest) ≡ Some (sign (length cs) c)
sign_complete _ first _ _ rest (plain b c e) h =
    let p = or_false (c == 91) _ e in
    let q = or_false (c == 93) _ p.1 in
    let r = or_false (c == 92) _ q.1 in
    let s = or_false (c == 45) _ r.1 in
    rw (r.0, p.0, q.0, s.0) refl
sign_complete _ first _ _ rest hyphen h = rw (h refl) refl
sign_complete _ first _ _ rest (escape b c d e) h = rw (escapes_complete c d e) refl

sign_opens : (b : Bool) (cs : List ℕ) (c : ℕ) (rest : List ℕ) → IsSign b cs c → closes (cs ++ rest) ≡ false
sign_opens _ _ _ rest (plain b c e) = (or_false (c == 93) _ (or_false (c == 91) _ e).1).0
sign_opens _ _ _ rest hyphen = refl
sign_opens _ _ _ rest (escape b c d e) = refl

pub item_opens : (first last : Bool) (cs bs rest : List ℕ) → IsItem first last cs bs → closes (cs ++ rest) ≡ false
item_opens _ _ _ _ rest (single first last cs c s) = sign_opens _ cs c rest s
item_opens _ _ _ _ rest (range first last cs ds low high s t h) = rw append_assoc (sign_opens _ cs low (45 ∷ ds ++ rest) s)
item_opens _ _ _ _ rest (digit first last) = refl
item_opens _ _ _ _ rest (space first last) = refl
item_opens _ _ _ _ rest (word first last) = refl
item_opens _ _ _ _ rest (category first last name n) = refl

-- an item as it is read
pub record ItemRead (first : Bool) (cs bs rest : List ℕ) : Type 0 where
  pub found : FoundPart
  pub is : item_at first (cs ++ rest) ≡ Some found
  pub size : found.size ≡ length cs
  pub bytes : translation found.part cs ≡ bs
  pub place : (p : Place) → place_after p found.part ≡ after_item p

pub record Follows (last : Bool) (rest : List ℕ) : Type 0 where
  pub closing : last ≡ true → closes rest ≡ true
  pub no_range : is_range rest ≡ false

or_so : (first last : Bool) (b : Bool) → (last ≡ true → b ≡ true) → (first || last) ≡ true → (first || b) ≡ true
or_so true last b f e = refl
or_so false last b f e = f e

from_sign : (first : Bool) (cs : List ℕ) (c : ℕ) (rest : List ℕ) → sign_at first (cs ++ rest) ≡ Some (sign (length cs) c) → item_at first (cs ++ rest) ≡ character_or_range (sign (length cs) c) rest
from_sign first cs c rest e =
    ap (λ s. item_from s (cs ++ rest)) e ∙ ap (character_or_range (sign (length cs) c)) (drop-append_seam cs rest)

at_most : (m n : ℕ) → m ≤ n → nat_le m n ≡ true
at_most m n h = grind (arith, nat_tests)

alone : (n c : ℕ) (rest : List ℕ) → is_range rest ≡ false → character_or_range (sign n c) rest ≡ Some (part_of_size n (part.Literal c))
alone n c rest h = rw h refl

ranged : (n low m high : ℕ) (ds rest : List ℕ) → closes (ds ++ rest) ≡ false → sign_at false (ds ++ rest) ≡ Some (sign m high) → low ≤ high → character_or_range (sign n low) (45 ∷ ds ++ rest) ≡ Some (part_of_size (n + 1 + m) (part.Range low high))
ranged n low m high ds rest o s h = rw (o, s, at_most low high h) refl

none_is : (b : Bool) (xs ys : List ℕ) → list_any (λ x. x == 125) xs ≡ false → list_any (λ x. x == 125) ys ≡ false → list_any (λ x. x == 125) (cond b xs ys) ≡ false
none_is true xs ys h g = h
none_is false xs ys h g = g

no_letter : (c : ℕ) → list_any (λ x. x == 125) (second_letters c) ≡ false
no_letter c = none_is (c == 76) _ _ refl (none_is (c == 77) _ _ refl (none_is (c == 78) _ _ refl (none_is (c == 80) _ _ refl (none_is (c == 90) _ _ refl (none_is (c == 83) _ _ refl (none_is (c == 67) _ _ refl refl))))))

not_first : (b : Bool) (c : ℕ) (ds : List ℕ) → (c == 125) ≡ b → may_follow (second_letters c) ds ≡ true → not (c == 125) ≡ true
not_first false c ds e h = rw e refl
not_first true c [] e h = let g = rw (eqb-true c 125 e) at h in absurd (true_not_false (sym g))
not_first true c (d ∷ ds) e h = let g = rw (eqb-true c 125 e) at (both (nat_eq (length ds) 0) _ h).1 in absurd (true_not_false (sym g))

not_second : (b : Bool) (c d : ℕ) → (d == 125) ≡ b → list_any (λ x. x == d) (second_letters c) ≡ true → not (d == 125) ≡ true
not_second false c d e h = rw e refl
not_second true c d e h = absurd (true_not_false (sym h ∙ ap (λ (k : ℕ). list_any (λ x. x == k) (second_letters c)) (eqb-true d 125 e) ∙ no_letter c))

-- no brace stands in a category's name
pub no_brace_in : (name : List ℕ) → is_category name ≡ true → list_all (λ d. not (d == 125)) name ≡ true
no_brace_in [] h = refl
no_brace_in (c ∷ []) h = rw (not_first _ c [] refl h) refl
no_brace_in (c ∷ d ∷ []) h = rw (not_first _ c (d ∷ []) refl h, not_second _ c d refl (both (nat_eq 0 0) _ h).1) refl
no_brace_in (c ∷ d ∷ e ∷ es) h = absurd (grind (arith, nat_tests, (both (nat_eq (suc (length es)) 0) _ h).0))

pub named_category : (name rest : List ℕ) → list_all (λ d. not (d == 125)) name ≡ true → is_category name ≡ true → category_part (name ++ 125 ∷ rest) (position (λ d. d == 125) (name ++ 125 ∷ rest)) ≡ Some (part_of_size (length name + 4) part.Category)
named_category name rest a h = rw (finds (λ d. d == 125) name 125 rest a refl, take-append_seam name (125 ∷ rest), h) refl

pub item_complete : (first last : Bool) (cs bs rest : List ℕ) → IsItem first last cs bs → Follows last rest → ItemRead first cs bs rest
item_complete _ _ _ _ rest (single first last cs c s) f = record {
  found = part_of_size (length cs) (part.Literal c);
  is = from_sign first cs c rest (sign_complete _ first cs c rest s (or_so first last _ f.closing)) ∙ alone (length cs) c rest f.no_range;
  size = refl;
  bytes = refl;
  place = λ p. refl;
}
item_complete _ _ _ _ rest (range first last cs ds low high s t h) f = record {
  found = part_of_size (length cs + 1 + length ds) (part.Range low high);
  is = rw append_assoc (from_sign first cs low (45 ∷ ds ++ rest) (sign_complete _ first cs low (45 ∷ ds ++ rest) s (λ e. rw e refl)) ∙ ranged (length cs) low (length ds) high ds rest (sign_opens _ ds high rest t) (sign_complete _ false ds high rest t f.closing) h);
  size = omega (arith, length-append cs (45 ∷ ds));
  bytes = refl;
  place = λ p. refl;
}
item_complete _ _ _ _ rest (digit first last) f = record { found = part_of_size 2 part.Digit; is = refl; size = refl; bytes = refl; place = λ p. refl }
item_complete _ _ _ _ rest (space first last) f = record { found = part_of_size 2 part.Space; is = refl; size = refl; bytes = refl; place = λ p. refl }
item_complete _ _ _ _ rest (word first last) f = record { found = part_of_size 2 part.Word; is = refl; size = refl; bytes = refl; place = λ p. refl }
item_complete _ _ _ _ rest (category first last name n) f = record {
  found = part_of_size (length name + 4) part.Category;
  is = ap (λ (t : List ℕ). item_at first (92 ∷ 112 ∷ 123 ∷ t)) (append_assoc name (125 ∷ []) rest) ∙ named_category name rest (no_brace_in name n) n;
  size = omega (arith, length-append name (125 ∷ []));
  bytes = refl;
  place = λ p. refl;
}
