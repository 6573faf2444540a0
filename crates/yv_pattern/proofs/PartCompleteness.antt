-- What the grammar spells is read, part by part.
use Rattle.std.proofs.Common.{◌≡◌, ℕ, ◌+◌, ◌||◌, ◌==◌, Bool, true, false, List, [], ◌∷◌, ◌++◌, take, drop, length, Option, Some, None, refl, sym, ◌∙◌, ap, subst, arith, append_assoc, append-nil, length-append, codes, encode_utf8_all}
use Rattle.std.specs.Prelude.{option_to_list}
use Rattle.std.specs.List.{flat_map, list_any}
use Rattle.std.proofs.Math.Seq.{take-append_seam, drop-append_seam}
use Rattle.yv_pattern.specs.declared.mark.Mark.{Mark}
use Rattle.yv_pattern.specs.declared.mark.Mark.TheVariants as mark
use Rattle.yv_pattern.specs.declared.part.Part.{Part}
use Rattle.yv_pattern.specs.declared.part.Part.TheVariants as part
use Rattle.yv_pattern.specs.declared.part.FoundPart.{FoundPart}
use Rattle.yv_pattern.specs.declared.place.Place.{Place}
use Rattle.yv_pattern.specs.declared.place.Place.TheVariants.{Outside, First, Inside}
use Rattle.yv_pattern.specs.Characters.{literal}
use Rattle.yv_pattern.specs.Categories.{is_category}
use Rattle.yv_pattern.specs.Counts.{IsCount, IsTimes, optional, any_number, at_least_once, braces}
use Rattle.yv_pattern.specs.Classes as sign
use Rattle.yv_pattern.specs.Classes.{IsSign, IsItem, AreItems, one, more}
use Rattle.std.proofs.lemmas.Bool.{eqb-true}
use Rattle.yv_pattern.specs.Atoms as atom
use Rattle.yv_pattern.specs.Grammar as grammar
use Rattle.yv_pattern.specs.InnerGrammar as inner
use Rattle.yv_pattern.specs.InnerClasses.{escaped_character, part_of_size, closes, is_range, item_at, item_or_end}
use Rattle.yv_pattern.specs.InnerParts.{part_at, part_outside, place_after, after_item, mark_of, mark_outside, translation, class_at}
use Rattle.yv_pattern.specs.InnerItems as cut
use Rattle.yv_pattern.specs.InnerItems.{Item, ReadsAs, nothing, item_of, marks, IsReadAs}
use Rattle.yv_pattern.proofs.FirstOccurrences.{finds}
use Rattle.yv_pattern.proofs.CountCorrectness.{counts_complete, no_brace}
use Rattle.yv_pattern.proofs.Tests.{or_false, escapes_complete, true_not_false, none_some}
use Rattle.yv_pattern.proofs.Items.{Follows, item_complete, item_opens, named_category, no_brace_in}

abbrev pub bytes_of : List Item → List ℕ
bytes_of is = flat_map (λ i. i.bytes) is

-- from this place on the characters are read as these marks, and these bytes are written
pub record Reads (p : Place) (cs : List ℕ) (ms : List Mark) (bs : List ℕ) : Type 0 where
  pub parts : List Item
  pub cut : ReadsAs p cs parts
  pub marks_are : marks parts ≡ ms
  pub bytes_are : bytes_of parts ≡ bs

abbrev place_of : Bool → Place
place_of true = First
place_of false = Inside

not_closed : (xs : List ℕ) → closes xs ≡ false → item_or_end xs ≡ item_at false xs
not_closed [] h = refl
not_closed (c ∷ cs) h = rw h refl

at_item : (first : Bool) (xs : List ℕ) → closes xs ≡ false → part_at (place_of first) xs ≡ item_at first xs
at_item true xs h = refl
at_item false xs h = not_closed xs h

after_is : (first : Bool) → after_item (place_of first) ≡ Inside
after_is true = refl
after_is false = refl

unmarked : (first : Bool) (p : Part) → mark_of (place_of first) p ≡ None
unmarked true p = refl
unmarked false p = refl

-- one part more
pub next : (p : Place) (own bs rest : List ℕ) (f : FoundPart) (ms : List Mark) (es : List ℕ) (o : Option Mark) (q : Place) → part_at p (own ++ rest) ≡ Some f → f.size ≡ length own → translation f.part own ≡ bs → mark_of p f.part ≡ o → place_after p f.part ≡ q → Reads q rest ms es → Reads p (own ++ rest) (marks (record { mark = o; bytes = [] } ∷ []) ++ ms) (bs ++ es)
next p own bs rest f ms es o q e s w m y r =
    let left : rest ≡ drop f.size (own ++ rest) = sym (ap (λ (n : ℕ). drop n (own ++ rest)) s ∙ drop-append_seam own rest) in
    let taken : take f.size (own ++ rest) ≡ own = ap (λ (n : ℕ). take n (own ++ rest)) s ∙ take-append_seam own rest in
    let said : ReadsAs (place_after p f.part) (drop f.size (own ++ rest)) r.parts = subst (λ (xs : List ℕ). ReadsAs (place_after p f.part) xs r.parts) left (subst (λ (x : Place). ReadsAs x rest r.parts) (sym y) r.cut) in
    record {
      parts = item_of p f (own ++ rest) ∷ r.parts;
      cut = cut.more p (own ++ rest) f r.parts e said;
      marks_are = rw (m, r.marks_are) (marked o ms);
      bytes_are = rw (taken, w, r.bytes_are) refl;
    }
  where
    marked : (o : Option Mark) (ms : List Mark) → option_to_list o ++ ms ≡ marks (record { mark = o; bytes = [] } ∷ []) ++ ms
    marked None ms = refl
    marked (Some m) ms = refl

next_item : (first last : Bool) (cs bs rest : List ℕ) (ms : List Mark) (es : List ℕ) → IsItem first last cs bs → Follows last rest → Reads Inside rest ms es → Reads (place_of first) (cs ++ rest) ms (bs ++ es)
next_item first last cs bs rest ms es i f r =
    let x = item_complete first last cs bs rest i f in
    next (place_of first) cs bs rest x.found ms es None Inside (at_item first (cs ++ rest) (item_opens first last cs bs rest i) ∙ x.is) x.size x.bytes (unmarked first x.found.part) (x.place (place_of first) ∙ after_is first) r

-- how items begin
items_open : (first : Bool) (cs bs rest : List ℕ) → AreItems first cs bs → closes (cs ++ rest) ≡ false
items_open _ _ _ rest (one first cs bs i) = item_opens first true cs bs rest i
items_open _ _ _ rest (more first cs bs ds es i a) = rw append_assoc (item_opens first false cs bs (ds ++ rest) i)

sign_no_range : (b : Bool) (cs : List ℕ) (c : ℕ) (rest : List ℕ) → IsSign b cs c → (b ≡ true → closes rest ≡ true) → is_range (cs ++ rest) ≡ false
sign_no_range _ _ _ rest (sign.plain b c e) h =
    rw (or_false (c == 45) _ (or_false (c == 92) _ (or_false (c == 93) _ (or_false (c == 91) _ e).1).1).1).0 refl
sign_no_range _ _ _ rest sign.hyphen h = rw (h refl) refl
sign_no_range _ _ _ rest (sign.escape b c d e) h = refl

item_no_range : (first last : Bool) (cs bs rest : List ℕ) → IsItem first last cs bs → first ≡ false → (last ≡ true → closes rest ≡ true) → is_range (cs ++ rest) ≡ false
item_no_range _ _ _ _ rest (sign.single first last cs c s) e f = sign_no_range _ cs c rest s (λ b. f (sym (ap (λ (x : Bool). x || last) e) ∙ b))
item_no_range _ _ _ _ rest (sign.range first last cs ds low high s t h) e f = rw append_assoc (sign_no_range _ cs low (45 ∷ ds ++ rest) s (λ b. absurd (true_not_false (sym b ∙ e))))
item_no_range _ _ _ _ rest (sign.digit first last) e f = refl
item_no_range _ _ _ _ rest (sign.space first last) e f = refl
item_no_range _ _ _ _ rest (sign.word first last) e f = refl
item_no_range _ _ _ _ rest (sign.category first last name n) e f = refl

items_no_range : (first : Bool) (cs bs rest : List ℕ) → AreItems first cs bs → first ≡ false → closes rest ≡ true → is_range (cs ++ rest) ≡ false
items_no_range _ _ _ rest (one first cs bs i) e f = item_no_range first true cs bs rest i e (λ _. f)
items_no_range _ _ _ rest (more first cs bs ds es i a) e f = rw append_assoc (item_no_range first false cs bs (ds ++ rest) i e (λ b. absurd (true_not_false (sym b))))

closing_range : (rest : List ℕ) → closes rest ≡ true → is_range rest ≡ false
closing_range [] h = refl
closing_range (c ∷ cs) h = rw (eqb-true c 93 h) refl

next_items : (first : Bool) (cs bs rest : List ℕ) (ms : List Mark) (es : List ℕ) → AreItems first cs bs → closes rest ≡ true → Reads Inside rest ms es → Reads (place_of first) (cs ++ rest) ms (bs ++ es)
next_items _ _ _ rest ms es (one first cs bs i) h r = next_item first true cs bs rest ms es i (record { closing = λ _. h; no_range = closing_range rest h }) r
next_items _ _ _ rest ms es (more first cs bs ds gs i a) h r =
    rw (append_assoc cs ds rest, append_assoc bs gs es)
    (next_item first false cs bs (ds ++ rest) ms (gs ++ es) i (record { closing = λ e. absurd (true_not_false (sym e)); no_range = items_no_range false ds gs rest a refl h }) (next_items false ds gs rest ms es a h r))

-- the bracket at the end of a class
class_end : (rest : List ℕ) (ms : List Mark) (es : List ℕ) → Reads Outside rest ms es → Reads Inside (93 ∷ rest) ms (93 ∷ es)
class_end rest ms es r = next Inside (93 ∷ []) (93 ∷ []) rest (part_of_size 1 part.ClassEnd) ms es None Outside refl refl refl refl refl r

in_brackets : (cs bs rest : List ℕ) (ms : List Mark) (es : List ℕ) → AreItems true cs bs → Reads Outside rest ms es → Reads First ((cs ++ 93 ∷ []) ++ rest) ms ((bs ++ 93 ∷ []) ++ es)
in_brackets cs bs rest ms es a r = rw (append_assoc cs (93 ∷ []) rest, append_assoc bs (93 ∷ []) es) (next_items true cs bs (93 ∷ rest) ms (93 ∷ es) a refl (class_end rest ms es r))

not_turned : (xs : List ℕ) → atom.begins_turned xs ≡ false → class_at xs ≡ part_of_size 1 part.Class
not_turned [] h = refl
not_turned (c ∷ cs) h = rw h refl

turned_on : (cs bs rest : List ℕ) → AreItems true cs bs → atom.begins_turned cs ≡ false → atom.begins_turned ((cs ++ 93 ∷ []) ++ rest) ≡ false
turned_on [] bs rest a h = refl
turned_on (c ∷ cs) bs rest a h = h

plain_part : (c : ℕ) (rest : List ℕ) → list_any (λ x. c == x) (codes ".\\?*+{}()[]|") ≡ false → part_outside (c ∷ rest) ≡ Some (part_of_size 1 (part.Literal c))
plain_part c rest h =
    let a = or_false (c == 46) _ h in
    let b = or_false (c == 92) _ a.1 in
    let d = or_false (c == 63) _ b.1 in
    let e = or_false (c == 42) _ d.1 in
    let f = or_false (c == 43) _ e.1 in
    let g = or_false (c == 123) _ f.1 in
    let i = or_false (c == 125) _ g.1 in
    let j = or_false (c == 40) _ i.1 in
    let k = or_false (c == 41) _ j.1 in
    let l = or_false (c == 91) _ k.1 in
    let m = or_false (c == 93) _ l.1 in
    let n = or_false (c == 124) _ m.1 in
    rw (b.0, g.0, l.0, a.0, j.0, k.0, n.0, d.0, e.0, f.0, i.0, m.0) refl

escaped_letter : (b : Bool) (c d k : ℕ) → (c == k) ≡ b → escaped_character k ≡ None → escaped_character c ≡ Some d → (c == k) ≡ false
escaped_letter true c d k e n h = absurd (none_some d (sym n ∙ ap escaped_character (sym (eqb-true c k e)) ∙ h))
escaped_letter false c d k e n h = e

escaped_part : (c d : ℕ) (rest : List ℕ) → escaped_character c ≡ Some d → part_outside (92 ∷ c ∷ rest) ≡ Some (part_of_size 2 (part.Literal d))
escaped_part c d rest h =
    rw (escaped_letter _ c d 112 refl refl h, escaped_letter _ c d 80 refl refl h, escaped_letter _ c d 100 refl refl h, escaped_letter _ c d 68 refl refl h, escaped_letter _ c d 115 refl refl h, escaped_letter _ c d 83 refl refl h, escaped_letter _ c d 119 refl refl h, escaped_letter _ c d 87 refl refl h, h) refl

category_part : (letter : ℕ) (name rest : List ℕ) → (letter == 112) || (letter == 80) ≡ true → is_category name ≡ true → part_outside (92 ∷ letter ∷ 123 ∷ (name ++ 125 ∷ []) ++ rest) ≡ Some (part_of_size (length name + 4) part.Category)
category_part letter name rest l n =
    ap (λ (t : List ℕ). part_outside (92 ∷ letter ∷ 123 ∷ t)) (append_assoc name (125 ∷ []) rest) ∙ rw l (named_category name rest (no_brace_in name n) n)

simple : (own bs rest : List ℕ) (f : FoundPart) (ms : List Mark) (es : List ℕ) (m : Mark) → part_outside (own ++ rest) ≡ Some f → f.size ≡ length own → translation f.part own ≡ bs → mark_outside f.part ≡ m → place_after Outside f.part ≡ Outside → Reads Outside rest ms es → Reads Outside (own ++ rest) (m ∷ ms) (bs ++ es)
simple own bs rest f ms es m e s w k y r = next Outside own bs rest f ms es (Some m) Outside e s w (ap (λ (x : Mark). Some x) k) y r

pub reads_single : (cs bs rest : List ℕ) (ms : List Mark) (es : List ℕ) → atom.IsSingle cs bs → Reads Outside rest ms es → Reads Outside (cs ++ rest) (mark.Atom ∷ ms) (bs ++ es)
reads_single _ _ rest ms es (atom.plain c h) r = simple (c ∷ []) (literal c) rest (part_of_size 1 (part.Literal c)) ms es mark.Atom (plain_part c rest h) refl refl refl refl r
reads_single _ _ rest ms es (atom.escape c d e) r = simple (92 ∷ c ∷ []) (literal d) rest (part_of_size 2 (part.Literal d)) ms es mark.Atom (escaped_part c d rest (escapes_complete c d e)) refl refl refl refl r
reads_single _ _ rest ms es atom.any r = simple (codes ".") _ rest (part_of_size 1 part.Any) ms es mark.Atom refl refl refl refl refl r
reads_single _ _ rest ms es atom.digit r = simple (codes "\\d") _ rest (part_of_size 2 part.Digit) ms es mark.Atom refl refl refl refl refl r
reads_single _ _ rest ms es atom.not_digit r = simple (codes "\\D") _ rest (part_of_size 2 part.NotDigit) ms es mark.Atom refl refl refl refl refl r
reads_single _ _ rest ms es atom.space r = simple (codes "\\s") _ rest (part_of_size 2 part.Space) ms es mark.Atom refl refl refl refl refl r
reads_single _ _ rest ms es atom.not_space r = simple (codes "\\S") _ rest (part_of_size 2 part.NotSpace) ms es mark.Atom refl refl refl refl refl r
reads_single _ _ rest ms es atom.word r = simple (codes "\\w") _ rest (part_of_size 2 part.Word) ms es mark.Atom refl refl refl refl refl r
reads_single _ _ rest ms es atom.not_word r = simple (codes "\\W") _ rest (part_of_size 2 part.NotWord) ms es mark.Atom refl refl refl refl refl r
reads_single _ _ rest ms es (atom.category name n) r = simple (92 ∷ 112 ∷ 123 ∷ name ++ 125 ∷ []) _ rest (part_of_size (length name + 4) part.Category) ms es mark.Atom (category_part 112 name rest refl n) (omega (arith, length-append name (125 ∷ []))) refl refl refl r
reads_single _ _ rest ms es (atom.not_category name n) r = simple (92 ∷ 80 ∷ 123 ∷ name ++ 125 ∷ []) _ rest (part_of_size (length name + 4) part.Category) ms es mark.Atom (category_part 80 name rest refl n) (omega (arith, length-append name (125 ∷ []))) refl refl refl r
reads_single _ _ rest ms es (atom.class cs bs a t) r =
    next Outside (91 ∷ []) (91 ∷ []) ((cs ++ 93 ∷ []) ++ rest) (part_of_size 1 part.Class) ms ((bs ++ 93 ∷ []) ++ es) (Some mark.Atom) First (ap (λ (x : FoundPart). Some x) (not_turned ((cs ++ 93 ∷ []) ++ rest) (turned_on cs bs rest a t))) refl refl refl refl (in_brackets cs bs rest ms es a r)
reads_single _ _ rest ms es (atom.inverted_class cs bs a) r =
    next Outside (91 ∷ 94 ∷ []) (91 ∷ 94 ∷ []) ((cs ++ 93 ∷ []) ++ rest) (part_of_size 2 part.NotClass) ms ((bs ++ 93 ∷ []) ++ es) (Some mark.Atom) First refl refl refl refl refl (in_brackets cs bs rest ms es a r)

count_part : (cs rest : List ℕ) → IsCount cs → part_outside (123 ∷ (cs ++ 125 ∷ []) ++ rest) ≡ Some (part_of_size (length cs + 2) part.Count)
count_part cs rest h =
    ap (λ (t : List ℕ). part_outside (123 ∷ t)) (append_assoc cs (125 ∷ []) rest)
    ∙ rw (finds (λ c. c == 125) cs 125 rest (no_brace cs h) refl, take-append_seam cs (125 ∷ rest), counts_complete cs h) refl

pub reads_times : (cs rest : List ℕ) (ms : List Mark) (es : List ℕ) → IsTimes cs → Reads Outside rest ms es → Reads Outside (cs ++ rest) (mark.Times ∷ ms) (encode_utf8_all cs ++ es)
unfolding lib.Utf8.encode
reads_times _ rest ms es optional r = simple (codes "?") _ rest (part_of_size 1 part.Optional) ms es mark.Times refl refl refl refl refl r
reads_times _ rest ms es any_number r = simple (codes "*") _ rest (part_of_size 1 part.Star) ms es mark.Times refl refl refl refl refl r
reads_times _ rest ms es at_least_once r = simple (codes "+") _ rest (part_of_size 1 part.Plus) ms es mark.Times refl refl refl refl refl r
reads_times _ rest ms es (braces cs h) r = simple (123 ∷ cs ++ 125 ∷ []) _ rest (part_of_size (length cs + 2) part.Count) ms es mark.Times (count_part cs rest h) (omega (arith, length-append cs (125 ∷ []))) refl refl refl r

mutual
  reads_pattern : (k : ℕ) (cs bs : List ℕ) → grammar.IsPattern k cs bs → (rest : List ℕ) (ns : List Mark) (es : List ℕ) → Reads Outside rest ns es → (ms : List Mark) × inner.IsPattern k ms × Reads Outside (cs ++ rest) (ms ++ ns) (bs ++ es)
  reads_pattern k _ _ (grammar.branch cs bs b) rest ns es r = let x = reads_branch k cs bs b rest ns es r in (x.0, inner.branch x.0 x.1, x.2)
  reads_pattern k _ _ (grammar.either cs bs ds gs b p) rest ns es r =
      let y = reads_pattern k ds gs p rest ns es r in
      let bar = simple (codes "|") (codes "|") (ds ++ rest) (part_of_size 1 part.Bar) (y.0 ++ ns) (gs ++ es) mark.Bar refl refl refl refl refl y.2 in
      let x = reads_branch k cs bs b (124 ∷ ds ++ rest) (mark.Bar ∷ y.0 ++ ns) (124 ∷ gs ++ es) bar in
      (x.0 ++ mark.Bar ∷ y.0, inner.either x.0 y.0 x.1 y.1, rw (append_assoc cs (124 ∷ ds) rest, append_assoc x.0 (mark.Bar ∷ y.0) ns, append_assoc bs (124 ∷ gs) es) x.2)

  reads_branch : (k : ℕ) (cs bs : List ℕ) → grammar.IsBranch k cs bs → (rest : List ℕ) (ns : List Mark) (es : List ℕ) → Reads Outside rest ns es → (ms : List Mark) × inner.IsBranch k ms × Reads Outside (cs ++ rest) (ms ++ ns) (bs ++ es)
  reads_branch k _ _ grammar.none rest ns es r = ([], inner.none, r)
  reads_branch k _ _ (grammar.piece cs bs ds gs a b) rest ns es r =
      let y = reads_branch k ds gs b rest ns es r in
      let x = reads_atom k cs bs a (ds ++ rest) (y.0 ++ ns) (gs ++ es) y.2 in
      (x.0 ++ y.0, inner.piece x.0 y.0 x.1 y.1, rw (append_assoc cs ds rest, append_assoc x.0 y.0 ns, append_assoc bs gs es) x.2)
  reads_branch k _ _ (grammar.repetition cs bs ts ds gs a t b) rest ns es r =
      let y = reads_branch k ds gs b rest ns es r in
      let z = reads_times ts (ds ++ rest) (y.0 ++ ns) (gs ++ es) t y.2 in
      let x = reads_atom k cs bs a (ts ++ (ds ++ rest)) (mark.Times ∷ y.0 ++ ns) (encode_utf8_all ts ++ (gs ++ es)) z in
      (x.0 ++ mark.Times ∷ y.0, inner.repetition x.0 y.0 x.1 y.1, rw (append_assoc cs (ts ++ ds) rest, append_assoc ts ds rest, append_assoc x.0 (mark.Times ∷ y.0) ns, append_assoc bs (encode_utf8_all ts ++ gs) es, append_assoc (encode_utf8_all ts) gs es) x.2)

  reads_atom : (k : ℕ) (cs bs : List ℕ) → grammar.IsAtom k cs bs → (rest : List ℕ) (ns : List Mark) (es : List ℕ) → Reads Outside rest ns es → (ms : List Mark) × inner.IsAtom k ms × Reads Outside (cs ++ rest) (ms ++ ns) (bs ++ es)
  reads_atom k _ _ (grammar.single cs bs a) rest ns es r = (mark.Atom ∷ [], inner.plain, reads_single cs bs rest ns es a r)
  reads_atom _ _ _ (grammar.group {k = j} cs bs p) rest ns es r =
      let c = simple (codes ")") (codes ")") rest (part_of_size 1 part.Closing) ns es mark.Closing refl refl refl refl refl r in
      let y = reads_pattern j cs bs p (41 ∷ rest) (mark.Closing ∷ ns) (41 ∷ es) c in
      let o = simple (codes "(") (codes "(?:") (cs ++ 41 ∷ rest) (part_of_size 1 part.Opening) (y.0 ++ mark.Closing ∷ ns) (bs ++ 41 ∷ es) mark.Opening refl refl refl refl refl y.2 in
      (mark.Opening ∷ y.0 ++ mark.Closing ∷ [], inner.group y.0 y.1, rw (append_assoc cs (41 ∷ []) rest, append_assoc y.0 (mark.Closing ∷ []) ns, append_assoc bs (41 ∷ []) es) o)

-- each text that the grammar spells is read
pub is_read : (cs bs : List ℕ) → grammar.IsPattern 64 cs bs → IsReadAs cs bs
is_read cs bs p =
    let x = reads_pattern 64 cs bs p [] [] [] (record { parts = []; cut = nothing; marks_are = refl; bytes_are = refl }) in
    record {
      parts = x.2.parts;
      cut = subst (λ (xs : List ℕ). ReadsAs Outside xs x.2.parts) (append-nil cs) x.2.cut;
      form = subst (inner.IsPattern 64) (sym (x.2.marks_are ∙ append-nil x.0)) x.1;
      bytes_are = sym (x.2.bytes_are ∙ append-nil bs);
    }
