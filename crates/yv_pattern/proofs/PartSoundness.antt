-- What is read, part by part, is spelled by the grammar.
use Rattle.std.proofs.Common.{◌≡◌, ℕ, suc, ◌==◌, Bool, true, false, List, [], ◌∷◌, ◌++◌, take, drop, length, ◌⊎◌, inl, inr, Option, Some, None, refl, sym, ◌∙◌, ap, subst, append_assoc, append-nil, codes, encode_utf8_all}
use Rattle.std.specs.Prelude.{option_to_list}
use Rattle.std.specs.List.{flat_map}
use Rattle.std.proofs.Math.Seq.{take-append_seam, drop-append_seam}
use Rattle.std.proofs.lemmas.Bool.{eqb-true}
use Rattle.yv_pattern.specs.declared.mark.Mark.{Mark}
use Rattle.yv_pattern.specs.declared.mark.Mark.TheVariants as mark
use Rattle.yv_pattern.specs.declared.part.Part.TheVariants as part
use Rattle.yv_pattern.specs.declared.part.FoundPart.{FoundPart}
use Rattle.yv_pattern.specs.declared.place.Place.{Place}
use Rattle.yv_pattern.specs.declared.place.Place.TheVariants.{Outside, First, Inside}
use Rattle.yv_pattern.specs.Classes as class
use Rattle.yv_pattern.specs.Classes.{IsItem, AreItems}
use Rattle.yv_pattern.specs.Atoms as atom
use Rattle.yv_pattern.specs.Atoms.{IsSingle, begins_turned}
use Rattle.yv_pattern.specs.Counts.{IsTimes}
use Rattle.yv_pattern.specs.Grammar as grammar
use Rattle.yv_pattern.specs.InnerGrammar as inner
use Rattle.yv_pattern.specs.InnerClasses.{part_of_size, closes, item_or_end}
use Rattle.yv_pattern.specs.InnerParts.{part_at, place_after, after_item, mark_of, mark_outside, translation}
use Rattle.yv_pattern.specs.InnerItems as cut
use Rattle.yv_pattern.specs.InnerItems.{Item, ReadsAs, item_of, marks, IsReadAs}
use Rattle.yv_pattern.proofs.FrontItems.{IsToken, single, times, opening, closing, bar, TokenFound, PartFound, part_sound, ItemFound, item_sound}
use Rattle.yv_pattern.proofs.Items.{item_opens}
use Rattle.yv_pattern.proofs.Tests.{test, some_is}

abbrev bytes_of : List Item → List ℕ
bytes_of is = flat_map (λ i. i.bytes) is

-- tokens, one behind the other
pub data AreTokens : List ℕ → List Mark → List ℕ → Type 0 where
  end : AreTokens [] [] []
  token : (cs bs ds es : List ℕ) (m : Mark) (ms : List Mark) → IsToken cs m bs → AreTokens ds ms es → AreTokens (cs ++ ds) (m ∷ ms) (bs ++ es)

-- items that go on to the end of a class, and tokens behind it
record InClass (first : Bool) (cs : List ℕ) (is : List Item) : Type 0 where
  own : List ℕ
  bytes : List ℕ
  rest : List ℕ
  out : List ℕ
  cs_is : cs ≡ own ++ 93 ∷ rest
  spelled : AreItems first own bytes
  tokens : AreTokens rest (marks is) out
  out_is : bytes_of is ≡ bytes ++ 93 ∷ out

-- the end of a class, and tokens behind it
record Closed (cs : List ℕ) (is : List Item) : Type 0 where
  rest : List ℕ
  out : List ℕ
  cs_is : cs ≡ 93 ∷ rest
  tokens : AreTokens rest (marks is) out
  out_is : bytes_of is ≡ 93 ∷ out

abbrev Means : Place → List ℕ → List Item → Type 0
Means Outside cs is = AreTokens cs (marks is) (bytes_of is)
Means First cs is = InClass true cs is
Means Inside cs is = Closed cs is ⊎ InClass false cs is

items_open : (first : Bool) (cs bs rest : List ℕ) → AreItems first cs bs → closes (cs ++ rest) ≡ false
items_open _ _ _ rest (class.one first cs bs i) = item_opens first true cs bs rest i
items_open _ _ _ rest (class.more first cs bs ds es i a) = rw append_assoc (item_opens first false cs bs (ds ++ rest) i)

-- what is dropped and taken
left : (xs own rest : List ℕ) (n : ℕ) → xs ≡ own ++ rest → n ≡ length own → drop n xs ≡ rest
left xs own rest n e z = (λ i. drop (z i) (e i)) ∙ drop-append_seam own rest

taken : (xs own rest : List ℕ) (n : ℕ) → xs ≡ own ++ rest → n ≡ length own → take n xs ≡ own
taken xs own rest n e z = (λ i. take (z i) (e i)) ∙ take-append_seam own rest

-- an item before what goes on in the class
more_items : (first : Bool) (p : Place) (xs : List ℕ) (f : FoundPart) (is : List Item) → mark_of p f.part ≡ None → (i : ItemFound first xs f) → Means Inside i.rest is → InClass first xs (item_of p f xs ∷ is)
more_items first p xs f is m i (inl c) =
    let shut : closes i.rest ≡ true = ap closes c.cs_is in
    record {
      own = i.own;
      bytes = translation f.part i.own;
      rest = c.rest;
      out = c.out;
      cs_is = i.is ∙ ap (λ (x : List ℕ). i.own ++ x) c.cs_is;
      spelled = class.one first i.own (translation f.part i.own) (subst (λ (b : Bool). IsItem first b i.own (translation f.part i.own)) shut i.spelled);
      tokens = subst (λ (o : Option Mark). AreTokens c.rest (option_to_list o ++ marks is) c.out) (sym m) c.tokens;
      out_is = ap (λ (x : List ℕ). translation f.part x ++ bytes_of is) (taken xs i.own i.rest f.size i.is i.size) ∙ ap (λ (x : List ℕ). translation f.part i.own ++ x) c.out_is;
    }
more_items first p xs f is m i (inr c) =
    let shut : closes i.rest ≡ false = ap closes c.cs_is ∙ items_open false c.own c.bytes (93 ∷ c.rest) c.spelled in
    record {
      own = i.own ++ c.own;
      bytes = translation f.part i.own ++ c.bytes;
      rest = c.rest;
      out = c.out;
      cs_is = i.is ∙ ap (λ (x : List ℕ). i.own ++ x) c.cs_is ∙ sym (append_assoc i.own c.own (93 ∷ c.rest));
      spelled = class.more first i.own (translation f.part i.own) c.own c.bytes (subst (λ (b : Bool). IsItem first b i.own (translation f.part i.own)) shut i.spelled) c.spelled;
      tokens = subst (λ (o : Option Mark). AreTokens c.rest (option_to_list o ++ marks is) c.out) (sym m) c.tokens;
      out_is = ap (λ (x : List ℕ). translation f.part x ++ bytes_of is) (taken xs i.own i.rest f.size i.is i.size) ∙ ap (λ (x : List ℕ). translation f.part i.own ++ x) c.out_is ∙ sym (append_assoc (translation f.part i.own) c.bytes (93 ∷ c.out));
    }

from_item : (first : Bool) (p : Place) (xs : List ℕ) (f : FoundPart) (is : List Item) → mark_of p f.part ≡ None → after_item p ≡ Inside → ItemFound first xs f → Means (place_after p f.part) (drop f.size xs) is → InClass first xs (item_of p f xs ∷ is)
from_item first p xs f is m a i s =
    more_items first p xs f is m i (subst (λ (q : Place). Means q i.rest is) (i.place p ∙ a) (subst (λ (ys : List ℕ). Means (place_after p f.part) ys is) (left xs i.own i.rest f.size i.is i.size) s))

step_inside : (xs : List ℕ) (f : FoundPart) (is : List Item) → item_or_end xs ≡ Some f → Means (place_after Inside f.part) (drop f.size xs) is → Means Inside xs (item_of Inside f xs ∷ is)
step_inside [] f is e s = absurd (cc)
step_inside (c ∷ cs) f is e s =
    test (c == 93) _ _ _ e
    (λ t e. inl (ended (eqb-true c 93 t) (some_is _ f e) s))
    (λ t e. inr (from_item false Inside (c ∷ cs) f is refl refl (item_sound false (c ∷ cs) f e) s))
  where
    ended : c ≡ 93 → part_of_size 1 part.ClassEnd ≡ f → Means (place_after Inside f.part) (drop f.size (c ∷ cs)) is → Closed (c ∷ cs) (item_of Inside f (c ∷ cs) ∷ is)
    ended k g s = subst (λ (h : FoundPart). Means (place_after Inside h.part) (drop h.size (c ∷ cs)) is → Closed (c ∷ cs) (item_of Inside h (c ∷ cs) ∷ is)) g (λ s. record { rest = cs; out = bytes_of is; cs_is = ap (λ (x : ℕ). x ∷ cs) k; tokens = s; out_is = refl }) s

-- a class as one token
class_token : (opens bytes xs rest : List ℕ) (f : FoundPart) (is : List Item) → xs ≡ opens ++ rest → f.size ≡ length opens → translation f.part opens ≡ bytes → mark_outside f.part ≡ mark.Atom → (c : InClass true rest is) → IsSingle (opens ++ (c.own ++ 93 ∷ [])) (bytes ++ (c.bytes ++ 93 ∷ [])) → AreTokens xs (marks (item_of Outside f xs ∷ is)) (bytes_of (item_of Outside f xs ∷ is))
class_token opens bytes xs rest f is e z w m c s =
    let text : (opens ++ (c.own ++ 93 ∷ [])) ++ c.rest ≡ xs = append_assoc opens (c.own ++ 93 ∷ []) c.rest ∙ ap (λ (x : List ℕ). opens ++ x) (append_assoc c.own (93 ∷ []) c.rest ∙ sym c.cs_is) ∙ sym e in
    let said : (bytes ++ (c.bytes ++ 93 ∷ [])) ++ c.out ≡ translation f.part (take f.size xs) ++ bytes_of is =
    append_assoc bytes (c.bytes ++ 93 ∷ []) c.out ∙ ap (λ (x : List ℕ). bytes ++ x) (append_assoc c.bytes (93 ∷ []) c.out ∙ sym c.out_is) ∙ ap (λ (x : List ℕ). x ++ bytes_of is) (sym w ∙ ap (translation f.part) (sym (taken xs opens rest f.size e z))) in
    subst (λ (ys : List ℕ). AreTokens ys (mark_outside f.part ∷ marks is) (translation f.part (take f.size xs) ++ bytes_of is)) text
    (subst (λ (bs : List ℕ). AreTokens ((opens ++ (c.own ++ 93 ∷ [])) ++ c.rest) (mark_outside f.part ∷ marks is) bs) said
    (subst (λ (n : Mark). AreTokens ((opens ++ (c.own ++ 93 ∷ [])) ++ c.rest) (n ∷ marks is) ((bytes ++ (c.bytes ++ 93 ∷ [])) ++ c.out)) (sym m)
    (token _ _ c.rest c.out mark.Atom (marks is) (single _ _ s) c.tokens)))

not_turned : (xs own rest : List ℕ) → xs ≡ own ++ 93 ∷ rest → begins_turned xs ≡ false → begins_turned own ≡ false
not_turned xs [] rest e h = refl
not_turned xs (c ∷ cs) rest e h = sym (ap begins_turned e) ∙ h

step_token : (xs : List ℕ) (f : FoundPart) (is : List Item) (t : TokenFound xs f) → AreTokens t.rest (marks is) (bytes_of is) → AreTokens xs (marks (item_of Outside f xs ∷ is)) (bytes_of (item_of Outside f xs ∷ is))
step_token xs f is t s =
    subst (λ (ys : List ℕ). AreTokens ys (mark_outside f.part ∷ marks is) (translation f.part (take f.size xs) ++ bytes_of is)) (sym t.is)
    (subst (λ (ys : List ℕ). AreTokens (t.own ++ t.rest) (mark_outside f.part ∷ marks is) (translation f.part ys ++ bytes_of is)) (sym (taken xs t.own t.rest f.size t.is t.size))
    (token t.own (translation f.part t.own) t.rest (bytes_of is) (mark_outside f.part) (marks is) t.token s))

step_outside : (xs : List ℕ) (f : FoundPart) (is : List Item) → PartFound xs f → Means (place_after Outside f.part) (drop f.size xs) is → Means Outside xs (item_of Outside f xs ∷ is)
step_outside xs f is (inl t) s =
    step_token xs f is t (subst (λ (q : Place). Means q t.rest is) t.place (subst (λ (ys : List ℕ). Means (place_after Outside f.part) ys is) (left xs t.own t.rest f.size t.is t.size) s))
step_outside xs f is (inr (inl o)) s =
    subst (λ (g : FoundPart). Means (place_after Outside g.part) (drop g.size xs) is → Means Outside xs (item_of Outside g xs ∷ is)) (sym o.found)
    (λ s.
    let c = subst (λ (ys : List ℕ). InClass true ys is) (left xs (91 ∷ []) o.rest 1 o.is refl) s in
    class_token (91 ∷ []) (91 ∷ []) xs o.rest (part_of_size 1 part.Class) is o.is refl refl refl c (atom.class c.own c.bytes c.spelled (not_turned o.rest c.own c.rest c.cs_is o.plain))) s
step_outside xs f is (inr (inr o)) s =
    subst (λ (g : FoundPart). Means (place_after Outside g.part) (drop g.size xs) is → Means Outside xs (item_of Outside g xs ∷ is)) (sym o.found)
    (λ s.
    let c = subst (λ (ys : List ℕ). InClass true ys is) (left xs (91 ∷ 94 ∷ []) o.rest 2 o.is refl) s in
    class_token (91 ∷ 94 ∷ []) (91 ∷ 94 ∷ []) xs o.rest (part_of_size 2 part.NotClass) is o.is refl refl refl c (atom.inverted_class c.own c.bytes c.spelled)) s

step : (p : Place) (xs : List ℕ) (f : FoundPart) (is : List Item) → part_at p xs ≡ Some f → Means (place_after p f.part) (drop f.size xs) is → Means p xs (item_of p f xs ∷ is)
step Outside xs f is e s = step_outside xs f is (part_sound xs f e) s
step First xs f is e s = from_item true First xs f is refl refl (item_sound true xs f e) s
step Inside xs f is e s = step_inside xs f is e s

means : (p : Place) (cs : List ℕ) (is : List Item) → ReadsAs p cs is → Means p cs is
means _ _ _ cut.nothing = end
means _ _ _ (cut.more p cs f is q c) = step p cs f is q (means (place_after p f.part) (drop f.size cs) is c)

-- what begins the characters, and the tokens behind it
record Begun (P : List ℕ → List ℕ → Type 0) (cs : List ℕ) (ns : List Mark) (bs : List ℕ) : Type 0 where
  own : List ℕ
  bytes : List ℕ
  rest : List ℕ
  out : List ℕ
  cs_is : cs ≡ own ++ rest
  bs_is : bs ≡ bytes ++ out
  spelled : P own bytes
  tokens : AreTokens rest ns out

joined : {P Q R : List ℕ → List ℕ → Type 0} {cs bs : List ℕ} {ms ns : List Mark} (x : Begun P cs ms bs) (y : Begun Q x.rest ns x.out) → R (x.own ++ y.own) (x.bytes ++ y.bytes) → Begun R cs ns bs
joined x y r = record {
  own = x.own ++ y.own;
  bytes = x.bytes ++ y.bytes;
  rest = y.rest;
  out = y.out;
  cs_is = x.cs_is ∙ ap (λ (z : List ℕ). x.own ++ z) y.cs_is ∙ sym (append_assoc x.own y.own y.rest);
  bs_is = x.bs_is ∙ ap (λ (z : List ℕ). x.bytes ++ z) y.bs_is ∙ sym (append_assoc x.bytes y.bytes y.out);
  spelled = r;
  tokens = y.tokens;
}

first_token : (cs : List ℕ) (m : Mark) (ns : List Mark) (bs : List ℕ) → AreTokens cs (m ∷ ns) bs → Begun (λ xs ys. IsToken xs m ys) cs ns bs
first_token _ _ _ _ (token cs bs ds es m ms t a) = record { own = cs; bytes = bs; rest = ds; out = es; cs_is = refl; bs_is = refl; spelled = t; tokens = a }

no_token : (cs bs : List ℕ) → AreTokens cs [] bs → (cs ≡ []) × (bs ≡ [])
no_token _ _ end = (refl, refl)

atom_of : (xs ys : List ℕ) → IsToken xs mark.Atom ys → IsSingle xs ys
atom_of _ _ (single cs bs s) = s

times_of : (xs ys : List ℕ) → IsToken xs mark.Times ys → IsTimes xs × (ys ≡ encode_utf8_all xs)
times_of _ _ (times cs t) = (t, refl)

opening_of : (xs ys : List ℕ) → IsToken xs mark.Opening ys → (xs ≡ codes "(") × (ys ≡ codes "(?:")
opening_of _ _ opening = (refl, refl)

closing_of : (xs ys : List ℕ) → IsToken xs mark.Closing ys → (xs ≡ codes ")") × (ys ≡ codes ")")
closing_of _ _ closing = (refl, refl)

bar_of : (xs ys : List ℕ) → IsToken xs mark.Bar ys → (xs ≡ codes "|") × (ys ≡ codes "|")
bar_of _ _ bar = (refl, refl)

both_are : (P : List ℕ → List ℕ → Type 0) (cs ds bs es : List ℕ) → ds ≡ cs → es ≡ bs → P cs bs → P ds es
both_are P cs ds bs es e f p = rw (e, f) p

again : {cs bs : List ℕ} (ls ms ns : List Mark) → AreTokens cs ((ls ++ ms) ++ ns) bs → AreTokens cs (ls ++ (ms ++ ns)) bs
again {cs} {bs} ls ms ns t = subst (λ (x : List Mark). AreTokens cs x bs) (append_assoc ls ms ns) t

mutual
  says_pattern : (k : ℕ) (ms : List Mark) → inner.IsPattern k ms → (cs : List ℕ) (ns : List Mark) (bs : List ℕ) → AreTokens cs (ms ++ ns) bs → Begun (grammar.IsPattern k) cs ns bs
  says_pattern k _ (inner.branch ms b) cs ns bs t =
      let x = says_branch k ms b cs ns bs t in
      record { own = x.own; bytes = x.bytes; rest = x.rest; out = x.out; cs_is = x.cs_is; bs_is = x.bs_is; spelled = grammar.branch x.own x.bytes x.spelled; tokens = x.tokens }
  says_pattern k _ (inner.either ms ls b p) cs ns bs t =
      let x = says_branch k ms b cs (mark.Bar ∷ ls ++ ns) bs (again ms (mark.Bar ∷ ls) ns t) in
      let h = first_token x.rest mark.Bar (ls ++ ns) x.out x.tokens in
      let y = says_pattern k ls p h.rest ns h.out h.tokens in
      let e = bar_of h.own h.bytes h.spelled in
      let z = joined {R = λ xs ys. grammar.IsPattern k (x.own ++ xs) (x.bytes ++ ys)} h y (both_are (λ xs ys. grammar.IsPattern k (x.own ++ (xs ++ y.own)) (x.bytes ++ (ys ++ y.bytes))) _ _ _ _ e.0 e.1 (grammar.either x.own x.bytes y.own y.bytes x.spelled y.spelled)) in
      joined x z z.spelled

  says_branch : (k : ℕ) (ms : List Mark) → inner.IsBranch k ms → (cs : List ℕ) (ns : List Mark) (bs : List ℕ) → AreTokens cs (ms ++ ns) bs → Begun (grammar.IsBranch k) cs ns bs
  says_branch k _ inner.none cs ns bs t = record { own = []; bytes = []; rest = cs; out = bs; cs_is = refl; bs_is = refl; spelled = grammar.none; tokens = t }
  says_branch k _ (inner.piece ms ls a b) cs ns bs t =
      let x = says_atom k ms a cs (ls ++ ns) bs (again ms ls ns t) in
      let y = says_branch k ls b x.rest ns x.out x.tokens in
      joined x y (grammar.piece x.own x.bytes y.own y.bytes x.spelled y.spelled)
  says_branch k _ (inner.repetition ms ls a b) cs ns bs t =
      let x = says_atom k ms a cs (mark.Times ∷ ls ++ ns) bs (again ms (mark.Times ∷ ls) ns t) in
      let h = first_token x.rest mark.Times (ls ++ ns) x.out x.tokens in
      let y = says_branch k ls b h.rest ns h.out h.tokens in
      let e = times_of h.own h.bytes h.spelled in
      let z = joined {R = λ xs ys. grammar.IsBranch k (x.own ++ xs) (x.bytes ++ ys)} h y (both_are (λ xs ys. grammar.IsBranch k (x.own ++ (xs ++ y.own)) (x.bytes ++ (ys ++ y.bytes))) _ _ _ _ refl e.1 (grammar.repetition x.own x.bytes h.own y.own y.bytes x.spelled e.0 y.spelled)) in
      joined x z z.spelled

  says_atom : (k : ℕ) (ms : List Mark) → inner.IsAtom k ms → (cs : List ℕ) (ns : List Mark) (bs : List ℕ) → AreTokens cs (ms ++ ns) bs → Begun (grammar.IsAtom k) cs ns bs
  says_atom k _ inner.plain cs ns bs t =
      let x = first_token cs mark.Atom ns bs t in
      record { own = x.own; bytes = x.bytes; rest = x.rest; out = x.out; cs_is = x.cs_is; bs_is = x.bs_is; spelled = grammar.single x.own x.bytes (atom_of x.own x.bytes x.spelled); tokens = x.tokens }
  says_atom _ _ (inner.group {k = j} ms p) cs ns bs t =
      let o = first_token cs mark.Opening ((ms ++ mark.Closing ∷ []) ++ ns) bs t in
      let x = says_pattern j ms p o.rest (mark.Closing ∷ ns) o.out (again ms (mark.Closing ∷ []) ns o.tokens) in
      let c = first_token x.rest mark.Closing ns x.out x.tokens in
      let e = opening_of o.own o.bytes o.spelled in
      let f = closing_of c.own c.bytes c.spelled in
      let inside = joined {R = λ xs ys. grammar.IsAtom (suc j) (codes "(" ++ xs) (codes "(?:" ++ ys)} x c (both_are (λ xs ys. grammar.IsAtom (suc j) (codes "(" ++ (x.own ++ xs)) (codes "(?:" ++ (x.bytes ++ ys))) _ _ _ _ f.0 f.1 (grammar.group x.own x.bytes x.spelled)) in
      joined o inside (both_are (λ xs ys. grammar.IsAtom (suc j) (xs ++ inside.own) (ys ++ inside.bytes)) _ _ _ _ e.0 e.1 inside.spelled)

-- what is read is spelled by the grammar
pub is_spelled : (cs bs : List ℕ) → IsReadAs cs bs → grammar.IsPattern 64 cs bs
is_spelled cs bs r =
    let t = subst (λ (ms : List Mark). AreTokens cs ms (bytes_of r.parts)) (sym (append-nil (marks r.parts))) (means Outside cs r.parts r.cut) in
    let x = says_pattern 64 (marks r.parts) r.form cs [] (bytes_of r.parts) t in
    let e = no_token x.rest x.out x.tokens in
    both_are (grammar.IsPattern 64) x.own cs x.bytes bs (x.cs_is ∙ ap (λ (z : List ℕ). x.own ++ z) e.0 ∙ append-nil x.own) (r.bytes_are ∙ x.bs_is ∙ ap (λ (z : List ℕ). x.bytes ++ z) e.1 ∙ append-nil x.bytes) x.spelled
