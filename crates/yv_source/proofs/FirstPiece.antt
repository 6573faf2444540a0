-- The scanner's first piece is the one that may stand at a place.
use Rattle.std.proofs.Common.{◌≡◌, ◌≢◌, ℕ, Bool, true, false, cond, ◌==◌, ◌&&◌, ◌||◌, List, [], ◌∷◌, ◌++◌, Some, None, refl, sym, ◌∙◌, ap, subst, inl, inr, ◌⊎◌, append_assoc}
use Rattle.std.proofs.lemmas.Bool.{eqb-true, cases_Bool}
use Rattle.yv_source.specs.Pieces.{Piece, Blank, LineComment, BlockComment, Word, Single, Double, Semicolon, Open, Close, Plus, slice, is_blank, begins, begins_two, until, ends_word, up_to_quote, Before, Apart, UnquotedWord, QuotedText, MayStand}
use Rattle.yv_source.specs.Inner.Scan.{from, from_quote, tail, First, closed_piece, closed_by_two, unless_unquoted, word, word_or_plus, first}
use Rattle.yv_source.proofs.Keyword.{false_true, and_first, and_second}

-- until and from
until_from_step : (stop : List ℕ → Bool) (b : ℕ) (t : List ℕ) (v : Bool) → until stop t ++ from stop t ≡ t → cond v [] (b ∷ until stop t) ++ cond v (b ∷ t) (from stop t) ≡ b ∷ t
until_from_step stop b t true e = refl
until_from_step stop b t false e = ap (λ l. b ∷ l) e

pub until_from : (stop : List ℕ → Bool) (t : List ℕ) → until stop t ++ from stop t ≡ t
until_from stop [] = refl
until_from stop (b ∷ t) = until_from_step stop b t (stop (b ∷ t)) (until_from stop t)

-- what is left from where it stops: whole, or the stop holds there
pub from_stops : (stop : List ℕ → Bool) (t : List ℕ) → (from stop t ≡ []) ⊎ (stop (from stop t) ≡ true)
from_stops stop [] = inl refl
from_stops stop (b ∷ t) =
    elim (cases_Bool (stop (b ∷ t))) [
      | inl e ↦ inr (ap (λ v. stop (cond v (b ∷ t) (from stop t))) e ∙ e)
      | inr e ↦
          let P : List ℕ → Type 0 = λ l. (l ≡ []) ⊎ (stop l ≡ true) in
          subst P (sym (ap (λ v. cond v (b ∷ t) (from stop t)) e)) (from_stops stop t)
    ]

cancel : (t a b : List ℕ) → t ++ a ≡ t ++ b → a ≡ b
cancel [] a b e = e
cancel (x ∷ t) a b e = cancel t a b (ap tail e)

-- behind a front that does not stop, what is left is the rest
pub from_behind : (stop : List ℕ → Bool) (t rest : List ℕ) → until stop (t ++ rest) ≡ t → from stop (t ++ rest) ≡ rest
from_behind stop t rest e = cancel t (from stop (t ++ rest)) rest (ap (λ l. l ++ from stop (t ++ rest)) (sym e) ∙ until_from stop (t ++ rest))

or_false_first : (x y : Bool) → (x || y) ≡ false → x ≡ false
or_false_first true y h = h
or_false_first false y h = refl

or_false_second : (x y : Bool) → (x || y) ≡ false → y ≡ false
or_false_second true y h = absurd (false_true (sym h))
or_false_second false y h = h

or_false : (x y : Bool) → x ≡ false → y ≡ false → (x || y) ≡ false
or_false x y h k = ap (λ v. v || y) h ∙ k

and_or_first : (x y z : Bool) → (x && (y || z)) ≡ false → (x && y) ≡ false
and_or_first true y z h = or_false_first y z h
and_or_first false y z h = refl

and_or_second : (x y z : Bool) → (x && (y || z)) ≡ false → (x && z) ≡ false
and_or_second true y z h = or_false_second y z h
and_or_second false y z h = refl

and_or : (x y z : Bool) → (x && y) ≡ false → (x && z) ≡ false → (x && (y || z)) ≡ false
and_or true y z h k = or_false y z h k
and_or false y z h k = refl

cond_true : {T : Type 0} (b : Bool) (x y : T) → b ≡ true → cond b x y ≡ x
cond_true b x y e = ap (λ v. cond v x y) e

cond_false : {T : Type 0} (b : Bool) (x y : T) → b ≡ false → cond b x y ≡ y
cond_false b x y e = ap (λ v. cond v x y) e

-- the tests by which a text is no unquoted one
pub record NoEnd (b : ℕ) (rest : List ℕ) : Type 0 where
  pub blank : is_blank b ≡ false
  pub double : (b == 34) ≡ false
  pub single : (b == 39) ≡ false
  pub semicolon : (b == 59) ≡ false
  pub opening : (b == 123) ≡ false
  pub closing : (b == 125) ≡ false
  pub line : (b == 47 && begins 47 rest) ≡ false
  pub block : (b == 47 && begins 42 rest) ≡ false
  pub end : (b == 42 && begins 47 rest) ≡ false

tests : (b : ℕ) (rest : List ℕ) → ends_word (b ∷ rest) ≡ false → NoEnd b rest
tests b rest h =
    let e8 : Bool = b == 42 && begins 47 rest in
    let e7 : Bool = b == 47 && (begins 47 rest || begins 42 rest) in
    let p1 : Bool = is_blank b || b == 34 in
    let p2 : Bool = p1 || b == 39 in
    let p3 : Bool = p2 || b == 59 in
    let p4 : Bool = p3 || b == 123 in
    let p5 : Bool = p4 || b == 125 in
    let h7 = or_false_first (p5 || e7) e8 h in
    let h5 = or_false_first p5 e7 h7 in
    let h4 = or_false_first p4 (b == 125) h5 in
    let h3 = or_false_first p3 (b == 123) h4 in
    let h2 = or_false_first p2 (b == 59) h3 in
    let h1 = or_false_first p1 (b == 39) h2 in
    let c = or_false_second p5 e7 h7 in
    record {
      blank = or_false_first (is_blank b) (b == 34) h1;
      double = or_false_second (is_blank b) (b == 34) h1;
      single = or_false_second p1 (b == 39) h2;
      semicolon = or_false_second p2 (b == 59) h3;
      opening = or_false_second p3 (b == 123) h4;
      closing = or_false_second p4 (b == 125) h5;
      line = and_or_first (b == 47) (begins 47 rest) (begins 42 rest) c;
      block = and_or_second (b == 47) (begins 47 rest) (begins 42 rest) c;
      end = or_false_second (p5 || e7) e8 h;
    }

pub untests : (b : ℕ) (rest : List ℕ) → NoEnd b rest → ends_word (b ∷ rest) ≡ false
untests b rest n =
    let e8 : Bool = b == 42 && begins 47 rest in
    let e7 : Bool = b == 47 && (begins 47 rest || begins 42 rest) in
    let p1 : Bool = is_blank b || b == 34 in
    let p2 : Bool = p1 || b == 39 in
    let p3 : Bool = p2 || b == 59 in
    let p4 : Bool = p3 || b == 123 in
    let p5 : Bool = p4 || b == 125 in
    or_false (p5 || e7) e8
    (or_false p5 e7
    (or_false p4 (b == 125)
    (or_false p3 (b == 123)
    (or_false p2 (b == 59) (or_false p1 (b == 39) (or_false (is_blank b) (b == 34) n.blank n.double) n.single) n.semicolon)
    n.opening)
    n.closing)
    (and_or (b == 47) (begins 47 rest) (begins 42 rest) n.line n.block))
    n.end

goes_to_word : (before : Before) (b : ℕ) (rest : List ℕ) → NoEnd b rest → first before (b ∷ rest) ≡ word_or_plus before (b ∷ rest)
goes_to_word before b rest n =
    cond_false (is_blank b) _ _ n.blank ∙ cond_false (b == 34) _ _ n.double ∙ cond_false (b == 39) _ _ n.single
    ∙ cond_false (b == 59) _ _ n.semicolon ∙ cond_false (b == 123) _ _ n.opening ∙ cond_false (b == 125) _ _ n.closing
    ∙ cond_false (b == 47 && begins 47 rest) _ _ n.line ∙ cond_false (b == 47 && begins 42 rest) _ _ n.block
    ∙ cond_false (b == 42 && begins 47 rest) _ _ n.end

quote_from_step : (b : ℕ) (t : List ℕ) (v : Bool) → up_to_quote (b == 92) t ++ from_quote (b == 92) t ≡ t → cond v [] (b ∷ up_to_quote (b == 92) t) ++ cond v (b ∷ t) (from_quote (b == 92) t) ≡ b ∷ t
quote_from_step b t true e = refl
quote_from_step b t false e = ap (λ l. b ∷ l) e

empty_cons : (b : ℕ) (w : List ℕ) → [] ≡ b ∷ w → ⊥
empty_cons b w e = cc

pub quote_from : (v : Bool) (t : List ℕ) → up_to_quote v t ++ from_quote v t ≡ t
quote_from v [] = refl
quote_from true (b ∷ t) = ap (λ l. b ∷ l) (quote_from false t)
quote_from false (b ∷ t) = quote_from_step b t (b == 34) (quote_from (b == 92) t)

from_quote_behind : (t rest : List ℕ) → up_to_quote false (t ++ rest) ≡ t → from_quote false (t ++ rest) ≡ rest
from_quote_behind t rest e = cancel t (from_quote false (t ++ rest)) rest (ap (λ l. l ++ from_quote false (t ++ rest)) (sym e) ∙ quote_from false (t ++ rest))

may_quote : (before : Before) (f : First) → before ≢ UnquotedWord → unless_unquoted before f ≡ f
may_quote Apart f n = refl
may_quote UnquotedWord f n = absurd (n refl)
may_quote QuotedText f n = refl

word_not_plus : (before : Before) (text : List ℕ) → (before ≡ QuotedText → begins 43 text ≡ false) → word_or_plus before text ≡ word text
word_not_plus Apart text h = refl
word_not_plus UnquotedWord text h = refl
word_not_plus QuotedText text h = cond_false (begins 43 text) _ _ (h refl)

word_case : (before : Before) (t more : List ℕ) → MayStand before (Word t) more → first before (t ++ more) ≡ Some (Word t, more)
word_case before [] more (some, run, join) = absurd (some refl)
word_case before (b ∷ w) more (some, run, join) =
    let s : Bool = ends_word (b ∷ (w ++ more)) in
    let no : s ≡ false =
    elim (cases_Bool s) [
      | inl e ↦ absurd (empty_cons b w (sym (ap (λ v. cond v [] (b ∷ until ends_word (w ++ more))) e) ∙ run))
      | inr e ↦ e
    ]
    in
    goes_to_word before b (w ++ more) (tests b (w ++ more) no)
    ∙ word_not_plus before (b ∷ (w ++ more)) join
    ∙ ap (λ (x : List ℕ × List ℕ). Some (Word x.0, x.1)) (λ i. (run i, from_behind ends_word (b ∷ w) more run i))

pub complete : (before : Before) (p : Piece) (more : List ℕ) → MayStand before p more → first before (slice p ++ more) ≡ Some (p, more)
complete before (Blank b) more h = cond_true (is_blank b) _ _ h
complete before (LineComment t) more h =
    ap (λ (x : List ℕ × List ℕ). Some (LineComment x.0, x.1)) (λ i. (h i, from_behind (begins 10) t more h i))
complete before (BlockComment t) more h =
    ap (λ (l : List ℕ). closed_by_two (BlockComment (until (begins_two 42 47) l)) (from (begins_two 42 47) l)) (append_assoc t (42 ∷ 47 ∷ []) more)
    ∙ ap (λ (x : List ℕ × List ℕ). closed_by_two (BlockComment x.0) x.1) (λ i. (h i, from_behind (begins_two 42 47) t (42 ∷ 47 ∷ more) h i))
complete before (Word t) more h = word_case before t more h
complete before (Single t) more h =
    may_quote before _ h.0
    ∙ ap (λ (l : List ℕ). closed_piece (Single (until (begins 39) l)) (from (begins 39) l)) (append_assoc t (39 ∷ []) more)
    ∙ ap (λ (x : List ℕ × List ℕ). closed_piece (Single x.0) x.1) (λ i. (h.1 i, from_behind (begins 39) t (39 ∷ more) h.1 i))
complete before (Double t) more h =
    may_quote before _ h.0
    ∙ ap (λ (l : List ℕ). closed_piece (Double (up_to_quote false l)) (from_quote false l)) (append_assoc t (34 ∷ []) more)
    ∙ ap (λ (x : List ℕ × List ℕ). closed_piece (Double x.0) x.1) (λ i. (h.1 i, from_quote_behind t (34 ∷ more) h.1 i))
complete before Semicolon more h = refl
complete before Open more h = refl
complete before Close more h = refl
complete before Plus more h = ap (λ b. first b (43 ∷ more)) h

-- what is first may stand there
abbrev pub IsFirst : Before → List ℕ → First → Type 0
IsFirst before text None = Unit {0}
IsFirst before text (Some x) = (text ≡ slice x.0 ++ x.1) × MayStand before x.0 x.1

cond_by : (P : First → Type 0) (c : Bool) (x y : First) → (c ≡ true → P x) → (c ≡ false → P y) → P (cond c x y)
cond_by P true x y f g = f refl
cond_by P false x y f g = g refl

begins_is : (b : ℕ) (t : List ℕ) → begins b t ≡ true → t ≡ b ∷ tail t
begins_is b [] h = absurd (false_true h)
begins_is b (c ∷ t) h = ap (λ x. x ∷ t) (eqb-true c b h)

begins_two_is : (a b : ℕ) (t : List ℕ) → begins_two a b t ≡ true → t ≡ a ∷ b ∷ tail (tail t)
begins_two_is a b [] h = absurd (false_true h)
begins_two_is a b (c ∷ t) h =
    ap (λ x. x ∷ t) (eqb-true c a (and_first (c == a) (begins b t) h)) ∙ ap (λ l. a ∷ l) (begins_is b t (and_second (c == a) (begins b t) h))

from_quote_is : (v : Bool) (t : List ℕ) → (from_quote v t ≡ []) ⊎ (from_quote v t ≡ 34 ∷ tail (from_quote v t))
from_quote_is v [] = inl refl
from_quote_is true (b ∷ t) = from_quote_is false t
from_quote_is false (b ∷ t) =
    let P : List ℕ → Type 0 = λ l. (l ≡ []) ⊎ (l ≡ 34 ∷ tail l) in
    elim (cases_Bool (b == 34)) [
      | inl e ↦ subst P (sym (cond_true (b == 34) (b ∷ t) (from_quote (b == 92) t) e)) (inr (ap (λ x. x ∷ t) (eqb-true b 34 e)))
      | inr e ↦ subst P (sym (cond_false (b == 34) (b ∷ t) (from_quote (b == 92) t) e)) (from_quote_is (b == 92) t)
    ]

-- a text closed by one byte
closed_may : (before : Before) (opener closer : ℕ) (make : List ℕ → Piece) (rest inner after : List ℕ) → ((t : List ℕ) → slice (make t) ≡ opener ∷ (t ++ closer ∷ [])) → inner ++ after ≡ rest → (after ≡ []) ⊎ (after ≡ closer ∷ tail after) → (inner ++ closer ∷ tail after ≡ rest → MayStand before (make inner) (tail after)) → IsFirst before (opener ∷ rest) (closed_piece (make inner) after)
closed_may before opener closer make rest inner [] is whole stop may = tt
closed_may before opener closer make rest inner (b ∷ after) is whole (inl e) may = absurd (empty_cons b after (sym e))
closed_may before opener closer make rest inner (b ∷ after) is whole (inr e) may =
    let w : inner ++ closer ∷ after ≡ rest = ap (λ l. inner ++ l) (sym e) ∙ whole in
    (ap (λ l. opener ∷ l) (sym w ∙ sym (append_assoc inner (closer ∷ []) after)) ∙ ap (λ l. l ++ after) (sym (is inner)), may w)

unless_may : (before : Before) (text : List ℕ) (f : First) → (before ≢ UnquotedWord → IsFirst before text f) → IsFirst before text (unless_unquoted before f)
unless_may Apart text f h = h (λ e. cc)
unless_may UnquotedWord text f h = tt
unless_may QuotedText text f h = h (λ e. cc)

stop_one : (b : ℕ) (t : List ℕ) → (from (begins b) t ≡ []) ⊎ (from (begins b) t ≡ b ∷ tail (from (begins b) t))
stop_one b t = elim (from_stops (begins b) t) [ inl e ↦ inl e | inr e ↦ inr (begins_is b (from (begins b) t) e) ]

stop_two : (a b : ℕ) (t : List ℕ) → (from (begins_two a b) t ≡ []) ⊎ (from (begins_two a b) t ≡ a ∷ b ∷ tail (tail (from (begins_two a b) t)))
stop_two a b t = elim (from_stops (begins_two a b) t) [ inl e ↦ inl e | inr e ↦ inr (begins_two_is a b (from (begins_two a b) t) e) ]

block_may : (before : Before) (rest inner after : List ℕ) → inner ++ after ≡ rest → (after ≡ []) ⊎ (after ≡ 42 ∷ 47 ∷ tail (tail after)) → until (begins_two 42 47) rest ≡ inner → IsFirst before (47 ∷ 42 ∷ rest) (closed_by_two (BlockComment inner) after)
block_may before rest inner [] whole stop u = tt
block_may before rest inner (b ∷ after) whole (inl e) u = absurd (empty_cons b after (sym e))
block_may before rest inner (b ∷ after) whole (inr e) u =
    let w : inner ++ 42 ∷ 47 ∷ tail after ≡ rest = ap (λ l. inner ++ l) (sym e) ∙ whole in
    (ap (λ l. 47 ∷ 42 ∷ l) (sym w ∙ sym (append_assoc inner (42 ∷ 47 ∷ []) (tail after))), ap (until (begins_two 42 47)) w ∙ u)

word_may : (before : Before) (b : ℕ) (rest : List ℕ) → NoEnd b rest → (before ≡ QuotedText → (b == 43) ≡ false) → IsFirst before (b ∷ rest) (word (b ∷ rest))
word_may before b rest n join =
    let no = untests b rest n in
    let u : until ends_word (b ∷ rest) ≡ b ∷ until ends_word rest = cond_false (ends_word (b ∷ rest)) [] (b ∷ until ends_word rest) no in (
      sym (until_from ends_word (b ∷ rest)),
      (
        λ e. empty_cons b (until ends_word rest) (sym e ∙ u),
        ap (until ends_word) (until_from ends_word (b ∷ rest)),
        λ q. ap (begins 43) u ∙ join q,
      ),
    )

last_may : (before : Before) (b : ℕ) (rest : List ℕ) → NoEnd b rest → IsFirst before (b ∷ rest) (word_or_plus before (b ∷ rest))
last_may Apart b rest n = word_may Apart b rest n (λ e. cc)
last_may UnquotedWord b rest n = word_may UnquotedWord b rest n (λ e. cc)
last_may QuotedText b rest n =
    cond_by (IsFirst QuotedText (b ∷ rest)) (b == 43) (Some (Plus, rest)) (word (b ∷ rest))
    (λ e. (ap (λ x. x ∷ rest) (eqb-true b 43 e), refl))
    (λ e. word_may QuotedText b rest n (λ _. e))

line_may : (before : Before) (b : ℕ) (rest : List ℕ) → (b == 47 && begins 47 rest) ≡ true → IsFirst before (b ∷ rest) (Some (LineComment (until (begins 10) (tail rest)), from (begins 10) (tail rest)))
line_may before b rest h =
    let w = until_from (begins 10) (tail rest) in (
      ap (λ x. x ∷ rest) (eqb-true b 47 (and_first (b == 47) (begins 47 rest) h))
          ∙ ap (λ l. 47 ∷ l) (begins_is 47 rest (and_second (b == 47) (begins 47 rest) h))
          ∙ ap (λ l. 47 ∷ 47 ∷ l) (sym w),
      ap (until (begins 10)) w,
    )

comment_may : (before : Before) (b : ℕ) (rest : List ℕ) → (b == 47 && begins 42 rest) ≡ true → IsFirst before (b ∷ rest) (closed_by_two (BlockComment (until (begins_two 42 47) (tail rest))) (from (begins_two 42 47) (tail rest)))
comment_may before b rest h =
    let f : First = closed_by_two (BlockComment (until (begins_two 42 47) (tail rest))) (from (begins_two 42 47) (tail rest)) in
    let Q : List ℕ → Type 0 = λ l. IsFirst before l f in
    let is : 47 ∷ 42 ∷ tail rest ≡ b ∷ rest =
    ap (λ l. 47 ∷ l) (sym (begins_is 42 rest (and_second (b == 47) (begins 42 rest) h)))
    ∙ ap (λ x. x ∷ rest) (sym (eqb-true b 47 (and_first (b == 47) (begins 42 rest) h))) in
    subst Q is (block_may before (tail rest) _ _ (until_from (begins_two 42 47) (tail rest)) (stop_two 42 47 (tail rest)) refl)

pub may_begin : (before : Before) (text : List ℕ) → IsFirst before text (first before text)
may_begin before [] = tt
may_begin before (b ∷ rest) =
    let P : First → Type 0 = IsFirst before (b ∷ rest) in
    let at : (c : ℕ) (f : First) → (b == c) ≡ true → IsFirst before (c ∷ rest) f → P f =
    λ c f e h. let Q : ℕ → Type 0 = λ x. IsFirst before (x ∷ rest) f in subst Q (sym (eqb-true b c e)) h in
    cond_by P (is_blank b) (Some (Blank b, rest)) _ (λ e. (refl, e)) (λ n0.
    cond_by P (b == 34) _ _
    (λ e. at 34 _ e (unless_may before (34 ∷ rest) _ (λ n. closed_may before 34 34 Double rest (up_to_quote false rest) (from_quote false rest) (λ t. refl) (quote_from false rest) (from_quote_is false rest) (λ w. (n, ap (up_to_quote false) w)))))
    (λ n1.
    cond_by P (b == 39) _ _
    (λ e. at 39 _ e (unless_may before (39 ∷ rest) _ (λ n. closed_may before 39 39 Single rest (until (begins 39) rest) (from (begins 39) rest) (λ t. refl) (until_from (begins 39) rest) (stop_one 39 rest) (λ w. (n, ap (until (begins 39)) w)))))
    (λ n2.
    cond_by P (b == 59) (Some (Semicolon, rest)) _ (λ e. at 59 (Some (Semicolon, rest)) e (refl, tt)) (λ n3.
    cond_by P (b == 123) (Some (Open, rest)) _ (λ e. at 123 (Some (Open, rest)) e (refl, tt)) (λ n4.
    cond_by P (b == 125) (Some (Close, rest)) _ (λ e. at 125 (Some (Close, rest)) e (refl, tt)) (λ n5.
    cond_by P (b == 47 && begins 47 rest) _ _ (λ e. line_may before b rest e) (λ n6.
    cond_by P (b == 47 && begins 42 rest) _ _ (λ e. comment_may before b rest e) (λ n7.
    cond_by P (b == 42 && begins 47 rest) None _ (λ e. tt) (λ n8.
    last_may before b rest (record { blank = n0; double = n1; single = n2; semicolon = n3; opening = n4; closing = n5; line = n6; block = n7; end = n8 }))))))))))
