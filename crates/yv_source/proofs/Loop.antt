-- The reader's loop, over plain values.
use Rattle.std.proofs.Common.{◌≡◌, ℕ, ◌+◌, ◌<◌, ◌≤◌, ◌==◌, ◌&&◌, Bool, true, false, cond, List, [], ◌∷◌, ◌++◌, length, take, drop, Option, Some, None, refl, sym, ◌∙◌, ap, subst, arith, append_assoc, length-append, length-drop, Result, Ok, Err}
use Rattle.std.specs.Prelude.{IsUtf8, IsCharBoundary, IfSome, reverse}
use Rattle.std.proofs.Math.Seq.{take-append_seam, drop-append_seam}
use Rattle.std.proofs.lemmas.List.{take-append-drop, length-take}
use Rattle.std.proofs.lemmas.Str.{IsCharBoundary-past_char, IsUtf8-drop}
use Rattle.std.proofs.lemmas.Bool.{eqb-true}
use lib.Utf8.{encode}
use Rattle.yv_text_statement.specs.Tree.{Tree}
use Rattle.yv_text_statement.specs.declared.refusal.Code.{Code}
use Rattle.yv_text_statement.specs.declared.refusal.Code.TheVariants as code
use Rattle.yv_text_statement.specs.declared.refusal.Stop.{Stop}
use Rattle.yv_text_statement.specs.declared.refusal.Stop.TheVariants.{Fault}
use Rattle.yv_source.specs.Pieces.{Piece, Blank, LineComment, BlockComment, Word, Single, Double, Semicolon, Open, Close, Plus, slice, Before, Apart, MayStand}
use Rattle.yv_source.specs.Place.{mark_len, line_of, columns, column_of}
use Rattle.yv_source.specs.Outcome.{Outcome, ComesTo, BadToken, BadSyntax, TooDeep, BadEscape, Statement}
use Rattle.yv_source.specs.Answer.{refusal_in, IsRefusalOf}
use Rattle.yv_source.specs.Inner.Place.{Place, place_of, place_at}
use Rattle.yv_source.specs.Inner.Machine.{Step, Next, Wrong, Deep}
use Rattle.yv_source.specs.Inner.Scan.{before_of, ahead_in}
use Rattle.yv_source.specs.Inner.Turn.{opener, inner, length_of, past_found, turn}
use Rattle.yv_source.specs.Inner.Pairs.{bad_on, bad_found}
use Rattle.yv_source.specs.Inner.Steps.{Gives}
use Rattle.yv_source.specs.Inner.End.{Comes, ended_in, refusal_of_halt, IsChecked, IsEnd}
use Rattle.yv_source.specs.declared.machine.Phase.{Phase}
use Rattle.yv_source.specs.declared.machine.Phase.TheVariants.{Between}
use Rattle.yv_source.specs.declared.machine.Halt.{Halt}
use Rattle.yv_source.specs.declared.machine.Halt.TheVariants as halt
use Rattle.yv_source.specs.declared.scan.Before.{Before as Left}
use Rattle.yv_source.specs.declared.scan.Before.TheVariants as left
use Rattle.yv_source.specs.declared.scan.Ahead.{Ahead}
use Rattle.yv_source.specs.declared.scan.Ahead.TheVariants as ahead
use Rattle.yv_source.specs.declared.scan.FoundPiece.{FoundPiece}
use Rattle.yv_source.proofs.Keyword.{and_first, and_second}
use Rattle.yv_source.proofs.Meaning.{MeansAhead, means}
use Rattle.yv_source.proofs.ReadProgress.{place_after, ReadsTo, spelling, spelled_by, HasMark}
use Rattle.yv_source.proofs.Turns.{Looks, looks}
use Rattle.yv_source.proofs.Outcomes as outcomes

pub not_empty : (before : Before) (p : Piece) (more : List ℕ) → MayStand before p more → 0 < length (slice p)
not_empty before (Word []) more m = absurd (m.0 refl)
not_empty before (Word (b ∷ t)) more m = omega arith
not_empty before (Blank b) more m = omega arith
not_empty before (LineComment t) more m = omega arith
not_empty before (BlockComment t) more m = omega arith
not_empty before (Single t) more m = omega arith
not_empty before (Double t) more m = omega arith
not_empty before Semicolon more m = omega arith
not_empty before Open more m = omega arith
not_empty before Close more m = omega arith
not_empty before Plus more m = omega arith

-- how far a text was read, behind its mark
pub record Reads (text : List ℕ) (place : Place) (bad : Option ℕ) (left : Left) (stack : List Tree) (phase : Phase) : Type 0 where
  pub reads : ReadsTo (take (mark_len text) text) (drop (mark_len text) text) place bad left stack phase
  pub bound : IfSome bad (λ n. n ≤ length text)

module _ {text bytes : List ℕ} {place : Place} {bad : Option ℕ} {left : Left} {stack : List Tree} {phase : Phase} (same : bytes ≡ text) (so_far : Reads text place bad left stack phase) where
  abbrev front : List ℕ
  front = take (mark_len text) text

  abbrev body : List ℕ
  body = drop (mark_len text) text

  abbrev r : ReadsTo front body place bad left stack phase
  r = so_far.reads

  abbrev done : List ℕ
  done = front ++ spelling r.pieces

  halves : front ++ body ≡ text
  halves = take-append-drop (mark_len text) text

  spelled : body ≡ spelling r.pieces ++ r.rest
  spelled = spelled_by Apart body r.pieces r.rest r.cut

  whole : text ≡ done ++ r.rest
  whole = sym halves ∙ ap (λ l. front ++ l) spelled ∙ sym (append_assoc front (spelling r.pieces) r.rest)

  rest_is : drop place.at text ≡ r.rest
  rest_is = ap (λ n. drop n text) r.at_is ∙ ap (drop (length done)) whole ∙ drop-append_seam done r.rest

  front_is : take place.at text ≡ done
  front_is = ap (λ n. take n text) r.at_is ∙ ap (take (length done)) whole ∙ take-append_seam done r.rest

  place_is : place ≡ place_of done
  place_is =
      let column_is : place.column ≡ column_of done = r.column_is ∙ sym (r.marked (spelling r.pieces) r.rest spelled) in
      λ i. record { at = r.at_is i; line = r.line_is i; column = column_is i }

  -- the place is that of its offset
  pub settled : (n : ℕ) → place.at ≡ n → Reads text (place_at text n) bad left stack phase
  settled n e =
      let front_at : done ≡ take n text = sym front_is ∙ ap (λ k. take k text) e in
      let line_at : place.line ≡ line_of (take n text) = ap (λ (p : Place). p.line) place_is ∙ ap line_of front_at in
      let column_at : place.column ≡ column_of (take n text) = ap (λ (p : Place). p.column) place_is ∙ ap column_of front_at in
      let is : place ≡ place_at text n = λ i. record { at = e i; line = line_at i; column = column_at i } in
      let P : Place → Type 0 = λ p. Reads text p bad left stack phase in
      subst P is so_far

  pub within : place.at ≤ length bytes
  within = let w = ap length whole in let e = ap length same in omega (arith, r.at_is, w, e, length-append done r.rest)

  pub bad_bound : IfSome bad (λ n. n ≤ length bytes)
  bad_bound = let P : List ℕ → Type 0 = λ l. IfSome bad (λ n. n ≤ length l) in subst P (sym same) so_far.bound

  comes_fault : (k : Code) (stop : Stop) (o : Outcome) → stop ≡ Fault (refusal_in bytes k place.at) → ComesTo front body o → IsRefusalOf text o (refusal_in text k place.at) → Comes text (Err stop)
  comes_fault k stop o e m is =
      let P : Stop → Type 0 = λ x. Comes text (Err x) in
      subst P (sym (e ∙ ap (λ l. Fault (refusal_in l k place.at)) same)) (o, m, is)

  -- what is answered at the end
  comes_whole : r.rest ≡ [] → (u : Tree) → ended_in phase stack ≡ Some u → (answer : Result Tree Stop) → IsChecked text bad u answer → Comes text answer
  comes_whole e u is (Ok t) (as_it_is, none) =
      let P : Tree → Type 0 = λ x. ComesTo front body (Statement x) in
      subst P (sym as_it_is) (outcomes.ends_here front body place bad left stack phase r u e is none)
  comes_whole e u is (Err stop) (new, n, some, as_it_is) =
      let P : Stop → Type 0 = λ x. Comes text (Err x) in
      subst P (sym as_it_is) (BadEscape n, outcomes.escapes_here front body place bad left stack phase r u n e is new some, refl)

  comes_by : r.rest ≡ [] → (o : Option Tree) → ended_in phase stack ≡ o → (answer : Result Tree Stop) → IsEnd text bad place.at o answer → Comes text answer
  comes_by e None is answer as_it_is =
      let P : Result Tree Stop → Type 0 = λ x. Comes text x in
      subst P (sym as_it_is) (BadSyntax place.at, outcomes.stops_here front body place bad left stack phase r e is, refl)
  comes_by e (Some u) is answer ends = comes_whole e u is answer ends

  -- what the scanner says of what is left
  module _ {a : Ahead} (scanned : a ≡ ahead_in (before_of left) (drop place.at bytes)) where
    meant : (b : Ahead) → a ≡ b → MeansAhead (before_of left) r.rest b
    meant b is =
        let P : Ahead → Type 0 = λ x. MeansAhead (before_of left) r.rest x in
        let rest_by : drop place.at bytes ≡ r.rest = ap (drop place.at) same ∙ rest_is in
        subst P (sym (ap (ahead_in (before_of left)) rest_by) ∙ sym scanned ∙ is) (means (before_of left) r.rest)

    pub comes_end : (answer : Result Tree Stop) → a ≡ ahead.End → IsEnd bytes bad place.at (ended_in phase stack) answer → Comes text answer
    comes_end answer is ends =
        let P : List ℕ → Type 0 = λ l. IsEnd l bad place.at (ended_in phase stack) answer in
        comes_by (meant ahead.End is) (ended_in phase stack) refl answer (subst P same ends)

    pub comes_nothing : (stop : Stop) → a ≡ ahead.Nothing → stop ≡ Fault (refusal_in bytes code.BadToken place.at) → Comes text (Err stop)
    comes_nothing stop is e =
        comes_fault code.BadToken stop (BadToken place.at) e (outcomes.uncut_here front body place bad left stack phase r (meant ahead.Nothing is)) refl

    module _ {f : FoundPiece} (is : a ≡ ahead.Piece f) where
      sees : Looks (front ++ body) done r.rest place (before_of left) stack phase f
      sees = looks (front ++ body) done r.rest place (before_of left) stack phase (halves ∙ whole) r.utf8 place_is f (meant (ahead.Piece f) is)

      pub lower_bound : IsCharBoundary text (place.at + opener f)
      lower_bound = let P : List ℕ → Type 0 = λ l. IsCharBoundary l (place.at + opener f) in subst P halves sees.lower

      pub upper_bound : IsCharBoundary text (place.at + opener f + inner f)
      upper_bound = let P : List ℕ → Type 0 = λ l. IsCharBoundary l (place.at + opener f + inner f) in subst P halves sees.upper

      pub fits_in : place.at + length_of f ≤ length bytes
      fits_in =
          let w = ap length whole in
          let e = ap length same in
          let b = ap length sees.begins.is in
          omega (arith, r.at_is, w, e, length-append done r.rest, b, length-append (slice sees.piece) sees.begins.more, sees.len)

      pub goes_on : 0 < length_of f
      goes_on = let s = not_empty (before_of left) sees.piece sees.begins.more sees.begins.may in omega (arith, s, sees.len)

      pub passed_at : (place' : Place) → place' ≡ place_after place (take (length_of f) (drop place.at bytes)) → place'.at ≡ place.at + length_of f
      passed_at place' e =
          let p : place'.at ≡ place.at + length (take (length_of f) (drop place.at bytes)) = ap (λ (x : Place). x.at) e in
          let l = length-take (length_of f) (drop place.at bytes) in
          let d = length-drop place.at bytes in
          omega (arith, p, l, d, fits_in)

      turned : (s : Step) → turn text f stack phase place ≡ s → turn (front ++ body) f stack phase place ≡ s
      turned s e = ap (λ l. turn l f stack phase place) halves ∙ e

      -- the token isn't taken
      pub comes_halt : (h : Halt) (stop : Stop) (stack' : List Tree) → Gives (Err h) stack' (turn text f stack phase place) → stop ≡ refusal_of_halt h bytes place.at → Comes text (Err stop)
      comes_halt halt.Wrong stop stack' g e =
          comes_fault code.BadSyntax stop (BadSyntax place.at) e (outcomes.wrong_here front body place bad left stack phase r f sees (turned Wrong g)) refl
      comes_halt halt.Deep stop stack' g e =
          comes_fault code.TooDeep stop (TooDeep place.at) e (outcomes.deep_here front body place bad left stack phase r f sees (turned Deep g)) refl
      comes_halt halt.NoMemory stop stack' g e = let P : Stop → Type 0 = λ x. Comes text (Err x) in subst P (sym e) tt

      -- it is taken
      pub read_on : (place' : Place) (bad' : Option ℕ) (left' : Left) (stack' : List Tree) (phase' : Phase) → place' ≡ place_after place (take (length_of f) (drop place.at bytes)) → bad' ≡ bad_found bad place.at f bytes → IfSome bad' (λ n. n ≤ length bytes) → before_of left' ≡ past_found (before_of left) f → turn text f stack phase place ≡ Next stack' phase' → Reads text place' bad' left' stack' phase'
      read_on place' bad' left' stack' phase' pe be bound le e =
          let slice_is : take (length_of f) (drop place.at bytes) ≡ slice sees.piece =
          ap (λ x. take x (drop place.at bytes)) sees.len ∙ ap (take (length (slice sees.piece))) (ap (drop place.at) same ∙ rest_is ∙ sees.begins.is) ∙ take-append_seam (slice sees.piece) sees.begins.more
          in
          let place_to : place' ≡ place_after place (slice sees.piece) = pe ∙ ap (place_after place) slice_is in
          let bad_to : bad' ≡ bad_on bad (length done) sees.piece = be ∙ ap (bad_found bad place.at f) (same ∙ sym halves) ∙ sees.bad bad in
          let P : Place × Option ℕ → Type 0 = λ x. ReadsTo front body x.0 x.1 left' stack' phase' in
          let B : List ℕ → Type 0 = λ l. IfSome bad' (λ n. n ≤ length l) in
          record {
            reads = subst P (λ i. (sym place_to i, sym bad_to i)) (outcomes.on front body place bad left stack phase r f sees left' stack' phase' le (turned (Next stack' phase') e));
            bound = subst B same bound;
          }

-- the token is taken, by offsets
pub read_to : {text bytes : List ℕ} {at : ℕ} {bad : Option ℕ} {left : Left} {stack : List Tree} {phase : Phase} → bytes ≡ text → Reads text (place_at text at) bad left stack phase → {a : Ahead} → a ≡ ahead_in (before_of left) (drop at bytes) → {f : FoundPiece} → a ≡ ahead.Piece f → (end : ℕ) (bad' : Option ℕ) (left' : Left) (stack' : List Tree) (phase' : Phase) → end ≡ at + length_of f → bad' ≡ bad_found bad at f bytes → IfSome bad' (λ n. n ≤ length bytes) → before_of left' ≡ past_found (before_of left) f → turn text f stack phase (place_at text at) ≡ Next stack' phase' → Reads text (place_at text end) bad' left' stack' phase'
read_to {text} {bytes} {at} {bad} {left} {stack} {phase} same so_far {a} scanned {f} is end bad' left' stack' phase' end_is be bound le e =
    let past : Place = place_after (place_at text at) (take (length_of f) (drop at bytes)) in
    let all = read_on same so_far scanned is past bad' left' stack' phase' refl be bound le e in
    settled same all end (passed_at same so_far scanned is past refl ∙ sym end_is)

-- the start
abbrev pub first_place : ℕ → Place
first_place at = record { at = at; line = 1; column = 0 }

no_mark : (s : List ℕ) → mark_len s ≡ 0 → column_of s ≡ columns 0 s
no_mark s e = ap (λ n. columns 0 (drop n s)) e

few : (body : List ℕ) → length body < 3 → HasMark [] body
few body l [] rest is = refl
few body l (a ∷ []) rest is = refl
few body l (a ∷ b ∷ []) rest is = refl
few body l (a ∷ b ∷ c ∷ s) rest is = let e = ap length is in absurd (omega (arith, e, l, length-append s rest))

unmarked : (a b c : ℕ) (more : List ℕ) → (a == 239 && (b == 187 && c == 191)) ≡ false → HasMark [] (a ∷ b ∷ c ∷ more)
unmarked a b c more e [] rest is = refl
unmarked a b c more e (x ∷ []) rest is = refl
unmarked a b c more e (x ∷ y ∷ []) rest is = refl
unmarked a b c more e (x ∷ y ∷ z ∷ s) rest is =
    let x_is : x ≡ a = cc in
    let y_is : y ≡ b = cc in
    let z_is : z ≡ c = cc in
    no_mark (x ∷ y ∷ z ∷ s)
    (ap (λ (p : ℕ × (ℕ × ℕ)). cond (p.0 == 239 && (p.1.0 == 187 && p.1.1 == 191)) 3 0) (λ i. (x_is i, (y_is i, z_is i))) ∙ ap (λ v. cond v 3 0) e)

marked : (a b c : ℕ) (rest : List ℕ) (v : Bool) → (a == 239 && (b == 187 && c == 191)) ≡ v → IsUtf8 (a ∷ b ∷ c ∷ rest) → ReadsTo (take (cond v 3 0) (a ∷ b ∷ c ∷ rest)) (drop (cond v 3 0) (a ∷ b ∷ c ∷ rest)) (first_place (cond v 3 0)) None left.Apart [] Between
unfolding encode
marked a b c rest false e u = record { pieces = []; rest = a ∷ b ∷ c ∷ rest; cut = refl; at_is = refl; line_is = refl; column_is = refl; marked = unmarked a b c rest e; bad_is = tt; before = refl; stands = record { runs = refl }; utf8 = u }
marked a b c rest true e u =
    let ea = eqb-true a 239 (and_first (a == 239) (b == 187 && c == 191) e) in
    let e1 = and_second (a == 239) (b == 187 && c == 191) e in
    let eb = eqb-true b 187 (and_first (b == 187) (c == 191) e1) in
    let ec = eqb-true c 191 (and_second (b == 187) (c == 191) e1) in
    let P : ℕ × (ℕ × ℕ) → Type 0 = λ x. ReadsTo (x.0 ∷ x.1.0 ∷ x.1.1 ∷ []) rest (first_place 3) None left.Apart [] Between in
    let bs : List ℕ = a ∷ b ∷ c ∷ rest in
    let is : bs ≡ 239 ∷ 187 ∷ 191 ∷ rest = λ i. ea i ∷ eb i ∷ ec i ∷ rest in
    let v : IsUtf8 rest = IsUtf8-drop bs 3 u (IsCharBoundary-past_char bs rest 0 65279 (omega arith) u is) in
    subst P (λ i. (sym ea i, (sym eb i, sym ec i)))
    (record { pieces = []; rest = rest; cut = refl; at_is = refl; line_is = refl; column_is = refl; marked = (λ s r x. refl); bad_is = tt; before = refl; stands = record { runs = refl }; utf8 = v })

begins_text : (text : List ℕ) → IsUtf8 text → ReadsTo (take (mark_len text) text) (drop (mark_len text) text) (first_place (mark_len text)) None left.Apart [] Between
begins_text [] u = record { pieces = []; rest = []; cut = refl; at_is = refl; line_is = refl; column_is = refl; marked = few [] (omega arith); bad_is = tt; before = refl; stands = record { runs = refl }; utf8 = u }
begins_text (a ∷ []) u = record { pieces = []; rest = a ∷ []; cut = refl; at_is = refl; line_is = refl; column_is = refl; marked = few (a ∷ []) (omega arith); bad_is = tt; before = refl; stands = record { runs = refl }; utf8 = u }
begins_text (a ∷ b ∷ []) u = record { pieces = []; rest = a ∷ b ∷ []; cut = refl; at_is = refl; line_is = refl; column_is = refl; marked = few (a ∷ b ∷ []) (omega arith); bad_is = tt; before = refl; stands = record { runs = refl }; utf8 = u }
begins_text (a ∷ b ∷ c ∷ rest) u = marked a b c rest (a == 239 && (b == 187 && c == 191)) refl u

pub starts : (text : List ℕ) (start : ℕ) (stack : List Tree) → IsUtf8 text → start ≡ mark_len text → stack ≡ [] → Reads text (place_at text start) None left.Apart (reverse stack) Between
starts text start stack u start_is stack_is =
    let P : ℕ × List Tree → Type 0 = λ x. Reads text (first_place x.0) None left.Apart (reverse x.1) Between in
    let first = subst P (λ i. (sym start_is i, sym stack_is i)) (record { reads = begins_text text u; bound = tt }) in
    settled refl first start refl
