-- What one turn of the reader does.
use Rattle.std.proofs.Common.{◌≡◌, ℕ, ◌+◌, ◌<◌, Bool, true, List, [], ◌∷◌, ◌++◌, length, take, drop, Option, Some, refl, sym, ◌∙◌, ap, subst, inl, inr, ◌⊎◌, arith, append_assoc, length-append, lit<}
use Rattle.std.specs.Prelude.{IsUtf8, IsCharBoundary}
use Rattle.std.proofs.Math.Seq.{take-append_seam, drop-append_seam}
use Rattle.std.proofs.lemmas.Str.{IsCharBoundary-at_seam}
use Rattle.yv_text_statement.specs.Tree.{Tree}
use Rattle.yv_source.specs.Pieces.{Piece, Blank, LineComment, BlockComment, Word, Single, Double, Semicolon, Open, Close, Plus, slice, until, begins, ends_word, Before, past, MayStand, token}
use Rattle.yv_source.specs.Inner.Machine.{Next, step_at, run_tokens}
use Rattle.yv_source.specs.Inner.Place.{Place, place_of}
use Rattle.yv_source.specs.Inner.Turn.{opener, inner, length_of, past_found, token_at, maybe_step, turn}
use Rattle.yv_source.specs.Inner.Pairs.{bad_found, bad_on}
use Rattle.yv_source.specs.declared.machine.Phase.{Phase}
use Rattle.yv_source.specs.declared.scan.FoundPiece.{FoundPiece}
use Rattle.yv_source.specs.declared.scan.FoundPiece.TheVariants as found
use Rattle.yv_source.proofs.FirstPiece.{from_stops, from_behind}
use Rattle.yv_source.proofs.Meaning.{cons_empty, Means, Begins, AsciiHead, seam_utf8, tail_utf8, blank_ascii, word_head, is_ascii}

-- what a stop says of what is left
stop_of : (stop : List ℕ → Bool) (t more : List ℕ) → until stop (t ++ more) ≡ t → (more ≡ []) ⊎ (stop more ≡ true)
stop_of stop t more e =
    let P : List ℕ → Type 0 = λ l. (l ≡ []) ⊎ (stop l ≡ true) in
    subst P (from_behind stop t more e) (from_stops stop (t ++ more))

line_head : (more : List ℕ) → (more ≡ []) ⊎ (begins 10 more ≡ true) → AsciiHead more
line_head [] h = tt
line_head (b ∷ more) (inl e) = absurd (cons_empty b more e)
line_head (b ∷ more) (inr e) = is_ascii b 10 (lit< tt) e

closed_utf8 : (t more : List ℕ) (q : ℕ) → q < 128 → IsUtf8 (q ∷ ((t ++ q ∷ []) ++ more)) → IsUtf8 (t ++ q ∷ more) × IsUtf8 (q ∷ more)
closed_utf8 t more q h u =
    let P : List ℕ → Type 0 = λ l. IsUtf8 l in
    let v = subst P (append_assoc t (q ∷ []) more) (tail_utf8 q ((t ++ q ∷ []) ++ more) h u) in
    (v, seam_utf8 t (q ∷ more) h v)

-- what is left behind a piece is text
utf8_behind : (before : Before) (p : Piece) (more : List ℕ) → MayStand before p more → IsUtf8 (slice p ++ more) → IsUtf8 more
utf8_behind before (Blank b) more m u = tail_utf8 b more (blank_ascii b m) u
utf8_behind before (LineComment t) more m u =
    seam_utf8 t more (line_head more (stop_of (begins 10) t more m)) (tail_utf8 47 (t ++ more) (lit< tt) (tail_utf8 47 (47 ∷ (t ++ more)) (lit< tt) u))
utf8_behind before (BlockComment t) more m u =
    let P : List ℕ → Type 0 = λ l. IsUtf8 l in
    let v = tail_utf8 42 ((t ++ 42 ∷ 47 ∷ []) ++ more) (lit< tt) (tail_utf8 47 (42 ∷ ((t ++ 42 ∷ 47 ∷ []) ++ more)) (lit< tt) u) in
    let w = seam_utf8 t (42 ∷ 47 ∷ more) (lit< tt) (subst P (append_assoc t (42 ∷ 47 ∷ []) more) v) in
    tail_utf8 47 more (lit< tt) (tail_utf8 42 (47 ∷ more) (lit< tt) w)
utf8_behind before (Word t) more m u = seam_utf8 t more (word_head more (stop_of ends_word t more m.1)) u
utf8_behind before (Single t) more m u = tail_utf8 39 more (lit< tt) (closed_utf8 t more 39 (lit< tt) u).1
utf8_behind before (Double t) more m u = tail_utf8 34 more (lit< tt) (closed_utf8 t more 34 (lit< tt) u).1
utf8_behind before Semicolon more m u = tail_utf8 59 more (lit< tt) u
utf8_behind before Open more m u = tail_utf8 123 more (lit< tt) u
utf8_behind before Close more m u = tail_utf8 125 more (lit< tt) u
utf8_behind before Plus more m u = tail_utf8 43 more (lit< tt) u

-- what a turn meets
pub record Looks (text done rest : List ℕ) (place : Place) (before : Before) (stack : List Tree) (phase : Phase) (f : FoundPiece) : Type 0 where
  pub piece : Piece
  pub begins : Begins before rest piece
  pub len : length_of f ≡ length (slice piece)
  pub next : past_found before f ≡ past before piece
  pub does : turn text f stack phase place ≡ run_tokens 64 (Next stack phase) (token done piece)
  pub kind : (token done piece ≡ []) ⊎ (token done piece ≡ record { front = done; piece = piece } ∷ [])
  pub lower : IsCharBoundary text (place.at + opener f)
  pub upper : IsCharBoundary text (place.at + opener f + inner f)
  pub utf8 : IsUtf8 begins.more
  pub bad : (b : Option ℕ) → bad_found b place.at f text ≡ bad_on b (length done) piece

module _ (text done rest : List ℕ) (place : Place) (before : Before) (stack : List Tree) (phase : Phase) (whole : text ≡ done ++ rest) (u : IsUtf8 rest) (place_is : place ≡ place_of done) where
  at_is : place.at ≡ length done
  at_is = ap (λ (p : Place). p.at) place_is

  bound : (xs ys : List ℕ) (n : ℕ) → text ≡ xs ++ ys → IsUtf8 ys → n ≡ length xs → IsCharBoundary text n
  bound xs ys n e v is =
      let P : ℕ → Type 0 = λ k. IsCharBoundary text k in
      subst P (sym is) (IsCharBoundary-at_seam text xs ys e v)

  here : IsCharBoundary text (place.at + 0)
  here = bound done rest (place.at + 0) whole u (omega (arith, at_is))

  here_too : IsCharBoundary text (place.at + 0 + 0)
  here_too = bound done rest (place.at + 0 + 0) whole u (omega (arith, at_is))

  rest_utf8 : (p : Piece) (b : Begins before rest p) → IsUtf8 b.more
  rest_utf8 p b =
      let P : List ℕ → Type 0 = λ l. IsUtf8 l in
      utf8_behind before p b.more b.may (subst P b.is u)

  -- the text inside a piece
  part : (xs t ys : List ℕ) (n k : ℕ) → text ≡ xs ++ (t ++ ys) → n ≡ length xs → k ≡ length t → take k (drop n text) ≡ t
  part xs t ys n k e is len =
      ap (λ m. take k (drop m text)) is ∙ ap (λ l. take k (drop (length xs) l)) e ∙ ap (take k) (drop-append_seam xs (t ++ ys))
      ∙ ap (λ m. take m (t ++ ys)) len ∙ take-append_seam t ys

  placed : (p : Piece) → step_at 64 stack phase place p ≡ step_at 64 stack phase (place_of done) p
  placed p = ap (λ (x : Place). step_at 64 stack phase x p) place_is

  gap : (f : FoundPiece) (p : Piece) (b : Begins before rest p) → length_of f ≡ length (slice p) → past_found before f ≡ past before p → turn text f stack phase place ≡ Next stack phase → token done p ≡ [] → opener f ≡ 0 → inner f ≡ 0 → ((b : Option ℕ) → bad_found b place.at f text ≡ bad_on b (length done) p) → Looks text done rest place before stack phase f
  gap f p b len next does none o n bads =
      let P : ℕ × ℕ → Type 0 = λ x. IsCharBoundary text (place.at + x.0 + x.1) in
      let Q : ℕ → Type 0 = λ x. IsCharBoundary text (place.at + x) in
      record {
        piece = p;
        begins = b;
        len = len;
        next = next;
        does = does ∙ sym (ap (run_tokens 64 (Next stack phase)) none);
        kind = inl none;
        lower = subst Q (sym o) here;
        upper = subst P (λ i. (sym o i, sym n i)) here_too;
        utf8 = rest_utf8 p b;
        bad = bads;
      }

  mark : (f : FoundPiece) (p : Piece) (b : Begins before rest p) → length_of f ≡ length (slice p) → past_found before f ≡ past before p → turn text f stack phase place ≡ step_at 64 stack phase place p → token done p ≡ record { front = done; piece = p } ∷ [] → IsCharBoundary text (place.at + opener f) → IsCharBoundary text (place.at + opener f + inner f) → ((b : Option ℕ) → bad_found b place.at f text ≡ bad_on b (length done) p) → Looks text done rest place before stack phase f
  mark f p b len next does one lower upper bads =
      record {
        piece = p;
        begins = b;
        len = len;
        next = next;
        does = does ∙ placed p ∙ sym (ap (run_tokens 64 (Next stack phase)) one);
        kind = inr one;
        lower = lower;
        upper = upper;
        utf8 = rest_utf8 p b;
        bad = bads;
      }

  word_looks : (n : ℕ) (t : List ℕ) → n ≡ length t → Begins before rest (Word t) → Looks text done rest place before stack phase (found.Word n)
  word_looks n t e b =
      let w : text ≡ done ++ (t ++ b.more) = whole ∙ ap (λ l. done ++ l) b.is in
      let w' : text ≡ (done ++ t) ++ b.more = w ∙ sym (append_assoc done t b.more) in
      mark (found.Word n) (Word t) b e refl
      (ap (λ (l : List ℕ). step_at 64 stack phase place (Word l)) (part done t b.more (place.at + 0) n w (omega (arith, at_is)) e))
      refl here (bound (done ++ t) b.more (place.at + 0 + n) w' (rest_utf8 (Word t) b) (omega (arith, at_is, e, length-append done t))) (λ x. refl)

  quoted_looks : (f : FoundPiece) (make : List ℕ → Piece) (q n : ℕ) (t : List ℕ) (b : Begins before rest (make t)) → q < 128 → n ≡ length t → slice (make t) ≡ q ∷ (t ++ q ∷ []) → length_of f ≡ n + 2 → past_found before f ≡ past before (make t) → ((l : List ℕ) → token_at f l ≡ Some (make l)) → opener f ≡ 1 → inner f ≡ n → token done (make t) ≡ record { front = done; piece = make t } ∷ [] → ((x : Option ℕ) → bad_found x place.at f text ≡ bad_on x place.at (make (take (inner f) (drop (place.at + opener f) text)))) → Looks text done rest place before stack phase f
  quoted_looks f make q n t b small e is len next tok o i one bads =
      let P : List ℕ → Type 0 = λ l. IsUtf8 l in
      let r : rest ≡ q ∷ ((t ++ q ∷ []) ++ b.more) = b.is ∙ ap (λ l. l ++ b.more) is in
      let us = closed_utf8 t b.more q small (subst P r u) in
      let w : text ≡ (done ++ q ∷ []) ++ (t ++ q ∷ b.more) =
      whole ∙ ap (λ l. done ++ l) (r ∙ ap (λ l. q ∷ l) (append_assoc t (q ∷ []) b.more)) ∙ sym (append_assoc done (q ∷ []) (t ++ q ∷ b.more))
      in
      let w' : text ≡ ((done ++ q ∷ []) ++ t) ++ q ∷ b.more = w ∙ sym (append_assoc (done ++ q ∷ []) t (q ∷ b.more)) in
      let l1 = length-append done (q ∷ []) in
      let l2 = length-append (done ++ q ∷ []) t in
      let text_is : take (inner f) (drop (place.at + opener f) text) ≡ t = part (done ++ q ∷ []) t (q ∷ b.more) (place.at + opener f) (inner f) w (omega (arith, at_is, o, l1)) (i ∙ e) in
      let l3 = length-append t (q ∷ []) in
      let l4 = ap length is in
      mark f (make t) b (omega (arith, len, e, l3, l4)) next
      (ap (λ x. maybe_step x stack phase place) (tok (take (inner f) (drop (place.at + opener f) text)) ∙ ap (λ l. Some (make l)) text_is))
      one
      (bound (done ++ q ∷ []) (t ++ q ∷ b.more) (place.at + opener f) w us.0 (omega (arith, at_is, o, l1)))
      (bound ((done ++ q ∷ []) ++ t) (q ∷ b.more) (place.at + opener f + inner f) w' us.1 (omega (arith, at_is, o, i, e, l1, l2)))
      (λ x. bads x ∙ ap (λ l. bad_on x place.at (make l)) text_is ∙ ap (λ k. bad_on x k (make t)) at_is)

  pub looks : (f : FoundPiece) → Means before rest f → Looks text done rest place before stack phase f
  looks found.Blank (x, b) = gap found.Blank (Blank x) b refl refl refl refl refl refl (λ x. refl)
  looks (found.LineComment n) (t, e, b) = gap (found.LineComment n) (LineComment t) b (omega (arith, e)) refl refl refl refl refl (λ x. refl)
  looks (found.BlockComment n) (t, e, b) =
      gap (found.BlockComment n) (BlockComment t) b (omega (arith, e, length-append t (42 ∷ 47 ∷ []))) refl refl refl refl refl (λ x. refl)
  looks (found.Word n) (t, e, b) = word_looks n t e b
  looks (found.Single n) (t, e, b) = quoted_looks (found.Single n) Single 39 n t b (lit< tt) e refl refl refl (λ l. refl) refl refl refl (λ x. refl)
  looks (found.Double n) (t, e, b) = quoted_looks (found.Double n) Double 34 n t b (lit< tt) e refl refl refl (λ l. refl) refl refl refl (λ x. refl)
  looks found.Semicolon b = mark found.Semicolon Semicolon b refl refl refl refl here here_too (λ x. refl)
  looks found.Open b = mark found.Open Open b refl refl refl refl here here_too (λ x. refl)
  looks found.Close b = mark found.Close Close b refl refl refl refl here here_too (λ x. refl)
  looks found.Plus b = mark found.Plus Plus b refl refl refl refl here here_too (λ x. refl)
