-- How far a text was read, and one piece more.
use Rattle.std.proofs.Common.{◌≡◌, ℕ, ◌+◌, ◌*◌, ◌≤◌, ◌<◌, cond, ◌==◌, List, [], ◌∷◌, ◌++◌, length, take, drop, get_or, Option, Some, refl, sym, ◌∙◌, ap, subst, arith, append_assoc, length-append, fold, add-zero}
use Rattle.std.specs.Prelude.{count_by, IsUtf8}
use Rattle.std.proofs.lemmas.Bool.{eqb-true}
use Rattle.std.proofs.lemmas.List.{drop_more, take_more, take-append-drop}
use Rattle.std.proofs.lemmas.List.Sums.{count_by-le-length}
use Rattle.memchr.specs.Find.{IsLastByte, is_byte}
use Rattle.yv_text_statement.specs.Tree.{Tree}
use Rattle.yv_source.specs.Pieces.{Piece, slice, Token, Before, Apart, past, MayStand, Cuts, behind, token, tokens}
use Rattle.yv_source.specs.Inner.Pairs.{bad_on}
use Rattle.yv_source.proofs.Pairs.{IsFirstBad, bad_goes_on}
use Rattle.yv_source.specs.Place.{columns, column_of, column_past}
use Rattle.yv_source.specs.Inner.Place.{Place}
use Rattle.yv_source.specs.Inner.Machine.{Next, run_tokens}
use Rattle.yv_source.specs.Place.{line_of}
use Rattle.yv_source.specs.Inner.Scan.{before_of}
use Rattle.yv_source.specs.declared.machine.Phase.{Phase}
use Rattle.yv_source.specs.declared.scan.Before.{Before as Left}
use Rattle.yv_source.proofs.Accepts.{append_nil}
use Rattle.yv_source.proofs.Verdict.{Stands, fresh}
use Rattle.yv_source.proofs.Depth.{run-append}

-- the bytes of pieces
abbrev pub spelling : List Piece → List ℕ
spelling [] = []
spelling (p ∷ ps) = slice p ++ spelling ps

spelling-append : (ps : List Piece) (p : Piece) → spelling (ps ++ p ∷ []) ≡ spelling ps ++ slice p
spelling-append [] p = append_nil (slice p)
spelling-append (q ∷ ps) p = ap (λ l. slice q ++ l) (spelling-append ps p) ∙ sym (append_assoc (slice q) (spelling ps) (slice p))

pub behind-append : (b : Before) (ps : List Piece) (p : Piece) → behind b (ps ++ p ∷ []) ≡ past (behind b ps) p
behind-append b [] p = refl
behind-append b (q ∷ ps) p = behind-append (past b q) ps p

pub tokens-append : (front : List ℕ) (ps qs : List Piece) → tokens front (ps ++ qs) ≡ tokens front ps ++ tokens (front ++ spelling ps) qs
tokens-append front [] qs = ap (λ l. tokens l qs) (sym (append_nil front))
tokens-append front (p ∷ ps) qs =
    ap (λ l. token front p ++ l) (tokens-append (front ++ slice p) ps qs ∙ ap (λ l. tokens (front ++ slice p) ps ++ tokens l qs) (append_assoc front (slice p) (spelling ps)))
    ∙ sym (append_assoc (token front p) (tokens (front ++ slice p) ps) (tokens (front ++ (slice p ++ spelling ps)) qs))

pub tokens_one : (front : List ℕ) (p : Piece) → tokens front (p ∷ []) ≡ token front p
tokens_one front p = append_nil (token front p)

pub cuts_on : (b : Before) (text : List ℕ) (ps : List Piece) (rest : List ℕ) (p : Piece) (more : List ℕ) → Cuts b text ps rest → rest ≡ slice p ++ more → MayStand (behind b ps) p more → Cuts b text (ps ++ p ∷ []) more
cuts_on b text [] rest p more c e m = (more, c ∙ e, m, refl)
cuts_on b text (q ∷ ps) rest p more (left, is, may, others) e m = (left, is, may, cuts_on (past b q) left ps rest p more others e m)

pub spelled_by : (b : Before) (text : List ℕ) (ps : List Piece) (rest : List ℕ) → Cuts b text ps rest → text ≡ spelling ps ++ rest
spelled_by b text [] rest c = c
spelled_by b text (p ∷ ps) rest (more, is, may, others) = is ∙ ap (λ l. slice p ++ l) (spelled_by (past b p) more ps rest others) ∙ sym (append_assoc (slice p) (spelling ps) rest)

-- the place behind these bytes, which stand at another
abbrev pub place_after : Place → List ℕ → Place
place_after p bytes = record { at = p.at + length bytes; line = p.line + count_by (λ b. b == 10) bytes; column = columns p.column bytes }

-- a byte order mark in front isn't counted, and there is none but there
abbrev pub HasMark : List ℕ → List ℕ → Type 0
HasMark front body = (s rest : List ℕ) → body ≡ s ++ rest → column_of (front ++ s) ≡ columns 0 s

columns-append : (n : ℕ) (xs ys : List ℕ) → columns n (xs ++ ys) ≡ columns (columns n xs) ys
columns-append n [] ys = refl
columns-append n (x ∷ xs) ys = columns-append (column_past n x) xs ys

pub columns_most : (n : ℕ) (xs : List ℕ) → columns n xs ≤ n + 8 * length xs
columns_most n [] = omega arith
columns_most n (x ∷ xs) = let h = columns_most (column_past n x) xs in let k : column_past n x ≤ n + 8 = grind arith in omega (arith, h, k)

-- how far a body was read, behind a front
pub record ReadsTo (front body : List ℕ) (place : Place) (bad : Option ℕ) (left : Left) (stack : List Tree) (phase : Phase) : Type 0 where
  pub pieces : List Piece
  pub rest : List ℕ
  pub cut : Cuts Apart body pieces rest
  pub at_is : place.at ≡ length (front ++ spelling pieces)
  pub line_is : place.line ≡ line_of (front ++ spelling pieces)
  pub column_is : place.column ≡ columns 0 (spelling pieces)
  pub marked : HasMark front body
  pub bad_is : IsFirstBad bad (tokens front pieces)
  pub before : behind Apart pieces ≡ before_of left
  pub stands : Stands (tokens front pieces) stack phase
  pub utf8 : IsUtf8 rest

abbrev add_lf : ℕ → ℕ → ℕ
add_lf a x = a + cond (x == 10) 1 0

fold_from : (a : ℕ) (xs : List ℕ) → fold add_lf a xs ≡ a + fold add_lf 0 xs
fold_from a [] = sym (add-zero a)
fold_from a (x ∷ xs) = omega (arith, fold_from (add_lf a x) xs, fold_from (add_lf 0 x) xs)

fold-append : (a : ℕ) (xs ys : List ℕ) → fold add_lf a (xs ++ ys) ≡ fold add_lf (fold add_lf a xs) ys
fold-append a [] ys = refl
fold-append a (x ∷ xs) ys = fold-append (add_lf a x) xs ys

pub count-append : (xs ys : List ℕ) → count_by (λ b. b == 10) (xs ++ ys) ≡ count_by (λ b. b == 10) xs + count_by (λ b. b == 10) ys
count-append xs ys = fold-append 0 xs ys ∙ fold_from (fold add_lf 0 xs) ys

pub count-cons : (x : ℕ) (xs : List ℕ) → count_by (λ b. b == 10) (x ∷ xs) ≡ cond (x == 10) 1 0 + count_by (λ b. b == 10) xs
count-cons x xs = omega (arith, fold_from (add_lf 0 x) xs)

pub advances : (front body : List ℕ) (place : Place) (bad : Option ℕ) (left : Left) (stack : List Tree) (phase : Phase) (r : ReadsTo front body place bad left stack phase) (p : Piece) (more : List ℕ) (left' : Left) (stack' : List Tree) (phase' : Phase) → r.rest ≡ slice p ++ more → MayStand (before_of left) p more → IsUtf8 more → past (before_of left) p ≡ before_of left' → run_tokens 64 (Next stack phase) (token (front ++ spelling r.pieces) p) ≡ Next stack' phase' → ReadsTo front body (place_after place (slice p)) (bad_on bad (length (front ++ spelling r.pieces)) p) left' stack' phase'
advances front body place bad left stack phase r p more left' stack' phase' is may u left_is runs =
    let done : List ℕ = front ++ spelling r.pieces in
    let grown : front ++ spelling (r.pieces ++ p ∷ []) ≡ done ++ slice p =
    ap (λ l. front ++ l) (spelling-append r.pieces p) ∙ sym (append_assoc front (spelling r.pieces) (slice p))
    in
    let M : Before → Type 0 = λ b. MayStand b p more in
    let may' : MayStand (behind Apart r.pieces) p more = subst M (sym r.before) may in
    let ts : tokens front (r.pieces ++ p ∷ []) ≡ tokens front r.pieces ++ token done p =
    tokens-append front r.pieces (p ∷ []) ∙ ap (λ l. tokens front r.pieces ++ l) (tokens_one done p)
    in
    record {
      pieces = r.pieces ++ p ∷ [];
      rest = more;
      cut = cuts_on Apart body r.pieces r.rest p more r.cut is may';
      at_is = omega (arith, r.at_is, ap length grown, length-append done (slice p));
      line_is = omega (arith, r.line_is, ap (count_by (λ b. b == 10)) grown, count-append done (slice p));
      column_is = ap (λ n. columns n (slice p)) r.column_is ∙ sym (columns-append 0 (spelling r.pieces) (slice p)) ∙ ap (columns 0) (sym (spelling-append r.pieces p));
      marked = r.marked;
      bad_is = (let B : List Token → Type 0 = λ l. IsFirstBad (bad_on bad (length done) p) l in subst B (sym ts) (bad_goes_on bad (tokens front r.pieces) done p r.bad_is));
      before = behind-append Apart r.pieces p ∙ ap (λ b. past b p) r.before ∙ left_is;
      stands = record { runs = ap (run_tokens 64 fresh) ts ∙ run-append 64 fresh (tokens front r.pieces) (token done p) ∙ ap (λ s. run_tokens 64 s (token done p)) r.stands.runs ∙ runs };
      utf8 = u;
    }

-- a line feed begins the count anew
pub columns_last : (xs : List ℕ) (at start m : ℕ) (r : Option ℕ) → r ≡ Some at → IsLastByte (is_byte 10) xs r → m ≡ columns 0 (drop (at + 1) xs) → m ≡ columns start xs
columns_last xs at start m r is h e =
    let P : Option ℕ → Type 0 = λ x. IsLastByte (is_byte 10) xs x in
    let last = subst P is h in
    let feed : get_or xs at 0 ≡ 10 = eqb-true (get_or xs at 0) 10 last.1 in
    e
    ∙ ap (λ b. columns (column_past (columns start (take at xs)) b) (drop (at + 1) xs)) (sym feed)
    ∙ sym (columns-append start (take at xs) (get_or xs at 0 ∷ drop (at + 1) xs))
    ∙ ap (λ l. columns start (take at xs ++ l)) (sym (drop_more xs at 0 last.0.high))
    ∙ ap (columns start) (take-append-drop at xs)

-- one more byte
pub passed_more : (p : Place) (xs : List ℕ) (i : ℕ) → i < length xs → place_after (place_after p (take i xs)) (get_or xs i 0 ∷ []) ≡ place_after p (take (i + 1) xs)
passed_more p xs i lt =
    let t : List ℕ = take i xs in
    let x : ℕ = get_or xs i 0 in
    let more : take (i + 1) xs ≡ t ++ x ∷ [] = take_more xs i 0 lt in
    let a : p.at + length t + length (x ∷ []) ≡ p.at + length (t ++ x ∷ []) = omega (arith, length-append t (x ∷ [])) in
    let l : p.line + count_by (λ b. b == 10) t + count_by (λ b. b == 10) (x ∷ []) ≡ p.line + count_by (λ b. b == 10) (t ++ x ∷ []) = omega (arith, count-append t (x ∷ [])) in
    let is : place_after (place_after p t) (x ∷ []) ≡ place_after p (t ++ x ∷ []) = λ i. record { at = a i; line = l i; column = sym (columns-append p.column t (x ∷ [])) i } in
    is ∙ ap (place_after p) (sym more)

pub passed_most : (p q : Place) (x : ℕ) → q ≡ place_after p (x ∷ []) → (q.line ≤ p.line + 1) × (q.column ≤ p.column + 8)
passed_most p q x e =
    let l : q.line ≡ p.line + count_by (λ b. b == 10) (x ∷ []) = ap (λ (r : Place). r.line) e in
    let c : q.column ≡ columns p.column (x ∷ []) = ap (λ (r : Place). r.column) e in
    (omega (arith, l, count_by-le-length (λ b. b == 10) (x ∷ [])), omega (arith, c, columns_most p.column (x ∷ [])))
