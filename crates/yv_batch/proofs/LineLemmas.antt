-- The documents of lines, one after the other.
use Rattle.std.proofs.Common.{◌≡◌, ◌≤◌, ◌<◌, ◌∙◌, ℕ, ◌+◌, ◌&&◌, Bool, true, false, cond, List, ◌∷◌, length, take, refl, sym, ap, subst, arith, leb-true, leb-false}
use Rattle.std.specs.Prelude.{nat_le}
use Rattle.std.specs.List.{list_all}
use Rattle.std.specs.declared.option.Option.{Option}
use Rattle.std.specs.declared.option.Option.TheVariants.{None, Some}
use Rattle.std.proofs.lemmas.List.{length-take-le, take_all}
use Rattle.yv_batch.specs.AskedDocument.{AskedDocument, asked_of, Read, ReadResult}
use Rattle.yv_batch.specs.Pieces.{pieces, TakesPiece}
use Rattle.yv_batch.specs.InnerPieces.{IsEnd}
use Rattle.yv_batch.specs.InnerLine.{HasBytes, IsRead}
use Rattle.yv_batch.specs.InnerLines.{IsLine}
use Rattle.yv_batch.specs.InnerSupply.{IsSame}
use Rattle.yv_batch.proofs.SupplyLemmas.{same_both, takes_after}
use Rattle.yv_batch.specs.LinesLeft.{lines_left}
use Rattle.yv_batch.specs.LineDocuments.{is_blank, is_blank_byte, line_asked, lines_asked}
use Rattle.yv_batch.specs.Supply.{Takes}
use Rattle.yv_batch.specs.declared.documents.Fetched.{Fetched}
use Rattle.yv_batch.specs.declared.lines.Line.{Line}
use Rattle.yv_batch.specs.declared.lines.Line.TheVariants as line

-- ---- whether a line is blank, by its first bytes

past : (n m : ℕ) → n < m → nat_le m n ≡ false
past n m lt = grind (arith, leb-false, leb-true)

short_or_long : (p : List ℕ → Bool) (n : ℕ) (xs : List ℕ) (b : Bool) → nat_le (length xs) n ≡ b → (nat_le (length (take (n + 1) xs)) n && p (take (n + 1) xs)) ≡ (nat_le (length xs) n && p xs)
short_or_long p n xs true e =
    let le : length xs ≤ n = leb-true (length xs) n e in
    ap (λ (l : List ℕ). nat_le (length l) n && p l) (take_all (n + 1) xs (omega (arith, le)))
short_or_long p n xs false e =
    let lt : n < length xs = omega (arith, leb-false (length xs) n e) in
    let long : length (take (n + 1) xs) ≡ n + 1 = length-take-le (n + 1) xs (omega (arith, lt)) in
    ap (λ (m : ℕ). nat_le m n && p (take (n + 1) xs)) long
    ∙ ap (λ (b : Bool). b && p (take (n + 1) xs)) (past n (n + 1) (omega arith))
    ∙ sym (ap (λ (b : Bool). b && p xs) e)

blank_at : (n : ℕ) (xs : List ℕ) → (nat_le (length (take (n + 1) xs)) n && list_all is_blank_byte (take (n + 1) xs)) ≡ (nat_le (length xs) n && list_all is_blank_byte xs)
blank_at n xs = short_or_long (list_all is_blank_byte) n xs (nat_le (length xs) n) refl

pub blank_front : (xs : List ℕ) → is_blank (take 16777217 xs) ≡ is_blank xs
blank_front xs = blank_at 16777216 xs

-- ---- the documents that are left

pub ended : (source : List ℕ) (n m : ℕ) (is_lost : Bool) (a b : Option (List ℕ)) → IsEnd a b → Takes (lines_left source n is_lost a) (lines_left source m is_lost b) None
ended source n m true a b h = tt
ended source n m false None b h = tt
ended source n m false (Some xs) None h = absurd h.1
ended source n m false (Some xs) (Some ys) h =
    (ap (λ (l : List ℕ). lines_asked source (n + 1) (pieces 10 l)) h.0, ap (λ (l : List ℕ). lines_asked source (m + 1) (pieces 10 l)) (h.1 ∙ h.0))

-- the document of a line
document_of : (source : List ℕ) (number : ℕ) (front line : List ℕ) (f : Fetched) → HasBytes number front f → front ≡ take 16777217 line → line_asked source number line ≡ asked_of source f
document_of source number front line f has first =
    ap (λ (l : Option ℕ). record { name = source; line = l; fetched = Read (take 16777217 line) }) (sym has.line)
    ∙ ap (λ (r : ReadResult). record { name = source; line = f.line; fetched = r }) (ap Read (sym first) ∙ sym has.bytes)

choice_of : (source : List ℕ) (number : ℕ) (line : List ℕ) (rest : List (List ℕ)) (b : Bool) → is_blank line ≡ b
    → lines_asked source number (line ∷ rest) ≡ cond b (lines_asked source (number + 1) rest) (line_asked source number line ∷ lines_asked source (number + 1) rest)
choice_of source number line rest b is = ap (λ (x : Bool). cond x (lines_asked source (number + 1) rest) (line_asked source number line ∷ lines_asked source (number + 1) rest)) is

pub line_read : (source : List ℕ) (n : ℕ) (is_lost : Bool) (a b : Option (List ℕ)) (front : List ℕ) (read : Line) → TakesPiece 10 16777217 a b front → IsRead (n + 1) front read
    → IsLine source (lines_left source n is_lost a) (lines_left source (n + 1) is_lost b) read
line_read source n is_lost a b front line.End takes read = absurd read
line_read source n true a b front line.Blank takes read = tt
line_read source n true a b front (line.Document f) takes read = tt
line_read source n false None b front line.Blank takes read = tt
line_read source n false None b front (line.Document f) takes read = tt
line_read source n false (Some xs) None front line.Blank takes read = absurd takes.passes
line_read source n false (Some xs) None front (line.Document f) takes read = absurd takes.passes
line_read source n false (Some xs) (Some ys) front line.Blank takes read =
    let is : is_blank takes.piece ≡ true = sym (blank_front takes.piece) ∙ ap is_blank (sym takes.first) ∙ read in
    ap (lines_asked source (n + 1)) takes.passes ∙ choice_of source (n + 1) takes.piece (pieces 10 ys) true is
line_read source n false (Some xs) (Some ys) front (line.Document f) takes read =
    let is : is_blank takes.piece ≡ false = sym (blank_front takes.piece) ∙ ap is_blank (sym takes.first) ∙ read.0 in
    ap (lines_asked source (n + 1)) takes.passes ∙ choice_of source (n + 1) takes.piece (pieces 10 ys) false is
    ∙ ap (λ (d : AskedDocument). d ∷ lines_asked source (n + 1 + 1) (pieces 10 ys)) (document_of source (n + 1) front takes.piece f read.1 takes.first)

-- one more of them
pub blank_more : (source : List ℕ) (a b c : Option (List AskedDocument)) (read : Line) → read ≡ line.Blank → IsSame a b → IsLine source b c read → IsSame a c
blank_more source a b c read is p q = same_both a b c p (subst (IsLine source b c) is q)

pub end_after : (source : List ℕ) (a b c : Option (List AskedDocument)) (read : Line) → read ≡ line.End → IsSame a b → IsLine source b c read → Takes a c None
end_after source a b c read is p q = takes_after a b c None p (subst (IsLine source b c) is q)

pub document_after : (source : List ℕ) (a b c : Option (List AskedDocument)) (read : Line) (f : Fetched) → read ≡ line.Document f → IsSame a b → IsLine source b c read → Takes a c (Some (asked_of source f))
document_after source a b c read f is p q = takes_after a b c (Some (asked_of source f)) p (subst (IsLine source b c) is q)
