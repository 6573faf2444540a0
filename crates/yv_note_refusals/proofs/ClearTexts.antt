-- What is clear, and what is clear_text.
use Rattle.std.proofs.Common.{◌≡◌, ℕ, ◌==◌, ◌||◌, ◌&&◌, Bool, true, false, List, [], ◌∷◌, ◌++◌, Option, Some, None, IfSome, length, nat_lt, codes, if◌then◌else◌, refl, sym, ap, ◌∙◌}
use Rattle.std.specs.List.{find}
use Rattle.std.specs.Option.{option_and_then}
use Rattle.std.proofs.lemmas.List.{append_assoc, map-append}
use Rattle.yv_text_statement.specs.Codes.{name_of}
use Rattle.yv_text_statement.specs.declared.refusal.Code.{Code}
use Rattle.yv_text_statement.specs.declared.refusal.Code.TheVariants as code
use Rattle.yv_text_statement.specs.declared.refusal.Refusal.{Refusal}
use Rattle.yv_link_scopes.specs.Rows.{Row}
use Rattle.yv_link_scopes.specs.RowList.{rows_of}
use Rattle.yv_base_streams.specs.Files.{File}
use Rattle.yv_note_text.specs.Excerpt.{ascii_text}
use Rattle.yv_note_text.specs.Quotes.{Quotes, dots, front, in_quotes}
use Rattle.yv_note_text.proofs.QuotedWords.{grown, named_behind}
use Rattle.yv_note_text.specs.Clear.{is_clear, is_clear_byte, is_visible, visible_byte}
use Rattle.yv_note_text.proofs.ClearTexts.{both_clear, byte_visible, either}
use Rattle.yv_note_lines.proofs.ClearLines.{ascii_clear}
use Rattle.yv_note_refusals.specs.Clear.{clear_text, cleared_byte}
use Rattle.yv_note_refusals.specs.Explanations.{Speaks, names_row, names_syntax}
use Rattle.yv_note_refusals.specs.Subject.{is_at, subject}

first_of_either : (a b : Bool) → a ≡ true → (a || b) ≡ true
first_of_either true b e = refl
first_of_either false b e = absurd (cc)

both : (a b : Bool) → a ≡ true → b ≡ true → (a && b) ≡ true
both a b e f = rw e f

first_of_both : (a b : Bool) → (a && b) ≡ true → a ≡ true
first_of_both true b e = refl
first_of_both false b e = e

second_of_both : (a b : Bool) → (a && b) ≡ true → b ≡ true
second_of_both true b e = e
second_of_both false b e = absurd (cc)

-- ### single bytes

byte_cleared : (b : ℕ) → is_clear_byte (cleared_byte b) ≡ true
byte_cleared b = cases (b == 10) refl
  where
    cases : (v : Bool) → (b == 10) ≡ v → is_clear_byte (cleared_byte b) ≡ true
    cases true e = let same : cleared_byte b ≡ b = rw e refl in rw same (first_of_either (b == 10) (is_visible b) e)
    cases false e = let same : cleared_byte b ≡ visible_byte b = rw e refl in rw same (either (visible_byte b == 10) (is_visible (visible_byte b)) (byte_visible b))

byte_same : (b : ℕ) → is_clear_byte b ≡ true → cleared_byte b ≡ b
byte_same b e = cases (b == 10) refl (is_visible b) refl
  where
    cases : (v : Bool) → (b == 10) ≡ v → (w : Bool) → is_visible b ≡ w → cleared_byte b ≡ b
    cases true f w g = rw f refl
    cases false f true g = rw (f, g) refl
    cases false f false g =
        let unclear : is_clear_byte b ≡ false = rw (f, g) refl in
        let no : false ≡ true = sym unclear ∙ e in
        absurd (cc)

-- ### texts

text_cleared : (xs : List ℕ) → is_clear (clear_text xs) ≡ true
text_cleared [] = refl
text_cleared (b ∷ xs) = both (is_clear_byte (cleared_byte b)) (is_clear (clear_text xs)) (byte_cleared b) (text_cleared xs)

text_same : (xs : List ℕ) → is_clear xs ≡ true → clear_text xs ≡ xs
text_same [] e = refl
text_same (b ∷ xs) e =
    ap (λ (x : ℕ). x ∷ clear_text xs) (byte_same b (first_of_both (is_clear_byte b) (is_clear xs) e)) ∙ ap (λ (ys : List ℕ). b ∷ ys) (text_same xs (second_of_both (is_clear_byte b) (is_clear xs) e))

dots_clear : (name : List ℕ) → is_clear (dots name) ≡ true
dots_clear name = cases (nat_lt 72 (length name))
  where
    cases : (v : Bool) → is_clear (if v then codes ".." else []) ≡ true
    cases true = refl
    cases false = refl

quoted_clear : (name : List ℕ) → is_clear (in_quotes name) ≡ true
quoted_clear name = both_clear (ascii_text (front name)) (dots name ++ 34 ∷ []) (ascii_clear (front name)) (both_clear (dots name) (34 ∷ []) (dots_clear name) refl)

pub name_clear : (c : Code) → is_clear (name_of c) ≡ true
name_clear code.NotUtf8 = refl
name_clear code.BadCharacter = refl
name_clear code.BadToken = refl
name_clear code.BadEscape = refl
name_clear code.BadSyntax = refl
name_clear code.TooDeep = refl
name_clear code.TooLarge = refl
name_clear code.Unsupported = refl
name_clear code.UnknownStatement = refl
name_clear code.Cardinality = refl
name_clear code.BadArgument = refl
name_clear code.DuplicateModule = refl
name_clear code.MissingModule = refl
name_clear code.Revision = refl
name_clear code.ImportCycle = refl
name_clear code.UnknownPrefix = refl
name_clear code.Submodule = refl
name_clear code.UnknownFeature = refl
name_clear code.FeatureCycle = refl
name_clear code.UnknownIdentity = refl
name_clear code.IdentityCycle = refl
name_clear code.DuplicateName = refl
name_clear code.UnknownType = refl
name_clear code.TypeCycle = refl
name_clear code.UnknownGrouping = refl
name_clear code.GroupingCycle = refl
name_clear code.TooManyNodes = refl
name_clear code.RefineTarget = refl
name_clear code.BadRefine = refl
name_clear code.AugmentTarget = refl
name_clear code.BadAugment = refl
name_clear code.TreeTooDeep = refl
name_clear code.BadRestriction = refl
name_clear code.BadPattern = refl
name_clear code.BadNumbering = refl
name_clear code.BadType = refl
name_clear code.TooManyMembers = refl
name_clear code.DuplicateNode = refl
name_clear code.BadKey = refl
name_clear code.BadUnique = refl
name_clear code.BadConfig = refl
name_clear code.BadDefault = refl
name_clear code.BadMandatory = refl
name_clear code.BadPath = refl
name_clear code.PathCycle = refl
name_clear code.BadOperation = refl

-- what is said, with a sentence that is clear_text
pub said_clear : (line name sentence : List ℕ) → is_clear line ≡ true → is_clear name ≡ true → is_clear (line ++ (name ++ (codes ": " ++ (clear_text sentence ++ 10 ∷ [])))) ≡ true
said_clear line name sentence e f =
    both_clear line (name ++ (codes ": " ++ (clear_text sentence ++ 10 ∷ []))) e
    (both_clear name (codes ": " ++ (clear_text sentence ++ 10 ∷ [])) f (both_clear (clear_text sentence) (10 ∷ []) (text_cleared sentence) refl))

-- the parts of a text to which they were added one by one
pub joined : (line name sentence one two three four : List ℕ) → one ≡ line ++ name → two ≡ one ++ codes ": " → three ≡ two ++ clear_text sentence → four ≡ three ++ 10 ∷ []
    → four ≡ line ++ (name ++ (codes ": " ++ (clear_text sentence ++ 10 ∷ [])))
joined line name sentence one two three four e f g h =
    h ∙ ap (λ t. t ++ 10 ∷ []) (grown line name (codes ": ") (clear_text sentence) one two three e f g)
    ∙ append_assoc line (name ++ (codes ": " ++ clear_text sentence)) (10 ∷ [])
    ∙ ap (λ t. line ++ t) (append_assoc name (codes ": " ++ clear_text sentence) (10 ∷ []))

-- ### what names a word does so when it is clear_text

quotes_cleared : (word text : List ℕ) → Quotes word text → Quotes word (clear_text text)
quotes_cleared word text (before, after, is) = (
  clear_text before,
  clear_text after,
  ap clear_text is ∙ map-append cleared_byte before (in_quotes word ++ after) ∙ ap (λ (t : List ℕ). clear_text before ++ t)
      (map-append cleared_byte (in_quotes word) after ∙ ap (λ (t : List ℕ). t ++ clear_text after) (text_same (in_quotes word) (quoted_clear word))),
)

named_cleared : (word : Option (List ℕ)) (text : List ℕ) → IfSome word (λ w. Quotes w text) → IfSome word (λ w. Quotes w (clear_text text))
named_cleared None text named = tt
named_cleared (Some word) text named = quotes_cleared word text named

pub speaks_cleared : (files : List File) (r : Refusal) (old text : List ℕ) → Speaks files r text → Speaks files r (old ++ clear_text text)
speaks_cleared files r old text (names_row ts read names) =
    let word : Option (List ℕ) = option_and_then (λ (row : Row). subject r.code row.head) (find (is_at r) (rows_of ts)) in
    names_row ts read (named_behind word old (clear_text text) (named_cleared word text names))
speaks_cleared files r old text (names_syntax q at) = names_syntax q at
