-- The lines on the other files that are refused.
use Rattle.std.specs.Prelude.{◌≡◌, ℕ, ◌≤◌, List, [], ◌∷◌, ◌++◌, Some, length, codes, decimal}
use Rattle.yv_text_statement.specs.Codes.{name_of, phase_of}
use Rattle.yv_text_statement.specs.Order.{IsLeast}
use Rattle.yv_text_statement.specs.Tree.{Tree}
use Rattle.yv_text_statement.specs.declared.refusal.Refusal.{Refusal}
use Rattle.yv_text_grammar.specs.Refusals.{Bad}
use Rattle.yv_text_grammar.specs.declared.xpath.Xpath.TheVariants.{Refuse}
use Rattle.yv_base_positions.specs.Column.{column}
use Rattle.yv_base_streams.specs.Files.{File}
use Rattle.yv_source.specs.FileStatements.{IsRead, IsUnreadAt}
use Rattle.yv_note_lines.specs.Lines.{cleared_line, join_texts, visible_text}
use Rattle.yv_note_refusals.specs.Explanations.{Speaks}

-- how the line on a refusal of a file begins: the file's name, the line, the column in bytes, and
-- the code's name
abbrev pub front_text : File → Refusal → List ℕ
front_text f r =
    f.name ++ (codes ":" ++ (decimal r.line ++ (codes ":" ++ (decimal (column f.bytes r.offset)
    ++ (codes ": " ++ (name_of r.code ++ codes ": "))))))

-- a file alone is refused so: it can't be read, or the statement that it spells is not as the
-- tables of the language say
pub data IsRefusedAlone (f : File) (r : Refusal) : Type 0 where
  unread : IsUnreadAt (f ∷ []) r → IsRefusedAlone f r
  unfit : (t : Tree) → IsRead f t → IsLeast (Bad Refuse t) (Some r) → IsRefusedAlone f r

-- the line on a refusal of a file: its front, and what a terminal is given of a sentence
pub record IsLineOn (f : File) (r : Refusal) (line : List ℕ) : Type 0 where
  pub sentence : List ℕ
  pub speaks : Speaks (f ∷ []) r sentence
  pub is : line ≡ visible_text (front_text f r) ++ cleared_line sentence

-- the line on the refusal of a file, which is one of this phase
pub record IsOtherLine (phase : ℕ) (f : File) (line : List ℕ) : Type 0 where
  pub refusal : Refusal
  pub refused : IsRefusedAlone f refusal
  pub same : phase_of refusal.code ≡ phase
  pub told : IsLineOn f refusal line

-- lines on some of these files, in the order of the files
pub data LinesOn (phase : ℕ) : List File → List (List ℕ) → Type 0 where
  on_none : LinesOn phase [] []
  on_next : {f : File} {line : List ℕ} {fs : List File} {lines : List (List ℕ)}
      → IsOtherLine phase f line → LinesOn phase fs lines → LinesOn phase (f ∷ fs) (line ∷ lines)
  past : {f : File} {fs : List File} {lines : List (List ℕ)} → LinesOn phase fs lines
      → LinesOn phase (f ∷ fs) lines

-- the text is such lines, one after the other, and no more than 20
pub record AreOtherLines (phase : ℕ) (files : List File) (text : List ℕ) : Type 0 where
  pub lines : List (List ℕ)
  pub on : LinesOn phase files lines
  pub few : length lines ≤ 20
  pub is : text ≡ join_texts lines
