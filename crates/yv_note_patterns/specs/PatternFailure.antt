-- What is said of a pattern that the library of regular expressions doesn't build.
use Rattle.std.specs.Prelude.{◌≡◌, ℕ, List, [], ◌∷◌, ◌++◌, true, length, min, codes, Some, slice_get}
use Rattle.std.specs.Fmt.{decimal}
use Rattle.std.specs.List.{AllZip}
use Rattle.std.specs.Str.{bytes_eq}
use Rattle.yv_text_statement.specs.Tree.{Head, Tree, name_of}
use Rattle.yv_text_statement.specs.declared.refusal.Refusal.{Refusal}
use Rattle.yv_link_scopes.specs.Rows.{Row}
use Rattle.yv_link_scopes.specs.RowList.{rows_of}
use Rattle.yv_pattern.specs.Spells.{Translates}
use Rattle.yv_base_streams.specs.Files.{File}
use Rattle.yv_source.specs.FileStatements.{IsRead, IsUnreadAt}
use Rattle.yv_note_text.specs.Excerpt.{ShowsPlace, ascii_text}
use Rattle.yv_note_text.specs.Quotes.{in_quotes}

-- the text is a pattern of the dialect
abbrev pub IsOfDialect : List ℕ → Type 0
IsOfDialect text = (source : List ℕ) × Translates text source

-- one of these statements is this one, a `pattern` whose argument is of the dialect
pub record IsPatternAmong (rows : List Row) (r : Row) : Type 0 where
  pub number : ℕ
  pub at : slice_get rows number ≡ Some r
  pub keyword : bytes_eq r.head.keyword (codes "pattern") ≡ true
  pub dialect : IsOfDialect (name_of r.head)

-- the statement is no `pattern`, or its argument is not of the dialect
abbrev pub IsNoPattern : Row → Type 0
IsNoPattern r = bytes_eq r.head.keyword (codes "pattern") ≡ true → IsOfDialect (name_of r.head) → ⊥

-- none of these statements is a pattern of the dialect
abbrev pub AreNoPatterns : List Row → Type 0
AreNoPatterns rows = (number : ℕ) (r : Row) → slice_get rows number ≡ Some r → IsNoPattern r

-- FILE:LINE: pattern not built
abbrev pub unbuilt_line : File → ℕ → List ℕ
unbuilt_line f line =
    ascii_text f.name ++ (58 ∷ decimal line ++ codes ": pattern not built" ++ 10 ∷ [])

-- the text tells of a statement of this file: the file's name and the statement's line, the line of
-- the file that holds its place, and below that its argument in quotes, and what is said of it
pub record TellsOf (f : File) (h : Head) (text : List ℕ) : Type 0 where
  pub line : List ℕ
  pub said : List ℕ
  pub place : ShowsPlace f.bytes (min h.offset (length f.bytes)) line
  pub is : text ≡ unbuilt_line f h.line ++ (line ++ (in_quotes (name_of h) ++ said))

-- the text tells of a pattern among these statements of the files
pub record TellsAmong (files : List File) (rows : List Row) (text : List ℕ) : Type 0 where
  pub row : Row
  pub pattern : IsPatternAmong rows row
  pub file : File
  pub of_file : slice_get files row.file ≡ Some file
  pub tells : TellsOf file row.head text

-- the files spell statements, and the text tells of a pattern among them
pub record TellsPattern (files : List File) (text : List ℕ) : Type 0 where
  pub trees : List Tree
  pub read : AllZip IsRead files trees
  pub tells : TellsAmong files (rows_of trees) text

-- the files spell statements of which none is a pattern of the dialect, or they can't be read
pub data HasNoPattern (files : List File) : Type 0 where
  read : (trees : List Tree) → AllZip IsRead files trees → AreNoPatterns (rows_of trees)
      → HasNoPattern files
  unread : (q : Refusal) → IsUnreadAt files q → HasNoPattern files
