-- How far files were read, one after the other; how, only the readers ask.
use Rattle.std.specs.Prelude.{◌≡◌, ◌≤◌, ℕ, List, length, take, IfSome, MatchOption, slice_get, Some}
use Rattle.std.specs.List.{AllZip}
use Rattle.yv_text_statement.specs.Tree.{Tree}
use Rattle.yv_text_statement.specs.declared.refusal.Refusal.{Refusal}
use Rattle.yv_source.specs.Answer.{IsBadFile, IsSpelled, IsRefused}
use Rattle.yv_source.specs.Legal.{IsLegalFile}
use Rattle.yv_source.specs.FileStatements.{in_file}
use Rattle.yv_base_streams.specs.Files.{File}
use Rattle.yv_source.specs.declared.texts.Texts.{Texts}

-- the file's bytes are a legal text, which is this one
abbrev pub IsText : File → List ℕ → Type 0
IsText f text = IsLegalFile f.bytes × (text ≡ f.bytes)

-- the bytes of the file of this number aren't legal text
pub record IsNoText (files : List File) (n : ℕ) (r : Refusal) : Type 0 where
  pub file : File
  pub at : slice_get files n ≡ Some file
  pub own : Refusal
  pub bad : IsBadFile file.bytes own
  pub placed : r ≡ in_file n own

-- the texts are those of the first files; the next one is none where there is a refusal, and else
-- there is no next one. A refusal is known of a file whose number 32 bits hold
pub record AreTexts (files : List File) (t : Texts) : Type 0 where
  pub each : AllZip IsText (take (length t.texts.items) files) t.texts.items
  pub rest : MatchOption t.bad (length t.texts.items ≡ length files)
      (IsNoText files (length t.texts.items))
  pub few : IfSome t.bad (λ r. length t.texts.items ≤ 4294967295)

-- the texts before this one spell statements, and this one spells none
pub record SpellsNone (texts : List (List ℕ)) (r : Refusal) : Type 0 where
  pub number : ℕ
  pub before : List Tree
  pub spelled : AllZip IsSpelled (take number texts) before
  pub text : List ℕ
  pub at : slice_get texts number ≡ Some text
  pub own : Refusal
  pub refused : IsRefused text own
  pub placed : r ≡ in_file number own
