-- Texts of files, each with the file whose prefixes it uses (RFC 7950, section 6.4.1).
use Rattle.std.specs.Prelude.{ℕ, List, [], ◌∷◌}
use Rattle.std.specs.Rc.{rc_str_bytes}
use Rattle.yv_text_statement.specs.declared.written_text.WrittenText.{WrittenText}

-- a text, and the number of the file in which it is written: prefixes in it are those of this file
pub record TextInFile : Type 0 where
  pub text : List ℕ
  pub file : ℕ

-- the text in a file that a value of the code is
abbrev pub written_of : WrittenText → TextInFile
written_of w = record { text = rc_str_bytes w.text; file = w.file }

-- the second list, where the first is empty
abbrev pub or_list : {A : Type 0} → List A → List A → List A
or_list [] ys = ys
or_list (x ∷ xs) ys = x ∷ xs
