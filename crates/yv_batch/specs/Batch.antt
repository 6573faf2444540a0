-- What is written of documents, and how good they are together.
use Rattle.std.specs.Prelude.{◌≡◌, ℕ, ◌==◌, max, List, [], ◌∷◌, ◌++◌, length, codes, decimal, flat_map}
use Rattle.std.specs.List.{count_by}
use Rattle.yv_batch.specs.AskedDocument.{AskedDocument}
use Rattle.yv_batch.specs.Level.{level_number}
use Rattle.yv_batch.specs.declared.batch.Tally.{Tally}

-- what is written of documents, one after the other
abbrev pub documents_text : (text : AskedDocument → List ℕ) → List AskedDocument → List ℕ
documents_text text asked = flat_map text asked

-- how many documents are valid
abbrev pub valid_count : (level : AskedDocument → ℕ) → List AskedDocument → ℕ
valid_count level asked = count_by (λ a. level a == 0) asked

-- the last line of an answer in text, which says how many of the documents are valid
abbrev pub total_line : (valid count : ℕ) → List ℕ
total_line valid count =
    codes "valid: " ++ (decimal valid ++ (codes " of " ++ (decimal count ++ 10 ∷ [])))

-- what is written after these documents
abbrev pub total_text : (total : (valid count : ℕ) → List ℕ) → (level : AskedDocument → ℕ)
    → List AskedDocument → List ℕ
total_text total level asked = total (valid_count level asked) (length asked)

-- all that is written of documents and after them
abbrev pub batch_text : (text : AskedDocument → List ℕ) → (total : (valid count : ℕ) → List ℕ)
    → (level : AskedDocument → ℕ) → List AskedDocument → List ℕ
batch_text text total level asked = documents_text text asked ++ total_text total level asked

-- the greatest of their levels, 0 for none
abbrev pub batch_level : (level : AskedDocument → ℕ) → List AskedDocument → ℕ
batch_level level [] = 0
batch_level level (a ∷ asked) = max (level a) (batch_level level asked)

-- how many documents were answered, how many of them are valid, and how good they are together
pub record IsTally (level : AskedDocument → ℕ) (asked : List AskedDocument) (t : Tally) : Type 0 where
  pub count : t.count ≡ length asked
  pub valid : t.valid ≡ valid_count level asked
  pub worst : level_number t.level ≡ batch_level level asked
