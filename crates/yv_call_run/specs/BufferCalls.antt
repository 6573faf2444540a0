-- A call whose words, files and documents lie in buffers.
use Rattle.std.specs.Prelude.{◌≡◌, ◌⊎◌, ℕ, List, ◌++◌, ◌∷◌, [], codes}
use Rattle.yv_call.specs.Front.{front_of}
use Rattle.yv_call.specs.Parts.{AreParts, HaveNoParts}
use Rattle.yv_call_run.specs.Calls.{CallInput}
use Rattle.yv_call_run.specs.Fills.{Fills, fitted_length}

-- the buffers of words, files and documents, each with the places where its parts end
pub record CallBuffers : Type 0 where
  pub words : List ℕ
  pub word_ends : List ℕ
  pub files : List ℕ
  pub file_ends : List ℕ
  pub documents : List ℕ
  pub document_ends : List ℕ

-- these are the words, files and documents in the buffers
pub record HasInput (b : CallBuffers) (given : CallInput) : Type 0 where
  pub words : AreParts b.words b.word_ends given.words
  pub files : AreParts b.files b.file_ends given.files
  pub documents : AreParts b.documents b.document_ends given.documents

-- in one of the buffers ends fall, or lie past it
abbrev pub HasNoInput : CallBuffers → Type 0
HasNoInput b = HaveNoParts b.words b.word_ends ⊎ (HaveNoParts b.files b.file_ends
    ⊎ HaveNoParts b.documents b.document_ends)

-- what is said of that
abbrev pub bad_ends : List ℕ
bad_ends = codes "yangcheck: ends of parts fall, or are past the end of their buffer" ++ 10 ∷ []

-- What a call leaves in a buffer: the output and the note of what is in the buffers; or, where
-- there is no such thing, what is wrong; or that there was no memory to look.
pub data Leaves (b : CallBuffers) (status output_length note_length : ℕ) (old new : List ℕ)
    : Type 0 where
  fills : (given : CallInput) → HasInput b given
      → Fills given status output_length note_length old new
      → Leaves b status output_length note_length old new
  refuses : HasNoInput b → status ≡ 2 → output_length ≡ 0 → note_length ≡ fitted_length bad_ends
      → new ≡ front_of bad_ends old → Leaves b status output_length note_length old new
  stops : (note : List ℕ) → status ≡ 3 → output_length ≡ 0 → note_length ≡ fitted_length note
      → new ≡ front_of note old → Leaves b status output_length note_length old new
