-- Only private clauses cite this: how far the answers have come.
use Rattle.std.specs.Prelude.{◌≡◌, ◌⊎◌, ℕ, List, Bool, false, take}
use Rattle.std.specs.declared.option.Option.{Option}
use Rattle.std.specs.Io.KnownBytes.{Appends}
use Rattle.yv_batch.specs.AskedDocument.{AskedDocument, NoRoom}
use Rattle.yv_batch.specs.Batch.{IsTally, documents_text}
use Rattle.yv_batch.specs.Level.{level_number}
use Rattle.yv_batch.specs.Supply.{Split}
use Rattle.yv_batch.specs.declared.batch.Tally.{Tally}
use Rattle.yv_batch.specs.declared.level.Level.{Level}

-- the document that is answered where memory was refused for this one
abbrev pub without_room : AskedDocument → AskedDocument
without_room a = record a { fetched = NoRoom }

-- a document that is answered in place of one that was asked for: the same, or memory was refused
abbrev pub IsSeen : (asked seen : AskedDocument) → Type 0
IsSeen asked seen = (seen ≡ asked) ⊎ (seen ≡ without_room asked)

-- a document was answered
pub record IsAnswer (text : AskedDocument → List ℕ) (level : AskedDocument → ℕ)
    (asked : AskedDocument) (old new : Option (List ℕ)) (l : Level) : Type 0 where
  pub seen : AskedDocument
  pub is : IsSeen asked seen
  pub good : level_number l ≡ level seen
  pub written : Appends old new (text seen)

-- the first bytes of its answer were written
pub record BeginsAnswer (text : AskedDocument → List ℕ) (asked : AskedDocument)
    (old new : Option (List ℕ)) : Type 0 where
  pub seen : AskedDocument
  pub is : IsSeen asked seen
  pub count : ℕ
  pub written : Appends old new (take count (text seen))

-- these were fetched and answered
pub record IsAnswered (text : AskedDocument → List ℕ) (level : AskedDocument → ℕ)
    (has_failed : Bool) (tally : Tally) (unread rest : Option (List AskedDocument))
    (old new : Option (List ℕ)) : Type 0 where
  pub asked : List AskedDocument
  pub works : has_failed ≡ false
  pub split : Split unread rest asked
  pub written : Appends old new (documents_text text asked)
  pub counts : IsTally level asked tally
