-- What is written of documents that are answered one after the other.
use Rattle.std.specs.Prelude.{◌≡◌, ◌^◌, ◌-◌, ℕ, List, [], ◌∷◌, ◌++◌, length, take}
use Rattle.std.specs.declared.option.Option.{Option}
use Rattle.std.specs.Io.KnownBytes.{Appends}
use Rattle.yv_batch.specs.AskedDocument.{AskedDocument}
use Rattle.yv_batch.specs.Batch.{IsTally, batch_text, documents_text, total_text}
use Rattle.yv_batch.specs.Supply.{AreAll, Split}
use Rattle.yv_batch.specs.declared.batch.BatchEnd.{BatchEnd}
use Rattle.yv_batch.specs.declared.batch.BatchEnd.TheVariants as ended
use Rattle.yv_batch.specs.declared.batch.Tally.{Tally}

-- All documents were answered in order, and what follows them was written; or the first were, and
-- of the next answer the first bytes were written; or all were, and of what follows them the first
-- bytes were written; or 2^64 - 1 documents were answered.
pub data Answers (text : AskedDocument → List ℕ) (total : (valid count : ℕ) → List ℕ)
    (level : AskedDocument → ℕ) (how : BatchEnd) (unread rest : Option (List AskedDocument))
    (old new : Option (List ℕ)) : Type 0 where
  all : (asked : List AskedDocument) (tally : Tally) → AreAll unread asked
      → Appends old new (batch_text text total level asked) → IsTally level asked tally
      → how ≡ ended.All tally → Answers text total level how unread rest old new
  front : (asked : List AskedDocument) (next : AskedDocument) (count : ℕ)
      → Split unread rest (asked ++ next ∷ [])
      → Appends old new (documents_text text asked ++ take count (text next))
      → how ≡ ended.WriteFault → Answers text total level how unread rest old new
  last : (asked : List AskedDocument) (count : ℕ) → AreAll unread asked
      → Appends old new (documents_text text asked ++ take count (total_text total level asked))
      → how ≡ ended.WriteFault → Answers text total level how unread rest old new
  first : (asked : List AskedDocument) → Split unread rest asked
      → Appends old new (documents_text text asked) → length asked ≡ 2 ^ 64 - 1
      → how ≡ ended.Endless → Answers text total level how unread rest old new
