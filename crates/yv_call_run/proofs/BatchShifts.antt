-- What is written of many documents to a writer that holds nothing.
use Rattle.std.proofs.Common.{◌≡◌, ℕ, List, [], ◌++◌, Option, None, Some, take, refl, ap}
use Rattle.yv_batch.specs.Answers.{Answers, all, front, last, first}
use Rattle.yv_batch.specs.AskedDocument.{AskedDocument}
use Rattle.yv_batch.specs.Batch.{batch_text, documents_text, total_text}
use Rattle.yv_batch.specs.declared.batch.BatchEnd.{BatchEnd}

module _ (text : AskedDocument → List ℕ) (total : ℕ → ℕ → List ℕ) (level : AskedDocument → ℕ)
    (how : BatchEnd) (unread rest : Option (List AskedDocument)) (before : List ℕ) where
  -- it is what was appended
  pub answers_from : (new : Option (List ℕ))
      → Answers text total level how unread rest (Some before) new
      → (output : List ℕ) × (new ≡ Some (before ++ output))
      × Answers text total level how unread rest (Some []) (Some output)
  answers_from None (all asked tally are a is h) = absurd a
  answers_from None (front asked next count are a h) = absurd a
  answers_from None (last asked count are a h) = absurd a
  answers_from None (first asked are a long h) = absurd a
  answers_from (Some after) (all asked tally are a is h) =
      (batch_text text total level asked, ap Some a, all asked tally are refl is h)
  answers_from (Some after) (front asked next count are a h) = (
    documents_text text asked ++ take count (text next),
    ap Some a,
    front asked next count are refl h,
  )
  answers_from (Some after) (last asked count are a h) = (
    documents_text text asked ++ take count (total_text total level asked),
    ap Some a,
    last asked count are refl h,
  )
  answers_from (Some after) (first asked are a long h) =
      (documents_text text asked, ap Some a, first asked are refl long h)
