-- What was written into a buffer.
use Rattle.std.proofs.Common.{◌≡◌, ◌∙◌, ℕ, List, [], ◌++◌, ap}
use Rattle.yv_call.proofs.FrontMarks.{initial_kept, mark_on, name_kept, text_kept}
use Rattle.yv_call.specs.Front.{mark}
use Rattle.yv_call.specs.FrontText.{initial_of, mark_of, name_of, text_of}
use Rattle.yv_call.specs.declared.front.TextFront.{TextFront}

-- the buffer of a text that was none is the same, and the text is what was written
pub written : (first last : TextFront) (output : List ℕ) → text_of first ≡ []
    → mark_of last ≡ mark_of first ++ output
    → (name_of last ≡ name_of first) × (initial_of last ≡ initial_of first)
    × (text_of last ≡ output)
written first last output none is =
    let same : mark (name_of last) (initial_of last) (text_of last)
    ≡ mark (name_of first) (initial_of first) output =
    is ∙ mark_on (name_of first) (initial_of first) (text_of first) output
    ∙ ap (λ t. mark (name_of first) (initial_of first) (t ++ output)) none in (
      name_kept (name_of first) (name_of last) (initial_of first) (initial_of last) (text_of last)
          output same,
      initial_kept (name_of first) (name_of last) (initial_of first) (initial_of last) (text_of last)
          output same,
      text_kept (name_of first) (name_of last) (initial_of first) (initial_of last) (text_of last)
          output same,
    )
