-- Defaults that are kept where there are any.
use Rattle.std.proofs.Common.{◌≡◌, ℕ, List, Option, Some, None, refl, ap, ◌∙◌}
use Rattle.std.specs.List.{slice_get}
use Rattle.std.specs.Option.{option_and_then, option_map}
use Rattle.yv_base_tables.specs.Slots as slots
use Rattle.yv_base_tables.specs.Sparse.{at, item_at}
use Rattle.yv_base_tables.specs.declared.sparse.Sparse.{Sparse}
use Rattle.yv_text_statement.specs.TextInFile.{written_of}
use Rattle.yv_text_statement.specs.declared.written_text.WrittenText.{WrittenText}
use Rattle.yv_types.specs.InnerDefaultTables.{text_at, text_from}
use Rattle.yv_types.specs.TypeDefaults.{text_in}

text_by : (o : Option (Option WrittenText)) → option_map written_of (option_and_then (λ (w : Option WrittenText). w) o) ≡ option_and_then (option_map written_of) o
text_by None = refl
text_by (Some w) = refl

module _ (texts : List (Option WrittenText)) (said : Sparse WrittenText) (kept : (d : ℕ) → at said d ≡ item_at texts d) where
  same_text : (d : ℕ) → text_in said d ≡ text_at texts d
  same_text d = ap (option_map written_of) (kept d) ∙ text_by (slice_get texts d)

  same_from : (o : Option ℕ) → option_and_then (text_in said) o ≡ text_from texts o
  same_from None = refl
  same_from (Some d) = same_text d

  -- the default of a type is the one that was found
  pub kept_text : (found : List (Option ℕ)) (places : Sparse ℕ) → ((k : ℕ) → at places k ≡ item_at found k) → (k : ℕ)
      → option_and_then (text_in said) (at places k) ≡ text_from texts (slots.at found k)
  kept_text found places is k = ap (option_and_then (text_in said)) (is k) ∙ same_from (item_at found k)
