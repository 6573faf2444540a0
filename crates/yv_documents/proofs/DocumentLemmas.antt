-- What bytes are as a document, case by case.
use Rattle.std.proofs.Common.{◌≡◌, ◌≤◌, ◌<◌, ℕ, Bool, true, false, List, length, ltb, sym, ◌∙◌, ap, refl, arith, Some, None}
use Rattle.std.proofs.lemmas.Bool.{ltb-true, lt-ltb}
use Rattle.std.proofs.lemmas.Str.{IsUtf8-from_is_utf8, is_utf8-from_IsUtf8}
use Rattle.std.specs.Str.{IsUtf8, is_utf8}
use Rattle.serde_json.specs.Data.{Data}
use Rattle.serde_json.specs.Read.{read}
use Rattle.yv_validate.specs.Size.{size}
use Rattle.yv_documents.specs.Document.{TooLarge, NotJson, Reads, document_limit, json_of, reading_of, document_text}

pub json_read : (bs : List ℕ) → IsUtf8 bs → json_of bs ≡ read bs
unfolding json_of
json_read bs u = rw (is_utf8-from_IsUtf8 bs u)

not_utf8 : (bs : List ℕ) → (IsUtf8 bs → ⊥) → (b : Bool) → is_utf8 bs ≡ b → b ≡ false
not_utf8 bs bad true e = absurd (bad (IsUtf8-from_is_utf8 bs e))
not_utf8 bs bad false e = refl

pub json_none : (bs : List ℕ) → (IsUtf8 bs → ⊥) → json_of bs ≡ None
unfolding json_of
json_none bs bad = rw (not_utf8 bs bad (is_utf8 bs) refl)

not_above : (a b : ℕ) → b ≤ a → (t : Bool) → ltb a b ≡ t → t ≡ false
not_above a b h true e = let l = ltb-true a b e in absurd (omega (arith, l))
not_above a b h false e = refl

pub reading_large : (bs : List ℕ) → document_limit < length bs → document_text bs ≡ TooLarge
unfolding document_text
reading_large bs h = rw (lt-ltb document_limit (length bs) h)

reading_small : (bs : List ℕ) → length bs ≤ document_limit → document_text bs ≡ reading_of (json_of bs)
unfolding document_text
reading_small bs h = rw (not_above document_limit (length bs) h (ltb document_limit (length bs)) refl)

pub reading_none : (bs : List ℕ) → length bs ≤ document_limit → None ≡ json_of bs → NotJson ≡ document_text bs
reading_none bs h e = sym (reading_small bs h ∙ ap reading_of (sym e))

pub reading_wide : (bs : List ℕ) (d : Data) → length bs ≤ document_limit → Some d ≡ json_of bs → document_limit < size d → TooLarge ≡ document_text bs
reading_wide bs d h e wide =
    let last : reading_of (Some d) ≡ TooLarge = rw (lt-ltb document_limit (size d) wide) in
    sym (reading_small bs h ∙ ap reading_of (sym e) ∙ last)

pub reading_held : (bs : List ℕ) (d : Data) → length bs ≤ document_limit → Some d ≡ json_of bs → size d ≤ document_limit → Reads d ≡ document_text bs
reading_held bs d h e fits =
    let last : reading_of (Some d) ≡ Reads d = rw (not_above document_limit (size d) fits (ltb document_limit (size d)) refl) in
    sym (reading_small bs h ∙ ap reading_of (sym e) ∙ last)
