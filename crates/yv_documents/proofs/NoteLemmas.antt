-- A note on bytes that are not JSON.
use Rattle.std.proofs.Common.{◌≡◌, ℕ, Bool, true, false, List, length, subst, ltb, IfOk, IfSome, IfNone, IsSomeAnd, if◌then◌else◌}
use Rattle.std.specs.Option.{option_map}
use Rattle.std.specs.Str.{is_utf8}
use Rattle.std.specs.declared.option.Option.{Option}
use Rattle.std.specs.declared.option.Option.TheVariants.{Some, None}
use Rattle.std.specs.declared.result.Result.{Result}
use Rattle.std.specs.declared.result.Result.TheVariants.{Ok, Err}
use Rattle.serde_json.specs.Data.{Data}
use Rattle.serde_json.specs.Read.{read}
use Rattle.yv_validate.specs.Size.{size}
use Rattle.yv_note_json.specs.Document.{IsJson, SaysWhy}
use Rattle.yv_documents.specs.Document.{DocumentText, TooLarge, NotJson, Reads, document_limit, json_of, reading_of, document_text}

json_some : (bs : List ℕ) (d : Data) → is_utf8 bs ≡ true → read bs ≡ Some d → json_of bs ≡ Some d
unfolding json_of
json_some bs d utf8 is = rw utf8 is

large_or_read : (b : Bool) (d : Data) → NotJson ≡ (if b then TooLarge else Reads d) → ⊥
large_or_read true d e = cc
large_or_read false d e = cc

large_or_some : (b : Bool) (o : Option Data) (d : Data) → o ≡ Some d → NotJson ≡ (if b then TooLarge else reading_of o) → ⊥
large_or_some true o d is e = cc
large_or_some false o d is e =
    let bad : NotJson ≡ reading_of (Some d) = subst (λ (x : Option Data). NotJson ≡ reading_of x) is e in
    large_or_read (ltb document_limit (size d)) d bad

-- bytes that are JSON are not read as none
json_is_read : (bs : List ℕ) → IsJson bs → NotJson ≡ document_text bs → ⊥
unfolding document_text
json_is_read bs json e = large_or_some (ltb document_limit (length bs)) (json_of bs) json.1 (json_some bs json.1 json.0 json.2) e

one_not_json : {A : Type 0} (bytes_of : A → List ℕ) (bs : List ℕ) (o : Option A) → IfSome o (λ t. SaysWhy bs (bytes_of t)) → IfNone o (IsJson bs) → NotJson ≡ document_text bs
    → IsSomeAnd (option_map bytes_of o) (SaysWhy bs)
one_not_json bytes_of bs None why json e = absurd (json_is_read bs json e)
one_not_json bytes_of bs (Some t) why json e = why

-- bytes that are read as no JSON have a note
pub notes_not_json : {A E : Type 0} (bytes_of : A → List ℕ) (bs : List ℕ) (r : Result (Option A) E) → IfOk r (λ o. IfSome o (λ t. SaysWhy bs (bytes_of t)))
    → IfOk r (λ o. IfNone o (IsJson bs)) → NotJson ≡ document_text bs → IfOk r (λ o. IsSomeAnd (option_map bytes_of o) (SaysWhy bs))
notes_not_json bytes_of bs (Ok o) why json e = one_not_json bytes_of bs o why json e
notes_not_json bytes_of bs (Err error) why json e = tt
