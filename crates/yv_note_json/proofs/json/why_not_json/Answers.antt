use Rattle.std.proofs.Common.{ap, inl, refl, sym, ◌∙◌, ◌≡◌, Bool, true, false, List, ℕ}
use Rattle.std.proofs.lemmas.Str.{IsUtf8-from_is_utf8, is_utf8-from_IsUtf8}
use Rattle.std.specs.Str.{IsUtf8, is_utf8}
use Rattle.serde_json.specs.Read.{read}
use Rattle.serde_json.specs.View.{view}
use Rattle.yv_note_json.proofs.json.why_not_json.Goals as goal

not_utf8 : (bs : List ℕ) → (IsUtf8 bs → ⊥) → (b : Bool) → is_utf8 bs ≡ b → b ≡ false
not_utf8 bs bad true e = absurd (bad (IsUtf8-from_is_utf8 bs e))
not_utf8 bs bad false e = refl

pub returns-in-Err-clause-why : goal.returns-in-Err-clause-why
returns-in-Err-clause-why c = record {
  not_json = inl (not_utf8 c.args.bytes.now c.in-Err.ensures.cases.0 (is_utf8 c.args.bytes.now) refl);
  shows = c.in_ok-not_text-in-Err.ensures;
}

pub returns-in-Ok-from_str-clause-json : goal.returns-in-Ok-from_str-clause-json
returns-in-Ok-from_str-clause-json c =
    let text = c.in-Ok.ensures.cases in
    (is_utf8-from_IsUtf8 c.args.bytes.now text.1, view c.in-Ok-from_str.field-0, ap read (sym text.0) ∙ c.in-Ok-from_str.ensures.ok)
