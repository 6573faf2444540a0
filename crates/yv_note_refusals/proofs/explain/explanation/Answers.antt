use Rattle.std.proofs.Common.{rules, ◌≡◌, ℕ, List, length, map, string_bytes, ◌++◌, ◌∷◌, [], sym, ap, ◌∙◌, subst, min}
use Rattle.yv_text_statement.specs.Codes.{name_of}
use Rattle.yv_base_streams.specs.Files.{File, file_of}
use Rattle.yv_note_text.specs.Excerpt.{ShowsPlace}
use Rattle.yv_note_text.specs.Clear.{is_clear}
use Rattle.yv_note_refusals.specs.Clear.{clear_text}
use Rattle.yv_note_refusals.specs.Explanations.{Explains, Speaks}
use Rattle.yv_note_lines.proofs.ClearLines.{place_clear}
use Rattle.yv_note_refusals.proofs.ClearTexts.{joined, name_clear, said_clear, speaks_cleared}
use Rattle.yv_note_refusals.proofs.NoteExtension.{speaks_longer}
use Rattle.yv_note_refusals.proofs.explain.explanation.Goals as goal

pub returns-clause-place : goal.returns-clause-place
returns-clause-place c =
    let bytes : List ℕ = c.bytes_at-bytes.result.now in
    let line : List ℕ = string_bytes c.in_ok-text.text in
    let name : List ℕ = name_of c.args.refusal.now.code in
    let sentence : List ℕ = string_bytes c.in_ok-sentence.sentence in
    let same : c.min.result ≡ min c.args.refusal.now.offset (length bytes) = search rules in
    let named : string_bytes c.push_str.new.self ≡ line ++ name = search rules in
    let told : string_bytes c.push_clear.new.text ≡ string_bytes c.push_str-2.new.self ++ clear_text sentence = c.in_ok-push_clear.ensures ∙ ap (λ (t : List ℕ). string_bytes c.push_str-2.new.self ++ clear_text t) c.as_str.ensures.value in
    let all = joined line name sentence (string_bytes c.push_str.new.self) (string_bytes c.push_str-2.new.self) (string_bytes c.push_clear.new.text) (string_bytes c.push_str-3.new.self)
    named c.in_ok-push_str-2.ensures.bytes told c.in_ok-push_str-3.ensures.bytes in
    let placed : ShowsPlace bytes (min c.args.refusal.now.offset (length bytes)) line = subst (λ at. ShowsPlace bytes at line) same c.in_ok-text.ensures in
    subst (λ bs. Explains bs c.args.refusal.now (string_bytes c.push_str-3.new.self)) c.bytes_at-bytes.ensures (line, clear_text sentence, placed, all)

pub returns-clause-speaks : goal.returns-clause-speaks
returns-clause-speaks c =
    let files : List File = map file_of c.args.inputs.now in
    let sentence : List ℕ = string_bytes c.in_ok-sentence.sentence in
    let before : List ℕ = string_bytes c.push_str-2.new.self in
    let told : string_bytes c.push_clear.new.text ≡ before ++ clear_text sentence = c.in_ok-push_clear.ensures ∙ ap (λ (t : List ℕ). before ++ clear_text t) c.as_str.ensures.value in
    speaks_longer files c.args.refusal.now (string_bytes c.push_clear.new.text) (string_bytes c.push_str-3.new.self) (10 ∷ [], c.in_ok-push_str-3.ensures.bytes)
    (subst (λ (t : List ℕ). Speaks files c.args.refusal.now t) (sym told) (speaks_cleared files c.args.refusal.now before sentence c.in_ok-sentence.ensures))

pub returns-clause-clear : goal.returns-clause-clear
returns-clause-clear c =
    let line : List ℕ = string_bytes c.in_ok-text.text in
    let name : List ℕ = name_of c.args.refusal.now.code in
    let sentence : List ℕ = string_bytes c.in_ok-sentence.sentence in
    let named : string_bytes c.push_str.new.self ≡ line ++ name = search rules in
    let told : string_bytes c.push_clear.new.text ≡ string_bytes c.push_str-2.new.self ++ clear_text sentence = c.in_ok-push_clear.ensures ∙ ap (λ (t : List ℕ). string_bytes c.push_str-2.new.self ++ clear_text t) c.as_str.ensures.value in
    let all = joined line name sentence (string_bytes c.push_str.new.self) (string_bytes c.push_str-2.new.self) (string_bytes c.push_clear.new.text) (string_bytes c.push_str-3.new.self)
    named c.in_ok-push_str-2.ensures.bytes told c.in_ok-push_str-3.ensures.bytes in
    ap is_clear all ∙ said_clear line name sentence (place_clear c.bytes_at-bytes.result.now c.min.result line c.in_ok-text.ensures) (name_clear c.args.refusal.now.code)
