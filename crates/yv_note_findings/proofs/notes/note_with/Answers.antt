use Rattle.std.proofs.Common.{rules, ◌≡◌, ℕ, List, length, min, string_bytes, ◌++◌, ◌∙◌, ap, subst}
use Rattle.yv_lint.specs.Rules.{name_of}
use Rattle.yv_note_text.specs.Excerpt.{ShowsPlace}
use Rattle.yv_note_findings.proofs.NoteLines.{joined}
use Rattle.yv_note_findings.proofs.notes.note_with.Goals as goal

pub returns : goal.returns
returns c =
    let bytes : List ℕ = c.args.bytes.now in
    let line : List ℕ = string_bytes c.in_ok-text.text in
    let name : List ℕ = name_of c.args.finding.now.rule in
    let same : c.min-place.result ≡ min c.args.finding.now.offset (length bytes) = search rules in
    let named : string_bytes c.push_str.new.self ≡ line ++ name = c.in_ok-push_str.ensures.bytes ∙ ap (λ (t : List ℕ). line ++ t) c.name.ensures in
    record {
      line = line;
      sentence = c.args.sentence.now;
      shows = subst (λ at. ShowsPlace bytes at line) same c.in_ok-text.ensures;
      is = joined line name c.args.sentence.now (string_bytes c.push_str.new.self) (string_bytes c.push_str-2.new.self) (string_bytes c.push_line.new.text) named c.in_ok-push_str-2.ensures.bytes c.in_ok-push_line.ensures;
    }
