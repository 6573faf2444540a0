use Rattle.std.proofs.Common.{◌≡◌, ◌∙◌, ◌++◌, List, ℕ, ap, map, subst, string_bytes}
use Rattle.yv_base_streams.specs.Files.{file_of}
use Rattle.yv_note_lines.specs.Lines.{cleared_line, visible_text}
use Rattle.yv_note_refusals.specs.Explanations.{Speaks}
use Rattle.yv_note_refusals.specs.OtherRefusals.{front_text}
use Rattle.yv_note_refusals.proofs.OtherLines.{line_joined}
use Rattle.yv_note_refusals.proofs.other_files.line_on.Goals as goal

pub returns : goal.returns
returns c =
    let r = c.args.refusal.now in
    let sentence : List ℕ = string_bytes c.in_ok-sentence.sentence in
    let start : List ℕ = string_bytes c.new-text.result in
    let one : List ℕ = string_bytes c.push_visible.new.text in
    let front : List ℕ = front_text (file_of c.args.input.now) r in
    let fronted : one ≡ start ++ visible_text front = c.in_ok-push_visible.ensures ∙ ap (λ (t : List ℕ). start ++ visible_text t) (c.as_bytes.ensures.value ∙ c.in_ok-front.ensures) in
    let said : string_bytes c.push_line.new.text ≡ one ++ cleared_line sentence = c.in_ok-push_line.ensures ∙ ap (λ (t : List ℕ). one ++ cleared_line t) c.as_str.ensures.value in
    record {
      sentence = sentence;
      speaks = subst (λ is. Speaks (map file_of is) r sentence) c.from_ref.ensures.value c.in_ok-sentence.ensures;
      is = line_joined start (visible_text front) (cleared_line sentence) one (string_bytes c.push_line.new.text) c.new-text.ensures.bytes fronted said;
    }
