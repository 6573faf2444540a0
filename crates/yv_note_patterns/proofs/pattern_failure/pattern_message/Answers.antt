use Rattle.std.proofs.Common.{◌≡◌, ◌++◌, ◌∙◌, ap, List, ℕ, length, min, string_bytes}
use Rattle.yv_text_statement.specs.Tree.{Head, name_of}
use Rattle.yv_base_streams.specs.Files.{File, file_of}
use Rattle.yv_note_text.specs.Excerpt.{ShowsPlace}
use Rattle.yv_note_text.specs.Quotes.{in_quotes}
use Rattle.yv_note_patterns.specs.PatternFailure.{TellsOf, unbuilt_line}
use Rattle.yv_note_text.proofs.QuotedWords.{grown}
use Rattle.yv_note_patterns.proofs.pattern_failure.pattern_message.Goals as goal

-- a text that was put together so tells of the statement
tells : (f : File) (h : Head) (first line said one two text : List ℕ) → ShowsPlace f.bytes (min h.offset (length f.bytes)) line → first ≡ unbuilt_line f h.line
    → one ≡ first ++ line → two ≡ one ++ in_quotes (name_of h) → text ≡ two ++ said → TellsOf f h text
tells f h first line said one two text place is_first is_one is_two is = record {
  line = line;
  said = said;
  place = place;
  is = grown first line (in_quotes (name_of h)) said one two text is_one is_two is ∙ ap (λ t. t ++ (line ++ (in_quotes (name_of h) ++ said))) is_first;
}

pub returns : goal.returns
returns c =
    let head : Head = c.args.statement.now.head in
    let text : List ℕ = string_bytes c.in_ok-text.text in
    tells (file_of c.args.input.now) head text (string_bytes c.in_ok-line.line) _ (string_bytes c.push_str.new.self) (string_bytes c.push_quoted.new.text) (string_bytes c.push_str-2.new.self)
    c.in_ok-line.ensures
    (c.in_ok-text.ensures ∙ ap (unbuilt_line (file_of c.args.input.now)) c.line.ensures)
    (c.in_ok-push_str.ensures.bytes ∙ ap (λ t. text ++ t) c.as_str.ensures.value)
    (c.in_ok-push_quoted.ensures.quotes ∙ ap (λ n. string_bytes c.push_str.new.self ++ in_quotes n) c.name_of.ensures)
    c.in_ok-push_str-2.ensures.bytes
