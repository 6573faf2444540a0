use Rattle.std.proofs.Common.{rules, string_bytes, ap, length, map, ◌∙◌, ◌≡◌}
use Rattle.yv_note_faults.specs.Sentences.{Tells}
use Rattle.yv_note_faults.proofs.Lines.{rest_clear, rest_short, sentences_clear, told, told_short}
use Rattle.yv_note_faults.proofs.all_sentences.sentences.Goals as goal

pub returns : goal.returns
returns c =
    let most = c.args.job.now.explain in
    let name = c.args.document.now.name.now in
    let fs = c.args.faults.now in
    let lines = string_bytes c.in_ok-lines.lines in
    let rest = string_bytes c.in_ok-rest.rest in
    let hint = c.in_ok-rest.ensures in
    let leads = c.as_slice.result.now in
    let each : length leads ≡ length fs = ap length c.as_slice.ensures.value ∙ c.in_ok-causes.ensures in
    let tells : Tells most name fs lines rest = told most name fs _ leads lines rest hint.0 each (search rules) c.in_ok-lines.ensures hint.1 hint.2 in
    record {
      tells = tells;
      clear = sentences_clear name _ lines tells.are;
      clear_rest = rest_clear most _ rest tells.hint tells.hints tells.is;
      short = λ le. told_short most name fs lines rest tells le;
      short_rest = rest_short most _ rest tells.hint tells.hints tells.is;
    }
