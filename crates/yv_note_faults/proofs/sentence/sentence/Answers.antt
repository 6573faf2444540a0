use Rattle.std.proofs.Common.{rules, ◌≡◌, ◌++◌, codes, string_bytes}
use Rattle.yv_note_faults.specs.Line.{keys_text, like_text}
use Rattle.yv_note_faults.proofs.sentence.sentence.Goals as goal

pub returns : goal.returns
returns c = record {
  front = string_bytes c.in_ok-text.text;
  keys = string_bytes c.in_ok-keys.keys;
  likes = c.args.likes;
  advice = string_bytes c.in_ok-advice.advice;
  begins = c.in_ok-text.ensures;
  is = search rules;
}
