use Rattle.std.proofs.Common.{rules, string_bytes}
use Rattle.yv_run.proofs.answers.refusal_note.Goals as goal

pub returns : goal.returns
returns c = record {
  explained = string_bytes c.in_ok-text.text;
  others = string_bytes c.in_ok-others.others;
  place = c.in_ok-text.ensures.place;
  speaks = c.in_ok-text.ensures.speaks;
  others_told = c.in_ok-others.ensures.lines;
  is = search rules;
}
