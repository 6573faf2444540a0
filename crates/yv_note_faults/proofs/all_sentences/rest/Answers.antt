use Rattle.std.proofs.Common.{rules, string_bytes}
use Rattle.yv_note_faults.proofs.all_sentences.rest.Goals as goal

pub returns : goal.returns
returns c = (string_bytes c.in_ok-hint.hint, c.in_ok-hint.ensures, search rules)
