use Rattle.std.proofs.Common.{sym, ◌∙◌}
use Rattle.yv_text_if_feature.proofs.Ascii.{name_is_text}
use Rattle.yv_text_if_feature.proofs.word.read_name.Goals as goal

pub returns-in-Err : goal.returns-in-Err
returns-in-Err c = absurd (c.in-Err.ensures.cases.0 (name_is_text _ (sym c.is_name.ensures ∙ c.if-not-is_name.false)))
