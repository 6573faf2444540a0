use Rattle.std.proofs.Common.{sym, ◌∙◌}
use Rattle.yv_link_definitions.proofs.meaning_table.Names.meaning.Goals as goal

pub returns : goal.returns
returns c files t d = (λ e. (t.meant c.args.number d).0 (sym c.definition_at.ensures ∙ e), λ h. c.definition_at.ensures ∙ (t.meant c.args.number d).1 h)
