use Rattle.std.proofs.Common.{sym, ◌∙◌}
use Rattle.yv_link_scopes.specs.Views.{rows_in}
use Rattle.yv_link_identities.proofs.Faulty.{marked_cycle, no_cycle}
use Rattle.yv_link_identities.proofs.refusals.is_on_cycle.Goals as goal

pub returns-in-Some : goal.returns-in-Some
returns-in-Some c =
    marked_cycle _ _ _ _ _ _ c.requires (sym (c.node.ensures (rows_in c.args.draft.now.rows.now) c.args.draft.now.numbered) ∙ c.in-Some.is) c.is_marked.ensures

pub returns-in-None : goal.returns-in-None
returns-in-None c = no_cycle _ _ _ (sym (c.node.ensures (rows_in c.args.draft.now.rows.now) c.args.draft.now.numbered) ∙ c.in-None.is)
