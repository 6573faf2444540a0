use Rattle.std.proofs.Common.{refl, sym, ◌∙◌}
use Rattle.std.proofs.lemmas.Option.{slice_get_within}
use Rattle.yv_link_scopes.specs.Rows.{row}
use Rattle.yv_link_scopes.specs.Views.{files_in, rows_in}
use Rattle.yv_link_definitions.proofs.Unknown.{a_pair, no_pair}
use Rattle.yv_link_definitions.proofs.draft.Draft.pair.Goals as goal

pub returns-in_err-meant : goal.returns-in_err-meant
returns-in_err-meant c =
    no_pair (files_in c.args.self.now.rows.now) (rows_in c.args.self.now.rows.now) c.args.meanings.now c.requires.meant c.args.number (row c.args.entry.now) c.requires.at _ c.from_residual.ensures (sym c.meant_at.ensures ∙ c.in_err-meant.was)

pub owner-requires : goal.owner-requires
owner-requires c = slice_get_within (rows_in c.args.self.now.rows.now) c.args.number (row c.args.entry.now) c.requires.at

pub returns : goal.returns
returns c =
    a_pair (files_in c.args.self.now.rows.now) (rows_in c.args.self.now.rows.now) c.args.meanings.now c.requires.meant c.args.number (row c.args.entry.now) c.requires.at c.meant_kind.result c.in_ok-meant.meant c.owner.result (sym c.meant_at.ensures ∙ c.in_ok-meant.was) c.meant_kind.ensures c.owner.ensures c.in_ok-own.own _ refl c.in_ok-own.was
