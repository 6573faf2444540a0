use Rattle.std.proofs.Common.{ap}
use Rattle.std.specs.Option.{option_map}
use Rattle.yv_link_scopes.specs.Views.{files_in, rows_in}
use Rattle.yv_type_chains.proofs.MisfitSubstatements.{foreign_none, foreign_some}
use Rattle.yv_type_chains.proofs.draft.Draft.is_foreign.Goals as goal

pub returns-in-Some : goal.returns-in-Some
returns-in-Some c = λ based.
    foreign_some (files_in c.args.self.now.rows.now) (rows_in c.args.self.now.rows.now) c.args.number _ (c.kind.ensures based) c.in-Some.kind.now c.args.statement.now.head.keyword c.is_foreign.result (ap (option_map (λ text. text.now)) c.in-Some.is) c.is_foreign.ensures

pub returns-in-None : goal.returns-in-None
returns-in-None c = λ based.
    foreign_none (files_in c.args.self.now.rows.now) (rows_in c.args.self.now.rows.now) c.args.number _ (c.kind.ensures based) c.args.statement.now.head.keyword (ap (option_map (λ text. text.now)) c.in-None.is)
