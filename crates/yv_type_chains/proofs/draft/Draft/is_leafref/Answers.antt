use Rattle.std.proofs.Common.{codes, ap}
use Rattle.std.specs.Option.{option_map}
use Rattle.yv_link_scopes.specs.Views.{files_in, rows_in}
use Rattle.yv_type_chains.proofs.MisfitSubstatements.{kind_is, kind_none}
use Rattle.yv_type_chains.proofs.draft.Draft.is_leafref.Goals as goal

pub returns-in-Some : goal.returns-in-Some
returns-in-Some c = λ based.
    kind_is (files_in c.args.self.now.rows.now) (rows_in c.args.self.now.rows.now) c.args.number _ (c.kind.ensures based) c.in-Some.kind.now (codes "leafref") c.eq.result (ap (option_map (λ text. text.now)) c.in-Some.is) c.eq.ensures

pub returns-in-None : goal.returns-in-None
returns-in-None c = λ based.
    kind_none (files_in c.args.self.now.rows.now) (rows_in c.args.self.now.rows.now) c.args.number _ (c.kind.ensures based) (codes "leafref") (ap (option_map (λ text. text.now)) c.in-None.is)
