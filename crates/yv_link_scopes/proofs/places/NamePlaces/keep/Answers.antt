use Rattle.std.proofs.Common.{sym, ◌∙◌}
use Rattle.yv_link_scopes.proofs.TableGrowth.{kept_back, kept_new}
use Rattle.yv_link_scopes.proofs.places.NamePlaces.keep.Goals as goal

pub returns-in_default : goal.returns-in_default
returns-in_default c = kept_new c.args.self.now.map c.insert.new.self c.args.scope c.args.name c.args.place (sym c.in_ok-first.ensures.old ∙ c.in_default.is) c.in_ok-first.ensures.updates

pub returns-in_ok-insert : goal.returns-in_ok-insert
returns-in_ok-insert c = kept_back c.args.self.now.map c.insert.new.self c.insert-in-Some.new.self c.args.scope c.args.name c.args.place c.in-Some.first (sym c.in-Some.is ∙ c.in_ok-first.ensures.old) c.in_ok-first.ensures.updates c.in_ok-insert.ensures.updates
