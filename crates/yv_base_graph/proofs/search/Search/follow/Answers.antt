use Rattle.std.proofs.Common.{ap}
use Rattle.std.proofs.lemmas.Result.{on_ok_weaker}
use Rattle.yv_base_graph.proofs.EdgeStep.{target_state, follow_new, follow_done, follow_pending}
use Rattle.yv_base_graph.proofs.search.Search.follow.Goals as goal

pub returns-in-New : goal.returns-in-New
returns-in-New c = on_ok_weaker c.enter.result (λ e. follow_new _ _ _ _ _ _ c.requires.graph c.requires.searches c.requires.next (target_state _ _ _ _ _ _ _ _ c.requires.graph c.requires.searches c.requires.next (ap (λ v. v.states) c.self.view_is) c.index.ensures c.in-New.is) e) c.enter.ensures

pub returns-in-Pending : goal.returns-in-Pending
returns-in-Pending c = follow_pending _ _ _ _ _ _ _ _ c.requires.graph c.requires.searches c.requires.next (target_state _ _ _ _ _ _ _ _ c.requires.graph c.requires.searches c.requires.next (ap (λ v. v.states) c.self.view_is) c.index.ensures c.in-Pending.is) c.join.ensures c.skip.ensures

pub returns-in-Done : goal.returns-in-Done
returns-in-Done c = follow_done _ _ _ _ _ _ _ c.requires.graph c.requires.searches c.requires.next (target_state _ _ _ _ _ _ _ _ c.requires.graph c.requires.searches c.requires.next (ap (λ v. v.states) c.self.view_is) c.index.ensures c.in-Done.is) c.skip-in-Done.ensures
