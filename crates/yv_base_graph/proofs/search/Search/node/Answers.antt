use Rattle.std.proofs.Common.{length, ap, arith}
use Rattle.yv_base_graph.proofs.EdgeStep.{top_read, place_within, pending_within}
use Rattle.yv_base_graph.proofs.search.Search.node.Goals as goal

pub index-requires : goal.index-requires
index-requires c = let h = place_within _ _ _ c.requires.searches c.requires.busy c.requires.last in let e = ap (λ v. length v.pending) c.self.view_is in omega (arith, h, e)

pub returns-clause-top : goal.returns-clause-top
returns-clause-top c = top_read _ _ _ _ _ c.requires.searches c.requires.busy c.requires.last (ap (λ v. v.pending) c.self.view_is) c.index.ensures

pub returns-clause-within : goal.returns-clause-within
returns-clause-within c = pending_within _ _ _ _ c.requires.searches (top_read _ _ _ _ _ c.requires.searches c.requires.busy c.requires.last (ap (λ v. v.pending) c.self.view_is) c.index.ensures)
