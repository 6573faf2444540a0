use Rattle.yv_base_graph.proofs.SearchResult.{visit_start, visit_visited}
use Rattle.yv_base_graph.proofs.search.Search.visit.Goals as goal

pub loop-self-init : goal.loop-self-init
loop-self-init c =
    let steps = visit_start _ _ _ _ c.requires.searches c.requires.idle c.requires.new c.requires.within c.in_ok-enter.ensures in
    record {
      searching = steps.searching;
      kept = steps.kept;
      visited = visit_visited _ _ _ _ c.requires.searches c.requires.within c.in_ok-enter.ensures;
    }
