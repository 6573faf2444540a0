use Rattle.std.proofs.Common.{List, ℕ}
use Rattle.yv_base_tables.specs.InnerTree.{IsPathTree}
use Rattle.yv_expand_rounds.specs.declared.label.Label.{Label}
use Rattle.yv_expand_rounds.specs.InnerState.{IsAugmentation}
use Rattle.yv_expand_rounds.specs.Turns.{State}
use Rattle.yv_expand_rounds.proofs.PathArrivals.{IsDeep}
use Rattle.yv_expand_rounds.proofs.augmentation.Augmentation.walk_all.Given as goal

abbrev pub invariant-loop : goal.invariant-loop
invariant-loop l = (labels : List Label) (st : State) (all : List (List ℕ)) → IsAugmentation labels st l.self → IsPathTree all l.paths
    → IsDeep labels st.groups l.limit all l.start l.counter l.followed l.arrivals.items
