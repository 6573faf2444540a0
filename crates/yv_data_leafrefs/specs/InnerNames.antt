-- Only private clauses cite this: names of nodes, as they are kept.
use Rattle.std.specs.Prelude.{◌≡◌, ℕ, None, IfSome}
use Rattle.std.specs.Ordering.{nat_cmp}
use Rattle.std.specs.BTreeMap.{get_by}
use Rattle.yv_nodes.specs.Rows.{Rows}
use Rattle.yv_data_leafrefs.specs.InnerAnswers.{place_at}
use Rattle.yv_data_leafrefs.specs.declared.names.StepNames.{StepNames}

-- what is kept at a number is the name of that node
abbrev pub AreNames : Rows → StepNames → Type 0
AreNames s names = (n : ℕ)
    → IfSome (get_by (nat_cmp n) names.steps)
    (λ name. name.value.member ≡ (place_at s n None).member)
