-- Rows that are given other types stand behind the rows above them still.
use Rattle.std.proofs.Common.{◌≡◌, ℕ, ◌≤◌, List, Option, Some, None, refl, sym, ap, ◌∙◌, subst}
use Rattle.std.specs.List.{slice_get}
use Rattle.std.specs.Option.{option_map}
use Rattle.std.proofs.lemmas.Option.{same_Some}
use Rattle.yv_values.specs.Types.{Plain}
use Rattle.yv_nodes.specs.Rows.{Row, StandBehind, rank}
use Rattle.yv_nodes.specs.InnerTypes.{with_own_types}
use Rattle.yv_nodes.specs.NodeTypes.{typed_row}
use Rattle.yv_nodes.specs.declared.node.NodeId.{NodeId}

-- other types leave the row above
parent_stays : (lists : List (List Plain)) (k : ℕ) (row : Row) → (with_own_types lists k row).parent ≡ row.parent
parent_stays lists k row = by (slice_get lists k)
  where
    by : (types : Option (List Plain)) → (let now : Row = elim types [ None ↦ row | Some some ↦ typed_row some row ] in now.parent ≡ row.parent)
    by None = refl
    by (Some types) = refl

retyped_one : (lists : List (List Plain)) (k : ℕ) (row : Row) (was : Option Row) → option_map (with_own_types lists k) was ≡ Some row → ((r : Row) → was ≡ Some r → rank r.parent ≤ k) → rank row.parent ≤ k
retyped_one lists k row None at behind = absurd (let bad : None ≡ Some row = at in cc)
retyped_one lists k row (Some r) at behind =
    let same : r.parent ≡ row.parent = sym (parent_stays lists k r) ∙ ap (λ (x : Row). x.parent) (same_Some (with_own_types lists k r) row at) in
    subst (λ (p : NodeId). rank p ≤ k) same (behind r refl)

pub retyped_behind : (lists : List (List Plain)) (rows new : List Row) → ((n : ℕ) → slice_get new n ≡ option_map (with_own_types lists n) (slice_get rows n)) → StandBehind rows → StandBehind new
retyped_behind lists rows new each behind k row at = retyped_one lists k row (slice_get rows k) (sym (each k) ∙ at) (behind k)
