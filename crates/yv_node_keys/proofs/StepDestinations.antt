-- Where steps lead, one after the other.
use Rattle.std.proofs.Common.{◌≡◌, ℕ, ◌+◌, ◌<◌, List, ◌∷◌, drop, get_or, length, add-one, Option, Some, None, refl, sym, ap, ◌∙◌}
use Rattle.std.proofs.Math.Seq.{drop-cons}
use Rattle.std.specs.Option.{option_and_then}
use Rattle.yv_nodes.specs.declared.node.NodeId.{NodeId}
use Rattle.yv_nodes.specs.Rows.{Row}
use Rattle.yv_node_content.specs.Steps.{Step}
use Rattle.yv_node_keys.specs.Numbers.{led_at, led_by_at}
use Rattle.yv_node_keys.specs.declared.place.Way.{Way}

module _ (rows : List Row) (own : ℕ) (path : List (Option Step)) (i : ℕ) (d : Option Step) (lt : i < length path) (here : Way) (o : Option Way) (is : o ≡ led_by_at rows own (get_or path i d) here) where
  cut : drop i path ≡ get_or path i d ∷ drop (i + 1) path
  cut = rw (add-one, drop-cons path i d) refl

  -- one step more
  pub led_next : (next : Way) (all : Option NodeId) → o ≡ Some next → led_at rows own (drop i path) here ≡ all → led_at rows own (drop (i + 1) path) next ≡ all
  led_next next all found before =
      ap (option_and_then (led_at rows own (drop (i + 1) path))) (sym found ∙ is)
      ∙ sym (ap (λ (ss : List (Option Step)). led_at rows own ss here) cut)
      ∙ before

  -- a step that leads nowhere
  pub led_nowhere : (all : Option NodeId) → o ≡ None → led_at rows own (drop i path) here ≡ all → None ≡ all
  led_nowhere all none before =
      ap (option_and_then (led_at rows own (drop (i + 1) path))) (sym none ∙ is)
      ∙ sym (ap (λ (ss : List (Option Step)). led_at rows own ss here) cut)
      ∙ before
