use Rattle.std.proofs.Common.{rules, ◌≡◌, ◌≢◌, ℕ, List, [], ◌∷◌, ◌++◌, length, map, Option, option_map, slice_get, refl, sym, ap, ◌∙◌, arith}
use Rattle.yv_values.specs.Types.{Plain}
use Rattle.yv_nodes.specs.Rows.{Row}
use Rattle.yv_nodes.specs.NodeTypes.{typed_row}
use Rattle.yv_nodes.specs.InnerTypes.{with_own_types, types_in}
use Rattle.std.proofs.lemmas.List.{length-map, map_push}
use Rattle.yv_nodes.proofs.RowTypes.{all_given, empty, last_given}
use Rattle.yv_nodes.proofs.nodes.set_types.Goals as goal

pub loop-types-init : goal.loop-types-init
loop-types-init c = (refl, λ n. refl)

pub loop-types-preserved : goal.loop-types-preserved
loop-types-preserved c =
    let left : List (List Plain) = map types_in c.pop.new.self.items in
    let now : List Row = c.retype.new.nodes.items in
    let before : List Row = c.loop-types.nodes.items in
    let place : length left ≡ c.len.result = length-map c.pop.new.self.items types_in ∙ sym c.pop.new.self.ok.0 ∙ sym c.len.ensures in (
      c.retype.ensures.each ∙ c.loop-types.invariant.0,
      λ n. last_given left (types_in c.in-Some.types) n (slice_get now n) (slice_get before n)
          (λ e. ap (slice_get now) (e ∙ place) ∙ c.retype.ensures.here ∙ ap (λ k. option_map (typed_row (types_in c.in-Some.types)) (slice_get before k)) (sym (e ∙ place)))
          (λ other. c.retype.ensures.elsewhere n (λ e. other (e ∙ sym place)))
          ∙ ap (λ lists. option_map (with_own_types lists n) (slice_get before n)) (sym (ap (map types_in) c.in-Some.ensures.items ∙ map_push types_in c.pop.new.self.items c.in-Some.types))
          ∙ c.loop-types.invariant.1 n,
    )

pub returns-clause-each : goal.returns-clause-each
returns-clause-each c = c.loop-types.invariant.0

pub returns-clause-rows : goal.returns-clause-rows
returns-clause-rows c = λ n.
    let none : c.loop-types.lists.items ≡ [] = empty c.loop-types.lists.items (sym c.loop-types.lists.ok.0 ∙ c.in_default.ensures.cases.0) in
    let after : Option Row = slice_get c.loop-types.nodes.items n in
    sym (all_given n after) ∙ ap (λ lists. option_map (with_own_types lists n) after) (sym (ap (map types_in) none)) ∙ c.loop-types.invariant.1 n
