use Rattle.std.proofs.Common.{◌≡◌, ◌<◌, ℕ, List, Option, Some, None, if◌then◌else◌, length, sym, ◌∙◌, ap, arith}
use Rattle.std.specs.List.{slice_get}
use Rattle.std.proofs.lemmas.List.{length-map}
use Rattle.std.proofs.lemmas.Option.{slice_get_within}
use Rattle.yv_link_scopes.specs.Rows.{Row}
use Rattle.yv_link_scopes.specs.Views.{lent_in, rows_in}
use Rattle.yv_base_tables.specs.Families.{by_place}
use Rattle.yv_expand_uses.specs.AugmentOrder.{giving_places, place_before}
use Rattle.yv_expand_statements.specs.StatementBlocks.{is_augment}
use Rattle.yv_expand_statements.specs.StatementBlocks.{is_refine}
use Rattle.yv_expand_uses.specs.RefineTargets.{refine_places}
use Rattle.yv_expand_uses.specs.AugmentOrder.{augment_places}
use Rattle.yv_expand_uses.proofs.PlaceNumbers.{giving_long, giving_within, passing_within}
use Rattle.yv_expand_uses.proofs.plan.Plan.read.Goals as goal

pub ordinals-requires : goal.ordinals-requires
ordinals-requires c = λ a block at. (
    let rows : List Row = rows_in c.args.rows.now in
    let is : c.deref-2.result.now ≡ giving_places rows = c.deref-2.ensures.value ∙ c.in_ok-places.ensures in
    let nested : (k : ℕ) (r : Row) → slice_get rows k ≡ Some r → r.scope < length rows =
    λ k r there. (let l = c.blocks_are_nested.ensures (lent_in c.args.rows.now) k r there in let m = slice_get_within rows k r there in omega (arith, l, m)) in
    let within : block < length rows = giving_within rows nested a block (ap (λ (l : List (Option ℕ)). slice_get l a) (sym is) ∙ at) in
    let long = giving_long rows in
    omega (arith, within, long, ap length is))

pub returns-clause-plan : goal.returns-clause-plan
returns-clause-plan c =
    let rows : List Row = rows_in c.args.rows.now in
    let places : List (Option ℕ) = giving_places rows in
    let first : c.deref.result.now ≡ places = c.deref.ensures.value ∙ c.in_ok-places.ensures in
    let second : c.deref-2.result.now ≡ places = c.deref-2.ensures.value ∙ c.in_ok-places.ensures in
    let long = giving_long rows in
    let size = ap length c.in_ok-places.ensures in
    let count : c.len.result ≡ length rows = omega (arith, c.len.ensures, size, long) in
    let other : c.len-2.result ≡ length rows = omega (arith, c.len-2.ensures, size, long) in
    let nested : (k : ℕ) (r : Row) → slice_get rows k ≡ Some r → r.scope < length rows =
    λ k r there. (let l = c.blocks_are_nested.ensures (lent_in c.args.rows.now) k r there in let m = slice_get_within rows k r there in omega (arith, l, m)) in
    let third : c.deref-3.result.now ≡ augment_places rows = c.deref-3.ensures.value ∙ sym c.in_ok-augment_places.ensures in
    let last : c.len-3.result ≡ length rows =
    (let all = ap length c.in_ok-augment_places.ensures in let each = length-map rows (λ (r : Row). if is_augment r then Some r.scope else None) in
    omega (arith, c.len-3.ensures, all, each)) in
    let fourth : c.deref-4.result.now ≡ refine_places rows = c.deref-4.ensures.value ∙ sym c.in_ok-refine_places.ensures in
    let final : c.len-4.result ≡ length rows =
    (let all = ap length c.in_ok-refine_places.ensures in let each = length-map rows (λ (r : Row). if is_refine r then Some r.scope else None) in
    omega (arith, c.len-4.ensures, all, each)) in
    record {
      module_files = c.in_ok-module_files.ensures;
      names = c.in_ok-names.ensures.names;
      paths = c.in_ok-paths.ensures;
      places = c.in_ok-places.ensures;
      giving = c.in_ok-giving.ensures ∙ ap (λ l. by_place l c.len.result) first ∙ ap (by_place places) count;
      within = giving_within rows nested;
      ordinals = λ a. c.in_ok-ordinals.ensures a ∙ ap (λ (l : List (Option ℕ)). place_before l a (slice_get l a)) second;
      modules = λ a lt. c.in_ok-modules.ensures a (omega (arith, lt, other));
      blocks = c.in_ok-blocks.ensures ∙ ap (λ l. by_place l c.len-3.result) third ∙ ap (by_place (augment_places rows)) last;
      nested = passing_within is_augment rows nested;
      refines = c.in_ok-refines.ensures ∙ ap (λ l. by_place l c.len-4.result) fourth ∙ ap (by_place (refine_places rows)) final;
      refines_nested = passing_within is_refine rows nested;
    }
