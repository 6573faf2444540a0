use Rattle.std.proofs.Common.{◌≡◌, ℕ, ◌+◌, ◌<◌, ◌≤◌, ◌++◌, List, Option, map, min, length, length-set, drop, get_or, [], refl, sym, ap, ◌∙◌, arith, append-nil, subst}
use Rattle.std.proofs.lemmas.List.{drop_all, length-map}
use Rattle.serde_json.specs.View.{view}
use Rattle.yv_values.specs.Values.{Val}
use Rattle.yv_nodes.specs.declared.node.NodeId.{NodeId}
use Rattle.yv_validate.specs.Faults.{unique_faults, unique_if}
use Rattle.yv_validate.specs.InnerMemory.{Remembers}
use Rattle.yv_data_quiet.specs.NamedLeafs.{uniques_at}
use Rattle.yv_validate.specs.InnerNotes.{HasTuple, list_tuple, tuple_in}
use Rattle.yv_data_faults.specs.Trails.{places}
use Rattle.yv_validate.specs.Repeats.{repeat_of}
use Rattle.yv_validate.specs.Work.{tuple_work, uniques_work}
use Rattle.yv_validate.proofs.Each.{all_done, any_default, at_turn, none_done, some_step, unique_drop, work_drop}
use Rattle.yv_data_quiet.proofs.Leafs.{get_map}
use Rattle.yv_data_quiet.proofs.Leafs.{named_leafs}
use Rattle.yv_validate.proofs.Steps.{joins, steps_on}
use Rattle.yv_validate.proofs.walk.Walk.end_uniques.Goals as goal

pub loop-number-init : goal.loop-number-init
loop-number-init c = record {
  same = c.requires.keeps.same;
  each = λ d has. record {
    faults = refl;
    kept = none_done c.args.kept.now.items (list_tuple c.args.self.now.kind c.args.self.now.schema.now c.args.id) (uniques_at c.args.self.now.schema.now c.args.id) (map view c.args.earlier.now) d c.requires.keeps;
    steps = refl;
  };
}

pub index_mut-requires : goal.index_mut-requires
index_mut-requires c =
    let us = (uniques_at c.args.self.now.schema.now c.args.id) in
    let many : length us ≡ length c.uniques-leafs-items.result.now = sym (ap length c.uniques-leafs-items.ensures) ∙ length-map c.uniques-leafs-items.result.now _ in
    omega (arith, many, c.loop-number.invariant.same)

pub loop-number-preserved : goal.loop-number-preserved
loop-number-preserved c =
    let s = c.args.self.now.schema.now in
    let f = list_tuple c.args.self.now.kind s c.args.id in
    let us = uniques_at s c.args.id in
    let here = places s c.args.here.now in
    let before = map view c.args.earlier.now in
    let n = c.loop-number.number in
    let rows = c.uniques-leafs-items.result.now in
    let u : List (Option NodeId) = named_leafs c.leafs-item.result.items in
    let many : length us ≡ length rows = sym (ap length c.uniques-leafs-items.ensures) ∙ length-map rows _ in
    let lt : n < length us = omega (arith, many) in
    let stated : u ≡ get_or us n u = get_map _ rows n c.leafs-item.result c.loop-number-test.true c.leafs-item.is ∙ ap (λ (xs : List (List (Option NodeId))). get_or xs n u) c.uniques-leafs-items.ensures in
    let told = c.in_ok-first.ensures.tells in
    let first = c.in_ok-first.first in
    let place : length before + 1 ≡ length c.args.earlier.now + 1 = ap (λ m. m + 1) (length-map c.args.earlier.now view) in
    record {
      same = length-set c.loop-number.kept.items n c.stood_before.new.kept ∙ c.loop-number.invariant.same;
      each = λ d has.
          let inv = c.loop-number.invariant.each d has in
          let old : Remembers c.index_mut.result.now (f u) before = at_turn c.loop-number.kept.items f us before d n c.index_mut.result.now u lt c.index_mut.ensures.value stated inv.kept in
          let own : HasTuple c.args.self.now.kind s c.args.id c.args.notes.now d u =
          subst (λ (w : List (Option NodeId)). HasTuple c.args.self.now.kind s c.args.id c.args.notes.now d w) (sym (stated ∙ any_default us n u [] lt)) (has.uniques n lt) in
          let made : f u d ≡ c.in_ok-tuple.tuple =
          sym own ∙ ap (λ (xs : List NodeId). tuple_in s c.args.notes.now (named_leafs xs)) (sym c.deref.ensures.value) ∙ sym c.in_ok-tuple.ensures in
          let is : first ≡ repeat_of (f u) before d = told.same (f u) before d old made in
          record {
            faults = joins c.loop-number.faults.items (unique_if (repeat_of (f u) before d) here (n + 1)) (unique_faults f here (n + 1 + 1) (drop (n + 1) us) before d)
                (c.in_ok-tell_unique.ensures ∙ ap (λ (o : Option ℕ). c.loop-number.faults.items ++ unique_if o here (n + 1)) is) (unique_drop f here (n + 1) us n u before d lt stated) inv.faults;
            kept = some_step c.loop-number.kept.items f us before d n c.stood_before.new.kept u lt stated inv.kept (told.next (f u) before d place old made);
            steps = steps_on c.loop-number.meter c.stood_before.new.meter (tuple_work (f u d)) _ (uniques_work f (drop (n + 1) us) d) _
                (c.in_ok-first.ensures.steps ∙ ap (λ (t : Option (List Val)). min (c.loop-number.meter + tuple_work t) 18446744073709551615) (sym made))
                (work_drop f us n u d lt stated) inv.steps;
          };
    }

pub returns-clause-faults : goal.returns-clause-faults
returns-clause-faults c = λ d has.
    let s = c.args.self.now.schema.now in
    let f = list_tuple c.args.self.now.kind s c.args.id in
    let us = uniques_at s c.args.id in
    let n = c.loop-number.number in
    let many : length us ≡ length c.uniques-leafs-items.result.now = sym (ap length c.uniques-leafs-items.ensures) ∙ length-map c.uniques-leafs-items.result.now _ in
    let le : length us ≤ n = omega (arith, many, c.loop-number-test.false) in
    sym (append-nil c.loop-number.faults.items)
    ∙ ap (λ (vs : List (List (Option NodeId))). c.loop-number.faults.items ++ unique_faults f (places s c.args.here.now) (n + 1) vs (map view c.args.earlier.now) d) (sym (drop_all n us le))
    ∙ (c.loop-number.invariant.each d has).faults

pub returns-clause-keeps : goal.returns-clause-keeps
returns-clause-keeps c = λ d has.
    let s = c.args.self.now.schema.now in
    let f = list_tuple c.args.self.now.kind s c.args.id in
    let us = uniques_at s c.args.id in
    let n = c.loop-number.number in
    let many : length us ≡ length c.uniques-leafs-items.result.now = sym (ap length c.uniques-leafs-items.ensures) ∙ length-map c.uniques-leafs-items.result.now _ in
    all_done c.loop-number.kept.items f us (map view c.args.earlier.now) d n (omega (arith, many, c.loop-number-test.false)) (c.loop-number.invariant.each d has).kept

pub returns-clause-steps : goal.returns-clause-steps
returns-clause-steps c = λ d has.
    let s = c.args.self.now.schema.now in
    let f = list_tuple c.args.self.now.kind s c.args.id in
    let us = uniques_at s c.args.id in
    let n = c.loop-number.number in
    let many : length us ≡ length c.uniques-leafs-items.result.now = sym (ap length c.uniques-leafs-items.ensures) ∙ length-map c.uniques-leafs-items.result.now _ in
    let le : length us ≤ n = omega (arith, many, c.loop-number-test.false) in
    let none : c.loop-number.meter ≡ c.loop-number.meter + uniques_work f (drop n us) d = let past : uniques_work f (drop n us) d ≡ 0 = ap (λ (vs : List (List (Option NodeId))). uniques_work f vs d) (drop_all n us le) in omega (arith, past) in
    ap (λ m. min m 18446744073709551615) none ∙ (c.loop-number.invariant.each d has).steps
