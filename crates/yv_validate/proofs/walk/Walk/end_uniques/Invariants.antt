use Rattle.std.proofs.Common.{◌≡◌, ◌+◌, ◌++◌, drop, length, map}
use Rattle.serde_json.specs.Data.{Data}
use Rattle.serde_json.specs.View.{view}
use Rattle.yv_values.specs.Count.{count_up}
use Rattle.yv_validate.specs.Faults.{unique_faults}
use Rattle.yv_data_quiet.specs.NamedLeafs.{uniques_at}
use Rattle.yv_validate.specs.InnerNotes.{HasTuples, list_tuple}
use Rattle.yv_data_faults.specs.Trails.{places}
use Rattle.yv_validate.specs.Work.{uniques_work}
use Rattle.yv_validate.proofs.Each.{RemembersSome}
use Rattle.yv_validate.proofs.walk.Walk.end_uniques.Given as goal

-- for an entry that has these values: with the faults and the steps of the statements that are left
-- they are those of all; the indexes of those that are done know the entry
abbrev pub invariant-loop-number : goal.invariant-loop-number
invariant-loop-number l =
    let s = l.self.schema.now in
    let f = list_tuple l.self.kind s l.fn.id in
    let us = uniques_at s l.fn.id in
    let before = map view l.earlier in
    record {
      same : length l.kept.items ≡ length us;
      each : (d : Data) → HasTuples l.self.kind s l.fn.id l.notes d → record {
        faults : l.faults.items ++ unique_faults f (places s l.here) (l.number + 1) (drop l.number us) before d ≡ l.initial.faults.items ++ unique_faults f (places s l.here) 1 us before d;
        kept : RemembersSome l.kept.items f us before d l.number;
        steps : count_up (l.meter + uniques_work f (drop l.number us) d) ≡ count_up (l.initial.meter + uniques_work f us d);
      };
    }
