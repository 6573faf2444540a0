use Rattle.std.proofs.Common.{rules, arith}
use Rattle.std.proofs.lemmas.List.Elements.{All-push, All-same}
use Rattle.yv_note_places.specs.Place.{IsPlace}
use Rattle.yv_note_places.specs.declared.repeats.RepeatedMember.{RepeatedMember}
use Rattle.yv_note_places.proofs.repeats.repeated_members.Goals as goal
use Rattle.yv_note_places.proofs.repeats.repeated_members.Goals.{in-Some+in_ok-repeat+in_ok-push, in_default}

pub loop-offset-preserved : goal.loop-offset-preserved
loop-offset-preserved c =
    let before = c.loop-offset.invariant in
    let P : RepeatedMember → Type 0 = λ repeat. IsPlace c.args.text.now repeat.place in
    elim c.match-branch-2.branch [
      | in-Some+in_ok-repeat+in_ok-push w ↦ record {
        most = rw w.repeats-is (search rules);
        cursor = rw w.cursor-is (w.repeat_of.ensures.cursor before.cursor);
        positions = rw w.repeats-is (All-same P _ _ w.in_ok-push.ensures.items (All-push P _ _ before.positions (w.in_ok-repeat.ensures.place before.cursor)));
      }
      | in_default w ↦ record {
        most = rw w.repeats-is before.most;
        cursor = rw w.cursor-is before.cursor;
        positions = rw w.repeats-is before.positions;
      }
    ]
