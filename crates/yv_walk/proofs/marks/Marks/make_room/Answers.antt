use Rattle.std.proofs.Common.{◌≡◌, true, sym, refl, ap, ◌∙◌}
use Rattle.yv_nodes.specs.Rows.{row_at}
use Rattle.yv_walk.specs.InnerMarks.{has_room}
use Rattle.yv_walk.specs.Existence.{passes}
use Rattle.yv_walk.proofs.Above.{climb, inner_row, is_at, parent_less, parent_within}
use Rattle.yv_walk.proofs.Bools.{or_left}
use Rattle.yv_walk.proofs.Steps.{room_all, room_next}
use Rattle.yv_walk.proofs.marks.Marks.make_room.Goals as goal

pub loop-here-init : goal.loop-here-init
loop-here-init c =
    let s = c.args.schema.now in
    let sound = c.node.ensures.sound in
    let up : c.parent-here.result ≡ (row_at s c.args.id).parent = c.parent-here.ensures ∙ ap (λ r. r.parent) c.node.ensures.value in
    record {
      sound = sound;
      within = parent_within s c.args.id c.parent-here.result sound c.requires up;
      same = λ n. refl;
      room = λ a lt pass h. or_left (is_at s a c.parent-here.result) (has_room c.args.self.now a.0)
          (ap (is_at s a) up ∙ sym (climb s a c.args.id sound lt pass c.requires) ∙ h);
    }

pub loop-here-preserved : goal.loop-here-preserved
loop-here-preserved c =
    let s = c.args.schema.now in
    let sound = c.loop-here.invariant.sound in
    let here = c.loop-here.here in
    let passing : passes s here ≡ true = sym c.is_passed.ensures ∙ c.loop-here-test.true in
    let in_here = inner_row s here c.loop-here.invariant.within passing in
    let up : c.parent-here-in-loop-here.result ≡ (row_at s here).parent = c.parent-here-in-loop-here.ensures ∙ ap (λ r. r.parent) c.node-in-loop-here.ensures.value in
    record {
      sound = sound;
      within = parent_within s here c.parent-here-in-loop-here.result sound in_here up;
      same = λ n. c.make_room_at.ensures.same n ∙ c.loop-here.invariant.same n;
      room = λ a lt pass h. room_next s a here c.parent-here-in-loop-here.result c.loop-here.self c.make_room_at.new.self sound lt pass in_here up
          c.number.result c.number.ensures c.in_ok-make_room_at.ensures.room c.make_room_at.ensures.keeps (c.loop-here.invariant.room a lt pass h);
    }

pub loop-here-smaller : goal.loop-here-smaller
loop-here-smaller c =
    let s = c.args.schema.now in
    let here = c.loop-here.here in
    let passing : passes s here ≡ true = sym c.is_passed.ensures ∙ c.loop-here-test.true in
    let up : c.parent-here-in-loop-here.result ≡ (row_at s here).parent = c.parent-here-in-loop-here.ensures ∙ ap (λ r. r.parent) c.node-in-loop-here.ensures.value in
    parent_less s here c.parent-here-in-loop-here.result c.loop-here.invariant.sound c.loop-here.invariant.within passing up

pub returns-clause-room : goal.returns-clause-room
returns-clause-room c = λ a lt pass h.
    room_all c.args.schema.now a c.loop-here.here (has_room c.loop-here.self a.0) (sym c.is_passed.ensures ∙ c.loop-here-test.false)
    (c.loop-here.invariant.room a lt pass h)
