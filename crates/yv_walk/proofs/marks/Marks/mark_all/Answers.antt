use Rattle.std.proofs.Common.{◌≡◌, true, sym, ap, ◌∙◌}
use Rattle.yv_nodes.specs.Rows.{row_at}
use Rattle.yv_walk.specs.InnerMarks.{has_room}
use Rattle.yv_walk.specs.Marks.{with_node, mark_at}
use Rattle.yv_walk.specs.Existence.{passes}
use Rattle.yv_walk.proofs.Above.{climb, inner_row, is_at, parent_less, parent_within}
use Rattle.yv_walk.proofs.Steps.{above_here, at_itself, climbed}
use Rattle.yv_walk.proofs.marks.Marks.mark_all.Goals as goal

pub loop-id-init : goal.loop-id-init
loop-id-init c =
    let s = c.args.schema.now in
    let sound = c.node.ensures.sound in
    let up : c.parent-here.result ≡ (row_at s c.args.id).parent = c.parent-here.ensures ∙ ap (λ r. r.parent) c.node.ensures.value in
    record {
      sound = sound;
      within = parent_within s c.args.id c.parent-here.result sound c.requires.node up;
      marks = λ a lt pass. ap (λ b. with_node b (mark_at c.args.self.now a.0) c.args.id)
          (ap (is_at s a) up ∙ sym (climb s a c.args.id sound lt pass c.requires.node));
      room = λ a lt pass h. c.requires.room a lt pass (climb s a c.args.id sound lt pass c.requires.node ∙ ap (is_at s a) (sym up) ∙ h);
    }

pub loop-id-preserved : goal.loop-id-preserved
loop-id-preserved c =
    let s = c.args.schema.now in
    let sound = c.loop-id.invariant.sound in
    let here = c.loop-id.here in
    let next = c.parent-here-in-loop-id.result in
    let passing : passes s here ≡ true = sym c.is_passed.ensures ∙ c.loop-id-test.true in
    let in_here = inner_row s here c.loop-id.invariant.within passing in
    let up : next ≡ (row_at s here).parent = c.parent-here-in-loop-id.ensures ∙ ap (λ r. r.parent) c.node-in-loop-id.ensures.value in
    record {
      sound = sound;
      within = parent_within s here next sound in_here up;
      marks = λ a lt pass. climbed s a here next c.args.id c.loop-id.self c.mark_number.new.self sound lt pass in_here passing up
          c.number.result c.number.ensures c.mark_number.ensures.marks
          ∙ c.loop-id.invariant.marks a lt pass;
      room = λ a lt pass h. c.mark_number.ensures.keeps a.0 (c.loop-id.invariant.room a lt pass (above_here s a here next sound lt pass in_here passing up h));
    }

pub loop-id-smaller : goal.loop-id-smaller
loop-id-smaller c =
    let s = c.args.schema.now in
    let here = c.loop-id.here in
    let passing : passes s here ≡ true = sym c.is_passed.ensures ∙ c.loop-id-test.true in
    let up : c.parent-here-in-loop-id.result ≡ (row_at s here).parent = c.parent-here-in-loop-id.ensures ∙ ap (λ r. r.parent) c.node-in-loop-id.ensures.value in
    parent_less s here c.parent-here-in-loop-id.result c.loop-id.invariant.sound c.loop-id.invariant.within passing up

pub mark_number-requires : goal.mark_number-requires
mark_number-requires c =
    let s = c.args.schema.now in
    let here = c.loop-id.here in
    let passing : passes s here ≡ true = sym c.is_passed.ensures ∙ c.loop-id-test.true in
    ap (has_room c.loop-id.self) c.number.ensures
    ∙ c.loop-id.invariant.room here (inner_row s here c.loop-id.invariant.within passing) passing (at_itself s here passing)
