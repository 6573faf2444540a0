use Rattle.std.proofs.Common.{◌∙◌}
use Rattle.yv_nodes.specs.Link.{link_in}
use Rattle.yv_data_leafrefs.specs.InnerAnswers.{paths_of}
use Rattle.yv_data_leafrefs.proofs.IndexAgreement.{one_asked, one_judged}
use Rattle.yv_data_leafrefs.proofs.answers.Answers.all.Goals as goal

pub loop-note-preserved : goal.loop-note-preserved
loop-note-preserved c =
    let s = c.args.self.now.schema.now in
    let links = link_in c.args.self.now.links.now in
    let ps = c.args.self.now.positions.items in (
      λ m g. one_judged s links m ps c.loop-note.yielded c.in-Some.note (paths_of s ps c.loop-note.values.items) (paths_of s ps c.one.new.values.items) (c.loop-note.invariant.0 m g) (c.in_ok-one.ensures.tells m g),
      one_asked links c.loop-note.yielded c.in-Some.note c.args.meter.now c.loop-note.meter c.one.new.meter c.loop-note.invariant.1 c.in_ok-one.ensures.steps,
      c.in_ok-one.ensures.names,
    )
