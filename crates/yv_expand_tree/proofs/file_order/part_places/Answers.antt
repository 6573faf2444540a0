use Rattle.std.proofs.Common.{length, map, ap, arith}
use Rattle.yv_link_scopes.specs.Files.{brief_of}
use Rattle.yv_link_scopes.specs.Views.{lent_in}
use Rattle.yv_expand_statements.specs.FileOrder.{part_places}
use Rattle.yv_expand_tree.proofs.GivenFiles.{places_all, places_step}
use Rattle.yv_expand_tree.proofs.file_order.part_places.Goals as goal

pub loop-file-preserved : goal.loop-file-preserved
loop-file-preserved c =
    let files = lent_in c.args.rows.now in
    places_step (map brief_of files) files c.loop-file.file c.part_place.result c.loop-file.places.items c.push.new.self.items (part_places files)
    (omega (arith, c.loop-file-test.true, ap length c.statements-file-end.ensures)) c.part_place.ensures c.in_ok-push.ensures.items c.loop-file.invariant

pub returns : goal.returns
returns c =
    let files = lent_in c.args.rows.now in
    places_all (map brief_of files) files c.loop-file.file c.loop-file.places.items (part_places files)
    (omega (arith, c.loop-file-test.false, ap length c.statements-file-end.ensures)) c.loop-file.invariant
