use Rattle.std.proofs.Common.{◌≡◌, take}
use Rattle.yv_data_leafrefs.specs.InnerAnswers.{objects_of}
use Rattle.yv_data_leafrefs.specs.InnerNames.{AreNames}
use Rattle.yv_data_leafrefs.proofs.answers.Answers.objects.Given as goal

-- the objects so far, and the names that were made
abbrev pub invariant-loop-object : goal.invariant-loop-object
invariant-loop-object l =
    (l.objects.items ≡ objects_of l.self.schema.now (take l.object-index l.self.positions.items)) × AreNames l.self.schema.now l.names
