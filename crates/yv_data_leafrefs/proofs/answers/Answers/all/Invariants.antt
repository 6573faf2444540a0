use Rattle.std.proofs.Common.{◌≡◌, ◌+◌}
use Rattle.yv_values.specs.Count.{count_up}
use Rattle.yv_data_leafrefs.specs.InnerAnswers.{AreMarks, count_leafrefs, judge_all, Marks, paths_of}
use Rattle.yv_nodes.specs.Link.{link_in}
use Rattle.yv_data_leafrefs.specs.InnerNames.{AreNames}
use Rattle.yv_data_leafrefs.proofs.answers.Answers.all.Given as goal

-- the notes so far are answered
abbrev pub invariant-loop-note : goal.invariant-loop-note
invariant-loop-note l =
    ((m : Marks) → AreMarks l.self.targets l.self.uses m → paths_of l.self.schema.now l.self.positions.items l.values.items ≡ judge_all l.self.schema.now (link_in l.self.links.now) m l.self.positions.items l.yielded)
    × (count_up l.meter ≡ count_up (l.initial.meter + count_leafrefs (link_in l.self.links.now) l.yielded))
    × AreNames l.self.schema.now l.names
