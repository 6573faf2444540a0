use Rattle.std.proofs.Common.{ap, length, arith}
use Rattle.yv_expand_refines.specs.Changes.{ChangesView}
use Rattle.yv_expand_refines.proofs.RunSequences.{items_of, length-sequences_of}
use Rattle.yv_expand_refines.proofs.changes.Changes.count.Goals as goal

pub returns : goal.returns
returns c =
    omega (arith, c.len.ensures, length-sequences_of (items_of c.self.inside.runs.items) c.self.inside.joints.made.items, ap (λ (x : ChangesView). length x.sequences) c.self.view_is)
