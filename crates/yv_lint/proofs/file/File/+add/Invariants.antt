use Rattle.std.proofs.Common.{◌≡◌, ◌++◌, [], take, drop, false}
use Rattle.yv_text_statement.specs.Tree.{count, forest, trees}
use Rattle.yv_lint.specs.Definitions.{own_prefix}
use Rattle.yv_lint.specs.InnerFindings.{findings_at_places}
use Rattle.yv_lint.specs.InnerPlaces.{IsEarlier}
use Rattle.yv_lint.specs.InnerUses.{AreUses}
use Rattle.yv_lint.specs.Places.{places_in}
use Rattle.yv_lint.proofs.file.File.+add.Given as goal

abbrev pub invariant-loop-child : goal.invariant-loop-child
invariant-loop-child l = record {
  adds : l.findings.items ≡ l.initial.findings.items ++ findings_at_places l.self (places_in l.parent false [] (forest (take l.child-index (trees l.parent.children))));
  earlier : IsEarlier (take l.child-index (trees l.parent.children)) l.earlier;
  next : AreUses (own_prefix l.self.root.now) l.self.uses l.next (forest (drop l.child-index (trees l.parent.children)));
}

abbrev pub decreases-add : goal.decreases-add
decreases-add l = count l.place.now.statement.now.children
