use Rattle.std.proofs.Common.{◌≡◌, ◌&&◌, ℕ, List, take}
use Rattle.yv_link.specs.LinkedFiles.{truth_in}
use Rattle.yv_type_enums.specs.Entries.{is_on_among}
use Rattle.yv_type_enums.specs.InnerEntries.{counts, borrow}
use Rattle.yv_type_enums.specs.Values.{has}
use Rattle.yv_type_enums.proofs.if_features.IfFeatures.values.Given as goal

abbrev pub invariant-loop-line : goal.invariant-loop-line
invariant-loop-line l = (name : List ℕ) → has l.values name ≡ (counts l.numbering l.base name && is_on_among (truth_in l.self.linked.now) l.self.file (take l.line-index (borrow l.lines)) name)
