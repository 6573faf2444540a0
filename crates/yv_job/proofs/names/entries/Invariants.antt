use Rattle.std.proofs.Common.{map, take}
use Rattle.std.specs.List.{AllZip}
use Rattle.yv_job.specs.Names.{IsEntry}
use Rattle.yv_text_statement.specs.Selection.{entry_of}
use Rattle.yv_job.proofs.names.entries.Given as goal

abbrev pub invariant-loop-part : goal.invariant-loop-part
invariant-loop-part l = AllZip (λ p e. IsEntry p.now e) (take l.part-index l.parts) (map entry_of l.entries.items)
