use Rattle.std.proofs.Common.{◌≡◌, length, map, take}
use Rattle.std.specs.List.{AllZip}
use Rattle.yv_base_streams.specs.Files.{file_of}
use Rattle.yv_source.specs.Texts.{IsText}
use Rattle.yv_source.proofs.texts.Texts.read.Given as goal

-- the texts so far
abbrev pub invariant-loop-number : goal.invariant-loop-number
invariant-loop-number l = (length l.texts.items ≡ l.number) × AllZip IsText (take l.number (map file_of l.inputs)) l.texts.items
