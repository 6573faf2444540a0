use Rattle.std.specs.Io.KnownBytes.{Keeps}
use Rattle.yv_base_streams.specs.Stream.{stream_inner}
use Rattle.yv_batch.proofs.pieces.read_chunk.Given as goal

-- no byte was taken
abbrev pub invariant-loop : goal.invariant-loop
invariant-loop g l = Keeps (g.R.Read.remaining (stream_inner l.initial.reader)) (g.R.Read.remaining (stream_inner l.reader))
