use Rattle.std.proofs.KnownBytes.{prepend_known-nil}
use Rattle.yv_base_streams.specs.Stream.{stream_inner}
use Rattle.yv_batch.proofs.pieces.Pieces.new.Goals as goal

pub returns : goal.returns
returns g c = prepend_known-nil (g.R.Read.remaining (stream_inner c.args.reader))
