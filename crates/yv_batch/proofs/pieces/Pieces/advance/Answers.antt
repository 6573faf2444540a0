use Rattle.std.proofs.Common.{◌+◌, ◌-◌, drop, arith}
use Rattle.std.proofs.lemmas.List.{length-take}
use Rattle.std.specs.List.{slice_range}
use Rattle.yv_base_streams.specs.Stream.{stream_inner}
use Rattle.yv_batch.proofs.PieceLemmas.{prepend_consumes, range_after}
use Rattle.yv_batch.proofs.pieces.Pieces.advance.Goals as goal

pub returns : goal.returns
returns g c =
    let p = c.args.self.now in
    prepend_consumes (slice_range p.chunk p.from p.to) (slice_range p.chunk (p.from + c.args.count) p.to) _ (g.R.Read.remaining (stream_inner p.reader))
    (range_after p.chunk p.from p.to c.args.count (omega (arith, c.requires, p.ordered, length-take (p.to - p.from) (drop p.from p.chunk))))
