use Rattle.std.proofs.Common.{subst, List, ℕ, take}
use Rattle.std.specs.Io.KnownBytes.{Appends}
use Rattle.yv_base_streams.specs.Stream.{has_failed, stream_failures, stream_inner}
use Rattle.yv_base_streams.proofs.PageWrites.{partly, wholly}
use Rattle.yv_base_streams.proofs.page.Page.write.Goals as goal

pub returns-then-write_whole-clause-pages : goal.returns-then-write_whole-clause-pages
returns-then-write_whole-clause-pages g c = λ start text h.
    wholly start text (g.W.Write.contents (stream_inner c.args.writer.now)) (g.W.Write.contents (stream_inner c.write_whole.new.writer)) (has_failed c.args.writer.now)
    (has_failed c.write_whole.new.writer) (stream_failures c.args.writer.now) (stream_failures c.write_whole.new.writer) c.args.self.now c.requires h
    (subst (Appends (g.W.Write.contents (stream_inner c.args.writer.now)) (g.W.Write.contents (stream_inner c.write_whole.new.writer))) c.pending_bytes.ensures (c.write_whole.ensures.ends c.if-write_whole.true)) c.write_whole.ensures.once

pub returns-else-write_whole-clause-pages : goal.returns-else-write_whole-clause-pages
returns-else-write_whole-clause-pages g c = λ start text h.
    let part = c.write_whole.ensures.part in
    partly start text (g.W.Write.contents (stream_inner c.args.writer.now)) (g.W.Write.contents (stream_inner c.write_whole.new.writer)) (has_failed c.args.writer.now)
    (has_failed c.write_whole.new.writer) (stream_failures c.args.writer.now) (stream_failures c.write_whole.new.writer) c.args.self.now part.0 c.requires (c.write_whole.ensures.fault.0 c.if-write_whole.false) h
    (subst (λ (l : List ℕ). Appends (g.W.Write.contents (stream_inner c.args.writer.now)) (g.W.Write.contents (stream_inner c.write_whole.new.writer)) (take part.0 l)) c.pending_bytes.ensures part.1) c.write_whole.ensures.once
