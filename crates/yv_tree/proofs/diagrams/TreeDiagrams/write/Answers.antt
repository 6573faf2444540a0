use Rattle.std.proofs.Common.{◌≡◌, [], sym, ◌∙◌, false}
use Rattle.yv_base_streams.specs.Stream.{has_failed, stream_failures, stream_inner}
use Rattle.yv_base_streams.proofs.PageWrites.{all_written, front_written, none_written, not_failed, not_failed_yet, once_written}
use Rattle.yv_tree.proofs.diagrams.TreeDiagrams.write.Goals as goal

pub returns-clause-done : goal.returns-clause-done
returns-clause-done g c = λ e. (
    let start = g.W.Write.contents (stream_inner c.args.writer.now) in
    let text = c.args.self.now in
    let works : has_failed c.turn.new.writer ≡ false = sym c.has_failed.ensures ∙ not_failed c.has_failed.result e in
    all_written start (g.W.Write.contents (stream_inner c.turn.new.writer)) text c.turn.new.self (has_failed c.turn.new.writer) (stream_failures c.turn.new.writer)
    (c.turn.ensures.pages start text
    (c.draw.ensures start [] (none_written start (has_failed c.args.writer.now) (stream_failures c.args.writer.now) c.new-page.result c.new-page.ensures (not_failed_yet c.args.writer.now c.requires)))) works (c.turn.ensures.empties works))

pub returns-clause-part : goal.returns-clause-part
returns-clause-part g c =
    let start = g.W.Write.contents (stream_inner c.args.writer.now) in
    let text = c.args.self.now in
    front_written start (g.W.Write.contents (stream_inner c.turn.new.writer)) text c.turn.new.self (has_failed c.turn.new.writer) (stream_failures c.turn.new.writer)
    (c.turn.ensures.pages start text
    (c.draw.ensures start [] (none_written start (has_failed c.args.writer.now) (stream_failures c.args.writer.now) c.new-page.result c.new-page.ensures (not_failed_yet c.args.writer.now c.requires))))

pub returns-clause-once : goal.returns-clause-once
returns-clause-once g c =
    let start = g.W.Write.contents (stream_inner c.args.writer.now) in
    let text = c.args.self.now in
    once_written start (g.W.Write.contents (stream_inner c.turn.new.writer)) text c.turn.new.self (has_failed c.turn.new.writer) (stream_failures c.turn.new.writer)
    (c.turn.ensures.pages start text
    (c.draw.ensures start [] (none_written start (has_failed c.args.writer.now) (stream_failures c.args.writer.now) c.new-page.result c.new-page.ensures (not_failed_yet c.args.writer.now c.requires))))
