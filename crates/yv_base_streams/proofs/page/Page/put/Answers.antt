use Rattle.std.proofs.Common.{arith, length-take, length-drop, length, take, drop, ◌-◌, ◌++◌}
use Rattle.yv_base_streams.specs.Stream.{has_failed, stream_failures, stream_inner}
use Rattle.yv_base_streams.specs.Pages.{output_of}
use Rattle.yv_base_streams.proofs.PageWrites.{put_more}
use Rattle.yv_base_streams.proofs.page.Page.put.Goals as goal

pub loop-count-preserved : goal.loop-count-preserved
loop-count-preserved g c =
    let xs = c.args.bytes.now in
    let count = c.loop-count.count in
    let left = length-take (length xs - count) (drop count xs) in
    let behind = length-drop count xs in
    let after = output_of (g.W.Write.contents (stream_inner c.put_first-count.new.writer)) (has_failed c.put_first-count.new.writer)
    (stream_failures c.put_first-count.new.writer) c.put_first-count.new.self in
    record {
      within = omega (arith, left, behind, c.put_first-count.ensures.bound, c.loop-count.invariant.within);
      paged = λ start text h. put_more start text xs count c.put_first-count.result after c.loop-count.invariant.within c.put_first-count.ensures.bound
          (c.put_first-count.ensures.paged start (text ++ take count xs) (c.loop-count.invariant.paged start text h));
    }
