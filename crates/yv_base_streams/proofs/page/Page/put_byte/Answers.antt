use Rattle.yv_base_streams.specs.Stream.{has_failed, stream_failures, stream_inner}
use Rattle.yv_base_streams.proofs.PageWrites.{pushed}
use Rattle.yv_base_streams.proofs.page.Page.put_byte.Goals as goal

pub returns : goal.returns
returns g c = λ start text h.
    pushed start text (g.W.Write.contents (stream_inner c.make_room.new.writer)) (has_failed c.make_room.new.writer) (stream_failures c.make_room.new.writer) c.make_room.new.self c.push_byte.new.self c.args.byte
    (c.make_room.ensures.pages start text h) c.make_room.ensures.room c.push_byte.ensures
