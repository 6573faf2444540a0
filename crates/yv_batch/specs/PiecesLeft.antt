-- The bytes that a reader of texts still has.
use Rattle.std.specs.Prelude.{ℕ, List, slice_range}
use Rattle.std.specs.declared.option.Option.{Option}
use Rattle.std.specs.Io.KnownBytes.{prepend_known}
use Rattle.yv_base_streams.specs.Stream.{stream_inner}
use Rattle.yv_batch.specs.declared.pieces.Pieces.{Pieces}

-- the bytes of the chunk that are still to come
abbrev pub pending_of : {R : Type 0} → Pieces R → List ℕ
pending_of p = slice_range p.chunk p.from p.to

-- these bytes, and those that the reader has left, where they are known
abbrev pub left_of : {R : Type 0} → (remaining : R → Option (List ℕ)) → Pieces R → Option (List ℕ)
left_of remaining p = prepend_known (pending_of p) (remaining (stream_inner p.reader))
