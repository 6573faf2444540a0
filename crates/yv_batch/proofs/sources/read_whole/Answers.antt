use Rattle.std.proofs.Common.{ℕ, List, Option, ap, arith, subst}
use Rattle.yv_base_streams.specs.Stream.{stream_inner}
use Rattle.yv_base_streams.proofs.StreamLemmas.{gave_up_to}
use Rattle.yv_batch.specs.AskedDocument.{Read}
use Rattle.yv_batch.specs.SourceStore.{IsWhole}
use Rattle.yv_batch.proofs.SourceLemmas.{whole_read}
use Rattle.yv_batch.proofs.sources.read_whole.Goals as goal

pub returns-in-Ok : goal.returns-in-Ok
returns-in-Ok g c =
    let read = c.in-Ok.ensures in
    let given = c.in-Ok.bytes.items in
    let whole = whole_read (g.R.Read.remaining (stream_inner c.new.result)) given (gave_up_to _ _ given 16777217 read.gives (omega (arith, read.bound)) (λ h. read.end (omega (arith, h)))) in
    subst (λ (o : Option (List ℕ)). IsWhole o (Read given)) (ap g.R.Read.remaining c.new.ensures.inner) whole
