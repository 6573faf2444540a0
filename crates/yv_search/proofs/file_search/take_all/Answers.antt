use Rattle.std.proofs.Common.{◌≡◌, List, map, subst, take, arith}
use Rattle.std.proofs.lemmas.List.{take_all, length-map}
use Rattle.yv_base_streams.specs.Files.{File, file_of}
use Rattle.yv_search.specs.InnerGather.{Begins}
use Rattle.yv_search.proofs.ListSteps.{get_map}
use Rattle.yv_search.proofs.Gatherings.{begins_more, begins_none}
use Rattle.yv_search.proofs.file_search.take_all.Goals as goal

pub loop-input-init : goal.loop-input-init
loop-input-init c = λ listing at. begins_none listing c.args.search.now at

pub loop-input-preserved : goal.loop-input-preserved
loop-input-preserved c = λ listing at.
    begins_more listing (map file_of c.args.named.now) c.loop-input.input-index (file_of c.input-item.result) c.deref.result.now c.loop-input.search c.take.new.search (c.loop-input.invariant listing at) c.deref.ensures.value
    (get_map file_of c.args.named.now c.loop-input.input-index c.input-item.result c.loop-input-test.true c.input-item.is) (c.in_ok-take.ensures listing)

pub returns : goal.returns
returns c = λ listing at.
    let whole : take c.loop-input.input-index (map file_of c.args.named.now) ≡ map file_of c.args.named.now = take_all c.loop-input.input-index (map file_of c.args.named.now) (omega (arith, length-map c.args.named.now file_of)) in
    subst (λ (fs : List File). Begins listing fs c.loop-input.search) whole (c.loop-input.invariant listing at)
