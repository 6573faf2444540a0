use Rattle.std.proofs.Common.{◌+◌, ◌-◌, ◌≡◌, ◌==◌, take, drop, arith, ap, ◌∙◌, sym}
use Rattle.std.specs.Prelude.{count_by}
use Rattle.std.proofs.lemmas.List.{take-append-drop, take_rest}
use Rattle.std.proofs.Math.Seq.{take-add}
use Rattle.yv_source.proofs.ReadProgress.{count-append}
use Rattle.yv_source.proofs.place.line_feeds.Goals as goal

pub loop-at-preserved : goal.loop-at-preserved
loop-at-preserved c =
    let xs = c.args.bytes.now in
    let at = c.loop-at.at in
    let room : at + 192 - at ≡ 192 = omega arith in
    let block : c.block_feeds.result ≡ count_by (λ b. b == 10) (take 192 (drop at xs)) = c.block_feeds.ensures.count ∙ ap (λ n. count_by (λ b. b == 10) (take n (drop at xs))) room in
    let more : count_by (λ b. b == 10) (take (at + 192) xs) ≡ count_by (λ b. b == 10) (take at xs) + count_by (λ b. b == 10) (take 192 (drop at xs)) = ap (count_by (λ b. b == 10)) (take-add at 192 xs) ∙ count-append (take at xs) (take 192 (drop at xs)) in
    let so_far = c.loop-at.invariant in
    (omega arith, omega (arith, block, more, so_far.1), omega (arith, c.block_feeds.ensures.bound, so_far.2))

pub returns-clause-count : goal.returns-clause-count
returns-clause-count c =
    let xs = c.args.bytes.now in
    let at = c.loop-at.at in
    let rest : c.block_feeds-2.result ≡ count_by (λ b. b == 10) (drop at xs) = c.block_feeds-2.ensures.count ∙ ap (count_by (λ b. b == 10)) (take_rest xs at) in
    let all : count_by (λ b. b == 10) (take at xs) + count_by (λ b. b == 10) (drop at xs) ≡ count_by (λ b. b == 10) xs = sym (count-append (take at xs) (drop at xs)) ∙ ap (count_by (λ b. b == 10)) (take-append-drop at xs) in
    omega (arith, rest, all, c.loop-at.invariant.1)
