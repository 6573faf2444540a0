use Rattle.std.proofs.Common.{◌+◌, ◌-◌, ◌≡◌, true, ◌&&◌, take, drop, arith, ap, ◌∙◌, sym}
use Rattle.std.specs.List.{list_all}
use Rattle.std.proofs.Math.Seq.{take-add}
use Rattle.std.proofs.lemmas.List.Folds.{list_all-append}
use Rattle.yv_source.specs.Inner.Plain.{is_common}
use Rattle.yv_source.proofs.source.blocks_len.Goals as goal

pub loop-len-preserved : goal.loop-len-preserved
loop-len-preserved c =
    let xs = c.args.bytes.now in
    let len = c.loop-len.len in
    let more : list_all is_common (take (len + 64) xs) ≡ (list_all is_common (take len xs) && list_all is_common (take 64 (drop len xs))) =
    ap (list_all is_common) (take-add len 64 xs) ∙ list_all-append is_common (take len xs) (take 64 (drop len xs))
    in
    let room : 64 ≡ len + 64 - len = omega arith in
    let block : list_all is_common (take 64 (drop len xs)) ≡ true =
    ap (λ n. list_all is_common (take n (drop len xs))) room ∙ sym c.are_common.ensures ∙ c.if-not-are_common.false
    in (
      omega arith,
      more ∙ ap (λ v. v && list_all is_common (take 64 (drop len xs))) c.loop-len.invariant.1 ∙ block,
    )
