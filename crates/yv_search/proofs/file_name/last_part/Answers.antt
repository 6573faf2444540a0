use Rattle.std.proofs.Common.{◌≡◌, ◌-◌, ◌==◌, ℕ, suc, drop, sym, ap, subst, ◌∙◌, arith, false}
use Rattle.std.specs.List.{list_any}
use Rattle.std.proofs.lemmas.List.{take_rest}
use Rattle.yv_search.specs.Listing.{slash}
use Rattle.yv_search.proofs.LastParts.{last_part_clean, last_part_at}
use Rattle.yv_search.proofs.file_name.last_part.Goals as goal

pub returns-then-path-start-eq47 : goal.returns-then-path-start-eq47
returns-then-path-start-eq47 c =
    let e : c.loop-start.start ≡ suc (c.loop-start.start - 1) = omega arith in
    let clean : list_any (λ b. b == slash) (drop (suc (c.loop-start.start - 1)) c.args.path.now) ≡ false = subst (λ (k : ℕ). list_any (λ b. b == slash) (drop k c.args.path.now) ≡ false) e c.loop-start.invariant.clean in
    take_rest c.args.path.now c.loop-start.start
    ∙ ap (λ k. drop k c.args.path.now) e
    ∙ sym (last_part_at c.args.path.now (c.loop-start.start - 1) (omega arith) c.if-path-start-eq47.true clean)

pub returns : goal.returns
returns c =
    let e : c.loop-start.start ≡ 0 = omega arith in
    sym (last_part_clean c.args.path.now (subst (λ (k : ℕ). list_any (λ b. b == slash) (drop k c.args.path.now) ≡ false) e c.loop-start.invariant.clean))
