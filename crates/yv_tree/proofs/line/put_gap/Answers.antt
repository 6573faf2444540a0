use Rattle.std.proofs.Common.{◌≡◌, ◌+◌, ◌-◌, ◌∙◌, ◌++◌, List, ℕ, ap, arith, codes, replicate, subst, sym}
use Rattle.yv_base_streams.specs.Pages.{Adds}
use Rattle.yv_tree.proofs.Blanks.{more_blanks}
use Rattle.yv_tree.proofs.Parts.{adds_both}
use Rattle.yv_tree.proofs.line.put_gap.Goals as goal

pub returns-then-taken-width : goal.returns-then-taken-width
returns-then-taken-width g c =
    let old = g.P.Paper.output c.args.page.now c.args.paper.now in
    let mid = g.P.Paper.output c.put.new.page c.put.new.self in
    let new = g.P.Paper.output c.put_blanks.new.page c.put_blanks.new.paper in
    let more = c.args.width - c.args.taken in
    let sum : 4 + c.args.width - c.args.taken ≡ 4 + more = omega arith in
    let same : replicate {A = ℕ} (4 + c.args.width - c.args.taken) 32 ≡ codes "    " ++ replicate {A = ℕ} more 32 = ap (λ k. replicate {A = ℕ} k 32) sum ∙ more_blanks 4 more in
    subst (λ (l : List ℕ). Adds l old new) (sym same) (adds_both (codes "    ") (replicate {A = ℕ} more 32) old mid new c.put.ensures c.put_blanks.ensures)
