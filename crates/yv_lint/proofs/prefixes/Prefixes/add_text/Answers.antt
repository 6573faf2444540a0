use Rattle.std.proofs.Common.{◌≡◌, ◌||◌, false, filter, get_or, refl, sym, ◌∙◌, ap, arith}
use Rattle.yv_text_if_feature.specs.Names.{is_identifier, is_part}
use Rattle.yv_text_statement.specs.Words.{is_among}
use Rattle.yv_lint.specs.InnerUsed.{has_prefix}
use Rattle.yv_lint.proofs.PrefixSets.{part_step, colon_step, other_step, run_more}
use Rattle.yv_lint.proofs.prefixes.Prefixes.add_text.Goals as goal
use Rattle.yv_lint.proofs.prefixes.Prefixes.add_text.Goals.{then-byte-eq58+in_ok-add_run, else-byte-eq58}

pub loop-i-preserved-then-is_part : goal.loop-i-preserved-then-is_part
loop-i-preserved-then-is_part c = record {
  within = omega arith;
  each = λ p.
      ap (λ runs. has_prefix c.loop-i.self p || is_among (filter is_identifier runs) p)
      (part_step c.args.text.now c.loop-i.start c.loop-i.i c.loop-i.invariant.within (omega arith) (sym c.is_part.ensures ∙ c.if-is_part.true))
      ∙ c.loop-i.invariant.each p;
}

pub loop-i-preserved : goal.loop-i-preserved
loop-i-preserved c =
    let plain : is_part (get_or c.args.text.now c.loop-i.i 0) ≡ false = sym c.is_part.ensures ∙ c.if-is_part.false in
    record {
      within = omega arith;
      each = λ p. elim c.if-byte-eq58.branch [
        | then-byte-eq58+in_ok-add_run w ↦ rw w.self-is (run_more c.loop-i.self w.add_run.new.self _ _ _ _ p refl w.in_ok-add_run.ensures (colon_step c.args.text.now c.loop-i.start c.loop-i.i (omega arith) plain w.if-byte-eq58.true) ∙ c.loop-i.invariant.each p)
        | else-byte-eq58 w ↦ rw w.self-is (ap (λ runs. has_prefix c.loop-i.self p || is_among (filter is_identifier runs) p) (other_step c.args.text.now c.loop-i.start c.loop-i.i (omega arith) plain w.if-byte-eq58.false) ∙ c.loop-i.invariant.each p)
      ];
    }
