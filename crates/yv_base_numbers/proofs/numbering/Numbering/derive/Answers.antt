use Rattle.std.proofs.Common.{◌+◌, ◌∙◌, Some, ap, sym, subst}
use Rattle.std.proofs.lemmas.Option.{slice_get-get_or}
use Rattle.yv_base_numbers.specs.InnerEarlierEntries.{Tells, IsLeastBelow}
use Rattle.yv_base_numbers.specs.Numberings.{IsWrongAt, table_of, keep_numbers, is_wrong_in, pair_in}
use Rattle.yv_base_numbers.proofs.First.{first_of_all, entry_step}
use Rattle.yv_base_numbers.proofs.numbering.Numbering.derive.Goals as goal

pub loop-at-preserved : goal.loop-at-preserved
loop-at-preserved c =
    let base = table_of c.args.self.now in
    let here = slice_get-get_or c.args.entries.now c.loop-at.at c.index-entries-at.result c.loop-at-test.true ∙ ap Some (sym c.index-entries-at.is) in
    let more = entry_step (is_wrong_in base) (λ before e. pair_in base e) Tells c.loop-at.numbering c.keep.new.self c.args.entries.now c.loop-at.at c.index-entries-at.result c.loop-at.first_wrong _ here c.in_ok-is_right.ensures c.loop-at.invariant.tells c.loop-at.invariant.least in
    record {
      tells = more.0;
      least = subst (IsLeastBelow (IsWrongAt (keep_numbers base) (is_wrong_in base) c.args.entries.now) (c.loop-at.at + 1)) (sym c.first_with-first_wrong.ensures) more.1;
    }

pub returns-clause-wrong : goal.returns-clause-wrong
returns-clause-wrong c = first_of_all (keep_numbers (table_of c.args.self.now)) (is_wrong_in (table_of c.args.self.now)) c.args.entries.now c.loop-at.at c.loop-at.first_wrong c.loop-at-test.false c.loop-at.invariant.least
