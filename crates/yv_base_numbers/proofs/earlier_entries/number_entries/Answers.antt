use Rattle.std.proofs.Common.{◌+◌, ◌∙◌, Some, ap, sym, subst}
use Rattle.std.proofs.lemmas.Option.{slice_get-get_or}
use Rattle.yv_base_numbers.specs.InnerEarlierEntries.{Keeps, IsLeastBelow}
use Rattle.yv_base_numbers.specs.Numberings.{IsWrongAt, number_entries, is_wrong, pair_of}
use Rattle.yv_base_numbers.proofs.First.{first_of_all, entry_step}
use Rattle.yv_base_numbers.proofs.earlier_entries.number_entries.Goals as goal

pub loop-at-preserved : goal.loop-at-preserved
loop-at-preserved c =
    let here = slice_get-get_or c.args.entries.now c.loop-at.at c.index-entries-at.result c.loop-at-test.true ∙ ap Some (sym c.index-entries-at.is) in
    let more = entry_step (is_wrong c.args.kind) pair_of Keeps c.loop-at.seen c.add.new.self c.args.entries.now c.loop-at.at c.index-entries-at.result c.loop-at.first_wrong _ here c.in_ok-is_right.ensures c.loop-at.invariant.keeps c.loop-at.invariant.least in
    record {
      keeps = more.0;
      least = subst (IsLeastBelow (IsWrongAt (number_entries c.args.kind) (is_wrong c.args.kind) c.args.entries.now) (c.loop-at.at + 1)) (sym c.first_with-first_wrong.ensures) more.1;
    }

pub returns-clause-wrong : goal.returns-clause-wrong
returns-clause-wrong c = first_of_all (number_entries c.args.kind) (is_wrong c.args.kind) c.args.entries.now c.loop-at.at c.loop-at.first_wrong c.loop-at-test.false c.loop-at.invariant.least
