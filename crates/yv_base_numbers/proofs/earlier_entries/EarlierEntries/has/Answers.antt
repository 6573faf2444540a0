use Rattle.std.proofs.Common.{◌∙◌, ◌||◌, ap, ℤ, Bool}
use Rattle.std.specs.BTreeSet.{contains}
use Rattle.std.specs.Ordering.{int_cmp}
use Rattle.std.proofs.lemmas.Int.{to_z-of_z}
use mir.Syntax.{w64}
use Rattle.yv_base_numbers.proofs.earlier_entries.EarlierEntries.has.Goals as goal

pub returns-else-has : goal.returns-else-has
returns-else-has c =
    let taken = c.args.self.now.taken in
    c.contains.ensures ∙ ap (λ (n : ℤ). contains int_cmp taken n) (to_z-of_z w64 c.args.number c.ranges.number) ∙ ap (λ (t : Bool). t || contains int_cmp taken c.args.number) c.if-has.ensures
