use Rattle.std.proofs.Common.{sym, subst, true, ℤ}
use Rattle.std.specs.Prelude.{is_some}
use Rattle.std.proofs.lemmas.Int.{to_z-of_z}
use mir.Syntax.{w64}
use mir.Val.{to_z, of_z}
use Rattle.yv_base_numbers.specs.InnerEarlierEntries.{Adds, Tells}
use Rattle.yv_base_numbers.specs.Numberings.{number_in}
use Rattle.yv_base_numbers.proofs.Pairs.{new_adds}
use Rattle.yv_base_numbers.proofs.numbering.Numbering.keep_new.Goals as goal

pub returns : goal.returns
returns c =
    let name = c.args.name.now in
    let same = to_z-of_z w64 c.args.number c.ranges.number in
    let adds = new_adds c.args.self.now c.put.new.self name (to_z w64 (of_z w64 c.args.number)) c.in_ok-put.ensures (sym c.if-has.ensures) in
    subst (λ (n : ℤ). Adds Tells (λ ps. is_some (number_in ps name)) (λ ps. record { name = name; number = n }) c.args.self.now c.put.new.self true) same adds
