use Rattle.std.proofs.Common.{◌∙◌, sym, ap, subst, true, Some, ℤ, rules}
use Rattle.std.specs.Prelude.{◌||◌, is_some}
use Rattle.std.proofs.lemmas.Int.{to_z-of_z}
use mir.Syntax.{w64}
use mir.Val.{SFits, to_z, of_z}
use Rattle.yv_base_numbers.specs.InnerEarlierEntries.{Adds, Keeps}
use Rattle.yv_base_numbers.specs.Numberings.{number_in, is_taken}
use Rattle.yv_base_numbers.specs.declared.earlier_entries.EarlierEntries.{EarlierEntries}
use Rattle.yv_base_numbers.proofs.Pairs.{put_adds}
use Rattle.yv_base_numbers.proofs.earlier_entries.EarlierEntries.put.Goals as goal

pub returns : goal.returns
returns c =
    let fits : SFits w64 c.higher.result = search rules in
    let top = ap (λ (n : ℤ). Some n) (to_z-of_z w64 c.higher.result fits ∙ c.higher.ensures) in
    let name = c.args.name.now in
    let same = to_z-of_z w64 c.args.number c.ranges.number in
    let new : EarlierEntries = record { names = c.put.new.self; taken = c.insert.new.self; highest = Some (to_z w64 (of_z w64 c.higher.result)) } in
    let adds = put_adds c.args.self.now new name (to_z w64 (of_z w64 c.args.number)) c.in_ok-put.ensures c.in_ok-insert.ensures.updates.0 top (sym c.if-has.ensures) in
    subst (λ (n : ℤ). Adds Keeps (λ ps. is_some (number_in ps name) || is_taken ps n) (λ ps. record { name = name; number = n }) c.args.self.now new true) same adds
