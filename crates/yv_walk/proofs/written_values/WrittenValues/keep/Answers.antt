use Rattle.std.proofs.Common.{◌≡◌, None, sym, ◌∙◌, ap, rules}
use Rattle.std.specs.Option.{option_map}
use Rattle.yv_walk.proofs.MemberValues.{kept_new}
use Rattle.yv_walk.proofs.written_values.WrittenValues.keep.Goals as goal

pub returns-in_ok-insert : goal.returns-in_ok-insert
returns-in_ok-insert c =
    let none : c.get.result ≡ None = search rules in
    kept_new c.args.self.now.values c.insert.new.self c.args.number c.args.value (sym c.get.ensures ∙ ap (option_map _) none) c.in_ok-insert.ensures.updates
