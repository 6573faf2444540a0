use Rattle.std.proofs.Common.{◌≡◌, Some, ap, refl, sym, ◌∙◌}
use Rattle.std.specs.List.{slice_get}
use Rattle.std.proofs.lemmas.Option.{slice_get_read}
use Rattle.yv_expand_rounds.proofs.places.ItemPlaces.members.Goals as goal

pub returns-in-Some : goal.returns-in-Some
returns-in-Some c = λ labels groups are.
    let at : slice_get c.args.self.now.groups.items c.args.group ≡ Some c.in-Some.group.now =
    ap (λ gs. slice_get gs c.args.group) (sym c.deref.ensures.value)
    ∙ slice_get_read c.deref.result.now _ c.args.group c.in-Some.group.now refl c.in-Some.ensures.lookup.3.0 c.in-Some.ensures.lookup.1 in
    c.deref-in-Some.ensures.value ∙ (are.groups_are.group c.args.group c.in-Some.group.now at).members_are
