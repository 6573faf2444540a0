use Rattle.std.proofs.Common.{◌≡◌, Some, None, sym, ◌∙◌, ap}
use Rattle.std.specs.Option.{option_map}
use Rattle.yv_link_scopes.specs.Files.{Files}
use Rattle.yv_link_scopes.specs.Views.{lent_in}
use Rattle.yv_base_tables.specs.Slots.{at}
use Rattle.yv_types.specs.Referrals.{derived_at}
use Rattle.yv_types.proofs.LeafrefFinding.{found_derived, found_none, found_own}
use Rattle.yv_types.proofs.leafref_lookup.found_at.Goals as goal

pub returns-then-is_leafref_at : goal.returns-then-is_leafref_at
returns-then-is_leafref_at c = λ bases known.
    found_own (lent_in c.args.rows.now) c.args.number c.own_at.result (c.is_leafref_at.ensures.0 c.if-is_leafref_at.true) c.own_at.ensures

pub returns-in_err-followed : goal.returns-in_err-followed
returns-in_err-followed c = λ bases known.
    let files : Files = lent_in c.args.rows.now in
    found_none files c.args.number c.is_leafref_at.result c.follows.result c.from_residual.result c.is_leafref_at.ensures c.if-is_leafref_at.false (c.follows.ensures files bases) c.in_err-followed.was c.from_residual.ensures

pub returns-in_err-base : goal.returns-in_err-base
returns-in_err-base c = λ bases known.
    let files : Files = lent_in c.args.rows.now in
    let f = (c.follows.ensures files bases c.in_ok-followed.followed).0 c.in_ok-followed.was in
    let none : at c.args.found.now c.in_ok-followed.followed ≡ None = sym c.get.ensures ∙ c.in_err-base.was in
    found_derived files c.args.number c.in_ok-followed.followed (at c.args.found.now c.in_ok-followed.followed) c.from_residual-in_err-base.result f (known c.in_ok-followed.followed f)
    (ap (option_map (derived_at files c.args.number)) none ∙ sym c.from_residual-in_err-base.ensures)

pub returns : goal.returns
returns c = λ bases known.
    let files : Files = lent_in c.args.rows.now in
    let f = (c.follows.ensures files bases c.in_ok-followed.followed).0 c.in_ok-followed.was in
    let some : at c.args.found.now c.in_ok-followed.followed ≡ Some c.in_ok-base.base = sym c.get.ensures ∙ c.in_ok-base.was in
    found_derived files c.args.number c.in_ok-followed.followed (at c.args.found.now c.in_ok-followed.followed) (Some c.derived_at.result) f (known c.in_ok-followed.followed f)
    (ap (option_map (derived_at files c.args.number)) some ∙ ap Some (sym c.derived_at.ensures))
