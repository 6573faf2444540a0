use Rattle.std.proofs.Common.{◌≡◌, ◌-◌, ℕ, length, Some, refl, arith}
use Rattle.std.specs.List.{slice_get}
use Rattle.std.proofs.lemmas.Option.{slice_get_read}
use Rattle.yv_data_quiet.proofs.QuietSteps.{known_at}
use Rattle.yv_data_quiet.proofs.quiet.known_steps.Goals as goal

pub returns-in-Some : goal.returns-in-Some
returns-in-Some c =
    let back : ℕ = c.len.result - 1 - c.number.result in
    let at : slice_get c.args.known.now back ≡ Some c.in-Some.steps.now =
    slice_get_read c.args.known.now _ back c.in-Some.steps.now refl c.in-Some.ensures.lookup.3.0 c.in-Some.ensures.lookup.1 in
    let number : c.args.id.0 ≡ length c.args.schema.now.nodes - 1 - back = omega (arith, c.len.ensures.rows, c.number.ensures, c.requires.node) in
    known_at c.args.schema.now c.args.known.now back c.args.id c.in-Some.steps.now c.requires.known at number
