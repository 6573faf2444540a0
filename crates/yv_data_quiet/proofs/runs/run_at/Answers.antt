use Rattle.std.proofs.Common.{◌≡◌, ◌-◌, ℕ, length, drop, Some, refl, subst, arith}
use Rattle.std.specs.List.{slice_get}
use Rattle.std.proofs.lemmas.Option.{slice_get_read}
use Rattle.yv_data_quiet.specs.Runs.{IsRun}
use Rattle.yv_data_quiet.proofs.runs.run_at.Goals as goal

pub returns-in-Some : goal.returns-in-Some
returns-in-Some c = λ s ns all runs.
    let back : ℕ = c.args.count - 1 - c.args.place in
    let at : slice_get c.args.runs.now back ≡ Some c.in-Some.run'.now =
    slice_get_read c.args.runs.now _ back c.in-Some.run'.now refl c.in-Some.ensures.lookup.3.0 c.in-Some.ensures.lookup.1 in
    let place : length ns - 1 - back ≡ c.args.place = omega (arith, all) in
    subst (λ (n : ℕ). IsRun s (drop n ns) c.in-Some.run'.now) place (runs back c.in-Some.run'.now at)
