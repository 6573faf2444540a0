use Rattle.std.proofs.Common.{◌≡◌, ℕ, Vec, ◌∙◌, ap, nat_eq, nat_lt, arith}
use Rattle.std.specs.List.{list_any}
use Rattle.std.specs.declared.alloc.Global.{Global}
use Rattle.std.proofs.lemmas.Grind.{common_steps}
use Rattle.std.proofs.lemmas.Result.{IfOk-weaker}
use Rattle.yv_type_identities.specs.InnerPlaces.{is_kept}
use Rattle.yv_type_identities.proofs.NumbersByPlace.{chosen_in, chosen_all}
use Rattle.yv_type_identities.proofs.lists.Candidates.choose.Goals as goal

pub returns-in_ok-keys-in-Some : goal.returns-in_ok-keys-in-Some
returns-in_ok-keys-in-Some c = IfOk-weaker c.numbers.result (λ (v : Vec ℕ Global). (number : ℕ) → list_any (nat_eq number) v.items ≡ list_any (λ k. is_kept c.args.self.now.places k number) c.deref.result.now) _
    (λ v each. chosen_in c.args.self.now.list.items c.args.left.now v.items c.args.self.now.places c.in-Some.set c.deref.result.now c.in-Some.is c.args.self.now.placed (λ place. ap (list_any _) c.deref.ensures.value ∙ c.in_ok-keys-in-Some.ensures place) each)
    c.numbers.ensures

pub returns-in-None : goal.returns-in-None
returns-in-None c = IfOk-weaker c.up_to.result (λ (v : Vec ℕ Global). (number : ℕ) → list_any (nat_eq number) v.items ≡ nat_lt number c.len.result) _
    (λ v each. chosen_all c.args.self.now.list.items c.args.left.now v.items c.len.result c.in-None.is (grind (arith, common_steps, c.len.ensures)) each)
    c.up_to.ensures
