-- The targets of links.
use Rattle.std.proofs.Common.{◌≡◌, ℕ, zero, suc, Bool, true, false, ◌==◌, ◌&&◌, ◌||◌, if◌then◌else◌, Option, Some, None, List, [], ◌∷◌, refl, ap, ◌∙◌}
use Rattle.std.proofs.lemmas.Bool.Decides.{Decides-eqb}
use Rattle.std.proofs.lemmas.Option.{none-some, same_Some}
use Rattle.yv_nodes.specs.Link.{if_required, is_target, leads_to, Link, link_in}
use Rattle.yv_data_leafrefs.specs.InnerAnswers.{AreTargets}

or_right : (a b : Bool) → b ≡ true → (a || b) ≡ true
or_right true b e = refl
or_right false b e = e

required_is : (b : Bool) (x link : Link) → (if b then Some x else None) ≡ Some link → (b ≡ true) × (x ≡ link)
required_is true x link e = (refl, same_Some x link e)
required_is false x link e = absurd (none-some link e)

some_is : (x : Option Link) (link : Link) → if_required x ≡ Some link → leads_to link.target x ≡ true
some_is None link e = absurd (none-some link e)
some_is (Some x) link e =
    let is = required_is x.is_required x link e in
    ap (λ (b : Bool). b && x.target == link.target) is.0 ∙ (Decides-eqb x.target link.target).1 (ap (λ (l : Link). l.target) is.1)

or_left : (a b : Bool) → a ≡ true → (a || b) ≡ true
or_left true b e = refl
or_left false b e = absurd (cc)

-- what is marked are targets
pub are_targets : (links : List (Option Link)) → AreTargets (link_in links) (is_target links)
are_targets [] n link e = absurd (cc)
are_targets (x ∷ links) zero link e = or_left (leads_to link.target x) (is_target links link.target) (some_is x link e)
are_targets (x ∷ links) (suc n) link e = or_right (leads_to link.target x) (is_target links link.target) (are_targets links n link e)
