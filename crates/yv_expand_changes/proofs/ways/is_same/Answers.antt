use Rattle.std.proofs.Common.{◌≡◌, ℕ, ◌==◌, Bool, Option, None, Some, refl, ap, eqb-true, eq-eqb}
use Rattle.std.specs.Bool.{Decides}
use Rattle.std.specs.Option.{option_eq}
use Rattle.std.proofs.lemmas.Bool.{false≢true}
use Rattle.std.proofs.lemmas.Bool.Decides.{Decides-and}
use Rattle.std.proofs.lemmas.Slice.Eq.{slice_eq-Decides}
use Rattle.yv_expand_changes.specs.declared.ways.Way.{Way}
use Rattle.yv_expand_changes.specs.contracts.ways.WayPartialEq.TheImpl.{eq-value}
use Rattle.yv_expand_changes.proofs.ways.is_same.Goals as goal

option_decides : {X : Type 0} (E : X → X → Bool) → ((a b : X) → Decides (E a b) (a ≡ b)) → (a b : Option X) → Decides (option_eq E a b) (a ≡ b)
option_decides E h None None = (λ _. refl, λ _. refl)
option_decides E h None (Some y) = (λ e. absurd (false≢true e), λ e. absurd (let bad : None ≡ Some y = e in cc))
option_decides E h (Some x) None = (λ e. absurd (false≢true e), λ e. absurd (let bad : Some x ≡ None = e in cc))
option_decides {X} E h (Some x) (Some y) = (λ e. ap (λ (z : X). Some z) ((h x y).0 e), λ e. (h x y).1 (same e))
  where
    same : Some x ≡ Some y → x ≡ y
    same e = cc

number_decides : (a b : ℕ) → Decides (a == b) (a ≡ b)
number_decides a b = (eqb-true a b, eq-eqb a b)

way_decides : (a b : Way) → Decides (eq-value.it a b) (a ≡ b)
way_decides a b =
    let both = Decides-and (option_eq (λ m n. m == n) a.statement b.statement) (option_eq (λ m n. m == n) a.first b.first)
    (option_decides (λ m n. m == n) number_decides a.statement b.statement) (option_decides (λ m n. m == n) number_decides a.first b.first) in
    (λ h. let p = both.0 h in λ i. record { statement = p.0 i; first = p.1 i }, λ e. both.1 (ap (λ (w : Way). w.statement) e, ap (λ (w : Way). w.first) e))

pub returns : goal.returns
returns c = λ h. (slice_eq-Decides (option_decides eq-value.it way_decides) c.args.one.now c.args.other.now c.eq.result c.eq.ensures).0 h
