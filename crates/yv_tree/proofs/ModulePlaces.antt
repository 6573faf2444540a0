-- The places of modules by the numbers of their files.
use Rattle.std.proofs.Common.{◌≡◌, ℕ, suc, ◌+◌, ◌-◌, ◌<◌, ◌≤◌, ◌==◌, List, [], ◌∷◌, length, get_or, refl, sym, subst, arith, Bool, true, false, Option, Some, None, cond}
use Rattle.yv_nodes.specs.Rows.{Module}
use Rattle.yv_tree.specs.Lines.{prefix_in}
use Rattle.yv_tree.specs.InnerModules.{place_from}

-- where a look-up leads: behind the modules before, within them, and to a module whose prefix is
-- the one sought
abbrev LeadsTo : ℕ → List Module → ℕ → Option ℕ → Type 0
LeadsTo first ms module_file None = prefix_in ms module_file ≡ []
LeadsTo first ms module_file (Some i) = (first ≤ i) × (i < first + length ms) × ((d : Module) → (get_or ms (i - first) d).prefix ≡ prefix_in ms module_file)

leads_here : (b : Bool) (first : ℕ) (m : Module) (ms : List Module) (module_file : ℕ) → LeadsTo (first + 1) ms module_file (place_from (first + 1) ms module_file) → (m.module_file == module_file) ≡ b
    → LeadsTo first (m ∷ ms) module_file (cond b (Some first) (place_from (first + 1) ms module_file))
leads_here true first m ms module_file later e =
    let none : first - first ≡ 0 = omega arith in
    (omega arith, omega arith, λ d. rw (none, e) refl)
leads_here false first m ms module_file later e = leads_later (place_from (first + 1) ms module_file) later
  where
    leads_later : (o : Option ℕ) → LeadsTo (first + 1) ms module_file o → LeadsTo first (m ∷ ms) module_file o
    leads_later None none = rw e none
    leads_later (Some i) found =
        let step : i - first ≡ suc (i - (first + 1)) = omega (arith, found.0) in
        (omega (arith, found.0), omega (arith, found.1), λ d. rw (step, e) (found.2 d))

leads_to : (first : ℕ) (ms : List Module) (module_file : ℕ) → LeadsTo first ms module_file (place_from first ms module_file)
leads_to first [] module_file = refl
leads_to first (m ∷ ms) module_file = leads_here (m.module_file == module_file) first m ms module_file (leads_to (first + 1) ms module_file) refl

-- where a look-up among all modules leads
abbrev pub Leads : List Module → ℕ → Option ℕ → Type 0
Leads ms module_file None = prefix_in ms module_file ≡ []
Leads ms module_file (Some i) = (i < length ms) × ((d : Module) → (get_or ms i d).prefix ≡ prefix_in ms module_file)

from_first : (ms : List Module) (module_file : ℕ) (o : Option ℕ) → LeadsTo 0 ms module_file o → Leads ms module_file o
from_first ms module_file None none = none
from_first ms module_file (Some i) found =
    let number : i - 0 ≡ i = omega arith in
    (omega (arith, found.1), λ d. rw number at (found.2 d))

pub leads_by : (ms : List Module) (module_file : ℕ) (o : Option ℕ) → o ≡ place_from 0 ms module_file → Leads ms module_file o
leads_by ms module_file o e = from_first ms module_file o (subst (LeadsTo 0 ms module_file) (sym e) (leads_to 0 ms module_file))
