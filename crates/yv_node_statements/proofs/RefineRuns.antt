-- Runs of refines, one behind the other.
use Rattle.std.proofs.Common.{◌≡◌, ℕ, List, [], ◌∷◌, ◌++◌, map, refl, sym, ap, ◌∙◌, Bor, append-nil, append_assoc}
use Rattle.std.proofs.lemmas.List.{map-append}
use Rattle.yv_node_statements.specs.InnerRefinedStore.{with_runs}

-- the run that stands last comes first
pub followed_last : (refines : List ℕ) (runs : List (List ℕ)) (run : List ℕ) → with_runs refines (runs ++ run ∷ []) ≡ with_runs (refines ++ run) runs
followed_last refines [] run = refl
followed_last refines (r ∷ rs) run = ap (λ (front : List ℕ). front ++ r) (followed_last refines rs run)

-- the runs as they are lent
abbrev pub read : List (Bor (List ℕ)) → List (List ℕ)
read runs = map (λ (run : Bor (List ℕ)). run.now) runs

read_last : (runs : List (Bor (List ℕ))) (run : Bor (List ℕ)) → read (runs ++ run ∷ []) ≡ read runs ++ run.now ∷ []
read_last runs run = map-append (λ (r : Bor (List ℕ)). r.now) runs (run ∷ [])

-- with one run more in front of the others, they lead on from fewer refines
pub one_more : (front refines all : List ℕ) (runs new : List (Bor (List ℕ))) (run : Bor (List ℕ)) → refines ≡ front ++ run.now
    → new ≡ runs ++ run ∷ [] → with_runs refines (read runs) ≡ all → with_runs front (read new) ≡ all
one_more front refines all runs new run e f h =
    ap (λ (rs : List (Bor (List ℕ))). with_runs front (read rs)) f
    ∙ ap (with_runs front) (read_last runs run)
    ∙ followed_last front (read runs) run.now
    ∙ ap (λ (rs : List ℕ). with_runs rs (read runs)) (sym e)
    ∙ h

-- and with one fewer from more
pub one_less : (front all : List ℕ) (runs new : List (Bor (List ℕ))) (run : Bor (List ℕ)) → runs ≡ new ++ run ∷ []
    → with_runs front (read runs) ≡ all → with_runs (front ++ run.now) (read new) ≡ all
one_less front all runs new run f h =
    sym (ap (λ (rs : List (Bor (List ℕ))). with_runs front (read rs)) f ∙ ap (with_runs front) (read_last new run) ∙ followed_last front (read new) run.now) ∙ h

-- where there is none, there are no others
pub none_left : (front all : List ℕ) (runs : List (Bor (List ℕ))) → runs ≡ [] → with_runs front (read runs) ≡ all → front ≡ all
none_left front all runs e h = sym (ap (λ (rs : List (Bor (List ℕ))). with_runs front (read rs)) e) ∙ h

-- refines in front of the runs stand in front of all
pub from_none : (refines : List ℕ) (runs : List (List ℕ)) → with_runs refines runs ≡ refines ++ with_runs [] runs
from_none refines [] = sym (append-nil refines)
from_none refines (run ∷ runs) = ap (λ (front : List ℕ). front ++ run) (from_none refines runs) ∙ append_assoc refines (with_runs [] runs) run
