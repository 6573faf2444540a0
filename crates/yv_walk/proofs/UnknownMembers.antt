-- One member more: the names that are unknown, and the steps.
use Rattle.std.proofs.Common.{◌≡◌, ℕ, ◌+◌, List, [], ◌∷◌, ◌++◌, true, false, cond, ap, ◌∙◌, append_assoc, arith, min}
use Rattle.serde_json.specs.Data.{Data, Members, member}
use Rattle.yv_nodes.specs.Tree.{Forest}
use Rattle.yv_schema_tables.specs.Sound.{is_known}
use Rattle.yv_values.specs.Count.{count_up}
use Rattle.yv_walk.specs.Context.{unknown_names}

-- one that names a node
pub names_known : (old all : List (List ℕ)) (ts : Forest) (key : List ℕ) (d : Data) (rest : Members) → true ≡ is_known ts key
    → old ++ unknown_names ts (member key d rest) ≡ all → old ++ unknown_names ts rest ≡ all
names_known old all ts key d rest known whole = ap (λ b. old ++ (cond b [] (key ∷ []) ++ unknown_names ts rest)) known ∙ whole

-- one that names none
pub names_unknown : (old new all : List (List ℕ)) (ts : Forest) (key : List ℕ) (d : Data) (rest : Members) → false ≡ is_known ts key
    → new ≡ old ++ key ∷ [] → old ++ unknown_names ts (member key d rest) ≡ all → new ++ unknown_names ts rest ≡ all
names_unknown old new all ts key d rest known added whole =
    ap (λ (ks : List (List ℕ)). ks ++ unknown_names ts rest) added
    ∙ append_assoc old (key ∷ []) (unknown_names ts rest)
    ∙ ap (λ b. old ++ (cond b [] (key ∷ []) ++ unknown_names ts rest)) known
    ∙ whole

capped : (k m r : ℕ) → min (min (m + 1) k + r) k ≡ min (m + (1 + r)) k
capped k m r = omega arith

-- one step more
pub counted_more : (m more r all : ℕ) → more ≡ count_up (m + 1) → count_up (m + (1 + r)) ≡ all → count_up (more + r) ≡ all
counted_more m more r all e whole = ap (λ n. count_up (n + r)) e ∙ capped 18446744073709551615 m r ∙ whole

pub none_before : (n : ℕ) → 0 + n ≡ n
none_before n = omega arith
