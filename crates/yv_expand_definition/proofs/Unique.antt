-- Paths lead to one end.
use Rattle.std.specs.Prelude.{◌≡◌, refl, Bool, true, false, List}
use Rattle.std.proofs.Common.{◌∙◌, ap, sym}
use Rattle.std.proofs.lemmas.Bool.{false≢true}
use Rattle.yv_expand_definition.specs.Nodes.{Forest, Node, node, join}
use Rattle.yv_expand_definition.specs.Paths.{Leads, Step, End, at, shorthand_case, node_at_end}
use Rattle.yv_expand_definition.specs.Paths.Leads.{past, to, into, to_case, into_case}

pub apart : {b : Bool} → b ≡ false → b ≡ true → ⊥
apart n y = false≢true (sym n ∙ y)

pub one_end : {c : Bool} {ss : List Step} {f a b : Forest} {d e : End} → Leads c ss f d a → Leads c ss f e b → node_at_end d ≡ node_at_end e
one_end (past n l) (past n' m) = one_end l m
one_end (past n l) (to y s) = absurd (apart n y)
one_end (past n l) (into y s m) = absurd (apart n y)
one_end (past n l) (to_case y s) = absurd (apart n y)
one_end (past n l) (into_case y s m) = absurd (apart n y)
one_end (to y s) (past n m) = absurd (apart n y)
one_end (to y s) (to y' s') = refl
one_end (to y s) (to_case y' s') = absurd (apart s s')
one_end (into y s l) (past n m) = absurd (apart n y)
one_end (into y s l) (into y' s' m) = one_end l m
one_end (into y s l) (into_case y' s' m) = absurd (apart s s')
one_end (to_case y s) (past n m) = absurd (apart n y)
one_end (to_case y s) (to y' s') = absurd (apart s' s)
one_end (to_case y s) (to_case y' s') = refl
one_end (into_case y s l) (past n m) = absurd (apart n y)
one_end (into_case y s l) (into y' s' m) = absurd (apart s' s)
one_end (into_case y s l) (into_case y' s' m) = one_end l m

-- what an end puts in front of others
abbrev pub put_in : End → Forest → Forest
put_in shorthand_case behind = behind
put_in (at g below h there) behind = node h there behind

-- with one exchange, nodes become one forest
pub one_exchange : {c : Bool} {ss : List Step} {f a b : Forest} {d e : End} → Leads c ss f d a → Leads c ss f e b → d ≡ e → a ≡ b
one_exchange (past {g = g} {below = below} n l) (past n' m) same = ap (λ x. node g below x) (one_exchange l m same)
one_exchange (past n l) (to y s) same = absurd (apart n y)
one_exchange (past n l) (into y s m) same = absurd (apart n y)
one_exchange (past n l) (to_case y s) same = absurd (apart n y)
one_exchange (past n l) (into_case y s m) same = absurd (apart n y)
one_exchange (to y s) (past n m) same = absurd (apart n y)
one_exchange (to {behind = behind} y s) (to y' s') same = ap (λ e. put_in e behind) same
one_exchange (to y s) (to_case y' s') same = absurd (apart s s')
one_exchange (into y s l) (past n m) same = absurd (apart n y)
one_exchange (into {g = g} {behind = behind} y s l) (into y' s' m) same = ap (λ x. node g x behind) (one_exchange l m same)
one_exchange (into y s l) (into_case y' s' m) same = absurd (apart s s')
one_exchange (to_case y s) (past n m) same = absurd (apart n y)
one_exchange (to_case y s) (to y' s') same = absurd (apart s' s)
one_exchange (to_case y s) (to_case y' s') same = refl
one_exchange (into_case y s l) (past n m) same = absurd (apart n y)
one_exchange (into_case y s l) (into y' s' m) same = absurd (apart s' s)
one_exchange (into_case {behind = behind} y s l) (into_case y' s' m) same = ap (λ x. join x behind) (one_exchange l m same)

-- where a path leads to a node, that can be exchanged for any other
pub any_exchange : {c : Bool} {ss : List Step} {f a : Forest} {g h : Node} {below there : Forest} → Leads c ss f (at g below h there) a
    → (other : Node) (low : Forest) → (b : Forest) × Leads c ss f (at g below other low) b
any_exchange (past {g = first} {below = under} n l) other low =
    let x = any_exchange l other low in (node first under x.0, past n x.1)
any_exchange (to {behind = behind} y s) other low = (node other low behind, to y s)
any_exchange (into {g = first} {behind = behind} y s l) other low =
    let x = any_exchange l other low in (node first x.0 behind, into y s x.1)
any_exchange (into_case {behind = behind} y s l) other low =
    let x = any_exchange l other low in (join x.0 behind, into_case y s x.1)
