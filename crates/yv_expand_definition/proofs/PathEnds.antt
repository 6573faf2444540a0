-- A path leads to an end, or to none.
use Rattle.std.proofs.Common.{◌≡◌, refl, ◌⊎◌, inl, inr, Bool, true, false, List, [], ◌∷◌}
use Rattle.yv_expand_statements.specs.Kinds.{is_choice}
use Rattle.yv_expand_definition.specs.Nodes.{Forest, Node, none, node, join}
use Rattle.yv_expand_definition.specs.Paths.{Leads, Step, End, answers, at, is_shorthand, shorthand_case}
use Rattle.yv_expand_definition.specs.Paths.Leads.{past, to, into, to_case, into_case}
use Rattle.yv_expand_definition.proofs.Unique.{apart}

abbrev pub HasEnd : (in_choice : Bool) → List Step → Forest → Type 0
HasEnd c path nodes = (e : End) × (there : Forest) × Leads c path nodes e there

abbrev pub HasNoEnd : (in_choice : Bool) → List Step → Forest → Type 0
HasNoEnd c path nodes = (e : End) (there : Forest) → Leads c path nodes e there → ⊥

no_step : {c : Bool} {f there : Forest} {e : End} → Leads c [] f e there → ⊥
no_step l = elim l [ ]

no_node : {c : Bool} {ss : List Step} {there : Forest} {e : End} → Leads c ss none e there → ⊥
no_node l = elim l [ ]

-- a path that has no end behind a node, or none below it, has none from it on
not_past : {c : Bool} {s : Step} {ss : List Step} {g : Node} {below behind there : Forest} {e : End} → answers s g ≡ false
    → HasNoEnd c (s ∷ ss) behind → Leads c (s ∷ ss) (node g below behind) e there → ⊥
not_past n no_end (past m l) = no_end _ _ l
not_past n no_end (to y s) = apart n y
not_past n no_end (into y s l) = apart n y
not_past n no_end (to_case y s) = apart n y
not_past n no_end (into_case y s l) = apart n y

not_into : {c : Bool} {s t : Step} {ss : List Step} {g : Node} {below behind there : Forest} {e : End} → answers s g ≡ true
    → is_shorthand c g ≡ false → HasNoEnd (is_choice g.kind) (t ∷ ss) below → Leads c (s ∷ t ∷ ss) (node g below behind) e there → ⊥
not_into y s no_end (past n l) = apart n y
not_into y s no_end (into y' s' l) = no_end _ _ l
not_into y s no_end (into_case y' s' l) = apart s s'

not_into_case : {c : Bool} {s t : Step} {ss : List Step} {g : Node} {below behind there : Forest} {e : End} → answers s g ≡ true
    → is_shorthand c g ≡ true → HasNoEnd false (t ∷ ss) (node g below none) → Leads c (s ∷ t ∷ ss) (node g below behind) e there → ⊥
not_into_case y s no_end (past n l) = apart n y
not_into_case y s no_end (into y' s' l) = apart s' s
not_into_case y s no_end (into_case y' s' l) = no_end _ _ l

DecidesPath : List Step → Type 0
DecidesPath ss = (c : Bool) (f : Forest) → HasEnd c ss f ⊎ HasNoEnd c ss f

-- where a node answers the first step
at_answer : (s : Step) (ss : List Step) (c : Bool) (g : Node) (below behind : Forest) → DecidesPath ss → answers s g ≡ true
    → HasEnd c (s ∷ ss) (node g below behind) ⊎ HasNoEnd c (s ∷ ss) (node g below behind)
unfolding DecidesPath
at_answer s [] false g below behind later y = inl (at g below g below, node g below behind, to y refl)
at_answer s [] true g below behind later y = by (is_shorthand true g) refl
  where
    by : (b : Bool) → is_shorthand true g ≡ b → HasEnd true (s ∷ []) (node g below behind) ⊎ HasNoEnd true (s ∷ []) (node g below behind)
    by false is = inl (at g below g below, node g below behind, to y is)
    by true is = inl (shorthand_case, node g below behind, to_case y is)
at_answer s (t ∷ ss) false g below behind later y = by (later (is_choice g.kind) below)
  where
    by : HasEnd (is_choice g.kind) (t ∷ ss) below ⊎ HasNoEnd (is_choice g.kind) (t ∷ ss) below
        → HasEnd false (s ∷ t ∷ ss) (node g below behind) ⊎ HasNoEnd false (s ∷ t ∷ ss) (node g below behind)
    by (inl (e, there, l)) = inl (e, node g there behind, into y refl l)
    by (inr no_end) = inr (λ e there l. not_into y refl no_end l)
at_answer s (t ∷ ss) true g below behind later y = by (is_shorthand true g) refl (later (is_choice g.kind) below) (later false (node g below none))
  where
    by : (b : Bool) → is_shorthand true g ≡ b → HasEnd (is_choice g.kind) (t ∷ ss) below ⊎ HasNoEnd (is_choice g.kind) (t ∷ ss) below
        → HasEnd false (t ∷ ss) (node g below none) ⊎ HasNoEnd false (t ∷ ss) (node g below none)
        → HasEnd true (s ∷ t ∷ ss) (node g below behind) ⊎ HasNoEnd true (s ∷ t ∷ ss) (node g below behind)
    by false is (inl (e, there, l)) other = inl (e, node g there behind, into y is l)
    by false is (inr no_end) other = inr (λ e there l. not_into y is no_end l)
    by true is other (inl (e, there, l)) = inl (e, join there behind, into_case y is l)
    by true is other (inr no_end) = inr (λ e there l. not_into_case y is no_end l)

-- one step, among nodes of one parent
along : (s : Step) (ss : List Step) → DecidesPath ss → (c : Bool) (f : Forest) → HasEnd c (s ∷ ss) f ⊎ HasNoEnd c (s ∷ ss) f
along s ss later c none = inr (λ e there l. no_node l)
along s ss later c (node g below behind) = by (answers s g) refl (along s ss later c behind)
  where
    by : (b : Bool) → answers s g ≡ b → HasEnd c (s ∷ ss) behind ⊎ HasNoEnd c (s ∷ ss) behind
        → HasEnd c (s ∷ ss) (node g below behind) ⊎ HasNoEnd c (s ∷ ss) (node g below behind)
    by false n (inl (e, there, l)) = inl (e, node g below there, past n l)
    by false n (inr no_end) = inr (λ e there l. not_past n no_end l)
    by true y others = at_answer s ss c g below behind later y

pub find : (ss : List Step) (c : Bool) (f : Forest) → HasEnd c ss f ⊎ HasNoEnd c ss f
unfolding DecidesPath
find [] c f = inr (λ e there l. no_step l)
find (s ∷ ss) c f = along s ss (find ss) c f
