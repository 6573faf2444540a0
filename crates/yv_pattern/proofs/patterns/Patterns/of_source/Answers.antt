use Rattle.std.proofs.Common.{◌≡◌, ◌∷◌, ◌-◌, List, ℕ, Option, Some, None, MatchOption, refl, sym, subst, ◌∙◌, string_bytes}
use Rattle.std.specs.List.{Contains}
use Rattle.std.specs.List.Sorted.{IsPermutation}
use Rattle.yv_pattern.specs.Store.{StoreView}
use Rattle.yv_pattern.proofs.Sources.{joins, keeps, kept_first, sources}
use Rattle.yv_pattern.proofs.patterns.Patterns.of_source.Goals as goal

-- what holds of what isn't `Some`
none : {X P : Type 0} (Q : X → Type 0) (o : Option X) → MatchOption o P Q → ((x : X) → o ≡ Some x → ⊥) → P
none Q None h not_some = h
none Q (Some x) h not_some = absurd (not_some x refl)

pub invariant_of-self-2 : goal.invariant_of-self-2
invariant_of-self-2 c =
    let is : c.in_ok-copy.copy.value ≡ string_bytes c.args.source =
    c.in_ok-copy.ensures.cases ∙ c.in_ok-pattern-3.ensures.ok ∙ c.in_ok-pattern-2.ensures.source ∙ c.as_str-3.ensures.value in
    rw c.in_ok-insert.ensures.entries (keeps (λ p. p.value) c.args.source c.in_ok-copy.copy c.self.inside.built.entries is c.self.invariant)

pub returns-clause-store : goal.returns-clause-store
returns-clause-store c =
    let is : c.in_ok-pattern-3.pattern.value ≡ string_bytes c.args.source =
    c.in_ok-pattern-3.ensures.ok ∙ c.in_ok-pattern-2.ensures.source ∙ c.as_str-3.ensures.value in
    let absent : Contains (sources c.self.inside.built.entries) (string_bytes c.args.source) → ⊥ =
    subst (λ (v : StoreView). Contains v.sources (string_bytes c.args.source) → ⊥) (sym c.self.view_is)
    (subst (λ (s : List ℕ). Contains c.args.self.now.sources s → ⊥) c.as_str.ensures.value (none _ c.in_ok-pattern.field-0 c.in_ok-pattern.ensures c.in_default.not-Some)) in
    let joined : IsPermutation (string_bytes c.args.source ∷ sources c.self.inside.built.entries) (sources c.insert.new.self.entries) =
    rw c.in_ok-insert.ensures.entries (joins c.args.source c.in_ok-copy.copy c.self.inside.built.entries absent) in
    rw (← c.self.view_is) (kept_first (record { sources = sources c.self.inside.built.entries; room = c.self.inside.room }) (record { sources = sources c.insert.new.self.entries; room = c.self.inside.room - c.in_ok-pattern-2.taken })
    (string_bytes c.args.source) c.in_ok-pattern-3.pattern.value c.in_ok-limits.limits.now c.in_ok-pattern-2.taken absent joined is c.in_ok-pattern-2.ensures.charge c.in_ok-limits.ensures refl)
