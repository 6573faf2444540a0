-- No statement steps to itself, where no grouping leads to itself.
use Rattle.std.proofs.Common.{◌≡◌, ◌==◌, not, ℕ, ◌<◌, ◌⊎◌, inl, inr, zero, suc, Bool, true, false, is_some, List, length, get_or, refl, sym, ◌∙◌, ap, subst, arith, Option, Some, None}
use Rattle.std.proofs.lemmas.Bool.{eqb-true, eq-eqb}
use Rattle.std.proofs.lemmas.List.{get_or_default, get_or-take, length-take}
use Rattle.std.proofs.lemmas.List.Elements.{Contains-append_cases}
use Rattle.std.proofs.lemmas.Option.{slice_get_within, same_Some}
use Rattle.std.specs.List.{slice_get, Contains}
use Rattle.yv_link_scopes.specs.Files.{Briefs}
use Rattle.yv_link_scopes.specs.Rows.{Row}
use Rattle.yv_link_scopes.specs.Scopes.{AreNested}
use Rattle.yv_link_scopes.specs.declared.kind.NameKind.{NameKind}
use Rattle.yv_link_scopes.specs.declared.kind.NameKind.TheVariants.{Grouping}
use Rattle.yv_base_graph.specs.Graph.{HasEdge, HasNoCycle}
use Rattle.yv_base_graph.specs.Graph as graph
use Rattle.yv_link_definitions.specs.Duplicates.{is_of}
use Rattle.yv_link_definitions.specs.Refers.{Refers, names_definition}
use Rattle.yv_link_definitions.specs.Leads.{CountsFor, directly, further, Joins, LeadsTo, by_step, by_way, IsOrderOf}
use Rattle.yv_expand_statements.specs.Units.{units_of}
use Rattle.yv_expand_statements.specs.StatementBlocks.{stands_in}
use Rattle.yv_expand.specs.InnerLists.{Lists, counts, is_place, part_place, placed_from}
use Rattle.yv_expand.specs.InnerSteps.{AreSteps, IsUsed, list_of}
use Rattle.yv_expand.proofs.UnitListing.{numbers_are}
use Rattle.yv_expand.proofs.UnitWords.{both_true, counts_kind, counts_no_grouping}
use Rattle.yv_expand.proofs.SettledValues.{part_split, used_grouping}

-- a statement is a grouping, or counts for it
abbrev IsIn : List Row → ℕ → ℕ → Type 0
IsIn rows a d = (s : Row) × (slice_get rows a ≡ Some s) × (((is_of Grouping s ≡ true) × (a ≡ d)) ⊎ ((is_of Grouping s ≡ false) × CountsFor rows Grouping a d))

not_false : (b : Bool) → b ≡ false → not b ≡ true
not_false true h = cc
not_false false h = refl

from_not : (b : Bool) → not b ≡ true → b ≡ false
from_not true h = cc
from_not false h = refl

not_so : (b : Bool) → (b ≡ true → ⊥) → b ≡ false
not_so true h = absurd (h refl)
not_so false h = refl

counts_some : (o : Option ℕ) → is_some o ≡ true → (n : ℕ) × (o ≡ Some n)
counts_some None h = cc
counts_some (Some n) h = (n, refl)

-- what counts is no grouping
no_grouping : (r : Row) → counts r ≡ true → is_of Grouping r ≡ false
no_grouping r h = let own = counts_some (units_of r.head.keyword) h in not_so (is_of Grouping r) (counts_no_grouping r own.0 own.1)

owner_within : (rows : List Row) {k d : ℕ} → CountsFor rows Grouping k d → d < length rows
owner_within rows (directly {d = d} {s = s} here e there one) = slice_get_within rows d s there
owner_within rows (further here e there between rest) = owner_within rows rest

in_within : (rows : List Row) (a d : ℕ) → IsIn rows a d → d < length rows
in_within rows a d (s, at, inl (one, same)) = omega (arith, same, slice_get_within rows a s at)
in_within rows a d (s, at, inr (none, for)) = owner_within rows for

-- from a statement to one behind it, which stands in the same groupings
abbrev Near : List Row → ℕ → ℕ → Type 0
Near rows a b = (a < b) × ((d : ℕ) → IsIn rows a d → IsIn rows b d)

-- from a statement to one in a grouping to which its own leads
abbrev Far : Briefs → List Row → ℕ → ℕ → Type 0
Far files rows a b = (e : ℕ) × IsIn rows b e × ((d : ℕ) → IsIn rows a d → LeadsTo files rows d e)

near_part : (rows : List Row) (a b : ℕ) → AreNested rows → Contains (placed_from part_place a 0 rows) b → Near rows a b
near_part rows a b nested c =
    let p = numbers_are (λ j x. is_place a (part_place j x)) 0 rows b c in
    let r : Row = p.1 in
    let at : slice_get rows b ≡ Some r = ap (slice_get rows) (let e : b ≡ p.0 = omega (arith, p.3) in e) ∙ p.2 in
    let both = both_true (stands_in a b r) (counts r) (sym (part_split a b r) ∙ p.4) in
    let stands = both_true (r.scope == a) (not (r.scope == b)) both.0 in
    let scope : r.scope ≡ a = eqb-true r.scope a stands.0 in
    let apart : r.scope ≡ b → ⊥ = λ e. absurd (let bad : true ≡ false = sym (eq-eqb r.scope b e) ∙ from_not (r.scope == b) stands.1 in cc) in
    let plain : is_of Grouping r ≡ false = no_grouping r both.1 in
    (omega (arith, scope, apart, nested b r at), λ d i. by r at scope plain d i)
  where
    by : (r : Row) → slice_get rows b ≡ Some r → r.scope ≡ a → is_of Grouping r ≡ false → (d : ℕ) → IsIn rows a d → IsIn rows b d
    by r at scope plain d (s, here, inl (one, same)) = (r, at, inr (plain, directly at (scope ∙ same) (ap (slice_get rows) (sym same) ∙ here) one))
    by r at scope plain d (s, here, inr (none, for)) = (r, at, inr (plain, further at scope here (not_false (is_of Grouping s) none) for))

used_in : (files : Briefs) (rows : List Row) (a b : ℕ) → IsUsed files rows a b → IsIn rows b b
used_in files rows a b u = let g = used_grouping files rows a b u in (g.0, g.1, inl (g.2, refl))

used_joins : (files : Briefs) (rows : List Row) (a b : ℕ) → IsUsed files rows a b → (d : ℕ) → IsIn rows a d → Joins files rows a d b
used_joins files rows a b (r, own, at, units, refers) d (s, here, inl (one, same)) =
    let is : s ≡ r = same_Some s r (sym here ∙ at) in
    absurd (counts_no_grouping r own units (ap (is_of Grouping) (sym is) ∙ one))
used_joins files rows a b (r, own, at, units, refers) d (s, here, inr (none, for)) =
    let is : refers.1.statement ≡ r = same_Some refers.1.statement r (sym refers.1.at ∙ at) in
    let kind : refers.0 ≡ Grouping = counts_kind refers.0 r own units (ap (names_definition refers.0) (sym is) ∙ refers.1.names) in
    (Grouping, for, subst (λ (k : NameKind). Refers files rows k a b) kind refers.1)

module _ (files : Briefs) (rows : List Row) (g : Lists) (nested : AreNested rows) (steps : AreSteps files rows g) where
  step_of : (a b : ℕ) → HasEdge g a b → Near rows a b ⊎ IsUsed files rows a b
  step_of a b (v, at, c) =
      let t = steps.takes a v at in
      elim (Contains-append_cases (placed_from part_place a 0 rows) (list_of t.0) b (subst (λ (l : List ℕ). Contains l b) t.1 c)) [
        | inl part ↦ inl (near_part rows a b nested part)
        | inr used ↦ inr ((t.2 b).0 (only t.0 used))
      ]
    where
      only : (o : Option ℕ) → Contains (list_of o) b → o ≡ Some b
      only None h = absurd (omega (arith, h.1))
      only (Some d) (zero, l, e) = ap Some e
      only (Some d) (suc j, l, e) = absurd (omega (arith, l))

  ways : {a b : ℕ} → graph.LeadsTo g a b → Near rows a b ⊎ Far files rows a b
  ways {a} {b} (graph.by_edge e) = elim (step_of a b e) [
    | inl near ↦ inl near
    | inr used ↦ inr (b, used_in files rows a b used, λ d i. by_step (used_joins files rows a b used d i))
  ]
  ways {a} {b} (graph.by_way {b = c} e w) = elim (step_of a c e) [
    | inl near ↦ elim (ways w) [
      | inl more ↦ inl (omega (arith, near.0, more.0), λ d i. more.1 d (near.1 d i))
      | inr far ↦ inr (far.0, far.1, λ d i. far.2 d (near.1 d i))
    ]
    | inr used ↦ elim (ways w) [
      | inl more ↦ inr (c, more.1 c (used_in files rows a c used), λ d i. by_step (used_joins files rows a c used d i))
      | inr far ↦ inr (far.0, far.1, λ d i. by_way (used_joins files rows a c used d i) (far.2 c (used_in files rows a c used)))
    ]
  ]

  -- what stands in an order doesn't lead to itself
  ordered : (order : List ℕ) (a : ℕ) → IsOrderOf files rows order → a < length rows → LeadsTo files rows a a → ⊥
  ordered order a o within leads =
      let c = o.stands a within in
      let here : get_or order c.0 0 ≡ a = get_or_default order c.0 0 a c.1 ∙ c.2 in
      let b = o.behind c.0 a c.1 (subst (λ (n : ℕ). LeadsTo files rows n a) (sym here) leads) in
      let less : b.0 < c.0 = omega (arith, b.1, length-take c.0 order) in
      let inside : b.0 < length order = omega (arith, less, c.1) in
      let there : get_or order b.0 0 ≡ a = get_or_default order b.0 0 a inside ∙ sym (get_or-take c.0 order b.0 a less) ∙ b.2 in
      let same : c.0 ≡ b.0 = o.once c.0 b.0 c.1 inside (here ∙ sym there) in
      omega (arith, less, same)

  pub no_cycle : (order : List ℕ) → IsOrderOf files rows order → HasNoCycle g
  no_cycle order o a w = elim (ways w) [
    | inl near ↦ omega (arith, near.0)
    | inr far ↦ ordered order far.0 o (in_within rows a far.0 far.1) (far.2 far.0 far.1)
  ]
