-- What is wrong with a statement, and with all.
use Rattle.std.proofs.Common.{◌≡◌, ℕ, ◌+◌, ◌≤◌, ◌↔◌, ◌⊎◌, inr, is_some, Bool, true, false, IsTrue, cond, List, length, get_or, refl, sym, ◌∙◌, subst, arith, Option, Some, None}
use Rattle.std.specs.List.{slice_get}
use Rattle.std.proofs.lemmas.Bool.{false≢true}
use Rattle.std.proofs.lemmas.Option.{slice_get_within}
use Rattle.yv_text_statement.specs.Order.{IsLeast, IsLesser, Stands, Among, refusal_at}
use Rattle.yv_text_statement.specs.declared.refusal.Refusal.{Refusal}
use Rattle.yv_text_statement.specs.declared.refusal.Code.TheVariants as code
use Rattle.yv_text_statement.proofs.Least.{least_lesser, least_more, least_refused, least_same}
use Rattle.yv_link_scopes.specs.Files.{Briefs}
use Rattle.yv_link_scopes.specs.Rows.{Row}
use Rattle.yv_base_graph.specs.Graph.{Graph, LeadsTo, AreOnCycles, IsFirstOnCycle}
use Rattle.yv_base_graph.specs.Ranks.{IfCycle}
use Rattle.yv_base_graph.specs.declared.cycles.Ranking.{Ranking}
use Rattle.yv_base_graph.specs.declared.cycles.Ranking.TheVariants.{Cycle}
use Rattle.yv_link_identities.specs.Derivation.{IsDerivedFrom}
use Rattle.yv_link_identities.specs.Refusals.{BadIdentities}
use Rattle.yv_link_identities.specs.InnerIdentityNumbers.{identities_before, number_at, node_of}
use Rattle.yv_link_identities.specs.InnerPairs.{AreBases, AreIdentityCycles}
use Rattle.yv_link_identities.proofs.Numbering.{node_some, node_at, identity_row}
use Rattle.yv_link_identities.proofs.DerivationWays.{derived_numbers, leads_derived, cycles_of}

-- a refusal where what a test decides holds
pub decided : (P : Type 0) (flag : Bool) (r : Refusal) (result : Option Refusal) → (flag ≡ true → P) → (P → flag ≡ true) → result ≡ cond flag (Some r) None → IsLeast (Stands P r) result
decided P flag r result to from h = subst (λ (o : Option Refusal). IsLeast (Stands P r) o) (sym h) (least_refused P flag r to from)

-- one more with which nothing is wrong
pub least_stays : {X : Type 0} (xs : List X) (P : ℕ → X → Refusal → Type 0) (i : ℕ) (x : X) (a b : Option Refusal) → slice_get xs i ≡ Some x → IsLeast (Among xs P i) a → is_some b ≡ false → IsLeast (P i x) b → IsLeast (Among xs P (i + 1)) a
least_stays xs P i x a None at p none q = least_more xs P i x a None a at (by a) p q
  where
    by : (o : Option Refusal) → IsLesser o None o
    by None = refl
    by (Some r) = refl
least_stays xs P i x a (Some r) at p none q = absurd (false≢true (sym none))

-- the first refusal doesn't stand
pub only_second : (P : Type 0) (flag : Bool) (r : Refusal) (Q : Refusal → Type 0) (b : Option Refusal) → (P → flag ≡ true) → flag ≡ false → IsLeast Q b → IsLeast (λ f. Stands P r f ⊎ Q f) b
only_second P flag r Q b from unset q = least_lesser (Stands P r) Q None b b refl (λ s p. absurd (false≢true (sym unset ∙ from p.0))) q

-- all of them
pub least_all : {X : Type 0} (xs : List X) (P : ℕ → X → Refusal → Type 0) (i : ℕ) (o : Option Refusal) → length xs ≤ i → IsLeast (Among xs P i) o → IsLeast (Among xs P (length xs)) o
least_all xs P i o h l = least_same (Among xs P i) (Among xs P (length xs)) o
    (λ r a. (a.0, slice_get_within xs a.0 a.2 a.3, a.2, a.3, a.4))
    (λ r a. (a.0, omega (arith, a.1), a.2, a.3, a.4)) l

pub marked_cycle : (files : Briefs) (rows : List Row) (marks : List Bool) (k a : ℕ) (result : Bool) → AreIdentityCycles files rows marks → node_of rows k ≡ Some a → result ≡ get_or marks a false → IsTrue result ↔ IsDerivedFrom files rows k k
marked_cycle files rows marks k a result c e is =
    let n = node_some rows k a e in
    let x = c.exact a n.1 in (
      λ t. subst (λ (i : ℕ). IsDerivedFrom files rows i i) n.2 (x.0 (sym is ∙ t)),
      λ d. is ∙ x.1 (subst (λ (i : ℕ). IsDerivedFrom files rows i i) (sym n.2) d),
    )

pub no_cycle : (files : Briefs) (rows : List Row) (k : ℕ) → node_of rows k ≡ None → IsTrue false ↔ IsDerivedFrom files rows k k
no_cycle files rows k e = (
  λ t. absurd (false≢true t),
  λ d. let bad : None ≡ Some (length (identities_before rows k)) = sym e ∙ node_at rows k (derived_numbers files rows d).0 in absurd (let h : None ≡ Some (length (identities_before rows k)) = bad in cc),
)

-- where nothing is wrong no identity is derived from itself
pub clear_cycle : (files : Briefs) (rows : List Row) (g : Graph) (o : Option Refusal) (a : ℕ) → IsLeast (BadIdentities files rows) o → o ≡ None → AreBases files rows g → LeadsTo g a a → ⊥
clear_cycle files rows g o a least none s w =
    let d : IsDerivedFrom files rows (number_at rows a) (number_at rows a) = leads_derived files rows g s w in
    let r = identity_row rows (number_at rows a) (derived_numbers files rows d).0 in
    let clear : IsLeast (BadIdentities files rows) None = subst (λ (p : Option Refusal). IsLeast (BadIdentities files rows) p) none least in
    clear (refusal_at code.IdentityCycle r.0.file r.0.head) (number_at rows a, slice_get_within rows (number_at rows a) r.0 r.1, r.0, r.1, inr (d, refl))

pub cycle_by : (g h : Graph) (ranked : Ranking) (a : ℕ) → h ≡ g → ranked ≡ Cycle a → IfCycle ranked (IsFirstOnCycle h) → LeadsTo g a a
cycle_by g h ranked a e is c =
    let first : IfCycle (Cycle a) (IsFirstOnCycle h) = subst (λ (r : Ranking). IfCycle r (IsFirstOnCycle h)) is c in
    subst (λ (x : Graph). LeadsTo x a a) e first.cycle

pub cycles_read : (files : Briefs) (rows : List Row) (g h : Graph) (marks known : List Bool) → AreBases files rows g → h ≡ g → AreOnCycles h marks → known ≡ marks → AreIdentityCycles files rows known
cycles_read files rows g h marks known s e c k =
    subst (λ (ms : List Bool). AreIdentityCycles files rows ms) (sym k) (cycles_of files rows g marks s (subst (λ (x : Graph). AreOnCycles x marks) e c))
