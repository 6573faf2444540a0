-- What is wrong with a statement, and with all.
use Rattle.std.proofs.Common.{◌≡◌, ℕ, ◌+◌, ◌≤◌, ◌<◌, ◌↔◌, ◌⊎◌, ◌||◌, inl, inr, is_some, Bool, true, false, IsTrue, cond, List, [], length, slice_index, slice_index_or, refl, sym, ◌∙◌, ap, subst, arith, Option, Some, None}
use Rattle.std.specs.List.{All, slice_get}
use Rattle.std.proofs.lemmas.Bool.{false≢true}
use Rattle.std.proofs.lemmas.Option.{slice_get_within}
use Rattle.yv_text_statement.specs.Order.{IsLeast, IsLesser, Stands, Among, refusal_at}
use Rattle.yv_text_statement.specs.declared.refusal.Refusal.{Refusal}
use Rattle.yv_text_statement.specs.declared.refusal.Code.TheVariants as code
use Rattle.yv_text_statement.proofs.Least.{least_more, least_refused, least_same}
use Rattle.yv_link_scopes.specs.Files.{Briefs}
use Rattle.yv_link_scopes.specs.Rows.{Row}
use Rattle.yv_link_scopes.specs.declared.kind.NameKind.{NameKind}
use Rattle.yv_link_scopes.specs.declared.kind.NameKind.TheVariants.{Typedef, Grouping}
use Rattle.yv_base_graph.specs.Graph.{Graph, AreOnCycles, AreRanks, IsFirstOnCycle, IsOrder, IsMarked}
use Rattle.yv_base_graph.specs.Graph as graph
use Rattle.yv_base_graph.specs.Ranks.{IfCycle, IfRanks}
use Rattle.yv_base_graph.specs.declared.cycles.Ranking.{Ranking}
use Rattle.yv_base_graph.specs.declared.cycles.Ranking.TheVariants.{Cycle, Ranks}
use Rattle.std.specs.declared.vec.Vec.{Vec}
use Rattle.std.specs.declared.alloc.Global.{Global}
use Rattle.yv_link_definitions.specs.Duplicates.{is_of}
use Rattle.yv_link_definitions.specs.Refers.{names_definition}
use Rattle.yv_link_definitions.specs.Leads.{CountsFor, directly, further, Joins, LeadsTo, by_step, by_way, IsOrderOf}
use Rattle.yv_link_definitions.specs.Refusals.{BadIn}
use Rattle.yv_link_definitions.specs.InnerGraph.{AreDefinitionCycles, AreSteps}

-- a refusal where what a test decides holds
pub decided : (P : Type 0) (flag : Bool) (r : Refusal) (result : Option Refusal) → IsTrue flag ↔ P → result ≡ cond flag (Some r) None → IsLeast (Stands P r) result
decided P flag r result both h = subst (λ (o : Option Refusal). IsLeast (Stands P r) o) (sym h) (least_refused P flag r both.0 both.1)

-- all of them
pub least_all : {X : Type 0} (xs : List X) (P : ℕ → X → Refusal → Type 0) (i : ℕ) (o : Option Refusal) → length xs ≤ i → IsLeast (Among xs P i) o → IsLeast (Among xs P (length xs)) o
least_all xs P i o h l = least_same (Among xs P i) (Among xs P (length xs)) o
    (λ r a. (a.0, slice_get_within xs a.0 a.2 a.3, a.2, a.3, a.4))
    (λ r a. (a.0, omega (arith, a.1), a.2, a.3, a.4)) l

module _ (files : Briefs) (rows : List Row) (g : Graph) (steps : AreSteps files rows g) where
  leads_of : {a b : ℕ} → graph.LeadsTo g a b → LeadsTo files rows a b
  leads_of {a} {b} (graph.by_edge e) = by_step (steps.edge a b e).1
  leads_of {a} (graph.by_way {b = c} e w) = by_way (steps.edge a c e).1 (leads_of w)

  way_of : {a b : ℕ} → LeadsTo files rows a b → graph.LeadsTo g a b
  way_of {a} {b} (by_step {k = k} j) = graph.by_edge (steps.all k a b j)
  way_of {a} (by_way {k = k} {b = c} j w) = graph.by_way (steps.all k a c j) (way_of w)

  pub cycles_of : (marks : List Bool) → AreOnCycles g marks → AreDefinitionCycles files rows marks
  cycles_of marks c = record { exact = λ a. (λ m. leads_of (c.cycle a m), λ w. c.marked a (way_of w)) }

  pub order_of : (order : List ℕ) → IsOrder g order → IsOrderOf files rows order
  order_of order o = record {
    each = o.each ∙ steps.each;
    within = subst (λ n. All (λ a. a < n) order) steps.each o.within;
    stands = λ a l. o.stands a (omega (arith, l, steps.each));
    once = o.once;
    behind = λ i b l w. o.behind i b l (way_of w);
  }

-- where there are ranks no definition leads to itself
lead_falls : (g : Graph) (ranks : List ℕ) → AreRanks g ranks → {a b : ℕ} → graph.LeadsTo g a b → slice_index ranks b < slice_index ranks a
lead_falls g ranks r {a} {b} (graph.by_edge e) = r.falls a b e
lead_falls g ranks r {a} (graph.by_way {b = b} e w) = let x = r.falls a b e in let y = lead_falls g ranks r w in omega arith

pub none_marked : (files : Briefs) (rows : List Row) (g : Graph) (ranks : List ℕ) (marks : List Bool) → AreSteps files rows g → AreRanks g ranks → marks ≡ [] → AreDefinitionCycles files rows marks
none_marked files rows g ranks marks s r none = record {
  exact = λ a. (
    λ m. absurd (false≢true (ap (λ ms. slice_index_or ms a false) (sym none) ∙ m)),
    λ w. let falls : slice_index ranks a < slice_index ranks a = lead_falls g ranks r (way_of files rows g s w) in absurd (omega arith),
  );
}

pub ranks_read : (g h : Graph) (ranked : Ranking) (ranks order : Vec ℕ Global) → h ≡ g → ranked ≡ Ranks ranks order → IfRanks ranked (λ xs ys. AreRanks h xs) → AreRanks g ranks.items
ranks_read g h ranked ranks order e is given =
    let known : IfRanks (Ranks ranks order) (λ xs ys. AreRanks h xs) = subst (λ (r : Ranking). IfRanks r (λ xs ys. AreRanks h xs)) is given in
    subst (λ (x : Graph). AreRanks x ranks.items) e known

-- a definition that leads to others is a typedef or a grouping
leader : (files : Briefs) (rows : List Row) {a b : ℕ} → LeadsTo files rows a b → (k c : ℕ) × Joins files rows k a c
leader files rows (by_step {k = k} {b = b} j) = (k, b, j)
leader files rows (by_way {k = k} {b = b} j w) = (k, b, j)

owner_of : (rows : List Row) (kind : NameKind) {k d : ℕ} → CountsFor rows kind k d → (s : Row) × (slice_get rows d ≡ Some s) × (is_of kind s ≡ true)
owner_of rows kind (directly {s = s} here e there one) = (s, there, one)
owner_of rows kind (further here e there between rest) = owner_of rows kind rest

one_of_two : (kind : NameKind) (s r : Row) → names_definition kind s ≡ true → is_of kind r ≡ true → (is_of Typedef r ≡ true) ⊎ (is_of Grouping r ≡ true)
one_of_two Typedef s r h g = inl g
one_of_two Grouping s r h g = inr g
one_of_two kind s r h g = absurd (false≢true h)

-- where nothing is wrong no definition leads to itself
pub clear_cycle : (files : Briefs) (rows : List Row) (g : Graph) (o : Option Refusal) (a : ℕ) → IsLeast (BadIn files rows) o → o ≡ None → AreSteps files rows g → graph.LeadsTo g a a → ⊥
clear_cycle files rows g o a least none s w =
    let leads : LeadsTo files rows a a = leads_of files rows g s w in
    let j = leader files rows leads in
    let q = owner_of rows j.2.0 j.2.1 in
    let clear : IsLeast (BadIn files rows) None = subst (λ (p : Option Refusal). IsLeast (BadIn files rows) p) none least in
    elim (one_of_two j.2.0 j.2.2.statement q.0 j.2.2.names q.2) [
      | inl t ↦ clear (refusal_at code.TypeCycle q.0.file q.0.head) (a, slice_get_within rows a q.0 q.1, q.0, q.1, inr (inr (inl ((t, leads), refl))))
      | inr t ↦ clear (refusal_at code.GroupingCycle q.0.file q.0.head) (a, slice_get_within rows a q.0 q.1, q.0, q.1, inr (inr (inr (inr ((t, leads), refl)))))
    ]

pub steps_read : (files : Briefs) (rows : List Row) (g h : Graph) → h ≡ g → AreSteps files rows g → AreSteps files rows h
steps_read files rows g h e s = subst (λ (x : Graph). AreSteps files rows x) (sym e) s

cycle_by : (g h : Graph) (ranked : Ranking) (a : ℕ) → h ≡ g → ranked ≡ Cycle a → IfCycle ranked (IsFirstOnCycle h) → graph.LeadsTo g a a
cycle_by g h ranked a e is c =
    let first : IfCycle (Cycle a) (IsFirstOnCycle h) = subst (λ (r : Ranking). IfCycle r (IsFirstOnCycle h)) is c in
    subst (λ (x : Graph). graph.LeadsTo x a a) e first.cycle

pub cycle_read : (g h k : Graph) (ranked : Ranking) (a : ℕ) → h ≡ g → k ≡ g → ranked ≡ Cycle a → IfCycle ranked (IsFirstOnCycle h) → graph.LeadsTo k a a
cycle_read g h k ranked a e f is c = subst (λ (x : Graph). graph.LeadsTo x a a) (sym f) (cycle_by g h ranked a e is c)

pub cycles_read : (files : Briefs) (rows : List Row) (g h : Graph) (marks known : List Bool) → AreSteps files rows g → h ≡ g → AreOnCycles h marks → known ≡ marks → AreDefinitionCycles files rows known
cycles_read files rows g h marks known s e c k =
    subst (λ (ms : List Bool). AreDefinitionCycles files rows ms) (sym k) (cycles_of files rows g s marks (subst (λ (x : Graph). AreOnCycles x marks) e c))

-- the refusals of which none stands
none_of : (P : Type 0) (b : Bool) → IsTrue b ↔ P → b ≡ false → P → ⊥
none_of P b both unset p = false≢true (sym unset ∙ both.1 p)

left_false : (a b : Bool) → (a || b) ≡ false → a ≡ false
left_false true b h = h
left_false false b h = refl

right_false : (a b : Bool) → (a || b) ≡ false → b ≡ false
right_false true b h = absurd (false≢true (sym h))
right_false false b h = h

pub none_wrong : (P : Type 0) (a b : Bool) (r : Refusal) (Q : Refusal → Type 0) → IsTrue a ↔ P → (a || b) ≡ false → (b ≡ false → IsLeast Q None) → IsLeast (λ f. Stands P r f ⊎ Q f) None
none_wrong P a b r Q both h others = λ s w. elim w [ inl x ↦ none_of P a both (left_false a b h) x.0 | inr y ↦ others (right_false a b h) s y ]

pub none_last : (P : Type 0) (a : Bool) (r : Refusal) → IsTrue a ↔ P → a ≡ false → IsLeast (Stands P r) None
none_last P a r both h = λ s x. none_of P a both h x.0

-- a statement with which nothing is wrong
pub least_stays : {X : Type 0} (xs : List X) (P : ℕ → X → Refusal → Type 0) (i : ℕ) (x : X) (a b : Option Refusal) → slice_get xs i ≡ Some x → IsLeast (Among xs P i) a → is_some b ≡ false → IsLeast (P i x) b → IsLeast (Among xs P (i + 1)) a
least_stays xs P i x a None at p none q = least_more xs P i x a None a at (by a) p q
  where
    by : (o : Option Refusal) → IsLesser o None o
    by None = refl
    by (Some r) = refl
least_stays xs P i x a (Some r) at p none q = absurd (false≢true (sym none))
