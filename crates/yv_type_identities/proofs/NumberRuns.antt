-- Runs of numbers.
use Rattle.std.proofs.Common.{◌≡◌, ℕ, zero, suc, ◌+◌, ◌<◌, ◌==◌, ◌⊎◌, ◌||◌, inl, inr, true, false, List, [], ◌∷◌, ◌++◌, length, get_or, take, Option, Some, None, refl, sym, ◌∙◌, ap, subst, arith, eqb-true, eq-eqb}
use Rattle.std.specs.List.{slice_get, Contains, list_any}
use Rattle.std.specs.Option.{option_and_then}
use Rattle.std.specs.declared.vec.Vec.{Vec}
use Rattle.std.specs.declared.alloc.Global.{Global}
use Rattle.std.proofs.lemmas.List.{take_more}
use Rattle.std.proofs.lemmas.List.Folds.{Any-from_list_any, list_any-from_Any, list_any_more}
use Rattle.std.proofs.lemmas.Option.{slice_get_read}
use Rattle.yv_base_graph.specs.Graph.{Graph, ArePlaces, HasEdge, IsGraph, LeadsTo, by_edge, by_way}
use Rattle.yv_link_identities.proofs.BaseGraph.{pushed_in}
use Rattle.yv_link_identities.proofs.Ways.{edge_place, edge_within, first_edge}
use Rattle.yv_type_identities.specs.InnerRuns.{AreRuns, IsKnown, IsRunOf, in_node, in_run, is_in, run_at}
use Rattle.yv_type_identities.specs.declared.runs.Run.{Run}
use Rattle.yv_type_identities.proofs.ListMembers.{split, left_true, right_true}

-- ### the nodes that a node leads to

module _ (runs : List (Option Run)) (ranks : List ℕ) where
  abbrev rank : ℕ → ℕ
  rank a = get_or ranks a 0

  pub record Joins (nodes : List ℕ) (run : Run) : Type 0 where
    pub known : (a : ℕ) → Contains nodes a → IsKnown runs (rank a)
    pub numbers : (n : ℕ) → is_in run n ≡ list_any (λ a. in_node runs (rank a) n) nodes

  pub joins_none : (run : Run) → ((n : ℕ) → is_in run n ≡ false) → Joins [] run
  joins_none run none = record { known = λ a c. absurd (omega (arith, c.1)); numbers = none }

  pub joins_more : (nodes : List ℕ) (i a : ℕ) (old one new : Run) → i < length nodes → a ≡ get_or nodes i 0 → IsKnown runs (rank a) → ((n : ℕ) → is_in one n ≡ in_node runs (rank a) n) → ((n : ℕ) → is_in new n ≡ (is_in old n || is_in one n))
      → Joins (take i nodes) old → Joins (take (i + 1) nodes) new
  joins_more nodes i a old one new h at is each both before =
      let more : take (i + 1) nodes ≡ take i nodes ++ a ∷ [] = take_more nodes i 0 h ∙ ap (λ b. take i nodes ++ b ∷ []) (sym at) in
      record {
        known = λ b c. elim (pushed_in (take i nodes) a b (subst (λ (xs : List ℕ). Contains xs b) more c)) [
          | inl old ↦ before.known b old
          | inr same ↦ subst (λ (x : ℕ). IsKnown runs (rank x)) (sym same) is
        ];
        numbers = λ n.
            both n
            ∙ ap (λ t. t || is_in one n) (before.numbers n)
            ∙ ap (λ t. list_any (λ b. in_node runs (rank b) n) (take i nodes) || t) (each n)
            ∙ ap (λ b. list_any (λ b. in_node runs (rank b) n) (take i nodes) || in_node runs (rank b) n) at
            ∙ sym (list_any_more (λ b. in_node runs (rank b) n) nodes i 0 h);
      }

-- ### the runs of a graph

module _ (g : Graph) (ranks order : List ℕ) (places : ArePlaces ranks order) (each : length ranks ≡ length g) where
  back : (a : ℕ) → a < length g → get_or order (get_or ranks a 0) 0 ≡ a
  back a h = (places.found a (omega (arith, h, each))).1

  known_in : (runs : List (Option Run)) (r : ℕ) (o : Option Run) (n : ℕ) → run_at runs r ≡ o → in_run o n ≡ true → (run : Run) × (run_at runs r ≡ Some run) × (is_in run n ≡ true)
  known_in runs r None n e t = absurd (cc)
  known_in runs r (Some run) n e t = (run, e, t)

  pub run_is : (runs : List (Option Run)) (node : ℕ) (row : Vec ℕ Global) (run : Run) → IsGraph g → node < length g → row ≡ get_or g node row → AreRuns g ranks order runs → Joins runs ranks row.items run → IsRunOf g ranks node run
  run_is runs node row run graph h at are joins b l = (
    λ t.
        let f = Any-from_list_any (λ a. in_node runs (get_or ranks a 0) (get_or ranks b 0)) row.items (sym (joins.numbers (get_or ranks b 0)) ∙ t) in
        let a : ℕ = f.1 in
        let edge : HasEdge g node a = (row, slice_get_read g (length g) node row refl h at, (f.0, f.2, f.3)) in
        let within : a < length g = (edge_within g node a graph edge).1 in
        elim (split (in_run (run_at runs (get_or ranks a 0)) (get_or ranks b 0)) (get_or ranks a 0 == get_or ranks b 0) f.4) [
          | inl in' ↦
              let k = known_in runs (get_or ranks a 0) (run_at runs (get_or ranks a 0)) (get_or ranks b 0) refl in' in
              by_way edge (subst (λ (x : ℕ). LeadsTo g x b) (back a within) ((are (get_or ranks a 0) k.0 k.1 b l).0 k.2))
          | inr same ↦
              let one : a ≡ b = sym (back a within) ∙ ap (λ r. get_or order r 0) (eqb-true (get_or ranks a 0) (get_or ranks b 0) same) ∙ back b l in
              by_edge (subst (λ (x : ℕ). HasEdge g node x) one edge)
        ],
    λ w.
        let f = first_edge g w in
        let a : ℕ = f.0 in
        let c : Contains row.items a = edge_place g node a row at f.1 in
        let within : a < length g = (edge_within g node a graph f.1).1 in
        let k = joins.known a c in
        let is : in_node runs (get_or ranks a 0) (get_or ranks b 0) ≡ true =
        elim f.2 [
          | inl same ↦ right_true (in_run (run_at runs (get_or ranks a 0)) (get_or ranks b 0)) (get_or ranks a 0 == get_or ranks b 0) (eq-eqb (get_or ranks a 0) (get_or ranks b 0) (ap (λ x. get_or ranks x 0) same))
          | inr on ↦
              let there : is_in k.0 (get_or ranks b 0) ≡ true = (are (get_or ranks a 0) k.0 k.1 b l).1 (subst (λ (x : ℕ). LeadsTo g x b) (sym (back a within)) on) in
              left_true (in_run (run_at runs (get_or ranks a 0)) (get_or ranks b 0)) (get_or ranks a 0 == get_or ranks b 0) (ap (λ o. in_run o (get_or ranks b 0)) k.1 ∙ there)
        ] in
        joins.numbers (get_or ranks b 0) ∙ list_any-from_Any (λ x. in_node runs (get_or ranks x 0) (get_or ranks b 0)) row.items (c.0, a, c.1, c.2, is),
  )

  pub runs_none : (runs : List (Option Run)) → runs ≡ [] → AreRuns g ranks order runs
  runs_none runs e r run at = let clash : None ≡ Some run = ap (λ (xs : List (Option Run)). run_at xs r) (sym e) ∙ at in absurd (cc)

  at_some : (o : Option (Option Run)) (run : Run) → option_and_then (λ x. x) o ≡ Some run → o ≡ Some (Some run)
  at_some None run h = absurd (cc)
  at_some (Some None) run h = absurd (cc)
  at_some (Some (Some x)) run h = ap (λ (y : Option Run). Some y) h

  same_length : {X : Type 0} (xs : List X) (x y : X) (k : ℕ) → slice_get (xs ++ x ∷ []) k ≡ Some y → (slice_get xs k ≡ Some y) ⊎ ((k ≡ length xs) × (x ≡ y))
  same_length [] x y zero e = inr (refl, let s : x ≡ y = cc in s)
  same_length [] x y (suc k) e = absurd (cc)
  same_length (z ∷ xs) x y zero e = inl e
  same_length (z ∷ xs) x y (suc k) e = elim (same_length xs x y k e) [ inl old ↦ inl old | inr (at, same) ↦ inr (omega (arith, at), same) ]

  pub runs_more : (old new : List (Option Run)) (o : Option Run) (i : ℕ) → new ≡ old ++ o ∷ [] → length old ≡ i → ((run : Run) → o ≡ Some run → IsRunOf g ranks (get_or order i 0) run) → AreRuns g ranks order old → AreRuns g ranks order new
  runs_more old new o i more long here before r run at = elim (same_length old o (Some run) r (ap (λ (xs : List (Option Run)). slice_get xs r) (sym more) ∙ at_some (slice_get new r) run at)) [
    | inl earlier ↦ before r run (ap (option_and_then (λ x. x)) earlier)
    | inr (last, same) ↦ subst (λ (k : ℕ). IsRunOf g ranks (get_or order k 0) run) (sym (let e : r ≡ i = omega (arith, last, long) in e)) (here run same)
  ]
