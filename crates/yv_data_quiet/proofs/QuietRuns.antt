-- Runs of quiet nodes.
use Rattle.std.proofs.Common.{◌≡◌, ℕ, zero, suc, ◌+◌, ◌-◌, ◌<◌, ◌≤◌, ◌==◌, List, [], ◌∷◌, ◌++◌, length, get_or, drop, Bool, true, false, cond, ◌&&◌, inl, inr, Option, Some, None, refl, sym, ap, ◌∙◌, subst, eqb-true, arith, Vec, Global}
use Rattle.std.specs.List.{slice_get}
use Rattle.std.specs.BTreeMap.{BTreeMap, get_by, UpdatesBy}
use Rattle.std.specs.Option.{IfSome, option_map, SomeIff, unwrap_or}
use Rattle.std.specs.Ordering.{nat_cmp}
use Rattle.std.proofs.lemmas.Bool.{true≢false}
use Rattle.serde_json.specs.Data.{Members}
use Rattle.yv_nodes.specs.declared.node.NodeId.{NodeId}
use Rattle.yv_nodes.specs.Rows.{children_of, Rows, tree_of}
use Rattle.yv_schema_tables.specs.Sound.{IsSound}
use Rattle.yv_walk.specs.Existence.{any, tree_standing}
use Rattle.yv_walk.specs.declared.existence.Existence.{Existence}
use Rattle.yv_walk.specs.declared.existence.Existence.TheVariants.{Nothing, Only, Several}
use Rattle.yv_data_quiet.specs.Quiet.{is_quiet, steps_at, tree_met}
use Rattle.yv_data_quiet.specs.Runs.{ArePassed, AreRuns, HaveRuns, IsRun, run_quiet, run_steps}
use Rattle.yv_data_quiet.specs.declared.runs.Run.{Run}
use Rattle.yv_data_quiet.proofs.ListLeafs.{is_eq_nat, one_number}
use Rattle.yv_data_quiet.proofs.QuietSteps.{among, quiet_parts}

and_parts : (a b : Bool) → (a && b) ≡ true → (a ≡ true) × (b ≡ true)
and_parts true b e = (refl, e)
and_parts false b e = absurd (true≢false (sym e))

-- ---- a run by itself

-- no node
pub no_run : (s : Rows) (ns : List NodeId) → IsRun s ns (record { many = 0; steps = 0 })
no_run s ns = record { quiet = refl; steps = refl }

-- one node more
pub run_more : (s : Rows) (n : NodeId) (ns : List NodeId) (run new : Run) (own : ℕ) → IsRun s ns run → steps_at s n ≡ Some own → new.many ≡ run.many + 1
    → new.steps ≡ run.steps + own → IsRun s (n ∷ ns) new
run_more s n ns run new own h known many sum =
    let parts = quiet_parts (is_quiet s n.0 (tree_of s n)) (tree_met (tree_of s n)) own known in
    let next : new.many ≡ suc run.many = omega (arith, many) in
    let total : tree_met (tree_of s n) + run_steps s run.many ns ≡ new.steps = omega (arith, parts.1, h.steps, sum) in
    record {
      quiet = ap (λ (m : ℕ). run_quiet s m (n ∷ ns)) next ∙ ap (λ (b : Bool). b && run_quiet s run.many ns) parts.0 ∙ h.quiet;
      steps = ap (λ (m : ℕ). run_steps s m (n ∷ ns)) next ∙ total;
    }

-- it is no longer than the nodes
pub run_within : (s : Rows) (many : ℕ) (ns : List NodeId) → run_quiet s many ns ≡ true → many ≤ length ns
run_within s zero ns quiet = omega arith
run_within s (suc m) [] quiet = absurd (true≢false (sym quiet))
run_within s (suc m) (c ∷ cs) quiet =
    let later : m ≤ length cs = run_within s m cs (and_parts (is_quiet s c.0 (tree_of s c)) (run_quiet s m cs) quiet).1 in
    omega (arith, later)

-- ---- the beginning of a run

front_quiet : (s : Rows) (m r n : ℕ) (ns : List NodeId) → n ≡ m + r → run_quiet s n ns ≡ true → run_quiet s m ns ≡ true
front_quiet s zero r n ns e h = refl
front_quiet s (suc m) r n [] e h =
    let next : n ≡ suc (m + r) = omega (arith, e) in
    absurd (true≢false (sym h ∙ ap (λ (k : ℕ). run_quiet s k []) next))
front_quiet s (suc m) r n (c ∷ cs) e h =
    let next : n ≡ suc (m + r) = omega (arith, e) in
    let parts = and_parts (is_quiet s c.0 (tree_of s c)) (run_quiet s (m + r) cs) (sym (ap (λ (k : ℕ). run_quiet s k (c ∷ cs)) next) ∙ h) in
    ap (λ (b : Bool). b && run_quiet s m cs) parts.0 ∙ front_quiet s m r (m + r) cs refl parts.1

none_steps : (s : Rows) (r : ℕ) → run_steps s r [] ≡ 0
none_steps s zero = refl
none_steps s (suc r) = refl

front_steps : (s : Rows) (m r n : ℕ) (ns : List NodeId) → n ≡ m + r → run_steps s n ns ≡ run_steps s m ns + run_steps s r (drop m ns)
front_steps s zero r n ns e =
    let same : n ≡ r = omega (arith, e) in
    let all : run_steps s n ns ≡ run_steps s r ns = ap (λ (k : ℕ). run_steps s k ns) same in
    omega (arith, all)
front_steps s (suc m) r n [] e =
    let none : run_steps s n [] ≡ 0 = none_steps s n in
    let rest : run_steps s r [] ≡ 0 = none_steps s r in
    omega (arith, none, rest)
front_steps s (suc m) r n (c ∷ cs) e =
    let next : n ≡ suc (m + r) = omega (arith, e) in
    let all : run_steps s n (c ∷ cs) ≡ tree_met (tree_of s c) + run_steps s (m + r) cs = ap (λ (k : ℕ). run_steps s k (c ∷ cs)) next in
    let later : run_steps s (m + r) cs ≡ run_steps s m cs + run_steps s r (drop m cs) = front_steps s m r (m + r) cs refl in
    omega (arith, all, later)

pub front_run : (s : Rows) (ns : List NodeId) (run rest : Run) (many steps : ℕ) → run.many ≡ many + rest.many → run.steps ≡ steps + rest.steps → IsRun s ns run
    → IsRun s (drop many ns) rest → IsRun s ns (record { many = many; steps = steps })
front_run s ns run rest many steps parts sum whole later = record {
  quiet = front_quiet s many rest.many run.many ns parts whole.quiet;
  steps = omega (arith, front_steps s many rest.many run.many ns parts, whole.steps, later.steps, sum);
}

-- ---- the runs of the children of a node

pub no_runs : (s : Rows) (ns : List NodeId) → AreRuns s ns []
no_runs s ns i run e = absurd (cc)

pub runs_more : (s : Rows) (ns : List NodeId) (old new : List Run) (run : Run) (at : ℕ) → AreRuns s ns old → new ≡ old ++ run ∷ [] → length old ≡ at
    → IsRun s (drop (length ns - 1 - at) ns) run → AreRuns s ns new
runs_more s ns old new run at known added many h = λ i r e.
    elim (among old run i r (ap (λ (xs : List Run). slice_get xs i) (sym added) ∙ e)) [
      | inl f ↦ known i r f
      | inr f ↦
          let place : length ns - 1 - at ≡ length ns - 1 - i = omega (arith, f.0, many) in
          subst (λ (n : ℕ). IsRun s (drop n ns) r) place (subst (λ (x : Run). IsRun s (drop (length ns - 1 - at) ns) x) f.1 h)
    ]

-- one with a node more, if there is one, or else an empty one
pub longer_or : (o : Option Run) (s : Rows) (n : NodeId) (ns : List NodeId) (run : Run) (steps : Option ℕ)
    → IfSome o (λ r. (s : Rows) (n : NodeId) (ns : List NodeId) → IsRun s ns run → IfSome steps (λ w. steps_at s n ≡ Some w) → IsRun s (n ∷ ns) r)
    → IsRun s ns run → IfSome steps (λ w. steps_at s n ≡ Some w) → IsRun s (n ∷ ns) (unwrap_or o (record { many = 0; steps = 0 }))
longer_or None s n ns run steps h is known = no_run s (n ∷ ns)
longer_or (Some r) s n ns run steps h is known = h s n ns is known

-- what is said of a difference that fits
pub if_rest : (o : Option ℕ) (a b : ℕ) (P : ℕ → Type 0) → SomeIff o (b ≤ a) (a - b) → ((n : ℕ) → a ≡ n + b → P n) → IfSome o P
if_rest None a b P e h = tt
if_rest (Some n) a b P e h = h n (omega (arith, e.0, e.1))

-- ---- the runs of all nodes

chosen : (s : Rows) (ns : List NodeId) (b : Bool) (v : Vec Run Global) (o : Option (Vec Run Global)) → (b ≡ true → AreRuns s ns v.items)
    → AreRuns s ns (unwrap_or (option_map (λ (w : Vec Run Global). w.items) o) [])
    → AreRuns s ns (unwrap_or (option_map (λ (w : Vec Run Global). w.items) (cond b (Some v) o)) [])
chosen s ns true v o here others = here refl
chosen s ns false v o here others = others

pub have_more : (s : Rows) (old new : BTreeMap ℕ (Vec Run Global)) (p : NodeId) (v : Vec Run Global) → UpdatesBy nat_cmp (λ k. nat_cmp p.0 k) old new (Some v)
    → AreRuns s (children_of s p) v.items → HaveRuns s old → HaveRuns s new
have_more s old new p v u here others = λ q.
    subst (λ (o : Option (Vec Run Global)). AreRuns s (children_of s q) (unwrap_or (option_map (λ (w : Vec Run Global). w.items) o) []))
    (sym (u.0 q.0 ∙ ap (λ b. cond b (Some v) (get_by (nat_cmp q.0) old)) (is_eq_nat p.0 q.0)))
    (chosen s (children_of s q) (p.0 == q.0) v (get_by (nat_cmp q.0) old)
    (λ e. subst (λ (m : NodeId). AreRuns s (children_of s m) v.items) (one_number p q (eqb-true p.0 q.0 e)) here) (others q))

-- ---- nodes that are passed over

none_exists : (x : Existence) → any x ≡ false → x ≡ Nothing
none_exists Nothing e = refl
none_exists (Only n) e = absurd (true≢false e)
none_exists Several e = absurd (true≢false e)

pub passed_run : (s : Rows) (ms : Members) (many : ℕ) (ns : List NodeId) (d : NodeId) → IsSound s → run_quiet s many ns ≡ true
    → ((i : ℕ) → i < many → any (tree_standing (get_or ns i d).0 (tree_of s (get_or ns i d)) ms) ≡ false) → ArePassed s ms many ns
passed_run s ms zero ns d sound quiet none = tt
passed_run s ms (suc m) [] d sound quiet none = absurd (true≢false (sym quiet))
passed_run s ms (suc m) (c ∷ cs) d sound quiet none =
    let parts = and_parts (is_quiet s c.0 (tree_of s c)) (run_quiet s m cs) quiet in (
      record {
        sound = sound;
        quiet = ap (λ (b : Bool). cond b (Some (tree_met (tree_of s c))) None) parts.0;
        nothing = none_exists (tree_standing c.0 (tree_of s c) ms) (none zero (omega arith));
      },
      passed_run s ms m cs d sound parts.1 (λ i lt. none (suc i) (omega (arith, lt))),
    )
