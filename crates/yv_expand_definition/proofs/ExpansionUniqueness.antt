-- What files expand to is one.
use Rattle.std.proofs.Common.{Bool, ◌≡◌, ℕ, ◌∙◌, ap, sym, subst, refl, arith, false, List, [], ◌∷◌, ◌++◌, length, map}
use Rattle.std.proofs.lemmas.Option.{same_Some}
use Rattle.yv_text_statement.specs.declared.refusal.Code.TheVariants as code
use Rattle.yv_link_scopes.specs.Files.{Files, brief_of, module_file_at}
use Rattle.yv_link_scopes.specs.RowList.{rows_of}
use Rattle.yv_link_scopes.specs.Rows.{Row}
use Rattle.yv_expand_statements.specs.StatementBlocks.{block_of}
use Rattle.yv_expand_definition.specs.Nodes.{Forest, Node, nodes_given, insert}
use Rattle.yv_expand_definition.specs.Paths.{End, Leads, path_of}
use Rattle.yv_expand_definition.specs.Gives.{Gives, Product, PathLeads, PathLeadsNowhere, Reaches, add_block, both, add_refusal}
use Rattle.yv_expand_definition.specs.Rounds.{IsModuleFile, Round, Rounds}
use Rattle.yv_expand_definition.specs.Expansion.{Expand, Tops}
use Rattle.yv_expand_definition.specs.Rounds.Round.{none_left, adds, without_target, waits}
use Rattle.yv_expand_definition.specs.Rounds.Rounds.{last, one_more}
use Rattle.yv_expand_definition.specs.Expansion.Tops.{no_files, one_more as top_more}
use Rattle.yv_expand_definition.proofs.GivenNodeUniqueness.{RefersToOne, gives_one, reaches_no_miss, reaches_one, same_two}

one_module_file : (files : Files) (k module_file other : ℕ) → IsModuleFile files k module_file → IsModuleFile files k other → module_file ≡ other
one_module_file files k module_file other (r, is, at) (s, is', at') =
    at ∙ (ap (λ (x : Row). module_file_at (map brief_of files) x.file) (same_Some r s (sym is ∙ is')) ∙ sym at')

not_nowhere : (files : Files) (module_file other k : ℕ) (n m there : Forest) (e : End) → module_file ≡ other → n ≡ m → PathLeads files module_file k n e there
    → PathLeadsNowhere files other k m → ⊥
not_nowhere files module_file other k n m there e module_files same (r, is, l) (s, is', no_end) =
    no_end e there
    (subst (λ y. Leads false (path_of files other s) y e there) same
    (subst (λ h. Leads false (path_of files h s) n e there) module_files
    (subst (λ x. Leads false (path_of files module_file x) n e there) (same_Some r s (sym is ∙ is')) l)))

nodes_same : {m n : Product} → m ≡ n → m.nodes ≡ n.nodes
nodes_same p = ap (λ (z : Product). z.nodes) p

module _ (files : Files) (one_meant : RefersToOne files) where
  pub round_one : {w s t : List ℕ} {m n a b : Product} → Round files w m s a → m ≡ n → Round files w n t b → (s ≡ t) × (a ≡ b)
  round_one none_left same none_left = (refl, same)
  round_one {m = m} {n = n} (adds {module_file = module_file} {a = a} {block = block} {there = there} {target = g} at e p x) same
      (adds {module_file = other} {block = block'} {there = here} {target = h} at' f q y) =
      let module_files : other ≡ module_file = one_module_file files a other module_file at' at in
      let q' : Reaches files module_file a (insert a (nodes_given a block'.nodes)) n.nodes here h =
      subst (λ z. Reaches files z a (insert a (nodes_given a block'.nodes)) n.nodes here h) module_files q in
      let blocks : block ≡ block' =
      gives_one files module_file one_meant e (subst (λ z. Gives files z (a ∷ []) (block_of (rows_of files) a) block') module_files f) in
      let reached = reaches_one files module_file a _ _ m.nodes n.nodes there here g h
      (ap (λ (z : Product). insert a (nodes_given a z.nodes)) blocks) (nodes_same same) p q' in
      round_one x
      (ap (λ (z : Node). add_block files a z m block there) reached.0
      ∙ (same_two (λ (z w : Product). add_block files a h z w there) same blocks ∙ ap (λ (z : Forest). add_block files a h n block' z) reached.1)) y
  round_one {m = m} {n = n} (adds {module_file = module_file} {a = a} {block = block} {there = there} {target = g} at e p x) same (without_target {module_file = other} at' q misses y) =
      absurd (reaches_no_miss files other a _ m.nodes n.nodes there g (nodes_same same)
      (subst (λ z. Reaches files z a (insert a (nodes_given a block.nodes)) m.nodes there g) (one_module_file files a module_file other at at') p) misses)
  round_one {m = m} {n = n} (adds {module_file = module_file} {a = a} {there = there} at e p x) same (waits {module_file = other} at' nowhere y) =
      absurd (not_nowhere files module_file other a m.nodes n.nodes there _ (one_module_file files a module_file other at at') (nodes_same same) p.leads nowhere)
  round_one {m = m} {n = n} (without_target {module_file = module_file} {a = a} at p misses x) same (adds {module_file = other} {block = block'} {there = here} {target = h} at' f q y) =
      absurd (reaches_no_miss files module_file a _ n.nodes m.nodes here h (sym (nodes_same same))
      (subst (λ z. Reaches files z a (insert a (nodes_given a block'.nodes)) n.nodes here h) (one_module_file files a other module_file at' at) q) misses)
  round_one (without_target {a = a} at p misses x) same (without_target at' q misses' y) = round_one x (ap (add_refusal code.AugmentTarget a) same) y
  round_one {m = m} {n = n} (without_target {module_file = module_file} {a = a} {there = there} at p misses x) same (waits {module_file = other} at' nowhere y) =
      absurd (not_nowhere files module_file other a m.nodes n.nodes there _ (one_module_file files a module_file other at at') (nodes_same same) p nowhere)
  round_one {m = m} {n = n} (waits {module_file = module_file} {a = a} at nowhere x) same (adds {module_file = other} {there = here} at' f q y) =
      absurd (not_nowhere files other module_file a n.nodes m.nodes here _ (one_module_file files a other module_file at' at) (sym (nodes_same same)) q.leads nowhere)
  round_one {m = m} {n = n} (waits {module_file = module_file} {a = a} at nowhere x) same (without_target {module_file = other} {there = here} at' q misses y) =
      absurd (not_nowhere files other module_file a n.nodes m.nodes here _ (one_module_file files a other module_file at' at) (sym (nodes_same same)) q nowhere)
  round_one (waits {a = a} at nowhere x) same (waits at' nowhere' y) =
      let r = round_one x same y in (ap (λ z. a ∷ z) r.0, r.1)

  abbrev pub never : List ℕ → Product → Product
  never waiting m = record m { wrong = m.wrong ++ map (λ a. record { code = code.AugmentTarget; statement = a }) waiting }

  pub rounds_one : {w v : List ℕ} {m n a b : Product} → Rounds files w m a → w ≡ v → m ≡ n → Rounds files v n b → a ≡ b
  rounds_one (last x) list same (last y) = same_two never list same
  rounds_one {v = v} {m = m} {n = n} (last x) list same (one_more {still = still} y less z) =
      let r = round_one (subst (λ u. Round files u m u m) list x) same y in
      let counts : length v ≡ length still = ap length r.0 in
      absurd (omega (arith, less, counts))
  rounds_one {w = w} {v = v} {m = m} {n = n} (one_more {still = still} {there = there} x less z) list same (last y) =
      let r = round_one (subst (λ u. Round files u m still there) list x) same y in
      let counts : length still ≡ length v = ap length r.0 in
      let lists : length w ≡ length v = ap length list in
      absurd (omega (arith, less, counts, lists))
  rounds_one {m = m} (one_more {still = still} {there = there} x less z) list same (one_more y less' z') =
      let r = round_one (subst (λ u. Round files u m still there) list x) same y in
      rounds_one z r.0 r.1 z'

  pub tops_one : {order : List ℕ} {m n : Product} → Tops files order m → Tops files order n → m ≡ n
  tops_one no_files no_files = refl
  tops_one (top_more e x) (top_more f y) = same_two both (gives_one files _ one_meant e f) (tops_one x y)

  -- files have one expansion at most
  pub expand_one : (marks : List Bool) (order : List ℕ) (m n : Product) → Expand files marks order m → Expand files marks order n → m ≡ n
  expand_one marks order m n x y = rounds_one x.rounds refl (tops_one x.tops y.tops) y.rounds
