-- What statements give is one.
use Rattle.std.proofs.Common.{◌≡◌, ℕ, ◌∙◌, ap, sym, subst, refl, Bool, true, false, List, ◌∷◌, map, Some}
use Rattle.std.specs.List.{slice_get}
use Rattle.std.proofs.lemmas.Option.{same_Some}
use Rattle.yv_text_statement.specs.declared.refusal.Code.TheVariants as code
use Rattle.yv_link_scopes.specs.Files.{Files, brief_of}
use Rattle.yv_link_scopes.specs.RowList.{rows_of}
use Rattle.yv_link_scopes.specs.Rows.{Row}
use Rattle.yv_link_definitions.specs.Refers.{RefersTo, is_uses}
use Rattle.yv_expand_statements.specs.Names.{node_name}
use Rattle.yv_expand_statements.specs.StatementBlocks.{block_of, input_of, is_node_or_uses, is_operation, output_of, part}
use Rattle.yv_expand_statements.specs.declared.origin.Origin.TheVariants.{Statement, Input, Output}
use Rattle.yv_expand_statements.specs.declared.statement_kind.StatementKind.{StatementKind}
use Rattle.yv_expand_statements.specs.declared.statement_kind.StatementKind.TheVariants as kind
use Rattle.yv_expand_statements.specs.Kinds.{kind_of_keyword}
use Rattle.std.specs.Prelude.{codes}
use Rattle.yv_expand_definition.specs.Nodes.{Forest, Node, join}
use Rattle.yv_expand_definition.specs.Paths.{at, Leads, path_of}
use Rattle.yv_expand_definition.specs.Gives.{AugmentsGive, Gives, Product, Misses, PathLeads, Reaches, add_block, both, one, add_refusal}
use Rattle.yv_expand_definition.specs.Gives.Gives.{no_statements, other, one_node, operation, uses}
use Rattle.yv_expand_definition.specs.Gives.AugmentsGive.{none_left, adds, without_target}
use Rattle.yv_expand_definition.proofs.RefineUniqueness.{below_or, node_or, one_meeting, one_result, refined_one}
use Rattle.yv_expand_definition.proofs.Unique.{any_exchange, apart}

-- a uses refers to one grouping (yv_link_scopes::laws::a_name_means_one_thing)
abbrev pub RefersToOne : Files → Type 0
RefersToOne files = (k d e : ℕ) → RefersTo (map brief_of files) (rows_of files) k d → RefersTo (map brief_of files) (rows_of files) k e → d ≡ e

pub clash : (test : Row → Bool) (rows : List Row) (k : ℕ) (r s : Row) → slice_get rows k ≡ Some r → slice_get rows k ≡ Some s
    → test r ≡ false → test s ≡ true → ⊥
clash test rows k r s is is' n y = apart n (ap test (same_Some r s (sym is ∙ is')) ∙ y)

pub same_two : {A B C : Type 0} (f : A → B → C) {a x : A} {b y : B} → a ≡ x → b ≡ y → f a b ≡ f x y
same_two f {x = x} {b = b} p q = ap (λ u. f u b) p ∙ ap (f x) q

pub reaches_one : (files : Files) (module_file a : ℕ) (put place : Forest → Forest) (n m there here : Forest) (g h : Node) → put ≡ place → n ≡ m
    → Reaches files module_file a put n there g → Reaches files module_file a place m here h → (g ≡ h) × (there ≡ here)
reaches_one files module_file a put place n m there here g h same_put same p q =
    let met_one = one_meeting files module_file a n m _ _ there here same p.leads q.leads in
    let one_target : g ≡ h = ap (node_or g) met_one in
    let low : p.below ≡ q.below = ap (below_or p.below) met_one in
    let ends : at g p.below g (put p.below) ≡ at h q.below h (place q.below) =
    ap (λ (x : Node). at x p.below x (put p.below)) one_target
    ∙ (ap (λ (y : Forest). at h y h (put y)) low ∙ ap (λ (f : Forest → Forest). at h q.below h (f q.below)) same_put) in
    (one_target, one_result files module_file a n m _ _ there here same p.leads q.leads ends)

pub reaches_no_miss : (files : Files) (module_file a : ℕ) (put : Forest → Forest) (n m there : Forest) (g : Node) → n ≡ m
    → Reaches files module_file a put n there g → Misses files module_file a m → ⊥
reaches_no_miss files module_file a put n m there g same p misses = by p.leads
  where
    by : PathLeads files module_file a n (at g p.below g (put p.below)) there → ⊥
    by (r, is, l) =
        let x = any_exchange l g p.below in
        misses g x.0 (record {
          below = p.below;
          leads = (r, is, subst (λ y. Leads false (path_of files module_file r) y (at g p.below g p.below) x.0) same x.1);
          may_be = p.may_be;
        })

module _ (files : Files) (module_file : ℕ) (one_meant : RefersToOne files) where
  mutual
    pub gives_one : {under ks : List ℕ} {m n : Product} → Gives files module_file under ks m → Gives files module_file under ks n → m ≡ n
    gives_one no_statements no_statements = refl
    gives_one (other is item e) (other is' item' f) = gives_one e f
    gives_one (other {k = k} is item e) (one_node is' item' o u kd b f) = absurd (clash is_node_or_uses (rows_of files) k _ _ is is' item item')
    gives_one (other {k = k} is item e) (operation is' item' o u kd i p f) = absurd (clash is_node_or_uses (rows_of files) k _ _ is is' item item')
    gives_one (other {k = k} is item e) (uses is' item' u d c x y f) = absurd (clash is_node_or_uses (rows_of files) k _ _ is is' item item')
    gives_one (one_node {k = k} is item o u kd b e) (other is' item' f) = absurd (clash is_node_or_uses (rows_of files) k _ _ is' is item' item)
    gives_one {under = under} (one_node {k = k} {r = r} {kd = kd} {below = below} is item o u known b e)
        (one_node {r = s} {kd = kd'} {below = low} is' item' o' u' known' c f) =
        let row : r ≡ s = same_Some r s (sym is ∙ is') in
        let same : kd ≡ kd' = same_Some kd kd' (sym known ∙ (ap (λ (x : Row). kind_of_keyword x.head.keyword) row ∙ known')) in
        same_two both
        (ap (λ (x : Row). one module_file under (Statement k) kd (node_name x.head) below) row
        ∙ same_two (λ (y : StatementKind) (z : Product). one module_file under (Statement k) y (node_name s.head) z) same (gives_one b c))
        (gives_one e f)
    gives_one (one_node {k = k} is item o u kd b e) (operation is' item' o' u' kd' i p f) =
        absurd (clash is_operation (rows_of files) k _ _ is is' o o')
    gives_one (one_node {k = k} is item o u kd b e) (uses is' item' u' d c x y f) = absurd (clash is_uses (rows_of files) k _ _ is is' u u')
    gives_one (operation {k = k} is item o u kd i p e) (other is' item' f) = absurd (clash is_node_or_uses (rows_of files) k _ _ is' is item' item)
    gives_one (operation {k = k} is item o u kd i p e) (one_node is' item' o' u' kd' b f) =
        absurd (clash is_operation (rows_of files) k _ _ is' is o' o)
    gives_one {under = under} (operation {k = k} {r = r} {kd = kd} {input = input} {output = output} is item o u known i p e)
        (operation {r = s} {kd = kd'} {input = inner} {output = outer} is' item' o' u' known' j q f) =
        let row : r ≡ s = same_Some r s (sym is ∙ is') in
        let same : kd ≡ kd' = same_Some kd kd' (sym known ∙ (ap (λ (x : Row). kind_of_keyword x.head.keyword) row ∙ known')) in
        let rows : List Row = rows_of files in
        let parts : Product → Product → Product = λ x y. both (one module_file under (part (Input k) (input_of rows k)) kind.Input (codes "input") x)
        (one module_file under (part (Output k) (output_of rows k)) kind.Output (codes "output") y) in
        same_two both
        (ap (λ (x : Row). one module_file under (Statement k) kd (node_name x.head) (parts input output)) row
        ∙ same_two (λ (y : StatementKind) (z : Product). one module_file under (Statement k) y (node_name s.head) z) same
        (same_two parts (gives_one i j) (gives_one p q)))
        (gives_one e f)
    gives_one (operation {k = k} is item o u kd i p e) (uses is' item' u' d c x y f) = absurd (clash is_uses (rows_of files) k _ _ is is' u u')
    gives_one (uses {k = k} is item u d c x y e) (other is' item' f) = absurd (clash is_node_or_uses (rows_of files) k _ _ is' is item' item)
    gives_one (uses {k = k} is item u d c x y e) (one_node is' item' o' u' kd' b f) = absurd (clash is_uses (rows_of files) k _ _ is' is u' u)
    gives_one (uses {k = k} is item u d c x y e) (operation is' item' o' u' kd' i p f) =
        absurd (clash is_uses (rows_of files) k _ _ is' is u' u)
    gives_one {under = under} (uses {k = k} {d = d} {copies = copies} is item u refers c x y e)
        (uses {d = d'} {copies = copies'} is' item' u' refers' c' x' y' f) =
        let same : copies ≡ copies' =
        gives_one c (subst (λ z. Gives files module_file (k ∷ under) (block_of (rows_of files) z) copies') (one_meant k d' d refers' refers) c') in
        same_two both (augmented_one y (refined_one x same x') y') (gives_one e f)

    pub augmented_one : {under ks : List ℕ} {m n a b : Product} → AugmentsGive files module_file under ks m a → m ≡ n → AugmentsGive files module_file under ks n b → a ≡ b
    augmented_one none_left same none_left = same
    augmented_one {m = m} {n = n} (adds {a = a} {block = block} {there = there} {target = g} e p x) same
        (adds {block = block'} {there = here} {target = h} f q y) =
        let blocks : block ≡ block' = gives_one e f in
        let reached = reaches_one files module_file a _ _ m.nodes n.nodes there here g h
        (ap (λ (z : Product). λ (below : Forest). join below z.nodes) blocks) (ap (λ (z : Product). z.nodes) same) p q in
        augmented_one x
        (ap (λ (z : Node). add_block files a z m block there) reached.0
        ∙ (same_two (λ (z w : Product). add_block files a h z w there) same blocks ∙ ap (λ (z : Forest). add_block files a h n block' z) reached.1)) y
    augmented_one {m = m} {n = n} (adds {a = a} {there = there} {target = g} e p x) same (without_target misses y) =
        absurd (reaches_no_miss files module_file a _ m.nodes n.nodes there g (ap (λ (z : Product). z.nodes) same) p misses)
    augmented_one {m = m} {n = n} (without_target {a = a} misses x) same (adds {there = here} {target = h} f q y) =
        absurd (reaches_no_miss files module_file a _ n.nodes m.nodes here h (sym (ap (λ (z : Product). z.nodes) same)) q misses)
    augmented_one (without_target {a = a} misses x) same (without_target misses' y) =
        augmented_one x (ap (add_refusal code.AugmentTarget a) same) y
