-- The refines of a uses come to one.
use Rattle.std.proofs.Common.{◌≡◌, ℕ, ◌∙◌, ap, sym, subst, false, List, [], ◌∷◌, ◌++◌, Option, Some, None}
use Rattle.std.proofs.lemmas.Option.{same_Some}
use Rattle.yv_text_statement.specs.declared.refusal.Code.TheVariants as code
use Rattle.yv_link_scopes.specs.Files.{Files}
use Rattle.yv_expand_definition.specs.Nodes.{Forest, Node}
use Rattle.yv_expand_definition.specs.Paths.{End, Leads, at, node_at_end, path_of}
use Rattle.yv_expand_definition.specs.Gives.{Product, MeansNone, PathLeads, RefinesGive, is_fit, add_refusal}
use Rattle.yv_expand_definition.specs.Gives.RefinesGive.{none_left, changes, unfit, without_target}
use Rattle.yv_expand_definition.proofs.Unique.{any_exchange, apart, one_end, one_exchange}

-- the path of a statement leads to one end
pub one_meeting : (files : Files) (module_file k : ℕ) (n m : Forest) (d e : End) (a b : Forest) → n ≡ m → PathLeads files module_file k n d a
    → PathLeads files module_file k m e b → node_at_end d ≡ node_at_end e
one_meeting files module_file k n m d e a b same (r, is, l) (s, is', l') =
    let p : r ≡ s = same_Some r s (sym is ∙ is') in
    one_end (subst (λ x. Leads false (path_of files module_file s) x d a) same (subst (λ x. Leads false (path_of files module_file x) n d a) p l)) l'

pub one_result : (files : Files) (module_file k : ℕ) (n m : Forest) (d e : End) (a b : Forest) → n ≡ m → PathLeads files module_file k n d a
    → PathLeads files module_file k m e b → d ≡ e → a ≡ b
one_result files module_file k n m d e a b same (r, is, l) (s, is', l') =
    let p : r ≡ s = same_Some r s (sym is ∙ is') in
    one_exchange (subst (λ x. Leads false (path_of files module_file s) x d a) same (subst (λ x. Leads false (path_of files module_file x) n d a) p l)) l'

-- whose node is met
abbrev pub node_or : Node → Option (Node × Forest) → Node
node_or g None = g
node_or g (Some x) = x.0

abbrev pub below_or : Forest → Option (Node × Forest) → Forest
below_or f None = f
below_or f (Some x) = x.1

pub not_none : (files : Files) (module_file k : ℕ) (n m : Forest) (g h : Node) (below low there : Forest) → n ≡ m
    → PathLeads files module_file k n (at g below h low) there → MeansNone files module_file k m → ⊥
not_none files module_file k n m g h below low there same (r, is, l) none =
    let x = any_exchange l g below in
    none g below x.0 (r, is, subst (λ y. Leads false (path_of files module_file r) y (at g below g below) x.0) same x.1)

pub refined_one : {files : Files} {module_file : ℕ} {ks : List ℕ} {m n a b : Product} → RefinesGive files module_file ks m a → m ≡ n → RefinesGive files module_file ks n b → a ≡ b
refined_one none_left same none_left = same
refined_one {files = files} {module_file = module_file} {m = m} {n = n} (changes {k = k} {g = g} {below = below} {there = there} p fit e) same
    (changes {g = h} {below = under} {there = here} q fit' f) =
    let met_one = one_meeting files module_file k m.nodes n.nodes _ _ there here (ap (λ (x : Product). x.nodes) same) p q in
    let one : g ≡ h = ap (node_or g) met_one in
    let low : below ≡ under = ap (below_or below) met_one in
    let ends : at g below (record g { refines = g.refines ++ k ∷ [] }) below ≡ at h under (record h { refines = h.refines ++ k ∷ [] }) under =
    ap (λ (x : Node). at x below (record x { refines = x.refines ++ k ∷ [] }) below) one
    ∙ ap (λ (y : Forest). at h y (record h { refines = h.refines ++ k ∷ [] }) y) low in
    let result : there ≡ here = one_result files module_file k m.nodes n.nodes _ _ there here (ap (λ (x : Product). x.nodes) same) p q ends in
    refined_one e (ap (λ (x : Product). record x { nodes = there }) same ∙ ap (λ (y : Forest). record n { nodes = y }) result) f
refined_one {files = files} {module_file = module_file} {m = m} {n = n} (changes {k = k} {g = g} {there = there} p fit e) same (unfit {g = h} {there = here} q isnt f) =
    let one : g ≡ h = ap (node_or g) (one_meeting files module_file k m.nodes n.nodes _ _ there here (ap (λ (x : Product). x.nodes) same) p q) in
    absurd (apart isnt (sym (ap (is_fit files k) one) ∙ fit))
refined_one {files = files} {module_file = module_file} {m = m} {n = n} (unfit {k = k} {g = g} {there = there} p isnt e) same (changes {g = h} {there = here} q fit f) =
    let one : g ≡ h = ap (node_or g) (one_meeting files module_file k m.nodes n.nodes _ _ there here (ap (λ (x : Product). x.nodes) same) p q) in
    absurd (apart isnt (ap (is_fit files k) one ∙ fit))
refined_one (unfit {k = k} p isnt e) same (unfit q isnt' f) = refined_one e (ap (add_refusal code.BadRefine k) same) f
refined_one (without_target {k = k} no_node e) same (without_target no_node' f) = refined_one e (ap (add_refusal code.RefineTarget k) same) f
refined_one {files = files} {module_file = module_file} {m = m} {n = n} (changes {k = k} p fit e) same (without_target no_node f) =
    absurd (not_none files module_file k m.nodes n.nodes _ _ _ _ _ (ap (λ (x : Product). x.nodes) same) p no_node)
refined_one {files = files} {module_file = module_file} {m = m} {n = n} (unfit {k = k} p isnt e) same (without_target no_node f) =
    absurd (not_none files module_file k m.nodes n.nodes _ _ _ _ _ (ap (λ (x : Product). x.nodes) same) p no_node)
refined_one {files = files} {module_file = module_file} {m = m} {n = n} (without_target {k = k} no_node e) same (changes p fit f) =
    absurd (not_none files module_file k n.nodes m.nodes _ _ _ _ _ (sym (ap (λ (x : Product). x.nodes) same)) p no_node)
refined_one {files = files} {module_file = module_file} {m = m} {n = n} (without_target {k = k} no_node e) same (unfit p isnt f) =
    absurd (not_none files module_file k n.nodes m.nodes _ _ _ _ _ (sym (ap (λ (x : Product). x.nodes) same)) p no_node)
