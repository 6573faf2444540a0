-- What gives no nodes changes none.
use Rattle.std.proofs.Common.{◌≡◌, ℕ, suc, Bool, true, false, if◌then◌else◌, List, ◌∷◌, refl, sym, ◌∙◌, ap, arith, Some}
use Rattle.std.specs.List.{Contains, slice_get}
use Rattle.std.proofs.lemmas.Bool.{false≢true}
use Rattle.yv_link_scopes.specs.Files.{Files}
use Rattle.yv_link_scopes.specs.RowList.{rows_of}
use Rattle.yv_link_scopes.specs.Rows.{Row}
use Rattle.yv_expand_statements.specs.StatementBlocks.{is_node_or_uses}
use Rattle.yv_expand_definition.specs.Gives.{Gives, Product, Reaches, nothing}
use Rattle.yv_expand_definition.specs.Gives.Gives.{no_statements, other, one_node, operation, uses}
use Rattle.yv_expand_definition.specs.Nodes.{Forest, Node, nodes_given, insert, is_later, join, node, none}
use Rattle.yv_expand_definition.specs.Paths.{Leads, Step, at}
use Rattle.yv_expand_definition.specs.Paths.Leads.{past, to, into, into_case}

joined_none : (f : Forest) → join f none ≡ f
joined_none none = refl
joined_none (node g below behind) = ap (λ x. node g below x) (joined_none behind)

inserted_none : (a : ℕ) (f : Forest) → insert a none f ≡ f
inserted_none a none = refl
inserted_none a (node g below behind) = by (is_later a g.giver) (inserted_none a behind)
  where
    by : (b : Bool) → insert a none behind ≡ behind → (if b then node g below behind else node g below (insert a none behind)) ≡ node g below behind
    by true e = refl
    by false e = ap (λ x. node g below x) e

-- an exchange for the same is none
same_exchange : {c : Bool} {ss : List Step} {f there : Forest} {g : Node} {below put : Forest} → Leads c ss f (at g below g put) there → put ≡ below → there ≡ f
same_exchange (past {g = g} {below = below} n l) e = ap (λ x. node g below x) (same_exchange l e)
same_exchange (to {g = g} {behind = behind} y s) e = ap (λ x. node g x behind) e
same_exchange (into {g = g} {behind = behind} y s l) e = ap (λ x. node g x behind) (same_exchange l e)
same_exchange (into_case {behind = behind} y s l) e = ap (λ x. join x behind) (same_exchange l e)

pub adds_none : (files : Files) (module_file a : ℕ) (nodes there : Forest) (target : Node) → Reaches files module_file a (λ below. join below none) nodes there target → there ≡ nodes
adds_none files module_file a nodes there target r = same_exchange r.leads.2 (joined_none r.below)

pub inserts_none : (files : Files) (module_file a : ℕ) (nodes there : Forest) (target : Node) → Reaches files module_file a (insert a (nodes_given a none)) nodes there target → there ≡ nodes
inserts_none files module_file a nodes there target r = same_exchange r.leads.2 (inserted_none a r.below)

first : (k : ℕ) (ks : List ℕ) → Contains (k ∷ ks) k
first k ks = (0, omega arith, refl)

later : (k j : ℕ) (ks : List ℕ) → Contains ks j → Contains (k ∷ ks) j
later k j ks (i, l, e) = (suc i, omega (arith, l), e)

pub gives_none : (files : Files) (module_file : ℕ) {under ks : List ℕ} {m : Product} → Gives files module_file under ks m
    → ((k : ℕ) (r : Row) → Contains ks k → slice_get (rows_of files) k ≡ Some r → is_node_or_uses r ≡ false) → m ≡ nothing
gives_none files module_file no_statements all = refl
gives_none files module_file (other {k = k} {ks = ks} is no_item e) all = gives_none files module_file e (λ j r h. all j r (later k j ks h))
gives_none files module_file (one_node {k = k} {r = r} {ks = ks} is item o u known b e) all = absurd (false≢true (sym (all k r (first k ks) is) ∙ item))
gives_none files module_file (operation {k = k} {r = r} {ks = ks} is item o u known i p e) all = absurd (false≢true (sym (all k r (first k ks) is) ∙ item))
gives_none files module_file (uses {k = k} {r = r} {ks = ks} is item u d c x y e) all = absurd (false≢true (sym (all k r (first k ks) is) ∙ item))
