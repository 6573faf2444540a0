-- A schema tree with its leafrefs resolved.
use Rattle.std.proofs.Common.{◌≡◌, ◌⊎◌, ℕ, ◌+◌, List, [], All, refl, sym, ap, ◌∙◌, subst, arith, Option, None, inl, inr}
use Rattle.yv_values.specs.Types.{Plain}
use Rattle.yv_text_statement.specs.Order.{IsLeast}
use Rattle.yv_nodes.specs.declared.node.NodeId.{NodeId}
use Rattle.yv_nodes.specs.Link.{AreLinked, AreLinkedBelow, Ground, KindLinked, Link, ground, reference_in}
use Rattle.yv_nodes.specs.Numbers.{numbers_from, rows_from}
use Rattle.yv_nodes.specs.Rows.{Module, Note, Row}
use Rattle.yv_nodes.specs.Tree.{count, Forest, node, no_trees, tree}
use Rattle.yv_nodes.specs.NodeTypes.{typed_from, typed_rows, types_at}
use Rattle.yv_node_content.specs.declared.kind.NodeKind.{NodeKind}
use Rattle.yv_node_content.specs.declared.kind.NodeKind.TheVariants as kind
use Rattle.yv_node_leafrefs.specs.Bad.{BadLeafrefs}
use Rattle.yv_node_leafrefs.specs.Resolution.{IsTyped, with_refusal, with_targets}
use Rattle.yv_node_leafrefs.specs.Schema.{Schema}
use Rattle.yv_node_leafrefs.specs.Links.{AreLinks}
use Rattle.yv_schema_tables.specs.NodeNumbers.{AreFormed, made_of}
use Rattle.yv_schema_tables.specs.Sound.{IsNote}

-- types don't change how many nodes there are
count_typed : (types : ℕ → List Plain) (first : ℕ) (ts : Forest) → count (typed_from types first ts) ≡ count ts
count_typed types first no_trees = refl
count_typed types first (tree (node l kids) ts) =
    let inner = count_typed types (first + 1) kids in
    let outer = count_typed types (first + 1 + count kids) ts in
    omega (arith, inner, outer)

-- what laws say of trees whose nodes get other types
abbrev pub TopsStay : Type 0
TopsStay = (types : ℕ → List Plain) (ts : Forest) → numbers_from 0 (typed_from types 0 ts) ≡ numbers_from 0 ts

abbrev pub RowsStay : Type 0
RowsStay = (types : ℕ → List Plain) (ts : Forest) → rows_from 0 (typed_from types 0 ts) ≡ typed_rows types 0 (rows_from 0 ts)

abbrev pub FormsStay : Type 0
FormsStay = (modules : List Module) (types : ℕ → List Plain) (ts : Forest) → AreFormed modules [] ts → AreFormed modules [] (typed_from types 0 ts)

abbrev pub NotesStay : Type 0
NotesStay = (types : ℕ → List Plain) (nodes : List Row) (top : List NodeId) (limit : ℕ) (modules : List Module) (notes : List Note) (links : List (Option Link))
    → All (IsNote (made_of nodes top limit modules notes links)) notes → All (IsNote (made_of (typed_rows types 0 nodes) top limit modules notes links)) notes

abbrev pub LinksStay : Type 0
LinksStay = (types : ℕ → List Plain) (links : ℕ → Option Link) (ts : Forest) → AreLinked links ts → AreLinked links (typed_from types 0 ts)

abbrev pub LinksLead : Type 0
LinksLead = (s : Schema) (ts : Forest) (links : List (Option Link)) → s.rows ≡ rows_from 0 ts → AreLinks s links → AreLinked (reference_in links) ts

pub count_resolved : (s : Schema) (stated top : Forest) → IsTyped s stated top → count top ≡ count stated
count_resolved s stated top (with_targets least is) = ap count is.is ∙ count_typed (λ n. types_at s.rows (is.origin n)) 0 stated
count_resolved s stated top (with_refusal bad) = refl

pub tops_resolved : TopsStay → (s : Schema) (stated top : Forest) → IsTyped s stated top → numbers_from 0 top ≡ numbers_from 0 stated
tops_resolved stay s stated top (with_targets least is) = ap (numbers_from 0) is.is ∙ stay (λ n. types_at s.rows (is.origin n)) stated
tops_resolved stay s stated top (with_refusal bad) = refl

pub forms_resolved : FormsStay → (s : Schema) (modules : List Module) (stated top : Forest) → IsTyped s stated top → AreFormed modules [] stated → AreFormed modules [] top
forms_resolved stay s modules stated top (with_targets least is) formed =
    subst (AreFormed modules []) (sym is.is) (stay modules (λ n. types_at s.rows (is.origin n)) stated formed)
forms_resolved stay s modules stated top (with_refusal bad) formed = formed

pub notes_resolved : RowsStay → NotesStay → (s : Schema) (stated top : Forest) (tops : List NodeId) (limit : ℕ) (modules : List Module) (notes : List Note) (links : List (Option Link)) → IsTyped s stated top
    → All (IsNote (made_of (rows_from 0 stated) tops limit modules notes links)) notes → All (IsNote (made_of (rows_from 0 top) tops limit modules notes links)) notes
notes_resolved rows stay s stated top tops limit modules notes links (with_targets least is) given =
    let types : ℕ → List Plain = λ n. types_at s.rows (is.origin n) in
    subst (λ (rs : List Row). All (IsNote (made_of rs tops limit modules notes links)) notes) (sym (ap (rows_from 0) is.is ∙ rows types stated))
    (stay types (rows_from 0 stated) tops limit modules notes links given)
notes_resolved rows stay s stated top tops limit modules notes links (with_refusal bad) given = given

-- no link leads astray
kind_none : (k : NodeKind) (top : Ground) (up : List Ground) (own : Ground) (Below : List Ground → Type 0) → ((us : List Ground) → Below us) → KindLinked k None top up own Below
kind_none kind.Container top up own Below all = all _
kind_none kind.Leaf top up own Below all = tt
kind_none kind.LeafList top up own Below all = tt
kind_none kind.List top up own Below all = all _
kind_none kind.Choice top up own Below all = all up
kind_none kind.Case top up own Below all = all up
kind_none kind.Anydata top up own Below all = tt
kind_none kind.Anyxml top up own Below all = tt
kind_none kind.Rpc top up own Below all = tt
kind_none kind.Action top up own Below all = tt
kind_none kind.Notification top up own Below all = tt
kind_none kind.Input top up own Below all = tt
kind_none kind.Output top up own Below all = tt

none_below : (top : Ground) (up : List Ground) (first : ℕ) (ts : Forest) → AreLinkedBelow (reference_in []) top up first ts
none_below top up first no_trees = tt
none_below top up first (tree (node l kids) ts) = (
  kind_none l.defined.kind top up (record { first = first + 1; trees = kids }) (λ us. AreLinkedBelow (reference_in []) top us (first + 1) kids) (λ us. none_below top us (first + 1) kids),
  none_below top up (first + 1 + count kids) ts,
)

none_linked : (links : List (Option Link)) (ts : Forest) → links ≡ [] → AreLinked (reference_in links) ts
none_linked links ts none = subst (λ (ls : List (Option Link)). AreLinked (reference_in ls) ts) (sym none) (none_below (ground ts) _ 0 ts)

-- links lead where they are to in the resolved tree; there are none where something is wrong with
-- leafrefs
pub links_resolved : LinksLead → LinksStay → (s : Schema) (stated top : Forest) (links : List (Option Link)) → s.rows ≡ rows_from 0 stated → IsTyped s stated top
    → (IsLeast (BadLeafrefs s) None × AreLinks s links) ⊎ (links ≡ []) → AreLinked (reference_in links) top
links_resolved lead stay s stated top links rows is (inr none) = none_linked links top none
links_resolved lead stay s stated top links rows (with_targets least is) (inl h) =
    subst (AreLinked (reference_in links)) (sym is.is) (stay (λ n. types_at s.rows (is.origin n)) (reference_in links) stated (lead s stated links rows h.1))
links_resolved lead stay s stated top links rows (with_refusal {f = f} bad) (inl h) = absurd (h.0 f bad)
