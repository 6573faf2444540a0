-- What statements give (RFC 7950, sections 7.12 to 7.17).
use Rattle.std.specs.Prelude.{◌≡◌, ℕ, Bool, true, false, List, [], ◌∷◌, ◌++◌, map, Option, Some, None, codes, slice_get}
use Rattle.std.specs.List.{list_all}
use Rattle.std.specs.Option.{option_and_then}
use Rattle.yv_text_statement.specs.declared.refusal.Code.{Code}
use Rattle.yv_text_statement.specs.declared.refusal.Code.TheVariants as code
use Rattle.yv_link_scopes.specs.Files.{Files, brief_of}
use Rattle.yv_link_scopes.specs.RowList.{rows_of, statements_of}
use Rattle.yv_link_scopes.specs.Rows.{Row}
use Rattle.yv_link_definitions.specs.Refers.{RefersTo, is_uses}
use Rattle.yv_expand_statements.specs.Names.{node_name}
use Rattle.yv_expand_statements.specs.StatementBlocks.{block_of, input_of, is_augment, is_node_or_uses, is_operation, output_of, part, part_block, those, is_refine}
use Rattle.yv_expand_statements.specs.Origin.{number_of}
use Rattle.yv_expand_statements.specs.declared.origin.Origin.{Origin}
use Rattle.yv_expand_statements.specs.declared.origin.Origin.TheVariants.{Statement, Input, Output}
use Rattle.yv_expand_statements.specs.declared.statement_kind.StatementKind.{StatementKind}
use Rattle.yv_expand_statements.specs.declared.statement_kind.StatementKind.TheVariants as kind
use Rattle.yv_expand_statements.specs.Kinds.{may_be_target, kind_of_keyword, takes}
use Rattle.yv_expand_statements.specs.AllowedRefines.{is_some_fit}
use Rattle.yv_expand_definition.specs.Nodes.{Node, Forest, none, node, join}
use Rattle.yv_expand_definition.specs.Paths.{End, at, Leads, LeadsNowhere, path_of}

-- a numbered statement that is refused
pub record Wrong : Type 0 where
  pub code : Code
  pub statement : ℕ

-- what statements give: nodes in order, and what is refused of them
pub record Product : Type 0 where
  pub nodes : Forest
  pub wrong : List Wrong

-- no nodes, and nothing refused
abbrev pub nothing : Product
nothing = record { nodes = none; wrong = [] }

-- what some statements give, and what those after them do
abbrev pub both : Product → Product → Product
both first others =
    record { nodes = join first.nodes others.nodes; wrong = first.wrong ++ others.wrong }

-- with these nodes, and one refusal more
abbrev pub add_refusal : Code → (statement : ℕ) → Product → Product
add_refusal c k m = record m { wrong = m.wrong ++ record { code = c; statement = k } ∷ [] }

-- a node that a statement of the module `module_file` gives, under these uses and augments, and
-- what is below it
abbrev pub one : (module_file : ℕ) → (under : List ℕ) → Origin → StatementKind → (name : List ℕ)
    → (below : Product) → Product
one module_file under o k name below = record below {
  nodes = node (record {
    origin = o;
    under = under;
    module_file = module_file;
    kind = k;
    name = name;
    refines = [];
    giver = None;
  }) below.nodes none;
}

-- the path of a numbered statement leads to an end, among nodes of the module `module_file`
abbrev pub PathLeads : Files → (module_file k : ℕ) → Forest → End → Forest → Type 0
PathLeads files module_file k nodes e there = (r : Row) × (slice_get (rows_of files) k ≡ Some r)
    × Leads false (path_of files module_file r) nodes e there

-- the path of a statement leads to no node
abbrev pub PathLeadsNowhere : Files → (module_file k : ℕ) → Forest → Type 0
PathLeadsNowhere files module_file k nodes = (r : Row) × (slice_get (rows_of files) k ≡ Some r)
    × LeadsNowhere (path_of files module_file r) nodes

-- a refine is fit for a node (7.13.2)
abbrev pub is_fit : Files → (refine : ℕ) → Node → Bool
is_fit files k g =
    is_some_fit (slice_get (rows_of files) (number_of g.origin)) (slice_get (statements_of files) k)

-- a refine means no node among these
abbrev pub MeansNone : Files → (module_file k : ℕ) → Forest → Type 0
MeansNone files module_file k nodes = (g : Node) (below there : Forest)
    → PathLeads files module_file k nodes (at g below g below) there → ⊥

-- (7.13.2) The refines of a uses in order, each by its path among what the uses copies: it changes
-- the node that it means, if it is fit for it. A refused one changes nothing.
pub data RefinesGive (files : Files) (module_file : ℕ) : List ℕ → Product → Product → Type 0 where
  none_left : {m : Product} → RefinesGive files module_file [] m m
  changes : {k : ℕ} {ks : List ℕ} {m last : Product} {g : Node} {below there : Forest}
      → PathLeads files module_file k m.nodes
      (at g below (record g { refines = g.refines ++ k ∷ [] }) below) there
      → is_fit files k g ≡ true
      → RefinesGive files module_file ks (record m { nodes = there }) last
      → RefinesGive files module_file (k ∷ ks) m last
  unfit : {k : ℕ} {ks : List ℕ} {m last : Product} {g : Node} {below there : Forest}
      → PathLeads files module_file k m.nodes (at g below g below) there
      → is_fit files k g ≡ false
      → RefinesGive files module_file ks (add_refusal code.BadRefine k m) last
      → RefinesGive files module_file (k ∷ ks) m last
  without_target : {k : ℕ} {ks : List ℕ} {m last : Product} → MeansNone files module_file k m.nodes
      → RefinesGive files module_file ks (add_refusal code.RefineTarget k m) last
      → RefinesGive files module_file (k ∷ ks) m last

-- (7.17) an augment's path leads to a node that may be its target, and when something is put into
-- what this has these are the nodes
pub record Reaches (files : Files) (module_file a : ℕ) (put : Forest → Forest)
    (nodes there : Forest) (target : Node) : Type 0 where
  pub below : Forest
  pub leads : PathLeads files module_file a nodes (at target below target (put below)) there
  pub may_be : may_be_target target.kind ≡ true

-- it leads to none
abbrev pub Misses : Files → (module_file a : ℕ) → Forest → Type 0
Misses files module_file a nodes =
    (g : Node) (there : Forest) → Reaches files module_file a (λ below. below) nodes there g → ⊥

-- a node accepts what is given; the top accepts everything
abbrev pub is_taken : StatementKind → Option StatementKind → Bool
is_taken target None = true
is_taken target (Some k) = takes target k

-- a target takes all that is in the block of an augment
abbrev pub takes_block : List Row → (augment : ℕ) → StatementKind → Bool
takes_block rows a target =
    list_all (λ k. is_taken target
    (option_and_then (λ r. kind_of_keyword r.head.keyword) (slice_get rows k)))
    (those is_node_or_uses rows (block_of rows a))

-- what an augment gives, with a refusal unless its target takes it
abbrev pub judge : (is_taken : Bool) → (augment : ℕ) → Product → Product
judge true a m = m
judge false a m = add_refusal code.BadAugment a m

-- when an augment has added what its block gives these are the nodes; and it is refused where its
-- target doesn't take what is in its block
abbrev pub add_block : Files → (augment : ℕ) → (target : Node) → (before block : Product)
    → (there : Forest) → Product
add_block files a target before block there =
    judge (takes_block (rows_of files) a target.kind) a
    (record { nodes = there; wrong = before.wrong ++ block.wrong })

mutual
  -- (7.12 to 7.16) What numbered statements give, in order, to the module of the file
  -- `module_file`, under these uses and augments, innermost first: a node each, above what its
  -- block gives; an operation above its input and its output; and a uses a copy of what is in the
  -- block of its grouping, with its refines, and then with its augments. Other statements give
  -- none.
  pub data Gives (files : Files) (module_file : ℕ) : (under : List ℕ) → List ℕ → Product
      → Type 0 where
    no_statements : {under : List ℕ} → Gives files module_file under [] nothing
    other : {under : List ℕ} {k : ℕ} {r : Row} {ks : List ℕ} {m : Product}
        → slice_get (rows_of files) k ≡ Some r → is_node_or_uses r ≡ false
        → Gives files module_file under ks m → Gives files module_file under (k ∷ ks) m
    one_node : {under : List ℕ} {k : ℕ} {r : Row} {kd : StatementKind} {ks : List ℕ}
        {below behind : Product} → slice_get (rows_of files) k ≡ Some r
        → is_node_or_uses r ≡ true → is_operation r ≡ false → is_uses r ≡ false
        → kind_of_keyword r.head.keyword ≡ Some kd
        → Gives files module_file under (block_of (rows_of files) k) below
        → Gives files module_file under ks behind
        → Gives files module_file under (k ∷ ks)
        (both (one module_file under (Statement k) kd (node_name r.head) below) behind)
    operation : {under : List ℕ} {k : ℕ} {r : Row} {kd : StatementKind} {ks : List ℕ}
        {input output behind : Product} → slice_get (rows_of files) k ≡ Some r
        → is_node_or_uses r ≡ true → is_operation r ≡ true → is_uses r ≡ false
        → kind_of_keyword r.head.keyword ≡ Some kd
        → Gives files module_file under
        (part_block (rows_of files) (input_of (rows_of files) k)) input
        → Gives files module_file under
        (part_block (rows_of files) (output_of (rows_of files) k)) output
        → Gives files module_file under ks behind
        → Gives files module_file under (k ∷ ks)
        (both (one module_file under (Statement k) kd (node_name r.head)
        (both (one module_file under (part (Input k) (input_of (rows_of files) k)) kind.Input
        (codes "input") input)
        (one module_file under (part (Output k) (output_of (rows_of files) k)) kind.Output
        (codes "output") output))) behind)
    uses : {under : List ℕ} {k d : ℕ} {r : Row} {ks : List ℕ}
        {copies refined given behind : Product} → slice_get (rows_of files) k ≡ Some r
        → is_node_or_uses r ≡ true → is_uses r ≡ true
        → RefersTo (map brief_of files) (rows_of files) k d
        → Gives files module_file (k ∷ under) (block_of (rows_of files) d) copies
        → RefinesGive files module_file
        (those is_refine (rows_of files) (block_of (rows_of files) k)) copies refined
        → AugmentsGive files module_file (k ∷ under)
        (those is_augment (rows_of files) (block_of (rows_of files) k)) refined given
        → Gives files module_file under ks behind
        → Gives files module_file under (k ∷ ks) (both given behind)

  -- (7.17) The augments of a uses in order, each by its path among what the uses copies and the
  -- earlier ones gave: what its block gives comes after what its target has.
  pub data AugmentsGive (files : Files) (module_file : ℕ) : (under : List ℕ) → List ℕ → Product
      → Product → Type 0 where
    none_left : {under : List ℕ} {m : Product} → AugmentsGive files module_file under [] m m
    adds : {under others : List ℕ} {a : ℕ} {m block last : Product} {there : Forest} {target : Node}
        → Gives files module_file (a ∷ under) (block_of (rows_of files) a) block
        → Reaches files module_file a (λ below. join below block.nodes) m.nodes there target
        → AugmentsGive files module_file under others (add_block files a target m block there) last
        → AugmentsGive files module_file under (a ∷ others) m last
    without_target : {under others : List ℕ} {a : ℕ} {m last : Product}
        → Misses files module_file a m.nodes
        → AugmentsGive files module_file under others (add_refusal code.AugmentTarget a m) last
        → AugmentsGive files module_file under (a ∷ others) m last
