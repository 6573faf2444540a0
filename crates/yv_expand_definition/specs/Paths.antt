-- Where schema paths lead (RFC 7950, section 6.5).
use Rattle.std.specs.Prelude.{◌≡◌, ℕ, ◌==◌, ◌&&◌, not, Bool, true, false, List, [], ◌∷◌, map, Option, Some, None}
use Rattle.std.specs.Str.{bytes_eq}
use Rattle.yv_link_scopes.specs.Files.{Files, brief_of}
use Rattle.yv_link_scopes.specs.RowList.{rows_of}
use Rattle.yv_link_scopes.specs.Names.{local_of}
use Rattle.yv_link_scopes.specs.Rows.{Row, name_in}
use Rattle.yv_expand_statements.specs.Paths.{module_file_of, steps_of}
use Rattle.yv_expand_statements.specs.Kinds.{is_case, is_choice}
use Rattle.yv_expand_definition.specs.Nodes.{Node, Forest, none, node, join}

-- a step: the file of its module, and its name; no file where its prefix refers to no module
pub record Step : Type 0 where
  pub module_file : Option ℕ
  pub name : List ℕ

-- the path of a refine or an augment, where a name without prefix is of the module of this file
abbrev pub path_of : Files → (module_file : ℕ) → Row → List Step
path_of files module_file r =
    map (λ text. record {
      module_file = module_file_of (map brief_of files)
          (rows_of files) r.file module_file text;
      name = local_of text;
    }) (steps_of (name_in r))

-- a step names this module
abbrev pub is_module_file : Option ℕ → ℕ → Bool
is_module_file None module_file = false
is_module_file (Some m) module_file = m == module_file

-- a node answers a step: it has the step's module and name
abbrev pub answers : Step → Node → Bool
answers s g = is_module_file s.module_file g.module_file && bytes_eq s.name g.name

-- the case above a node of a choice is left out (section 7.9.2)
abbrev pub is_shorthand : (in_choice : Bool) → Node → Bool
is_shorthand in_choice g = in_choice && not (is_case g.kind)

-- the end of a path: a case that is left out; or a node with what is below it, and what will be
-- below and in place of it
pub data End : Type 0 where
  shorthand_case : End
  at : (was : Node) → (below : Forest) → (is : Node) → (below_it : Forest) → End

-- the node at an end with what is below it, if it is one
abbrev pub node_at_end : End → Option (Node × Forest)
node_at_end shorthand_case = None
node_at_end (at g below h there) = Some (g, below)

-- A path leads among nodes, which may be those of a choice, to an end; with the exchange that the
-- end tells, the nodes are the last ones. At each step the first node in order is meant that
-- answers it. A case that is left out is a step with the name of its node.
pub data Leads : (in_choice : Bool) → List Step → (nodes : Forest) → End → (exchanged : Forest)
    → Type 0 where
  past : {c : Bool} {s : Step} {ss : List Step} {e : End} {g : Node} {below behind there : Forest}
      → answers s g ≡ false
      → Leads c (s ∷ ss) behind e there
      → Leads c (s ∷ ss) (node g below behind) e (node g below there)
  to : {c : Bool} {s : Step} {g h : Node} {below behind there : Forest} → answers s g ≡ true
      → is_shorthand c g ≡ false
      → Leads c (s ∷ []) (node g below behind) (at g below h there) (node h there behind)
  into : {c : Bool} {s t : Step} {ss : List Step} {e : End} {g : Node} {below behind there : Forest}
      → answers s g ≡ true → is_shorthand c g ≡ false
      → Leads (is_choice g.kind) (t ∷ ss) below e there
      → Leads c (s ∷ t ∷ ss) (node g below behind) e (node g there behind)
  to_case : {s : Step} {g : Node} {below behind : Forest} → answers s g ≡ true
      → is_shorthand true g ≡ true
      → Leads true (s ∷ []) (node g below behind) shorthand_case (node g below behind)
  into_case : {s t : Step} {ss : List Step} {e : End} {g : Node} {below behind there : Forest}
      → answers s g ≡ true → is_shorthand true g ≡ true
      → Leads false (t ∷ ss) (node g below none) e there
      → Leads true (s ∷ t ∷ ss) (node g below behind) e (join there behind)

-- it leads to no end
abbrev pub LeadsNowhere : List Step → Forest → Type 0
LeadsNowhere path nodes = (e : End) (there : Forest) → Leads false path nodes e there → ⊥
