-- Nodes of several modules, which may be below one another, and their numbers.
use Rattle.std.specs.Prelude.{◌≡◌, ◌≢◌, ◌<◌, ℕ, ◌==◌, List, [], ◌∷◌, All, false, Option, Some, slice_get}
use Rattle.std.specs.List.{list_any}
use Rattle.yv_nodes.specs.declared.node.NodeId.{NodeId}
use Rattle.yv_nodes.specs.Link.{Link, AreLinked, reference_in}
use Rattle.yv_nodes.specs.Member.{data_module_file, member_name}
use Rattle.yv_nodes.specs.Numbers.{numbers_from, rows_from}
use Rattle.yv_nodes.specs.Rows.{Module, Note, Row, Rows}
use Rattle.yv_nodes.specs.Tree.{Forest, Label, no_trees, node, tree}

-- no byte of the text is a colon
abbrev pub HasNoColon : List ℕ → Type 0
HasNoColon text = list_any (λ byte. byte == 58) text ≡ false

-- one of the modules has this name, and this is the number of its file
pub record IsNamed (modules : List Module) (module_file : ℕ) (name : List ℕ) : Type 0 where
  pub place : ℕ
  pub found : Module
  pub at : slice_get modules place ≡ Some found
  pub module_file_is : found.module_file ≡ module_file
  pub name_is : found.name ≡ name

-- a node below these, the nearest first, is of one of the modules, and its member is called so (RFC
-- 7951, section 4)
pub record IsFormed (modules : List Module) (above : List Label) (l : Label) : Type 0 where
  pub of_module : IsNamed modules l.module_file l.module_name
  pub plain : HasNoColon l.defined.name
  pub member : l.member
      ≡ member_name (data_module_file above) l.module_file l.module_name l.defined.name

-- each of these nodes, which are below those, and of those below them
abbrev pub AreFormed : List Module → (above : List Label) → Forest → Type 0
AreFormed modules above no_trees = Unit {0}
AreFormed modules above (tree (node l kids) ts) =
    IsFormed modules above l × AreFormed modules (l ∷ above) kids × AreFormed modules above ts

-- no two modules have one name or one file, and no name has a colon
pub record AreModules (modules : List Module) : Type 0 where
  pub plain : All (λ (m : Module). HasNoColon m.name) modules
  pub names : (i k : ℕ) (a b : Module) → i < k → slice_get modules i ≡ Some a
      → slice_get modules k ≡ Some b → a.name ≢ b.name
  pub module_files : (i k : ℕ) (a b : Module) → i < k → slice_get modules i ≡ Some a
      → slice_get modules k ≡ Some b → a.module_file ≢ b.module_file

-- these are the rows of nodes of the modules, the numbers of those at the top, and where the paths
-- of leafrefs among them lead
pub record AreNumbered (modules : List Module) (nodes : List Row) (top : List NodeId)
    (links : List (Option Link)) : Type 0 where
  pub trees : Forest
  pub formed : AreFormed modules [] trees
  pub rows : nodes ≡ rows_from 0 trees
  pub top_is : top ≡ numbers_from 0 trees
  pub linked : AreLinked (reference_in links) trees

-- what contracts see of a schema that has these
abbrev pub made_of : List Row → List NodeId → (limit : ℕ) → List Module → List Note
    → List (Option Link) → Rows
made_of nodes top limit modules notes links =
    record {
      nodes = nodes;
      top = top;
      limit = limit;
      modules = modules;
      augments = notes;
      links = links;
    }
