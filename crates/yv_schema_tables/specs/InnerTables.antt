-- Only private clauses cite this: the directories by which a child is found.
use Rattle.std.specs.Prelude.{◌≡◌, ◌≤◌, ℕ, ◌==◌, ◌&&◌, Bool, true, false, List, [], ◌∷◌, ◌++◌, map, length, Option, Some, None, if◌then◌else◌}
use Rattle.std.specs.List.{slice_get, slice_index_or}
use Rattle.std.specs.Str.{bytes_eq}
use Rattle.std.specs.BTreeMap.{BTreeMap}
use Rattle.std.specs.declared.rc.RcStr.{RcStr}
use Rattle.std.specs.declared.alloc.Global.{Global}
use Rattle.indexmap.specs.IndexMap.{get}
use Rattle.yv_text_statement.specs.declared.refusal.Refusal.{Refusal}
use Rattle.yv_nodes.specs.declared.node.NodeId.{NodeId}
use Rattle.yv_nodes.specs.Member.{is_module_file}
use Rattle.yv_nodes.specs.Rows.{Module, Row, Rows, blank_row, is_root, rank, root, whole}
use Rattle.yv_nodes.specs.Tree.{Label, count}
use Rattle.yv_node_keys.specs.declared.targets.LeafTargets.{LeafTargets}
use Rattle.yv_node_keys.specs.LeafTargets.{AreLeafTargets}
use Rattle.yv_schema_tables.specs.declared.directory.Directory.{Directory}
use Rattle.yv_schema_tables.specs.declared.directory.Directory.TheVariants.{Few, Many}
use Rattle.yv_schema_tables.specs.declared.directory.HeldNode.{HeldNode}
use Rattle.yv_schema_tables.specs.declared.member.Member.{Member}
use Rattle.yv_schema_tables.specs.declared.names.NameTable.{NameTable}
use Rattle.yv_schema_tables.specs.DuplicateNodes.{IsRepeated, RepeatsBy}
use Rattle.yv_schema_tables.specs.InnerNames.{HaveNumbers, get_by_name, names_of, number_in}
use Rattle.yv_schema_tables.specs.InnerSits.{members_of}
use Rattle.yv_schema_tables.specs.NodeNumbers.{HasNoColon}
use Rattle.yv_schema_tables.specs.Sound.{IsSound, inside, member_named}

-- A front is the number of the file of the module whose name comes before a node's name in its
-- member, or none where the member is the name alone.

abbrev pub is_front : Option ℕ → Option ℕ → Bool
is_front None None = true
is_front None (Some module_file) = false
is_front (Some module_file) None = false
is_front (Some module_file) (Some other) = module_file == other

-- the front of a node, where this module is around
abbrev pub front_of : (around : Option ℕ) → Label → Option ℕ
front_of around l = if is_module_file l.module_file around then None else Some l.module_file

-- a node has this front and this name
abbrev pub is_called : (around front : Option ℕ) → List ℕ → Label → Bool
is_called around front name l = is_front (front_of around l) front && bytes_eq l.defined.name name

-- the first of these nodes that has this front and this name
abbrev pub member_called : List Row → (around : Option ℕ) → List NodeId → (front : Option ℕ)
    → List ℕ → Option NodeId
member_called rows around [] front name = None
member_called rows around (c ∷ cs) front name =
    if is_called around front name (slice_index_or rows c.0 blank_row).label then Some c
    else member_called rows around cs front name

-- two members have one name
abbrev pub same_member : Member → Member → Bool
same_member a b = is_front a.module_file b.module_file && (a.name == b.name)

-- the first of these nodes that has a member
abbrev pub first_held : List HeldNode → Member → Option NodeId
first_held [] member = None
first_held (held ∷ others) member =
    if same_member held.member member then Some held.node else first_held others member

-- what a directory has at a member
abbrev pub held_at : Directory → Member → Option NodeId
held_at (Few nodes) member = first_held nodes.items member
held_at (Many table) member = get same_member table.value member

-- what is found at a name with this number, where it has one, after a front
abbrev pub at_number : (Member → Option NodeId) → (front : Option ℕ) → Option ℕ → Option NodeId
at_number found front None = None
at_number found front (Some number) = found (record { module_file = front; name = number })

-- what a directory of some of these nodes has at a name after a front
abbrev pub directory_entry : List Row → Directory → (front : Option ℕ) → List ℕ → Option NodeId
directory_entry rows directory front name =
    at_number (held_at directory) front (number_in (names_of rows) name)

-- the directory has the first of these nodes at each front and name
pub record IsDirectory (rows : List Row) (around : Option ℕ) (cs : List NodeId)
    (directory : Directory) : Type 0 where
  pub gives : (front : Option ℕ) (name : List ℕ)
      → directory_entry rows directory front name ≡ member_called rows around cs front name

-- the directory of a node has what the members of its object name: its own module is around
abbrev pub IsOfRow : List Row → Row → Directory → Type 0
IsOfRow rows row directory =
    IsDirectory rows (Some row.label.module_file) (members_of rows row) directory

-- a directory for each node
pub record AreDirectories (rows : List Row) (directories : List Directory) : Type 0 where
  pub each : length directories ≡ length rows
  pub gives : (i : ℕ) (directory : Directory) → slice_get directories i ≡ Some directory
      → IsOfRow rows (slice_index_or rows i blank_row) directory

-- what is at a place where this was, once a child was added there, or elsewhere: of several the
-- first stays
abbrev pub kept_first : (is_there : Bool) → NodeId → Option NodeId → Option NodeId
kept_first is_there child (Some first) = Some first
kept_first is_there child None = if is_there then Some child else None

-- the nodes of these numbers without those below them
abbrev pub labels_at : List Row → List NodeId → List Label
labels_at rows cs = map (λ (c : NodeId). (slice_index_or rows c.0 blank_row).label) cs

-- a node before number k has this one's module, by its file, and name
abbrev pub IsNamesake : List Label → ℕ → Label → Type 0
IsNamesake ls k l = IsRepeated (λ (x : Label). x.module_file) ls k l

-- two of these nodes have one module, by its file, and one name: the later is refused
abbrev pub Namesakes : List Label → Refusal → Type 0
Namesakes ls f = RepeatsBy (λ (l : Label). l.module_file) ls f

-- the number of the file of the first of these modules that has this name
abbrev pub module_file_named : List Module → List ℕ → Option ℕ
module_file_named [] name = None
module_file_named (m ∷ ms) name =
    if bytes_eq m.name name then Some m.module_file else module_file_named ms name

abbrev pub ModuleTable : Type 0
ModuleTable = BTreeMap (RcStr Global) ℕ

-- the directory has what the members of an object name: without a colon, and with a module before
-- the first colon
pub record IsAnswering (s : Rows) (p : NodeId) (directory : Directory) : Type 0 where
  pub bare : (member : List ℕ) → HasNoColon member
      → directory_entry s.nodes directory None member ≡ member_named s (inside s p) member
  pub fronted : (owner name : List ℕ) (module_file : ℕ)
      → module_file_named s.modules owner ≡ Some module_file
      → directory_entry s.nodes directory (Some module_file) name
      ≡ member_named s (inside s p) (owner ++ 58 ∷ name)

-- the directories of the root and of the nodes have what members name, modules and the numbers of
-- nodes' names are known by name, and a member with the name of no module names nothing
pub record IsKept (module_files : ModuleTable) (names : NameTable) (at_top : Directory)
    (directories : List Directory) (s : Rows) : Type 0 where
  pub sound : IsSound s
  pub counted : length s.nodes ≡ count (whole s)
  pub each : length directories ≡ length s.nodes
  pub module_files_are : (name : List ℕ)
      → get_by_name module_files name ≡ module_file_named s.modules name
  pub names_are : HaveNumbers (names_of s.nodes) names
  pub top : IsAnswering s root at_top
  pub below : (p : NodeId) (directory : Directory) → is_root p ≡ false
      → slice_get directories p.0 ≡ Some directory → IsAnswering s p directory
  pub unknown : (p : NodeId) (owner name : List ℕ) → rank p ≤ length s.nodes → HasNoColon owner
      → module_file_named s.modules owner ≡ None
      → member_named s (inside s p) (owner ++ 58 ∷ name) ≡ None

-- besides, what lists and choices name is kept
pub record IsHeld (module_files : ModuleTable) (names : NameTable) (at_top : Directory)
    (directories : List Directory) (leafs : LeafTargets) (s : Rows)
    : Type 0 where
  pub kept : IsKept module_files names at_top directories s
  pub named_leafs : AreLeafTargets s.nodes leafs
