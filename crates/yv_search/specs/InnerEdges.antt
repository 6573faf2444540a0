-- Only private clauses cite this: what modules require and borrow, as edges between numbered
-- modules in their roles.
use Rattle.std.specs.Prelude.{ℕ, ◌&&◌, ◌||◌, Bool, List, [], ◌∷◌, ◌++◌, take, Option, Some, None, if◌then◌else◌, codes}
use Rattle.std.specs.List.{flat_map}
use Rattle.std.specs.Option.{option_and_then}
use Rattle.yv_text_statement.specs.Tree.{Tree, trees}
use Rattle.yv_link_scopes.specs.Names.{prefix_of}
use Rattle.yv_search.specs.Wants.{has_word, module_of}
use Rattle.yv_search.specs.Prefixes.{parts_of}
use Rattle.yv_search.specs.Statements.{Place, places, is_place_of}
use Rattle.yv_search.specs.InnerModules.{module_at}
use Rattle.yv_search.specs.InnerPrefixes.{Refs, refs_of}
use Rattle.yv_search.specs.declared.table.ModuleRef.{ModuleRef}
use Rattle.yv_search.specs.declared.statements.Place.{Place as PlaceValue}
use Rattle.yv_search.specs.declared.edges.Node.{Node}
use Rattle.yv_search.specs.declared.edges.Node.TheVariants as node
use Rattle.yv_search.specs.declared.edges.Edge.{Edge}
use Rattle.yv_search.specs.declared.edges.Way.{Way}
use Rattle.yv_search.specs.declared.edges.Way.TheVariants as ways

-- a statement of the code
abbrev pub place : PlaceValue → Place
place p = record { head = p.statement.now.head; lent = p.lent }

-- the edge from a node to the requirement of a module, if that may be required
abbrev pub need_edges : Node → ModuleRef → List Edge
need_edges from to =
    if to.is_there && to.is_free then record { from = from; to = node.Required to.number } ∷ []
    else []

-- the edge from a node to a module as a lender
abbrev pub lender_edges : Node → ModuleRef → List Edge
lender_edges from to = record { from = from; to = node.Lender to.number } ∷ []

-- the edges by which a module of this number leads to another, or borrows from it
abbrev pub way_edges : ℕ → Way → ModuleRef → List Edge
way_edges from ways.Leads to = need_edges (node.Required from) to
way_edges from ways.LeadsLent to = need_edges (node.Required from) to ++ need_edges (node.Lender from) to
way_edges from ways.Borrows to = lender_edges (node.Required from) to ++ lender_edges (node.Lender from) to

-- those to a module, if there is one
abbrev pub edges_to : ℕ → Way → Option ModuleRef → List Edge
edges_to from way None = []
edges_to from way (Some to) = way_edges from way to

-- those by a part of an argument
abbrev pub part_edges : ℕ → Refs → Way → List ℕ → List Edge
part_edges from meanings way part = edges_to from way (option_and_then meanings (prefix_of part))

-- those by an argument
abbrev pub name_edges : ℕ → Refs → Way → Option (List ℕ) → List Edge
name_edges from meanings way None = []
name_edges from meanings way (Some argument) = flat_map (part_edges from meanings way) (parts_of argument)

-- those by a statement at the top
abbrev pub augment_edges : ℕ → Refs → Tree → List Edge
augment_edges from meanings s =
    if has_word (codes "augment") s then name_edges from meanings ways.Leads s.head.argument else []

-- in which way a statement makes its module need others
abbrev pub way_of : Place → Option Way
way_of p =
    if is_place_of (codes "path") p then Some (if p.lent then ways.LeadsLent else ways.Leads)
    else if is_place_of (codes "type") p || is_place_of (codes "uses") p then Some ways.Borrows
    else None

-- the edges by a statement, if it has a way
abbrev pub edges_by : ℕ → Refs → Option Way → Option (List ℕ) → List Edge
edges_by from meanings None argument = []
edges_by from meanings (Some way) argument = name_edges from meanings way argument

-- those by a statement at any depth
abbrev pub place_edges : ℕ → Refs → Place → List Edge
place_edges from meanings p = edges_by from meanings (way_of p) p.head.argument

-- those by a file, from its module
abbrev pub edges_from : ℕ → Refs → Tree → List Edge
edges_from from meanings root =
    flat_map (augment_edges from meanings) (trees root.children)
    ++ flat_map (place_edges from meanings) (places root)

abbrev pub module_edges : Refs → Tree → Option ModuleRef → List Edge
module_edges refs root None = []
module_edges refs root (Some m) = edges_from m.number (refs_of refs root) root

abbrev pub file_edges : Refs → Option Tree → List Edge
file_edges refs None = []
file_edges refs (Some root) = module_edges refs root (option_and_then refs (module_of root))

-- from the start to the module of a named file
abbrev pub edges_to_named : Option ModuleRef → List Edge
edges_to_named None = []
edges_to_named (Some m) =
    if m.is_free then record { from = node.Start; to = node.Required m.number } ∷ [] else []

abbrev pub start_edges : Refs → Option Tree → List Edge
start_edges refs root = edges_to_named (option_and_then refs (module_at root))

-- the edges of all files
abbrev pub all_edges : Refs → List (Option Tree) → ℕ → List Edge
all_edges refs roots named =
    flat_map (start_edges refs) (take named roots) ++ flat_map (file_edges refs) roots
