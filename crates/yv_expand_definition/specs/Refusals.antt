-- What is wrong with the expansion of files (RFC 7950, sections 7.13.2 and 7.17).
use Rattle.std.specs.Prelude.{◌≡◌, ◌≢◌, ℕ, ◌⊎◌, ◌&&◌, ◌||◌, not, Bool, true, false, List, [], ◌∷◌, ◌++◌, length, Some, is_some, slice_get}
use Rattle.std.specs.List.{Contains, list_any}
use Rattle.std.specs.Option.{unwrap_or}
use Rattle.yv_text_statement.specs.Order.{refusal_at}
use Rattle.yv_text_statement.specs.declared.refusal.Code.TheVariants as code
use Rattle.yv_text_statement.specs.declared.refusal.Refusal.{Refusal}
use Rattle.yv_text_statement.specs.Selection.{ModuleChoice}
use Rattle.yv_link_scopes.specs.Files.{Files}
use Rattle.yv_link_scopes.specs.RowList.{rows_of}
use Rattle.yv_link_scopes.specs.Rows.{Row}
use Rattle.yv_expand_statements.specs.Origin.{number_of}
use Rattle.yv_expand_statements.specs.Kinds.{is_container, is_operation_or_notification}
use Rattle.yv_node_properties.specs.Marks.{is_mandatory, stated_of}
use Rattle.yv_node_properties.specs.Properties.{last_said, statements_of_origin}
use Rattle.yv_node_properties.specs.declared.properties.StatedProperties.{StatedProperties}
use Rattle.yv_expand_statements.specs.FileOrder.{marks_of, order_of}
use Rattle.yv_expand_definition.specs.Nodes.{Node, Forest, none, node}
use Rattle.yv_expand_definition.specs.Expansion.{Expand}
use Rattle.yv_expand_definition.specs.Gives.{Product, Wrong}

-- a node is among these, or below one of them; below it is this, and above it, innermost first,
-- stand these after those that are above all
pub data Stands : (nodes : Forest) → (above_all : List Node) → (g : Node) → (below : Forest)
    → (above : List Node) → Type 0 where
  here : {outer : List Node} {g : Node} {below behind : Forest}
      → Stands (node g below behind) outer g below outer
  under : {outer above : List Node} {f g : Node} {below behind b : Forest}
      → Stands below (f ∷ outer) g b above → Stands (node f below behind) outer g b above
  later : {outer above : List Node} {f g : Node} {below behind b : Forest}
      → Stands behind outer g b above → Stands (node f below behind) outer g b above

-- what is said of a node: by its own statement, or by the last of its refines that says something
abbrev pub said_of : Files → Node → StatedProperties
said_of files g = stated_of (last_said files (statements_of_origin g.origin ++ g.refines))

-- a node is mandatory by itself, or as a container without presence that has a mandatory node
abbrev pub is_needed : Files → Node → (has_mandatory : Bool) → Bool
is_needed files g has =
    is_mandatory (said_of files g) || (is_container g.kind && not (said_of files g).presence && has)

-- one of these nodes is, before any augment of a module was applied
abbrev pub has_mandatory : Files → Forest → Bool
has_mandatory files none = false
has_mandatory files (node g below behind) =
    (not (is_some g.giver) && is_needed files g (has_mandatory files below))
    || has_mandatory files behind

-- the `config` of the innermost of these that has one holds
abbrev pub is_config : Files → List Node → Bool
is_config files [] = true
is_config files (g ∷ gs) = unwrap_or (said_of files g).config (is_config files gs)

-- a node is configuration, where these are above it
abbrev pub is_configuration : Files → Node → (above : List Node) → Bool
is_configuration files g above =
    is_config files (g ∷ above)
    && not (list_any (λ (x : Node). is_operation_or_notification x.kind) (g ∷ above))

-- an augment of a module adds a mandatory configuration node to one of another module
pub record Imposes (files : Files) (nodes : Forest) (augment : ℕ) : Type 0 where
  pub given : Node
  pub below : Forest
  pub target : Node
  pub above : List Node
  pub stands : Stands nodes [] given below (target ∷ above)
  pub giver : given.giver ≡ Some augment
  pub foreign : given.module_file ≢ target.module_file
  pub needed : is_needed files given (has_mandatory files below) ≡ true
  pub config : is_configuration files given (target ∷ above) ≡ true

-- a statement gives a node at depth 129
pub record IsTooDeep (nodes : Forest) (statement : ℕ) : Type 0 where
  pub deep : Node
  pub below : Forest
  pub above : List Node
  pub stands : Stands nodes [] deep below above
  pub depth : length above ≡ 128
  pub gives : number_of deep.origin ≡ statement

-- what is refused of statements whose files expand to this
abbrev pub IsWrong : Files → Product → Wrong → Type 0
IsWrong files m w =
    Contains m.wrong w ⊎ (((w.code ≡ code.BadAugment) × Imposes files m.nodes w.statement)
    ⊎ ((w.code ≡ code.TreeTooDeep) × IsTooDeep m.nodes w.statement))

-- something is refused of the expansion of files, at its statement
pub record BadExpanded (choice : ModuleChoice) (files : Files) (f : Refusal) : Type 0 where
  pub made : Product
  pub expand : Expand files (marks_of choice files) (order_of choice files) made
  pub wrong : Wrong
  pub is_wrong : IsWrong files made wrong
  pub row : Row
  pub at : slice_get (rows_of files) wrong.statement ≡ Some row
  pub is : f ≡ refusal_at wrong.code row.file row.head
