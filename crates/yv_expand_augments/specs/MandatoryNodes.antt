-- Augments of modules that add mandatory configuration nodes to nodes of other modules (RFC 7950,
-- sections 3 and 7.17).
use Rattle.std.specs.Prelude.{◌≡◌, ◌≢◌, ℕ, ◌&&◌, ◌||◌, ◌⊎◌, not, Bool, true, false, List, length, Option, Some, None, slice_get, slice_index_or}
use Rattle.std.specs.Option.{is_some, unwrap_or}
use Rattle.yv_text_statement.specs.declared.refusal.Code.TheVariants as code
use Rattle.yv_text_statement.specs.declared.refusal.Refusal.{Refusal}
use Rattle.yv_link_scopes.specs.Rows.{Row}
use Rattle.yv_expand_rounds.specs.Tree.{Tree, none, item}
use Rattle.yv_expand_augments.specs.Refusals.{RefusesIf}
use Rattle.yv_base_graph.specs.Marks.{is_marked}
use Rattle.yv_expand_uses.specs.Spots.{source_in, spot_at}
use Rattle.yv_expand_augments.specs.declared.mandatory_nodes.RefinedMarks.{RefinedMarks}
use Rattle.yv_expand_uses.specs.declared.spot.Spot.{Spot}
use Rattle.yv_expand_statements.specs.Kinds.{is_container, is_operation_or_notification}

-- the augment of a module in whose block an item is, if it is in one
abbrev pub source_of : (items : ℕ) → (augments : List ℕ) → Option Spot → Option ℕ
source_of items augments None = None
source_of items augments (Some s) = source_in items augments s.group

-- an augment of a module gives an item
abbrev pub is_given : List Spot → (augments : List ℕ) → (number : ℕ) → Bool
is_given spots augments i = is_some (source_of (length spots) augments (slice_get spots i))

-- what is known of numbered items, as refines have left them: whether one is mandatory by itself,
-- whether it has a presence, and what its `config` says
pub record MarksView : Type 0 where
  pub mandatory : ℕ → Bool
  pub presence : ℕ → Bool
  pub config : ℕ → Option Bool

-- what contracts see of the marks of items
abbrev pub told_in : RefinedMarks → MarksView
told_in m = record {
  mandatory = is_marked m.mandatory.now;
  presence = is_marked m.presence.now;
  config = λ i. slice_index_or m.config.now i None;
}

-- an item is a container without presence
abbrev pub is_container_without : (presence : Bool) → Option Spot → Bool
is_container_without presence None = false
is_container_without presence (Some s) = is_container s.label.kind && not presence

-- an item is mandatory by itself, or as a container without presence that has a mandatory node
abbrev pub is_mandatory : List Spot → MarksView → (number : ℕ) → (has_mandatory : Bool) → Bool
is_mandatory spots told i has =
    told.mandatory i || (is_container_without (told.presence i) (slice_get spots i) && has)

-- one of these items is mandatory, as things were before any augment of a module was applied: what
-- these give is passed over
abbrev pub has_mandatory : List Spot → (augments : List ℕ) → MarksView → Tree → Bool
has_mandatory spots augments told none = false
has_mandatory spots augments told (item i below behind) =
    (not (is_given spots augments i)
    && is_mandatory spots told i (has_mandatory spots augments told below))
    || has_mandatory spots augments told behind

-- what is around an item: whether it is configuration without a `config` of its own, and whether it
-- is in an rpc, action or notification (section 7.21.1)
pub record Around : Type 0 where
  pub is_config : Bool
  pub in_operation : Bool

-- at the top
abbrev pub nothing_around : Around
nothing_around = record { is_config = true; in_operation = false }

-- an item is an operation or a notification
abbrev pub is_some_operation : Option Spot → Bool
is_some_operation None = false
is_some_operation (Some s) = is_operation_or_notification s.label.kind

-- what is around the items below an item that is so
abbrev pub inside : List Spot → MarksView → (number : ℕ) → Around → Around
inside spots told i a = record {
  is_config = unwrap_or (told.config i) a.is_config;
  in_operation = is_some_operation (slice_get spots i) || a.in_operation;
}

-- an item is configuration, where what is below it is so
abbrev pub is_configuration : (inside : Around) → Bool
is_configuration a = a.is_config && not a.in_operation

-- an item in the block of an augment of a module is below a node of another module, and is
-- required: the augment is refused
abbrev pub IsMandatoryAdded : List Row → List Spot → (augments : List ℕ) → (parent : Option ℕ)
    → (number : ℕ) → (required : Bool)
    → Refusal → Type 0
IsMandatoryAdded rows spots augments parent i required f =
    (s : Spot) × (node : Spot) × (augment : ℕ) × (slice_get spots i ≡ Some s)
    × (spot_at spots parent ≡ Some node)
    × (source_of (length spots) augments (Some s) ≡ Some augment)
    × RefusesIf rows code.BadAugment
    ((s.module_file ≢ node.module_file) × (required ≡ true)) augment f

-- an augment of a module adds a mandatory configuration node to a node of another module, among the
-- items of this tree below a parent, where this is around them
abbrev pub ImposesMandatory : List Row → List Spot → (augments : List ℕ) → MarksView
    → (parent : Option ℕ) → Around → Tree → Refusal → Type 0
ImposesMandatory rows spots augments told parent a none f = ⊥
ImposesMandatory rows spots augments told parent a (item i below behind) f =
    IsMandatoryAdded rows spots augments parent i
    (is_mandatory spots told i (has_mandatory spots augments told below)
    && is_configuration (inside spots told i a)) f
    ⊎ (ImposesMandatory rows spots augments told (Some i) (inside spots told i a) below f
    ⊎ ImposesMandatory rows spots augments told parent a behind f)
