-- The numbered items of a final tree show the nodes to which files expand.
use Rattle.std.proofs.Common.{◌≡◌, ℕ, Bool, List, length, map, sym, subst, Option, Some, None}
use Rattle.std.specs.List.{slice_get}
use Rattle.yv_text_statement.specs.Selection.{ModuleChoice}
use Rattle.yv_link_scopes.specs.Files.{Files, brief_of}
use Rattle.yv_link_scopes.specs.RowList.{rows_of}
use Rattle.yv_expand_statements.specs.FileOrder.{marks_of}
use Rattle.yv_expand_statements.specs.Truth.{Truth}
use Rattle.yv_expand.specs.Tree.{Item, Node, Nodes, item_list}
use Rattle.yv_expand_uses.specs.Spots.{whole}
use Rattle.yv_expand_uses.specs.declared.spot.Spot.{Spot}
use Rattle.yv_expand_tree.specs.Final.{Final, IsFinal, spots_of, whole_of}
use Rattle.yv_expand_tree.specs.Remains.{AreLeft}
use Rattle.yv_expand_definition.specs.Nodes.{Forest}
use Rattle.yv_expand_definition.specs.Remains.{AreNodes}
use Rattle.yv_expand_laws.specs.Files.{ShowFiles, expansion_of, giver_of}
use Rattle.yv_expand_laws.specs.Shows.{Items}
use Rattle.yv_expand_laws.specs.StatementItems.{ShowNodes}
use Rattle.yv_schema.specs.InnerBasis.{IsNumberedBasis, NumberedBasis}
use Rattle.yv_schema.proofs.ShownBasis.{AreSame, same_item}

-- what is left are numbered items that are there
abbrev pub LeftAreItems : Type 0
LeftAreItems =
    (choice : ModuleChoice) (files : Files) (truth : Truth) (f : Final) (nodes : Nodes) (place : ℕ) (x : Node)
    → IsFinal choice files f → AreLeft truth files f nodes → slice_get (item_list None 0 nodes) place ≡ Some x
    → (s : Spot) × (item : Item) × (slice_get (spots_of files f) x.origin ≡ Some s) × (slice_get f.items x.origin ≡ Some item)

-- files have one list of nodes
abbrev pub OneNodes : Type 0
OneNodes = (choice : ModuleChoice) (files : Files) (first second : Forest) → AreNodes choice files first → AreNodes choice files second → first ≡ second

-- what the numbered items of the nodes of a basis show
pub shown_same : LeftAreItems → (choice : ModuleChoice) (b : NumberedBasis) (its : Items) → IsNumberedBasis choice b → ShowFiles b.files (marks_of choice b.files) b.final.items its
    → AreSame its b
shown_same are_items choice b its is tells k x at =
    let marks : List Bool = marks_of choice b.files in
    let giver_at : ℕ → Option ℕ = giver_of (expansion_of b.files marks b.final.items) b.final.items in
    let told : ShowNodes b.files (whole_of b.files b.final) b.final.items giver_at its =
    subst (λ a. ShowNodes b.files (whole (map brief_of b.files) (rows_of b.files) a (length b.final.items)) b.final.items giver_at its) (sym is.final.augments) tells in
    let r = are_items choice b.files b.truth b.final b.nodes k x is.final is.nodes at in
    same_item b.files b.final its giver_at told x.origin r.0 r.1 r.2 r.3
