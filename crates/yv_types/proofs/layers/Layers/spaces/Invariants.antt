use Rattle.std.proofs.Common.{◌≡◌, ℕ, List, Some, take}
use Rattle.std.specs.List.{Contains}
use Rattle.yv_text_statement.specs.Selection.{ModuleChoice}
use Rattle.yv_link_scopes.specs.Files.{Files}
use Rattle.yv_link.specs.LinkedFiles.{AreLinked, truth_in}
use Rattle.yv_type_identities.specs.Identities.{AreIdentities}
use Rattle.yv_values.specs.Types.{Plain}
use Rattle.yv_types.specs.Spaces.{Space}
use Rattle.yv_types.specs.Types.{AreLayers}
use Rattle.yv_types.specs.InnerTables.{AreBelow, AreKnown, AreNumbered, plains_at}
use Rattle.yv_types.proofs.layers.Layers.spaces.Given as goal

abbrev pub invariant-loop-number : goal.invariant-loop-number
invariant-loop-number l = record {
  kept : AreIdentities l.linked l.identities;
  counted : l.list ≡ l.number-index;
  numbered : AreNumbered l.spaces;
  below : AreBelow l.spaces l.list;
  told : (files : Files) (choice : ModuleChoice) → AreLinked files choice l.linked → AreLayers files (truth_in l.linked) l.self
      → AreKnown files (truth_in l.linked) choice (Contains (take l.number-index l.number-items)) l.spaces;
  sound : (files : Files) (choice : ModuleChoice) → AreLinked files choice l.linked → AreLayers files (truth_in l.linked) l.self
      → (k : ℕ) (ps : List Plain) → plains_at l.spaces k ≡ Some ps → Space files (truth_in l.linked) choice k ps;
}
