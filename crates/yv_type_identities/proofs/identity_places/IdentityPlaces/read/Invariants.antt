use Rattle.yv_text_statement.specs.Selection.{ModuleChoice}
use Rattle.yv_link_scopes.specs.Files.{Files}
use Rattle.yv_link_scopes.specs.RowList.{rows_of}
use Rattle.yv_link.specs.LinkedFiles.{AreLinked}
use Rattle.yv_type_identities.proofs.Numbering.{PlacesFirst}
use Rattle.yv_type_identities.proofs.identity_places.IdentityPlaces.read.Given as goal

abbrev pub invariant-loop-number : goal.invariant-loop-number
invariant-loop-number l = (files : Files) (choice : ModuleChoice) → AreLinked files choice l.linked → PlacesFirst (rows_of files) l.number l.places
