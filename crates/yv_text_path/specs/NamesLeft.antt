-- What the program's iterator over names shows.
use Rattle.std.specs.Prelude.{ℕ, List}
use Rattle.yv_text_path.specs.InnerStates.{names_among}
use Rattle.yv_text_path.specs.ShownPieces.{pieces_left}
use Rattle.yv_text_path.specs.declared.names.PredicateNames.{PredicateNames}

-- the names that are still to come
abbrev pub names_left : PredicateNames → List (List ℕ)
names_left it = names_among it.state (pieces_left it.pieces)
