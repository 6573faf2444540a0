-- The statements of a file, each with its place.
use Rattle.std.specs.Prelude.{Bool, true, false, List, [], ◌∷◌, ◌++◌, if◌then◌else◌}
use Rattle.yv_text_statement.specs.Tree.{Tree, Forest, Then, End}
use Rattle.yv_link_scopes.specs.Rows.{is_extended}

-- a statement, the one in whose block it is, whether that is the root, and those that come before
-- it in that block
pub record Place : Type 0 where
  pub statement : Tree
  pub parent : Tree
  pub is_top : Bool
  pub before : List Tree

-- the place of a statement with this head and this block
abbrev pub place_at : Tree → Bool → List Tree → Tree → Place
place_at parent is_top before t =
    record { statement = t; parent = parent; is_top = is_top; before = before }

-- The places in a block, which come after others there: each before those in its own block. An
-- extension's statement has none, and nothing inside it has (RFC 7950, section 6.3.1).
abbrev pub places_in : (parent : Tree) → Bool → (before : List Tree) → Forest → List Place
places_in parent is_top before End = []
places_in parent is_top before (Then h c o) =
    let t : Tree = record { head = h; children = c } in
    let own : List Place =
    if is_extended h.keyword then []
    else place_at parent is_top before t ∷ places_in t false [] c
    in
    own ++ places_in parent is_top (before ++ t ∷ []) o

-- the places below the root of a file
abbrev pub places_of : Tree → List Place
places_of root = places_in root true [] root.children
