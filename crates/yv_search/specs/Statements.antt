-- The statements of a file by which its module needs others.
use Rattle.std.specs.Prelude.{◌≡◌, ℕ, ◌||◌, Bool, true, false, List, [], ◌∷◌, ◌++◌, if◌then◌else◌, codes}
use Rattle.std.specs.List.{Contains}
use Rattle.std.specs.Str.{bytes_eq}
use Rattle.yv_text_statement.specs.Tree.{Head, Tree, Forest, End, Then, trees}
use Rattle.yv_link_scopes.specs.Rows.{is_extended}
use Rattle.yv_search.specs.Wants.{has_word}
use Rattle.yv_search.specs.Prefixes.{Names}

-- a keyword of a definition that other modules use
abbrev pub is_lendable : List ℕ → Bool
is_lendable word = bytes_eq word (codes "typedef") || bytes_eq word (codes "grouping")

-- a statement, and whether it is inside a typedef or a grouping
pub record Place : Type 0 where
  pub head : Head
  pub lent : Bool

-- the statements at any depth of a block, but for those of extensions and what is inside these; it
-- is known whether the block is inside a typedef or a grouping
abbrev pub places_in : Bool → Forest → List Place
places_in lent End = []
places_in lent (Then h c o) =
    (if is_extended h.keyword then []
    else record { head = h; lent = lent } ∷ places_in (lent || is_lendable h.keyword) c)
    ++ places_in lent o

-- the statements below a root
abbrev pub places : Tree → List Place
places root = places_in false root.children

-- a statement has this keyword
abbrev pub is_place_of : List ℕ → Place → Bool
is_place_of word p = bytes_eq p.head.keyword word

-- a file leads to a module: it names it in an `augment` at the top, or in a `path`
pub data Leads (root : Tree) (m : List ℕ) : Type 0 where
  by_augment : (s : Tree) → Contains (trees root.children) s → has_word (codes "augment") s ≡ true
      → Names root s.head m → Leads root m
  by_path : (p : Place) → Contains (places root) p → is_place_of (codes "path") p ≡ true
      → Names root p.head m → Leads root m

-- what a file lends leads to a module: it names it in a `path` inside a typedef or a grouping
pub record LeadsLent (root : Tree) (m : List ℕ) : Type 0 where
  pub place : Place
  pub among : Contains (places root) place
  pub is_path : is_place_of (codes "path") place ≡ true
  pub is_lent : place.lent ≡ true
  pub names : Names root place.head m

-- a file borrows from a module: it names it in a `type` or `uses`
pub record Borrows (root : Tree) (m : List ℕ) : Type 0 where
  pub place : Place
  pub among : Contains (places root) place
  pub is_use : (is_place_of (codes "type") place || is_place_of (codes "uses") place) ≡ true
  pub names : Names root place.head m
