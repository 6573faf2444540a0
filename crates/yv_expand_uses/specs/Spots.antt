-- Where items come before any augment is applied, and what is known of them (RFC 7950, sections
-- 7.13 and 7.17).
use Rattle.std.specs.Prelude.{ℕ, ◌+◌, ◌-◌, nat_lt, List, [], ◌∷◌, ◌++◌, length, map, if◌then◌else◌, Option, Some, None, slice_get}
use Rattle.std.specs.Option.{is_some}
use Rattle.yv_link_scopes.specs.Files.{Briefs, module_file_at}
use Rattle.yv_link_scopes.specs.Rows.{Row}
use Rattle.yv_expand_statements.specs.Origin.{number_of}
use Rattle.yv_expand.specs.Tree.{Item}
use Rattle.yv_expand_rounds.specs.declared.label.Label.{Label}
use Rattle.yv_expand_statements.specs.Kinds.{is_uses}
use Rattle.yv_expand_uses.specs.Kinds.{label_of}
use Rattle.yv_expand_uses.specs.AugmentOrder.{augments_giving, is_giving, ordinal, place_of}
use Rattle.yv_expand_uses.specs.declared.spot.Spot.{Spot}

-- the statements of files, the augments of modules by file and statement, and how many items there
-- are
pub record Whole : Type 0 where
  pub files : Briefs
  pub rows : List Row
  pub augments : List ℕ
  pub items : ℕ

-- what an expansion is of: files with their statements, augments of modules, and so many items
abbrev pub whole : Briefs → List Row → List ℕ → ℕ → Whole
whole files rows augments items =
    record { files = files; rows = rows; augments = augments; items = items }

-- where an item is that may be there
abbrev pub spot_at : List Spot → Option ℕ → Option Spot
spot_at spots None = None
spot_at spots (Some p) = slice_get spots p

-- the file of the module in which a statement is written
abbrev pub own_module_file : Briefs → Option Row → ℕ
own_module_file files None = 0
own_module_file files (Some r) = module_file_at files r.file

-- the file of the module to which an item belongs: that of the item above it, and of one at the top
-- that of its statement
abbrev pub module_file_below : Briefs → Option Row → Option Spot → ℕ
module_file_below files r None = own_module_file files r
module_file_below files r (Some s) = s.module_file

-- the group of what the numbered copy of an augment gives, until it is applied: after those of
-- items
abbrev pub copy_group : Whole → ℕ → ℕ
copy_group w number = w.items + 1 + number

-- the group of an item at the top: the top itself, or that of the augment that gives it
abbrev pub top_group_of : Whole → Option ℕ → ℕ
top_group_of w None = 0
top_group_of w (Some place) = copy_group w place

-- the group of an item at the top: what an augment of a module gives is nowhere yet
abbrev pub top_group : Whole → Option Row → ℕ
top_group w None = 0
top_group w (Some r) = top_group_of w (place_of w.augments r.scope)

-- the group of an item in a uses: what its augments give is nowhere yet, and what it copies is
-- where the uses does
abbrev pub used_group : Whole → Spot → Option Row → ℕ
used_group w s None = s.group
used_group w s (Some r) = if is_giving w.rows s.statement r.scope
    then copy_group w (s.first + ordinal w.rows r.scope) else s.group

-- the group in which an item is, by the item above it
abbrev pub group_below : Whole → Option Row → Option ℕ → Option Spot → ℕ
group_below w r None s = top_group w r
group_below w r (Some p) None = 0
group_below w r (Some p) (Some s) = if is_uses s.label.kind then used_group w s r else p + 1

-- The augment of a module in whose block the items of a group stand, if it is that of one: what
-- these augments give comes after the groups of so many items, one group for each of the augments
-- in order. A uses there is looked through, since what it copies is in its group.
abbrev pub source_in : (items : ℕ) → (augments : List ℕ) → (group : ℕ) → Option ℕ
source_in items augments group =
    if nat_lt items group then slice_get augments (group - items - 1) else None

-- the next item, where these come before it and so many copies of augments
abbrev pub spot_of : Whole → List Spot → (copies : ℕ) → Item → Spot
spot_of w spots copies x =
    let r : Option Row = slice_get w.rows (number_of x.origin) in
    let module_file : ℕ = module_file_below w.files r (spot_at spots x.parent) in
    let group : ℕ = group_below w r x.parent (spot_at spots x.parent) in
    record {
      statement = number_of x.origin;
      module_file = module_file;
      label = label_of w.rows module_file x.origin (is_some (source_in w.items w.augments group));
      group = group;
      first = copies;
    }

-- how many copies of augments an item adds: a uses those of its block that give something
abbrev pub copies_of : List Row → Spot → ℕ
copies_of rows s = if is_uses s.label.kind then length (augments_giving rows s.statement) else 0

-- items so far, and how many copies of augments there are: first those of modules, and then those
-- of each uses
pub record LayoutView : Type 0 where
  pub spots : List Spot
  pub copies : ℕ

-- a layout with one more item
abbrev pub one_more : Whole → Item → LayoutView → LayoutView
one_more w x l = record {
  spots = l.spots ++ spot_of w l.spots l.copies x ∷ [];
  copies = l.copies + copies_of w.rows (spot_of w l.spots l.copies x);
}

-- a layout with these items after those that it has
abbrev pub laid_from : Whole → List Item → LayoutView → LayoutView
laid_from w [] l = l
laid_from w (x ∷ xs) l = laid_from w xs (one_more w x l)

-- all items, one after the other
unfoldable pub layout_of : Whole → List Item → LayoutView
layout_of w items = laid_from w items (record { spots = []; copies = length w.augments })

-- what is known of each item
abbrev pub labels_of : List Spot → List Label
labels_of spots = map (λ s. s.label) spots
