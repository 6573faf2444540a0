-- Only private clauses cite this: what is kept of the statements before one.
use Rattle.std.specs.Prelude.{◌≡◌, ℕ, nat_lt, List, Option, Some, if◌then◌else◌}
use Rattle.std.specs.List.{list_any}
use Rattle.std.specs.Option.{option_map}
use Rattle.yv_text_statement.specs.Tree.{Tree}
use Rattle.yv_text_statement.specs.declared.keyword.Keyword.TheVariants as word
use Rattle.yv_link_scopes.specs.Files.{tree_name}
use Rattle.yv_lint.specs.Statements.{has_keyword, has_one}
use Rattle.yv_lint.specs.Places as spec
use Rattle.yv_lint.specs.Groups.{is_of_later}
use Rattle.yv_lint.specs.Dates.{last_revision}
use Rattle.yv_lint.specs.declared.place.Earlier.{Earlier}
use Rattle.yv_lint.specs.declared.place.Place.{Place}

-- these statements are the ones of which this is known
pub record IsEarlier (before : List Tree) (e : Earlier) : Type 0 where
  pub group : (n : ℕ) → list_any (is_of_later n) before ≡ nat_lt n e.group
  pub date : option_map tree_name (last_revision before) ≡ option_map (λ d. d.now) e.date
  pub base : has_one word.Base before ≡ e.has_base
  pub default : has_one word.Default before ≡ e.has_default

-- the date of the last revision, after one more statement
abbrev pub date_after : Option (List ℕ) → Tree → Option (List ℕ)
date_after date t = if has_keyword word.Revision t then Some (tree_name t) else date

-- the place that a value of the code is, with the statements before it
abbrev pub place_of : List Tree → Place → spec.Place
place_of before p = record {
  statement = p.statement.now;
  parent = p.parent.now;
  is_top = p.is_top;
  before = before;
}
