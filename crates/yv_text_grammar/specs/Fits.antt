-- Which statements are as the tables say.
use Rattle.std.specs.Prelude.{◌≡◌, ◌≢◌, ℕ, ◌+◌, ◌≤◌, true, false, List, [], ◌∷◌, Option, None, Some, if◌then◌else◌}
use Rattle.std.specs.List.{slice_get}
use Rattle.yv_text_statement.specs.Tree.{Tree, trees}
use Rattle.yv_text_statement.specs.Keywords.{same}
use Rattle.yv_text_grammar.specs.Table.{occurs_in, rows_of}
use Rattle.yv_text_grammar.specs.Argument.{ArgumentFits}
use Rattle.yv_text_grammar.specs.Conditions.{is_unsupported}
use Rattle.yv_text_grammar.specs.Refusals.{keyword_at, is_module}
use Rattle.yv_text_statement.specs.declared.keyword.Keyword.{Keyword}
use Rattle.yv_text_statement.specs.declared.keyword.Keyword.TheVariants as word
use Rattle.yv_text_grammar.specs.declared.table.Occurs.{Occurs}
use Rattle.yv_text_grammar.specs.declared.xpath.Xpath.{Xpath}
use Rattle.yv_text_grammar.specs.declared.table.Occurs.TheVariants.{One, Optional, Any}

-- the statement itself is right, in the block of a parent
pub record OwnFits (x : Xpath) (parent : Keyword) (s : Tree) : Type 0 where
  pub supported : is_unsupported x (keyword_at s) s.head.argument ≡ false
  pub known : keyword_at s ≢ word.Unknown
  pub argument : ArgumentFits parent (keyword_at s) s.head.argument

-- how many of these statements have this keyword
abbrev pub occurrences : Keyword → List Tree → ℕ
occurrences k [] = 0
occurrences k (c ∷ cs) = if same (keyword_at c) k then 1 + occurrences k cs else occurrences k cs

-- how many children of one keyword a row allows
abbrev pub IsAllowed : Option Occurs → ℕ → Type 0
IsAllowed None n = n ≡ 0
IsAllowed (Some One) n = n ≡ 1
IsAllowed (Some Optional) n = n ≤ 1
IsAllowed (Some Any) n = Unit {0}

-- the number of the children with each keyword, no extension's, is within the table
abbrev pub IsCounted : Tree → Type 0
IsCounted s = (k : Keyword) → k ≢ word.Extended
    → IsAllowed (occurs_in (rows_of (keyword_at s)) k) (occurrences k (trees s.children))

-- an extension's statement fits whatever is in it; another fits where it is right, its children are
-- counted and each fits
pub data FitsIn : Xpath → Keyword → Tree → Type 0 where
  extension : {x : Xpath} {parent : Keyword} {s : Tree} → keyword_at s ≡ word.Extended
      → FitsIn x parent s
  plain : {x : Xpath} {parent : Keyword} {s : Tree} → OwnFits x parent s → IsCounted s
      → ((k : ℕ) (c : Tree) → slice_get (trees s.children) k ≡ Some c
      → FitsIn x (keyword_at s) c)
      → FitsIn x parent s

-- a file's root fits where it is a module or submodule, and fits without a parent
abbrev pub Fits : Xpath → Tree → Type 0
Fits x s = (is_module (keyword_at s) ≡ true) × FitsIn x word.Unknown s
