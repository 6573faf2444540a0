-- What is wrong with a statement, and which refusals say so. They name the file as 0.
use Rattle.std.specs.Prelude.{◌≡◌, ◌≢◌, ℕ, ◌⊎◌, Bool, true, false, not, ◌&&◌, List, Option, None, Some, take, length}
use Rattle.std.specs.List.{list_any, slice_get}
use Rattle.yv_text_statement.specs.Tree.{Tree, trees}
use Rattle.yv_text_statement.specs.Order.{Among, Stands, refusal_at}
use Rattle.yv_text_statement.specs.declared.refusal.Refusal.{Refusal}
use Rattle.yv_text_statement.specs.declared.refusal.Code.TheVariants as code
use Rattle.yv_text_statement.specs.Keywords.{keyword_of, same}
use Rattle.yv_text_grammar.specs.Table.{Rows, rows_of, occurs_in, is_one}
use Rattle.yv_text_grammar.specs.Argument.{ArgumentFits}
use Rattle.yv_text_grammar.specs.Conditions.{is_unsupported}
use Rattle.yv_text_statement.specs.declared.keyword.Keyword.{Keyword}
use Rattle.yv_text_statement.specs.declared.keyword.Keyword.TheVariants as word
use Rattle.yv_text_grammar.specs.declared.table.Occurs.{Occurs}
use Rattle.yv_text_grammar.specs.declared.xpath.Xpath.{Xpath}
use Rattle.yv_text_grammar.specs.declared.table.Occurs.TheVariants.{One, Optional, Any}

-- the keyword of a statement
abbrev pub keyword_at : Tree → Keyword
keyword_at s = keyword_of s.head.keyword

-- the statement itself is wrong, in the block of a parent
abbrev pub OwnRefusal : Xpath → Keyword → Tree → Refusal → Type 0
OwnRefusal x parent s f =
    Stands (is_unsupported x (keyword_at s) s.head.argument ≡ true)
    (refusal_at code.Unsupported 0 s.head) f
    ⊎ (Stands (keyword_at s ≡ word.Unknown) (refusal_at code.UnknownStatement 0 s.head) f
    ⊎ Stands (ArgumentFits parent (keyword_at s) s.head.argument → ⊥)
    (refusal_at code.BadArgument 0 s.head) f)

-- one of these statements has this keyword
abbrev pub has : Keyword → List Tree → Bool
has k cs = list_any (λ c. same (keyword_at c) k) cs

-- one more child is too many, where one with its keyword comes before it or not; where no row
-- allows it, any is
abbrev pub is_excess : Option Occurs → Bool → Bool
is_excess None before = true
is_excess (Some One) before = before
is_excess (Some Optional) before = before
is_excess (Some Any) before = false

-- a child with this keyword, no extension's, may not be or is one too many
abbrev pub is_misplaced : Rows → Keyword → Bool → Bool
is_misplaced rows k before = not (same k word.Extended) && is_excess (occurs_in rows k) before

-- the child c, after n others of s, may not be there or is one too many
abbrev pub IsMisplaced : Tree → ℕ → Tree → Type 0
IsMisplaced s n c = is_misplaced (rows_of (keyword_at s)) (keyword_at c)
    (has (keyword_at c) (take n (trees s.children))) ≡ true

-- a child that has to be is missing
abbrev pub LacksChild : Tree → Type 0
LacksChild s =
    list_any (λ r. is_one r.1 && not (has r.0 (trees s.children))) (rows_of (keyword_at s)) ≡ true

-- a child is misplaced, or the statement lacks one
abbrev pub CountsBadly : Tree → Refusal → Type 0
CountsBadly s f =
    Among (trees s.children)
    (λ n c. Stands (IsMisplaced s n c) (refusal_at code.Cardinality 0 c.head))
    (length (trees s.children)) f
    ⊎ Stands (LacksChild s) (refusal_at code.Cardinality 0 s.head) f

-- f is at s or below it, in the block of a parent; an extension's statement isn't looked into
pub data Faulty : Xpath → Keyword → Tree → Refusal → Type 0 where
  own : {x : Xpath} {parent : Keyword} {s : Tree} {f : Refusal} → keyword_at s ≢ word.Extended
      → OwnRefusal x parent s f → Faulty x parent s f
  number : {x : Xpath} {parent : Keyword} {s : Tree} {f : Refusal} → keyword_at s ≢ word.Extended
      → CountsBadly s f → Faulty x parent s f
  below : {x : Xpath} {parent : Keyword} {s : Tree} {f : Refusal} (k : ℕ) (c : Tree)
      → keyword_at s ≢ word.Extended → slice_get (trees s.children) k ≡ Some c
      → Faulty x (keyword_at s) c f → Faulty x parent s f

-- a keyword is that of a root
abbrev pub is_module : Keyword → Bool
is_module word.Module = true
is_module word.Submodule = true
is_module _ = false

-- a file's root isn't a module or submodule, or f is in the root, whose parent is unknown
abbrev pub Bad : Xpath → Tree → Refusal → Type 0
Bad x s f = Stands (is_module (keyword_at s) ≡ false) (refusal_at code.Cardinality 0 s.head) f
    ⊎ Faulty x word.Unknown s f
