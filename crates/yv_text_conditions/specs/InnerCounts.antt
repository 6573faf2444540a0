-- Only private clauses cite this: the numbers of what has each property.
use Rattle.std.specs.Prelude.{◌≡◌, ℕ}
use Rattle.yv_text_statement.specs.Tree.{End, Then, Tree}
use Rattle.yv_text_conditions.specs.Conditions.{Property, count_in, is_filtered_path, is_instance_type, is_must, is_when}
use Rattle.yv_text_conditions.specs.Sums.{cap_of}
use Rattle.yv_text_conditions.specs.declared.counts.Unevaluated.{Unevaluated}

-- the number for each property, up to 2^64 - 1
pub record AreCounts (number : Property → ℕ) (counts : Unevaluated) : Type 0 where
  pub must : counts.must ≡ cap_of (number is_must)
  pub when : counts.when ≡ cap_of (number is_when)
  pub path : counts.path ≡ cap_of (number is_filtered_path)
  pub instance : counts.instance ≡ cap_of (number is_instance_type)

-- how many statements with a property a statement is, with what is below it
abbrev pub count_of : Tree → Property → ℕ
count_of t has = count_in has (Then t.head t.children End)
