-- Statements are counted one by one.
use Rattle.std.proofs.Common.{◌≡◌, ℕ, ◌+◌, List, [], ◌∷◌, ◌++◌, Some, take, refl, sym, ap, ◌∙◌, arith}
use Rattle.std.proofs.lemmas.List.{take_more}
use Rattle.std.proofs.lemmas.Option.{slice_get_within, get_or_from_slice_get}
use Rattle.std.specs.List.{slice_get}
use Rattle.yv_text_statement.specs.Tree.{End, Forest, Then, Tree, forest, trees}
use Rattle.yv_text_conditions.specs.Conditions.{Property, count_in, is_filtered_path, is_instance_type, is_must, is_when}
use Rattle.yv_text_conditions.specs.InnerCounts.{AreCounts, count_of}
use Rattle.yv_text_conditions.specs.Sums.{cap_of, sum_of}
use Rattle.yv_text_conditions.specs.declared.counts.Unevaluated.{Unevaluated}

take_next : (xs : List Tree) (i : ℕ) (x : Tree) → slice_get xs i ≡ Some x → take (i + 1) xs ≡ take i xs ++ x ∷ []
take_next xs i x at = take_more xs i x (slice_get_within xs i x at) ∙ ap (λ y. take i xs ++ y ∷ []) (get_or_from_slice_get xs i x x at)

plus_zero : (n : ℕ) → n ≡ 0 + n
plus_zero n = omega arith

count_append : (has : Property) (xs : List Tree) (t : Tree) → count_in has (forest (xs ++ t ∷ [])) ≡ count_in has (forest xs) + count_of t has
count_append has [] t = let n : ℕ = count_of t has in plus_zero n
count_append has (x ∷ xs) t = let rest : count_in has (forest (xs ++ t ∷ [])) ≡ count_in has (forest xs) + count_of t has = count_append has xs t in omega (arith, rest)

-- the first statements, and the next one
pub count_next : (has : Property) (ts : List Tree) (n : ℕ) (t : Tree) → slice_get ts n ≡ Some t
    → count_in has (forest (take (n + 1) ts)) ≡ count_in has (forest (take n ts)) + count_of t has
count_next has ts n t at = ap (λ xs. count_in has (forest xs)) (take_next ts n t at) ∙ count_append has (take n ts) t

-- the sum of two numbers that stop at the largest
cap_of_sum : (a b m n : ℕ) → a ≡ cap_of m → b ≡ cap_of n → cap_of (a + b) ≡ cap_of (m + n)
cap_of_sum a b m n first second = omega (arith, first, second)

-- the sums of two are those of both
pub both_counted : (m n all : Property → ℕ) (a b : Unevaluated) → ((has : Property) → all has ≡ m has + n has) → AreCounts m a → AreCounts n b → AreCounts all (sum_of a b)
both_counted m n all a b is first second = record {
  must = cap_of_sum a.must b.must (m is_must) (n is_must) first.must second.must ∙ ap cap_of (sym (is is_must));
  when = cap_of_sum a.when b.when (m is_when) (n is_when) first.when second.when ∙ ap cap_of (sym (is is_when));
  path = cap_of_sum a.path b.path (m is_filtered_path) (n is_filtered_path) first.path second.path ∙ ap cap_of (sym (is is_filtered_path));
  instance = cap_of_sum a.instance b.instance (m is_instance_type) (n is_instance_type) first.instance second.instance ∙ ap cap_of (sym (is is_instance_type));
}

pub forest_trees : (f : Forest) → forest (trees f) ≡ f
forest_trees End = refl
forest_trees (Then h c o) = ap (Then h c) (forest_trees o)

-- what counts for one property counts for all that are equal
pub same_counts : (m n : Property → ℕ) (a : Unevaluated) → ((has : Property) → n has ≡ m has) → AreCounts m a → AreCounts n a
same_counts m n a is are = record {
  must = are.must ∙ ap cap_of (sym (is is_must));
  when = are.when ∙ ap cap_of (sym (is is_when));
  path = are.path ∙ ap cap_of (sym (is is_filtered_path));
  instance = are.instance ∙ ap cap_of (sym (is is_instance_type));
}
