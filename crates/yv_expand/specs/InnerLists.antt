-- Only private clauses cite this: statements by the block or the file in which they count.
use Rattle.std.specs.Prelude.{ℕ, ◌+◌, List, [], ◌∷◌, Option, Some, None, slice_index_or}
use Rattle.std.specs.declared.vec.Vec.{Vec}
use Rattle.std.specs.declared.alloc.Global.{Global}
use Rattle.yv_link_scopes.specs.Files.{Briefs}
use Rattle.yv_link_scopes.specs.Rows.{Row}
use Rattle.yv_expand_statements.specs.Units.{saturate}
use Rattle.yv_expand.specs.InnerItems.{block_place}
use Rattle.yv_expand.specs.InnerItems.{top_place as top_place_of}
pub use Rattle.yv_expand.specs.InnerItems.{Lists, counts, is_place, placed_from, AreEmpty, ArePlaced}

-- the block in which a statement counts, if it does
abbrev pub part_place : ℕ → Row → Option ℕ
part_place = block_place counts

-- the file at whose top it counts, if it does
abbrev pub top_place : Briefs → ℕ → Row → Option ℕ
top_place = top_place_of counts

-- the sum of the values of numbers
abbrev pub sum_at : List ℕ → List ℕ → ℕ
sum_at values [] = 0
sum_at values (k ∷ ks) = slice_index_or values k 0 + sum_at values ks

-- the sum of those in a list, as far as it is known
abbrev pub top_sum : List ℕ → Option (Vec ℕ Global) → ℕ
top_sum values None = 0
top_sum values (Some v) = saturate (sum_at values v.items)
