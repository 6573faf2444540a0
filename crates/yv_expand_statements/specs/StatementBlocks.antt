-- The statements in blocks, by their numbers, and which of them give schema nodes (RFC 7950,
-- sections 5.1, 7.12 to 7.17).
use Rattle.std.specs.Prelude.{ℕ, ◌+◌, ◌==◌, ◌&&◌, not, Bool, List, [], ◌∷◌, if◌then◌else◌, zero, suc, false, ◌++◌, slice_index_or, ◌||◌, Option, Some, None, codes, slice_get, length}
use Rattle.yv_link_scopes.specs.Files.{Briefs, module_file_at, has_word}
use Rattle.yv_link_scopes.specs.Rows.{Row}
use Rattle.std.specs.List.{filter}
use Rattle.std.specs.Option.{option_map, unwrap_or}
use Rattle.yv_text_statement.specs.Words.{is_among}
use Rattle.yv_expand_statements.specs.Units.{nodes, operations}
use Rattle.yv_expand_statements.specs.declared.origin.Origin.{Origin}
use Rattle.yv_expand_statements.specs.declared.origin.Origin.TheVariants.{Statement}

-- the numbers of the statements that pass, in order, the first statement having this number
abbrev pub numbers_from : (ℕ → Row → Bool) → ℕ → List Row → List ℕ
numbers_from passes number [] = []
numbers_from passes number (r ∷ rs) = if passes number r
    then number ∷ numbers_from passes (number + 1) rs else numbers_from passes (number + 1) rs

-- a statement is in a block that isn't its own
abbrev pub stands_in : ℕ → ℕ → Row → Bool
stands_in block k r = (r.scope == block) && not (r.scope == k)

-- the statements of a block
abbrev pub block_of : List Row → ℕ → List ℕ
block_of rows block = numbers_from (stands_in block) 0 rows

-- the statements at the top of a file: those of it in the block of its module's root
abbrev pub top_of : Briefs → List Row → ℕ → List ℕ
top_of files rows file =
    numbers_from (λ k r. stands_in (module_file_at files file) k r && (r.file == file)) 0 rows

-- the statements at the top of a file that is given; a file without a mark isn't
abbrev pub given_at : Briefs → List Row → List Bool → ℕ → List ℕ
given_at files rows marks file =
    if slice_index_or marks file false then top_of files rows file else []

-- those of the first files
abbrev pub given_before : Briefs → List Row → List Bool → ℕ → List ℕ
given_before files rows marks zero = []
given_before files rows marks (suc file) =
    given_before files rows marks file ++ given_at files rows marks file

-- an rpc or an action
unfoldable pub is_operation : Row → Bool
is_operation r = is_among operations r.head.keyword

-- a statement that is an item of the expansion: one that gives a schema node, or a uses. The input
-- and the output of an operation are items by it
unfoldable pub is_node_or_uses : Row → Bool
is_node_or_uses r = is_among nodes r.head.keyword || is_among operations r.head.keyword

-- a statement is an `input`
abbrev pub is_input : Row → Bool
is_input r = has_word (codes "input") r.head

-- a statement is an `output`
abbrev pub is_output : Row → Bool
is_output r = has_word (codes "output") r.head

-- a statement is an `augment`
abbrev pub is_augment : Row → Bool
is_augment r = has_word (codes "augment") r.head

-- the numbered statement passes a test
abbrev pub is_at : (Row → Bool) → List Row → ℕ → Bool
is_at test rows k = unwrap_or (option_map test (slice_get rows k)) false

-- those of numbered statements that do, in order
abbrev pub those : (Row → Bool) → List Row → List ℕ → List ℕ
those test rows numbers = filter (is_at test rows) numbers

-- the first of these
abbrev pub first_of : (Row → Bool) → List Row → List ℕ → Option ℕ
first_of test rows numbers = slice_get (those test rows numbers) 0

-- the input or the output of an operation: the one that is written, or else the one that it has in
-- any case
abbrev pub part : (unwritten : Origin) → (written : Option ℕ) → Origin
part unwritten None = unwritten
part unwritten (Some k) = Statement k

-- what is in it
abbrev pub part_block : List Row → (written : Option ℕ) → List ℕ
part_block rows None = []
part_block rows (Some k) = block_of rows k

-- the input and the output that an operation writes, the first of each
abbrev pub input_of : List Row → ℕ → Option ℕ
input_of rows k = first_of is_input rows (block_of rows k)

-- the `output` in the block of an operation
abbrev pub output_of : List Row → ℕ → Option ℕ
output_of rows k = first_of is_output rows (block_of rows k)

-- the augments of modules: those at the tops of the files that are given, by file and statement
-- (RFC 7950, section 7.17)
abbrev pub augments_of : Briefs → List Row → List Bool → List ℕ
augments_of files rows marks = those is_augment rows (given_before files rows marks (length files))

-- a statement is a `refine`
abbrev pub is_refine : Row → Bool
is_refine r = has_word (codes "refine") r.head
