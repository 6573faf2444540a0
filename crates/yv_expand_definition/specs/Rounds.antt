-- The augments of modules have their turns in rounds (RFC 7950, section 7.17).
use Rattle.std.specs.Prelude.{◌≡◌, ℕ, ◌<◌, List, [], ◌∷◌, ◌++◌, length, map, Some, slice_get}
use Rattle.yv_text_statement.specs.declared.refusal.Code.TheVariants as code
use Rattle.yv_link_scopes.specs.Files.{Files, brief_of, module_file_at}
use Rattle.yv_link_scopes.specs.RowList.{rows_of}
use Rattle.yv_link_scopes.specs.Rows.{Row}
use Rattle.yv_expand_statements.specs.StatementBlocks.{block_of}
use Rattle.yv_expand_definition.specs.Nodes.{Node, Forest, nodes_given, insert}
use Rattle.yv_expand_definition.specs.Paths.{End}
use Rattle.yv_expand_definition.specs.Gives.{Gives, Product, Misses, PathLeads, PathLeadsNowhere, Reaches, add_block, add_refusal}

-- the file of the module of a numbered statement
abbrev pub IsModuleFile : Files → (k module_file : ℕ) → Type 0
IsModuleFile files k module_file = (r : Row) × (slice_get (rows_of files) k ≡ Some r)
    × (module_file ≡ module_file_at (map brief_of files) r.file)

-- (7.17) A round: each augment of a module that waits, by file and statement, has its turn. What
-- its block gives comes after what its target has, but before what later ones gave. Those whose
-- path leads nowhere wait on.
pub data Round (files : Files) : (waiting : List ℕ) → Product → (still : List ℕ) → Product
    → Type 0 where
  none_left : {m : Product} → Round files [] m [] m
  adds : {module_file a : ℕ} {others still : List ℕ} {m block last : Product} {there : Forest}
      {target : Node} → IsModuleFile files a module_file
      → Gives files module_file (a ∷ []) (block_of (rows_of files) a) block
      → Reaches files module_file a (insert a (nodes_given a block.nodes)) m.nodes there target
      → Round files others (add_block files a target m block there) still last
      → Round files (a ∷ others) m still last
  without_target : {module_file a : ℕ} {others still : List ℕ} {m last : Product} {e : End}
      {there : Forest} → IsModuleFile files a module_file
      → PathLeads files module_file a m.nodes e there → Misses files module_file a m.nodes
      → Round files others (add_refusal code.AugmentTarget a m) still last
      → Round files (a ∷ others) m still last
  waits : {module_file a : ℕ} {others still : List ℕ} {m last : Product}
      → IsModuleFile files a module_file → PathLeadsNowhere files module_file a m.nodes
      → Round files others m still last → Round files (a ∷ others) m (a ∷ still) last

-- a round that applies none is the last, and what waits then was never applied
pub data Rounds (files : Files) : (waiting : List ℕ) → Product → Product → Type 0 where
  last : {waiting : List ℕ} {m : Product} → Round files waiting m waiting m
      → Rounds files waiting m
      (record m {
        wrong = m.wrong
            ++ map (λ a. record { code = code.AugmentTarget; statement = a }) waiting;
      })
  one_more : {waiting still : List ℕ} {m there end : Product} → Round files waiting m still there
      → length still < length waiting
      → Rounds files still there end → Rounds files waiting m end
