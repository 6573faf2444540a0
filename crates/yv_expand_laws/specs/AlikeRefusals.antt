-- What is refused of a final tree by number is what is refused of the tree to which the files
-- expand (RFC 7950, sections 7.12 to 7.17). Both refuse numbered statements.
use Rattle.std.specs.Prelude.{◌≡◌, ◌↔◌, ℕ, Bool, List, map, Some, slice_get}
use Rattle.std.specs.List.{Contains}
use Rattle.yv_text_statement.specs.Order.{refusal_at}
use Rattle.yv_text_statement.specs.declared.refusal.Code.{Code}
use Rattle.yv_text_statement.specs.declared.refusal.Refusal.{Refusal}
use Rattle.yv_text_statement.specs.Selection.{ModuleChoice}
use Rattle.yv_link_scopes.specs.Files.{Files, brief_of}
use Rattle.yv_link_scopes.specs.RowList.{rows_of}
use Rattle.yv_link_scopes.specs.Rows.{Row}
use Rattle.yv_expand_statements.specs.StatementBlocks.{augments_of}
use Rattle.yv_expand_tree.specs.Final.{Final, IsFinal}
use Rattle.yv_expand_statements.specs.FileOrder.{marks_of, order_of}
use Rattle.yv_expand_definition.specs.Expansion.{Expand}
use Rattle.yv_expand_definition.specs.Gives.{Product, Wrong}
use Rattle.yv_expand_laws.specs.Files.{HaveRoots, ShowFiles}
use Rattle.yv_expand_laws.specs.StatementItems.{AreSound}
use Rattle.yv_expand_laws.specs.Shows.{Items}

-- f is the refusal of a numbered statement with this code
abbrev pub IsRefusalAt : List Row → Code → (statement : ℕ) → Refusal → Type 0
IsRefusalAt rows c k f =
    (r : Row) × (slice_get rows k ≡ Some r) × (f ≡ refusal_at c r.file r.head)

-- f is the refusal of a statement that is wrong in what the files expand to
abbrev pub RefusesWrong : Files → Wrong → Product → Refusal → Type 0
RefusesWrong files e m f = Contains m.wrong e × IsRefusalAt (rows_of files) e.code e.statement f

-- what the files expand to refuses an augment of a module with this code (section 7.17)
abbrev pub RefusesModuleAugment : Files → Code → (modules : List Bool) → Product → Refusal → Type 0
RefusesModuleAugment files c modules m f =
    (a : ℕ) × Contains (augments_of (map brief_of files) (rows_of files) modules) a
    × RefusesWrong files (record { code = c; statement = a }) m f

-- it refuses with this code an augment that isn't one of a module, but of a uses (section 7.13)
abbrev pub RefusesUsesAugment : Files → Code → (modules : List Bool) → Product → Refusal → Type 0
RefusesUsesAugment files c modules m f =
    (a : ℕ) × (Contains (augments_of (map brief_of files) (rows_of files) modules) a → ⊥)
    × RefusesWrong files (record { code = c; statement = a }) m f

-- Of each final tree of sound files under a choice of modules, the same is refused by number as of
-- what the files expand to, where the marks say which modules are implemented.
abbrev pub RefuseAlike : Files → (by_number : Final → Refusal → Type 0)
    → (by_tree : (marks : List Bool) → Product → Refusal → Type 0) → Type 0
RefuseAlike files by_number by_tree =
    (choice : ModuleChoice) (f : Final) (its : Items) (m : Product) (r : Refusal) → AreSound files
    → HaveRoots files → IsFinal choice files f
    → ShowFiles files (marks_of choice files) f.items its
    → Expand files (marks_of choice files) (order_of choice files) m
    → by_number f r ↔ by_tree (marks_of choice files) m r
