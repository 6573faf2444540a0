-- What files come to, from what the layers answer.
use Rattle.std.proofs.Common.{◌≡◌, ◌∙◌, ℕ, List, Result, Ok, Err, IfOk, OnOk, subst, sym, ap, ap₂, None}
use Rattle.std.specs.List.{AllZip}
use Rattle.yv_text_statement.specs.Tree.{Tree}
use Rattle.yv_text_statement.specs.Order.{IsLeast}
use Rattle.yv_text_statement.specs.declared.refusal.Refusal.{Refusal}
use Rattle.yv_text_statement.specs.declared.refusal.Stop.{Stop}
use Rattle.yv_text_statement.specs.declared.refusal.Stop.TheVariants.{Fault}
use Rattle.yv_text_statement.specs.Selection.{ModuleChoice}
use Rattle.yv_nodes.specs.Rows.{Module, Row, Rows, whole}
use Rattle.yv_nodes.specs.Numbers.{rows_of}
use Rattle.yv_nodes.specs.declared.node.NodeId.{NodeId}
use Rattle.yv_schema_tables.specs.Sound.{IsSound}
use Rattle.yv_schema.specs.Module.{modules_of}
use Rattle.yv_schema.specs.Refuses.{Refuses}
use Rattle.yv_schema.specs.Notes.{AreNotes}
use Rattle.yv_schema.specs.Schema.{AreReferences, IsSchema}
use Rattle.yv_base_streams.specs.Files.{File}
use Rattle.yv_source.specs.FileStatements.{IsRead, IsUnreadAt}
use Rattle.yv_run.specs.Compiles.{HasSchema, RefusedAt, FilesCompile, IsGiven, bad_syntax, gives_schema}

abbrev pub error_of : {A E : Type 0} → E → Result A E → E
error_of d (Ok x) = d
error_of d (Err e) = e

-- an error, as an answer of a kind
abbrev pub failed : (A E : Type 0) → E → Result A E
failed A E e = Err e

-- one error in answers of two kinds
pub err_again : {A B E : Type 0} (x y : E) → failed A E x ≡ failed A E y → failed B E x ≡ failed B E y
err_again {A} {B} {E} x y e = ap (failed B E) (ap (error_of x) e)

-- the refusals of two answers that are one
pub same_fault : {A : Type 0} (r s : Refusal) → failed A Stop (Fault r) ≡ failed A Stop (Fault s) → r ≡ s
same_fault r s e = let stops : Fault r ≡ Fault s = ap (error_of (Fault r)) e in cc

-- a file can't be read
pub refuses_unread : (choice : ModuleChoice) (limit : ℕ) (files : List File) (r : Refusal) → IsUnreadAt files r → FilesCompile choice limit files (RefusedAt r)
refuses_unread choice limit files r at =
    subst (λ q. FilesCompile choice limit files (RefusedAt q)) (sym at.placed) (bad_syntax at.number at.file at.before at.read at.at at.unread)

-- a sound schema is made of its rows by number
same_rows : (limit : ℕ) (s : Rows) → IsSound s → s.limit ≡ limit → s ≡ rows_of limit s.modules s.augments s.links (whole s)
same_rows limit s sound is =
    ap₂ (λ (nodes : List Row) (top : List NodeId). record s { nodes = nodes; top = top }) sound.rows sound.top
    ∙ ap (λ (most : ℕ). rows_of most s.modules s.augments s.links (whole s)) is

-- what a compilation answers is the schema of the statements
pub is_given : (choice : ModuleChoice) (ts : List Tree) (limit : ℕ) (s : Rows) → IsSchema choice ts (whole s) → s.limit ≡ limit
    → s.modules ≡ modules_of choice ts → AreNotes choice ts s.augments → AreReferences choice ts s.links → IsSound s → IsGiven choice ts limit s
is_given choice ts limit s tree most modules augments references sound = record {
  tree = tree;
  augments = augments;
  references = references;
  rows = same_rows limit s sound most ∙ ap (λ (ms : List Module). rows_of limit ms s.augments s.links (whole s)) modules;
}

pub all_given : (choice : ModuleChoice) (ts : List Tree) (limit : ℕ) (answer : Result Rows Stop) → IfOk answer (λ s. IsSchema choice ts (whole s))
    → IfOk answer (λ s. s.limit ≡ limit) → IfOk answer (λ s. s.modules ≡ modules_of choice ts) → IfOk answer (λ s. AreNotes choice ts s.augments)
    → IfOk answer (λ s. AreReferences choice ts s.links) → IfOk answer IsSound → IfOk answer (IsGiven choice ts limit)
all_given choice ts limit (Ok s) tree most modules augments references sound = is_given choice ts limit s tree most modules augments references sound
all_given choice ts limit (Err e) tree most modules augments references sound = tt

-- files of which nothing is refused give their schema
pub is_schema : (choice : ModuleChoice) (limit : ℕ) (files : List File) (ts : List Tree) (answer : Result Rows Stop) → AllZip IsRead files ts → IfOk answer (IsGiven choice ts limit)
    → OnOk answer (IsLeast (Refuses choice ts limit) None) → IfOk answer (λ s. FilesCompile choice limit files (HasSchema s))
is_schema choice limit files ts (Ok s) read is clear = gives_schema ts read clear is
is_schema choice limit files ts (Err e) read is clear = tt
