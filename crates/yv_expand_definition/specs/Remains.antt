-- Which nodes are left (RFC 7950, section 7.20.2).
use Rattle.std.specs.Prelude.{◌≡◌, ◌↔◌, ℕ, Bool, true, IsTrue, if◌then◌else◌}
use Rattle.std.specs.List.{list_all}
use Rattle.yv_text_statement.specs.Selection.{ModuleChoice}
use Rattle.yv_link_scopes.specs.Files.{Files}
use Rattle.yv_link_scopes.specs.RowList.{rows_of}
use Rattle.yv_link_features.specs.On.{AllHoldBy, Holds}
use Rattle.yv_expand_statements.specs.FileOrder.{marks_of, order_of}
use Rattle.yv_expand_definition.specs.Nodes.{Forest, none, node, if_feature_statements}
use Rattle.yv_expand_definition.specs.Expansion.{Expand}
use Rattle.yv_expand_definition.specs.Gives.{Product}

-- this tells of numbered statements whether all their conditions hold, each in the file in which it
-- is
abbrev pub AreIfFeatures : ModuleChoice → Files → (ℕ → Bool) → Type 0
AreIfFeatures choice files on = (k : ℕ) → IsTrue (on k)
    ↔ AllHoldBy (λ file text. Holds files choice file text true) (rows_of files) k

-- the nodes whose conditions hold, those of the refines that change them and of the uses and
-- augments round them too; what is below one that isn't left isn't left either
abbrev pub remains : (on : ℕ → Bool) → Forest → Forest
remains on none = none
remains on (node g below behind) = if list_all on (if_feature_statements g)
    then node g (remains on below) (remains on behind) else remains on behind

-- the nodes of the schema of files
pub record AreNodes (choice : ModuleChoice) (files : Files) (nodes : Forest) : Type 0 where
  pub made : Product
  pub expand : Expand files (marks_of choice files) (order_of choice files) made
  pub on : ℕ → Bool
  pub are_on : AreIfFeatures choice files on
  pub are : nodes ≡ remains on made.nodes
