-- Only private clauses cite this: what statements of nodes say as leafrefs, by their numbers.
use Rattle.std.specs.Prelude.{◌≡◌, ℕ, List, Option, Some}
use Rattle.std.specs.Ordering.{nat_cmp}
use Rattle.std.specs.BTreeMap.{BTreeMap, get}
use Rattle.yv_link_scopes.specs.Files.{Files}
use Rattle.yv_expand_statements.specs.declared.origin.Origin.TheVariants as origin
use Rattle.yv_node_leafrefs.specs.Schema.{Referral}
use Rattle.yv_node_statements.specs.Kinds.{TypeMeanings}
use Rattle.yv_schema.specs.Referrals.{referral_at}
use Rattle.yv_schema.specs.InnerNumbers.{AreNumbered, IsNumbered, said_in}
use Rattle.yv_schema.specs.declared.draft.Draft.{Draft}

-- what is known of a statement is the number of what its nodes say
abbrev pub AreOfNodes : TypeMeanings → Files → List Referral → BTreeMap ℕ (Option ℕ) → Type 0
AreOfNodes typing files leafrefs known =
    (statement : ℕ) (number : Option ℕ) → get nat_cmp known statement ≡ Some number
    → IsNumbered leafrefs number (referral_at typing files (origin.Statement statement))

-- what was read so far
abbrev pub leafrefs_in : Draft → List Referral
leafrefs_in draft = said_in draft.numbered

-- the number that is known of a statement
abbrev pub number_at : Draft → ℕ → Option (Option ℕ)
number_at draft statement = get nat_cmp draft.known statement

-- what is known of the statements of these files
pub record IsDraft (typing : TypeMeanings) (files : Files) (draft : Draft) : Type 0 where
  pub numbered : AreNumbered files draft.numbered
  pub known : AreOfNodes typing files (leafrefs_in draft) draft.known
