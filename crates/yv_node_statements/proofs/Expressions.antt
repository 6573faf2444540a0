-- The expressions of the `if-feature` statements of blocks.
use Rattle.std.proofs.Common.{◌≡◌, ℕ, Bool, true, false, List, [], ◌∷◌, ◌++◌, cond, is_some, Option, Some, refl, ap, ◌∙◌}
use Rattle.std.specs.Prelude.{◌||◌, filter, map}
use Rattle.std.specs.List.{find}
use Rattle.yv_text_statement.specs.Tree.{Tree, Forest, trees, name_of}
use Rattle.yv_text_statement.specs.declared.keyword.Keyword.TheVariants as word
use Rattle.yv_link_scopes.specs.Files.{Files}
use Rattle.yv_node_statements.specs.Features.{all_expressions, expressions}
use Rattle.yv_node_properties.specs.Statements.{is_of, statement_at}
use Rattle.yv_node_statements.specs.InnerStore.{gives_features, has_features}

none_before : (test : Bool) (t : Tree) (found : Option Tree) (rest : List Tree) → is_some (cond test (Some t) found) ≡ false
    → (is_some found ≡ false → map (λ (u : Tree). name_of u.head) rest ≡ []) → map (λ (u : Tree). name_of u.head) (cond test (t ∷ rest) rest) ≡ []
none_before true t found rest h more = cc
none_before false t found rest h more = more h

none_among : (ts : List Tree) → is_some (find (is_of word.IfFeature) ts) ≡ false → expressions ts ≡ []
none_among [] h = refl
none_among (t ∷ ts) h = none_before (is_of word.IfFeature t) t (find (is_of word.IfFeature) ts) (filter (is_of word.IfFeature) ts) h (none_among ts)

-- a block without an `if-feature` statement has no expressions
pub no_expressions : (block : Forest) → has_features block ≡ false → expressions (trees block) ≡ []
no_expressions block h = none_among (trees block) h

neither : (a b : Bool) → (a || b) ≡ false → (a ≡ false) × (b ≡ false)
neither true b h = cc
neither false b h = (refl, h)

pub no_expressions_at_all : (files : Files) (refines : List ℕ) → gives_features files refines ≡ false → all_expressions files refines ≡ []
no_expressions_at_all files [] h = refl
no_expressions_at_all files (r ∷ rs) h =
    let both = neither (has_features (statement_at files r).children) (gives_features files rs) h in
    ap (λ (front : List (List ℕ)). front ++ all_expressions files rs) (no_expressions (statement_at files r).children both.0) ∙ no_expressions_at_all files rs both.1
