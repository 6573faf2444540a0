-- What stands below an item, by the blocks that are filed.
use Rattle.std.proofs.Common.{◌≡◌, ℕ, ◌<◌, Bool, true, false, List, [], ◌∷◌, ◌++◌, length, refl, sym, ◌∙◌, ap, Option, Some}
use Rattle.std.specs.List.{slice_get}
use Rattle.std.specs.Option.{option_map, unwrap_or}
use Rattle.std.proofs.lemmas.Option.{slice_get_within}
use Rattle.yv_link_scopes.specs.Files.{Briefs}
use Rattle.yv_link_scopes.specs.Rows.{Row}
use Rattle.yv_link_definitions.specs.Refers.{RefersTo}
use Rattle.yv_expand_statements.specs.StatementBlocks.{block_of, is_operation, is_output, is_at, those, part}
use Rattle.yv_expand_statements.specs.declared.origin.Origin.{Origin}
use Rattle.yv_expand_statements.specs.declared.origin.Origin.TheVariants.{Statement, Input, Output}
use Rattle.yv_expand.specs.Expands.{blocks_of}
use Rattle.yv_expand.specs.InnerItems.{AreBlocks, StandBelow, below_node, below_operation, below_uses, below_input, below_output, items_among, numbers_at, origins}
use Rattle.yv_expand.specs.declared.blocks.Blocks.{Blocks}
use Rattle.yv_expand.proofs.Words.{false_true}
use Rattle.yv_expand.proofs.StatementReferences.{meant_within}

module _ (files : Briefs) (rows : List Row) where
  at_is : (test : Row → Bool) (k : ℕ) (r : Row) (b : Bool) → slice_get rows k ≡ Some r → test r ≡ b → is_at test rows k ≡ b
  at_is test k r b at is = ap (λ (o : Option Row). unwrap_or (option_map test o) false) at ∙ is

  -- nothing stands below a part that isn't written
  pub none_in : (k : ℕ) (o : Origin) (these : List Origin) → o ≡ Input k → StandBelow files rows o these → these ≡ []
  none_in k o these e (below_node {k = j} at simple without) = absurd (let bad : Statement j ≡ Input k = e in cc)
  none_in k o these e (below_operation {k = j} at is) = absurd (let bad : Statement j ≡ Input k = e in cc)
  none_in k o these e (below_uses {k = j} at simple refers) = absurd (let bad : Statement j ≡ Input k = e in cc)
  none_in k o these e below_input = refl
  none_in k o these e below_output = refl

  pub none_out : (k : ℕ) (o : Origin) (these : List Origin) → o ≡ Output k → StandBelow files rows o these → these ≡ []
  none_out k o these e (below_node {k = j} at simple without) = absurd (let bad : Statement j ≡ Output k = e in cc)
  none_out k o these e (below_operation {k = j} at is) = absurd (let bad : Statement j ≡ Output k = e in cc)
  none_out k o these e (below_uses {k = j} at simple refers) = absurd (let bad : Statement j ≡ Output k = e in cc)
  none_out k o these e below_input = refl
  none_out k o these e below_output = refl

  module _ (blocks : Blocks) where
    pub parts_stand : (k : ℕ) (these : List Origin) → AreBlocks rows blocks → is_at is_operation rows k ≡ true → StandBelow files rows (Statement k) these
        → these ≡ part (Input k) (slice_get (numbers_at blocks.inputs.items k) 0) ∷ part (Output k) (slice_get (numbers_at blocks.outputs.items k) 0) ∷ []
    parts_stand k these are is (below_node {r = r} at simple without) = absurd (false_true (sym (at_is is_operation k r false at simple) ∙ is))
    parts_stand k these are is (below_operation {r = r} at op) =
        let within : k < length rows = slice_get_within rows k r at in
        ap (λ (l : List ℕ). part (Input k) (slice_get l 0) ∷ part (Output k) (slice_get (those is_output rows (block_of rows k)) 0) ∷ []) (sym (are.inputs k within))
        ∙ ap (λ (l : List ℕ). part (Input k) (slice_get (numbers_at blocks.inputs.items k) 0) ∷ part (Output k) (slice_get l 0) ∷ []) (sym (are.outputs k within))
    parts_stand k these are is (below_uses {r = r} at simple refers) = absurd (false_true (sym (at_is is_operation k r false at simple) ∙ is))

    pub uses_stand : (k g : ℕ) (these : List Origin) → AreBlocks rows blocks → is_at is_operation rows k ≡ false → RefersTo files rows k g
        → ((d : ℕ) → RefersTo files rows k d → g ≡ d) → StandBelow files rows (Statement k) these
        → these ≡ origins (numbers_at blocks.own.items g) ++ origins (numbers_at blocks.given.items k)
    uses_stand k g these are isnt refers one (below_node at simple without) = absurd (without g refers)
    uses_stand k g these are isnt refers one (below_operation {r = r} at op) = absurd (false_true (sym isnt ∙ at_is is_operation k r true at op))
    uses_stand k g these are isnt refers one (below_uses {d = d} {r = r} at simple meant) =
        let within : k < length rows = slice_get_within rows k r at in
        let inside : d < length rows = meant_within files rows k d meant in
        ap (λ (l : List ℕ). origins l ++ items_among rows (blocks_of rows (block_of rows k))) (sym (are.own d inside))
        ∙ ap (λ (l : List ℕ). origins (numbers_at blocks.own.items d) ++ origins l) (sym (are.given k within))
        ∙ ap (λ (n : ℕ). origins (numbers_at blocks.own.items n) ++ origins (numbers_at blocks.given.items k)) (sym (one d meant))

    pub none_stand : (k : ℕ) (these : List Origin) → AreBlocks rows blocks → is_at is_operation rows k ≡ false → ((d : ℕ) → RefersTo files rows k d → ⊥)
        → StandBelow files rows (Statement k) these → these ≡ origins (numbers_at blocks.own.items k)
    none_stand k these are isnt free (below_node {r = r} at simple without) =
        let within : k < length rows = slice_get_within rows k r at in
        ap origins (sym (are.own k within))
    none_stand k these are isnt free (below_operation {r = r} at op) = absurd (false_true (sym isnt ∙ at_is is_operation k r true at op))
    none_stand k these are isnt free (below_uses {d = d} at simple meant) = absurd (free d meant)
