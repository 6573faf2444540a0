-- The `unique` and `default` statements of a block, one after the other.
use Rattle.std.proofs.Common.{◌≡◌, ℕ, ◌+◌, ◌<◌, Bool, true, false, List, [], ◌∷◌, ◌++◌, length, drop, get_or, add-one, refl, sym, ap, ◌∙◌, append_assoc, Option}
use Rattle.std.proofs.Math.Seq.{drop-cons}
use Rattle.yv_text_statement.specs.Tree.{Tree}
use Rattle.yv_text_statement.specs.declared.keyword.Keyword.TheVariants as word
use Rattle.yv_text_grammar.specs.Words.{words}
use Rattle.yv_link_scopes.specs.Files.{Files}
use Rattle.yv_node_content.specs.Steps.{Step}
use Rattle.yv_node_properties.specs.Statements.{is_of}
use Rattle.yv_text_statement.specs.TextInFile.{TextInFile}
use Rattle.yv_node_statements.specs.Definitions.{uniques_in}
use Rattle.yv_node_statements.specs.InnerChanges.{defaults_among}

-- no text has no words
pub no_words : words [] ≡ []
unfolding words
no_words = refl

module _ (files : Files) (file : ℕ) where
  first : (t : Tree) (ts : List Tree) → uniques_in files file (t ∷ []) ++ uniques_in files file ts ≡ uniques_in files file (t ∷ ts)
  first t ts = by (is_of word.Unique t) refl
    where
      by : (b : Bool) → is_of word.Unique t ≡ b → uniques_in files file (t ∷ []) ++ uniques_in files file ts ≡ uniques_in files file (t ∷ ts)
      by true e = rw e refl
      by false e = rw e refl

  -- with one more statement
  pub uniques_more : (ts : List Tree) (i : ℕ) (d : Tree) (old new all : List (List (List (Option Step)))) → i < length ts
      → new ≡ old ++ uniques_in files file (get_or ts i d ∷ []) → old ++ uniques_in files file (drop i ts) ≡ all → new ++ uniques_in files file (drop (i + 1) ts) ≡ all
  uniques_more ts i d old new all lt is before =
      let cut : drop i ts ≡ get_or ts i d ∷ drop (i + 1) ts = rw (add-one, drop-cons ts i d) refl in
      ap (λ (us : List (List (List (Option Step)))). us ++ uniques_in files file (drop (i + 1) ts)) is
      ∙ append_assoc old (uniques_in files file (get_or ts i d ∷ [])) (uniques_in files file (drop (i + 1) ts))
      ∙ ap (λ (us : List (List (List (Option Step)))). old ++ us) (first (get_or ts i d) (drop (i + 1) ts) ∙ ap (uniques_in files file) (sym cut))
      ∙ before

module _ (file : ℕ) where
  first_default : (t : Tree) (ts : List Tree) → defaults_among file (t ∷ []) ++ defaults_among file ts ≡ defaults_among file (t ∷ ts)
  first_default t ts = by (is_of word.Default t) refl
    where
      by : (b : Bool) → is_of word.Default t ≡ b → defaults_among file (t ∷ []) ++ defaults_among file ts ≡ defaults_among file (t ∷ ts)
      by true e = rw e refl
      by false e = rw e refl

  -- with one more statement
  pub defaults_more : (ts : List Tree) (i : ℕ) (d : Tree) (old new all : List TextInFile) → i < length ts
      → new ≡ old ++ defaults_among file (get_or ts i d ∷ []) → old ++ defaults_among file (drop i ts) ≡ all → new ++ defaults_among file (drop (i + 1) ts) ≡ all
  defaults_more ts i d old new all lt is before =
      let cut : drop i ts ≡ get_or ts i d ∷ drop (i + 1) ts = rw (add-one, drop-cons ts i d) refl in
      ap (λ (ws : List TextInFile). ws ++ defaults_among file (drop (i + 1) ts)) is
      ∙ append_assoc old (defaults_among file (get_or ts i d ∷ [])) (defaults_among file (drop (i + 1) ts))
      ∙ ap (λ (ws : List TextInFile). old ++ ws) (first_default (get_or ts i d) (drop (i + 1) ts) ∙ ap (defaults_among file) (sym cut))
      ∙ before
