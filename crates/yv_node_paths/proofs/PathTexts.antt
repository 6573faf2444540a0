-- The texts of paths that leafrefs may have.
use Rattle.std.proofs.Common.{◌≡◌, ◌⊎◌, inl, inr, ◌∙◌, ℕ, ◌+◌, List, ◌∷◌, Option, Some, None, refl, sym, ap, subst, arith}
use Rattle.std.specs.List.{prefix_len, slice_get}
use Rattle.std.proofs.lemmas.Option.{same_Some}
use Rattle.yv_text_statement.specs.Tree.{Tree, trees}
use Rattle.yv_text_statement.specs.declared.keyword.Keyword.{Keyword}
use Rattle.yv_text_statement.specs.declared.keyword.Keyword.TheVariants as word
use Rattle.yv_text_path.specs.Paths.{IsPath}
use Rattle.yv_text_grammar.specs.Argument.{ArgumentFits, IsSpelled}
use Rattle.yv_text_grammar.specs.Refusals.{keyword_at}
use Rattle.yv_text_grammar.specs.Fits.{FitsIn, extension, plain}
use Rattle.yv_text_grammar.specs.Forms.{form_of}
use Rattle.yv_text_grammar.specs.declared.form.Form.TheVariants as form
use Rattle.yv_text_grammar.specs.declared.xpath.Xpath.{Xpath}
use Rattle.yv_text_path.proofs.Beginnings.{begins as path_begins}
use Rattle.yv_node_paths.specs.Referral.{climbs_of, is_up}
use Rattle.yv_node_paths.specs.Steps.{texts_of}

-- a text is a path, with or without predicates
abbrev pub IsSomePath : List ℕ → Type 0
IsSomePath text = (bare : List ℕ) × (names : List (List ℕ)) × IsPath text bare names

-- a relative path climbs
climbs_more : (rest : List ℕ) → climbs_of (46 ∷ 46 ∷ 47 ∷ rest) ≡ Some (1 + prefix_len is_up (texts_of rest))
climbs_more rest = refl

-- an absolute one doesn't
absolute_climbs : (rest : List ℕ) → climbs_of (47 ∷ rest) ≡ None
absolute_climbs rest = refl

apart : (o : Option ℕ) (n : ℕ) → o ≡ None → o ≡ Some n → ⊥
apart o n a b = cc

pub begins : (text : List ℕ) → IsSomePath text → climbs_of text ≡ Some 0 → ⊥
begins text path none =
    elim (path_begins path.2) [
      | inl absolute ↦ apart (climbs_of text) 0 (ap climbs_of absolute.1 ∙ absolute_climbs absolute.0) none
      | inr relative ↦
          let more : Some (1 + prefix_len is_up (texts_of relative.0)) ≡ Some 0 = sym (climbs_more relative.0) ∙ ap climbs_of (sym relative.1) ∙ none in
          let bad : 1 + prefix_len is_up (texts_of relative.0) ≡ 0 = same_Some (1 + prefix_len is_up (texts_of relative.0)) 0 more in
          omega (arith, bad)
    ]

-- the form of a path's argument
path_form : (parent : Keyword) → form_of parent word.Path ≡ form.LeafrefPath
unfolding form_of
path_form parent = refl

-- the argument of a path statement that fits
path_fits : (x : Xpath) (parent : Keyword) (c : Tree) (text : List ℕ) → FitsIn x parent c → keyword_at c ≡ word.Path → c.head.argument ≡ Some text
    → IsSomePath text
path_fits x parent c text (extension e) is says = absurd (let bad : word.Extended ≡ word.Path = sym e ∙ is in cc)
path_fits x parent c text (plain own counted each) is says =
    let given : ArgumentFits parent word.Path (Some text) =
    subst (ArgumentFits parent word.Path) says (subst (λ (k : Keyword). ArgumentFits parent k c.head.argument) is own.argument) in
    subst (λ f. IsSpelled f (Some text)) (path_form parent) given.1

pub begins_within : (x : Xpath) (parent : Keyword) (t c : Tree) (k : ℕ) (text : List ℕ) → FitsIn x parent t → (keyword_at t ≡ word.Extended → ⊥)
    → slice_get (trees t.children) k ≡ Some c → keyword_at c ≡ word.Path → c.head.argument ≡ Some text → climbs_of text ≡ Some 0 → ⊥
begins_within x parent t c k text (extension e) other at is says = absurd (other e)
begins_within x parent t c k text (plain own counted each) other at is says = begins text (path_fits x (keyword_at t) c text (each k c at) is says)
