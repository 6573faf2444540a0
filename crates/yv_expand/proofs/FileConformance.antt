-- A file in which nothing is refused conforms.
use Rattle.std.proofs.Common.{inl, inr, ◌⊎◌, ◌≡◌, ◌≢◌, ℕ, zero, suc, true, false, List, Option, Some, None, refl, sym, ◌∙◌, subst}
use Rattle.std.specs.List.{slice_get}
use Rattle.std.proofs.lemmas.Bool.{cases_Bool, false_from_ne_true}
use Rattle.std.proofs.lemmas.Option.{same_Some}
use Rattle.yv_text_statement.specs.Tree.{End, Forest, Then, Tree, trees}
use Rattle.yv_text_statement.specs.Order.{refusal_at}
use Rattle.yv_text_statement.specs.declared.refusal.Refusal.{Refusal}
use Rattle.yv_text_statement.specs.declared.refusal.Code.TheVariants as code
use Rattle.yv_text_if_feature.specs.IfFeature.{IfFeature, Spells}
use Rattle.yv_text_path.specs.Paths.{IsPath}
use Rattle.yv_text_grammar.specs.declared.xpath.Xpath.{Xpath}
use Rattle.yv_text_grammar.specs.declared.form.Form.{Form}
use Rattle.yv_text_grammar.specs.declared.form.Form.TheVariants as form
use Rattle.yv_text_statement.specs.declared.keyword.Keyword.{Keyword}
use Rattle.yv_text_statement.specs.declared.keyword.Keyword.TheVariants as word
use Rattle.yv_text_grammar.specs.Argument.{ArgumentFits, IsSpelled, argument_has}
use Rattle.yv_text_grammar.specs.Refusals.{Bad, Faulty, OwnRefusal, below, is_module, keyword_at, number, own}
use Rattle.yv_text_grammar.specs.Fits.{Fits, FitsIn, OwnFits, extension, plain}
use Rattle.yv_text_grammar.specs.Forms.{form_of}
use Rattle.yv_text_statement.specs.Keywords.{keyword_of, same}
use Rattle.yv_text_grammar.proofs.StatementFit.{is_counted}
use Rattle.yv_text_grammar.proofs.Keywords.{one, other}

abbrev pub Spelled : Type 0
Spelled = (text : List ℕ) → ((c : IfFeature) × Spells text c) ⊎ ((c : IfFeature) → Spells text c → ⊥)

-- a text is a path, or none (yv_text_path::laws::a_text_is_a_path_or_none)
abbrev pub ArePaths : Type 0
ArePaths = (text : List ℕ) → ((bare : List ℕ) × (names : List (List ℕ)) × IsPath text bare names) ⊎ ((bare : List ℕ) (names : List (List ℕ)) → IsPath text bare names → ⊥)

module _ (spelled : Spelled) (paths : ArePaths) where
  condition_cases : (f : Form) (argument : Option (List ℕ)) → IsSpelled f argument ⊎ (IsSpelled f argument → ⊥)
  condition_cases form.IfFeature (Some text) = elim (spelled text) [ inl c ↦ inl c | inr none ↦ inr (λ p. none p.0 p.1) ]
  condition_cases form.LeafrefPath (Some text) = elim (paths text) [ inl c ↦ inl c | inr none ↦ inr (λ p. none p.0 p.1 p.2) ]
  condition_cases f argument = inl tt

  argument_fits : (parent keyword : Keyword) (argument : Option (List ℕ)) → ((ArgumentFits parent keyword argument → ⊥) → ⊥) → ArgumentFits parent keyword argument
  argument_fits parent keyword argument spared = elim (cases_Bool (argument_has (form_of parent keyword) argument)) [
    | inl has ↦ elim (condition_cases (form_of parent keyword) argument) [
      | inl fits ↦ (has, fits)
      | inr unfit ↦ absurd (spared (λ h. unfit h.1))
    ]
    | inr hasnt ↦ absurd (spared (λ h. (let bad : false ≡ true = sym hasnt ∙ h.0 in cc)))
  ]

  own_fits : (x : Xpath) (parent : Keyword) (s : Tree) → ((f : Refusal) → OwnRefusal x parent s f → ⊥) → OwnFits x parent s
  own_fits x parent s clear = record {
    supported = false_from_ne_true _ (λ e. clear (refusal_at code.Unsupported 0 s.head) (inl (e, refl)));
    known = λ e. clear (refusal_at code.UnknownStatement 0 s.head) (inr (inl (e, refl)));
    argument = argument_fits parent (keyword_at s) s.head.argument (λ unfit. clear (refusal_at code.BadArgument 0 s.head) (inr (inr (unfit, refl))));
  }

  -- a statement whose block fits where nothing in it is faulty
  statement_spared : (x : Xpath) (parent : Keyword) (s : Tree) → ((f : Refusal) → Faulty x parent s f → ⊥)
      → (keyword_at s ≢ word.Extended → (k : ℕ) (c : Tree) → slice_get (trees s.children) k ≡ Some c → FitsIn x (keyword_at s) c) → FitsIn x parent s
  statement_spared x parent s clear each = elim (cases_Bool (same (keyword_at s) word.Extended)) [
    | inl is ↦ extension (one (keyword_at s) word.Extended is)
    | inr isnt ↦
        let ordinary : keyword_at s ≢ word.Extended = other (keyword_at s) word.Extended isnt in
        plain (own_fits x parent s (λ f bad. clear f (own ordinary bad))) (is_counted s (λ f bad. clear f (number ordinary bad))) (each ordinary)
  ]

  block_spared : (x : Xpath) (parent : Keyword) (block : Forest) → ((k : ℕ) (c : Tree) (f : Refusal) → slice_get (trees block) k ≡ Some c → Faulty x parent c f → ⊥) → (k : ℕ) (c : Tree)
      → slice_get (trees block) k ≡ Some c → FitsIn x parent c
  block_spared x parent End clear k c at = absurd (let bad : None ≡ Some c = at in cc)
  block_spared x parent (Then h inner o) clear zero c at =
      let s : Tree = record { head = h; children = inner } in
      subst (FitsIn x parent) (same_Some s c at)
      (statement_spared x parent s (λ f bad. clear 0 s f refl bad)
      (λ ordinary j d there. block_spared x (keyword_of h.keyword) inner (λ i y f here bad. clear 0 s f refl (below i y ordinary here bad)) j d there))
  block_spared x parent (Then h inner o) clear (suc k) c at = block_spared x parent o (λ i d f there bad. clear (suc i) d f there bad) k c at

  pub file_spared : (x : Xpath) (t : Tree) → ((f : Refusal) → Bad x t f → ⊥) → Fits x t
  file_spared x t clear = (
    elim (cases_Bool (is_module (keyword_at t))) [
      | inl is ↦ is
      | inr isnt ↦ absurd (clear (refusal_at code.Cardinality 0 t.head) (inl (isnt, refl)))
    ],
    statement_spared x word.Unknown t (λ f bad. clear f (inr bad))
        (λ ordinary k c at. block_spared x (keyword_at t) t.children (λ i d f there bad. clear f (inr (below i d ordinary there bad))) k c at),
  )
