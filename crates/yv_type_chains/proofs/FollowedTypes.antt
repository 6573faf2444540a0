-- The type that a type follows.
use Rattle.std.proofs.Common.{◌≡◌, ℕ, ◌<◌, ◌↔◌, true, false, not, List, length, sym, ◌∙◌, ap, Option, Some, None, codes}
use Rattle.std.specs.List.{slice_get}
use Rattle.std.specs.Str.{bytes_eq}
use Rattle.std.proofs.lemmas.Bool.{false≢true}
use Rattle.std.proofs.lemmas.Option.{same_Some, slice_get_within}
use Rattle.yv_link_scopes.specs.Files.{Briefs}
use Rattle.yv_link_scopes.specs.Rows.{Row, name_in}
use Rattle.yv_link_scopes.specs.declared.kind.NameKind.{NameKind}
use Rattle.yv_link_scopes.specs.declared.kind.NameKind.TheVariants.{Prefix, Include, Typedef, Grouping, Feature, Identity, Extension}
use Rattle.yv_link_definitions.specs.BuiltIn.{is_built_in}
use Rattle.yv_link_definitions.specs.Refers.{Refers, RefersTo, is_type, names_definition}
use Rattle.yv_type_chains.specs.Types.{Follows, type_of}
use Rattle.yv_type_chains.proofs.Words.{both_true, word_once}

no_number : (d : ℕ) → None ≡ Some d → ⊥
no_number d e = cc

type_uses : codes "type" ≡ codes "uses" → ⊥
type_uses e = false≢true (ap (λ word. bytes_eq word (codes "uses")) e)

-- what a type refers to is a typedef
by_kind : (files : Briefs) (rows : List Row) (k d : ℕ) (r : Row) (kind : NameKind) → slice_get rows k ≡ Some r → is_type r ≡ true → Refers files rows kind k d → Refers files rows Typedef k d
by_kind files rows k d r Typedef at is h = h
by_kind files rows k d r Grouping at is h =
    let same : h.statement ≡ r = same_Some h.statement r (sym h.at ∙ at) in
    absurd (type_uses (word_once r.head (codes "type") (codes "uses") is (ap (names_definition Grouping) (sym same) ∙ h.names)))
by_kind files rows k d r Prefix at is h = absurd (false≢true h.names)
by_kind files rows k d r Include at is h = absurd (false≢true h.names)
by_kind files rows k d r Feature at is h = absurd (false≢true h.names)
by_kind files rows k d r Identity at is h = absurd (false≢true h.names)
by_kind files rows k d r Extension at is h = absurd (false≢true h.names)

pub refers_type : (files : Briefs) (rows : List Row) (k d : ℕ) (r : Row) → slice_get rows k ≡ Some r → is_type r ≡ true → RefersTo files rows k d → Refers files rows Typedef k d
refers_type files rows k d r at is h = by_kind files rows k d r h.0 at is h.1

-- a type that names a typedef is a type, and names no built-in type
pub names_type : (files : Briefs) (rows : List Row) (k d : ℕ) (r : Row) → slice_get rows k ≡ Some r → Refers files rows Typedef k d → (is_type r ≡ true) × (not (is_built_in (name_in r)) ≡ true)
names_type files rows k d r at h =
    let same : h.statement ≡ r = same_Some h.statement r (sym h.at ∙ at) in
    both_true (is_type r) (not (is_built_in (name_in r))) (ap (names_definition Typedef) (sym same) ∙ h.names)

module _ (files : Briefs) (rows : List Row) (k : ℕ) (r : Row) (here : slice_get rows k ≡ Some r) where
  pub follows_out : is_type r ≡ false → (j : ℕ) → (None ≡ Some j) ↔ Follows files rows k j
  follows_out out j = (
    λ e. absurd (no_number j e),
    λ f. absurd (false≢true (sym out ∙ (names_type files rows k f.definition r here f.refers).0)),
  )

  pub follows_none : (o : Option ℕ) → ((d : ℕ) → (o ≡ Some d) ↔ RefersTo files rows k d) → o ≡ None → (j : ℕ) → (None ≡ Some j) ↔ Follows files rows k j
  follows_none o means e j = (
    λ b. absurd (no_number j b),
    λ f. absurd (no_number f.definition (sym e ∙ (means f.definition).1 (Typedef, f.refers))),
  )

  pub follows_some : (o result : Option ℕ) (d : ℕ) → is_type r ≡ true → ((d : ℕ) → (o ≡ Some d) ↔ RefersTo files rows k d) → o ≡ Some d → result ≡ type_of rows d → (j : ℕ) → (result ≡ Some j) ↔ Follows files rows k j
  follows_some o result d is means e first j = (
    λ b. record { definition = d; refers = refers_type files rows k d r here is ((means d).0 e); stands = sym first ∙ b },
    λ f.
        let same : d ≡ f.definition = same_Some d f.definition (sym e ∙ (means f.definition).1 (Typedef, f.refers)) in
        first ∙ ap (type_of rows) same ∙ f.stands,
  )

-- what follows is a statement
pub follower_within : (files : Briefs) (rows : List Row) (k j : ℕ) → Follows files rows k j → k < length rows
follower_within files rows k j f = slice_get_within rows k f.refers.statement f.refers.at
