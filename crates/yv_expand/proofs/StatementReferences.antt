-- A statement refers to one definition, which is a statement too.
use Rattle.std.proofs.Common.{◌≡◌, ℕ, ◌<◌, ◌⊎◌, inl, inr, Bool, true, false, ◌&&◌, not, List, length, refl, sym, ◌∙◌, ap, codes, Option, Some, None}
use Rattle.std.specs.List.{slice_get}
use Rattle.std.specs.Str.{bytes_eq}
use Rattle.std.proofs.lemmas.Option.{same_Some, slice_get_within}
use Rattle.yv_link_scopes.specs.Names.{local_of}
use Rattle.yv_link_scopes.specs.Files.{Briefs}
use Rattle.yv_link_scopes.specs.Rows.{Row, name_in}
use Rattle.yv_link_scopes.specs.Scopes.{MeansFrom, MeansIn, start_of}
use Rattle.yv_link_scopes.specs.declared.kind.NameKind.{NameKind}
use Rattle.yv_link_scopes.specs.declared.kind.NameKind.TheVariants.{Prefix, Include, Typedef, Grouping, Feature, Identity, Extension}
use Rattle.yv_link_definitions.specs.BuiltIn.{is_built_in}
use Rattle.yv_link_definitions.specs.Refers.{RefersTo, is_type, is_uses, names_definition}
use Rattle.yv_expand_statements.specs.StatementBlocks.{is_operation}
use Rattle.yv_expand.proofs.Words.{word_is, false_true, named_no_operation}

abbrev pub MeansOne : Type 0
MeansOne = (files : Briefs) (rows : List Row) (kind : NameKind) (number : ℕ) (name : List ℕ) (d e : Option ℕ) → MeansIn files rows kind number name d → MeansIn files rows kind number name e → d ≡ e

type_or_uses : (r : Row) → is_type r ≡ true → is_uses r ≡ true → ⊥
type_or_uses r t u = false_true (ap (λ (w : List ℕ). bytes_eq w (codes "uses")) (sym (word_is r.head (codes "type") t)) ∙ u)

both_true : (a b : Bool) → (a && b) ≡ true → a ≡ true
both_true true b h = refl
both_true false b h = absurd (false_true h)

-- what names a definition is a type or a uses
named_kind : (kind : NameKind) (r : Row) → names_definition kind r ≡ true → ((kind ≡ Typedef) × (is_type r ≡ true)) ⊎ ((kind ≡ Grouping) × (is_uses r ≡ true))
named_kind Prefix r h = absurd (false_true h)
named_kind Include r h = absurd (false_true h)
named_kind Typedef r h = inl (refl, both_true (is_type r) (not (is_built_in (name_in r))) h)
named_kind Grouping r h = inr (refl, h)
named_kind Feature r h = absurd (false_true h)
named_kind Identity r h = absurd (false_true h)
named_kind Extension r h = absurd (false_true h)

one_kind : (a b : NameKind) (r : Row) → names_definition a r ≡ true → names_definition b r ≡ true → a ≡ b
one_kind a b r h g = elim (named_kind a r h) [
  | inl (e, t) ↦ elim (named_kind b r g) [ inl (f, s) ↦ e ∙ sym f | inr (f, u) ↦ absurd (type_or_uses r t u) ]
  | inr (e, u) ↦ elim (named_kind b r g) [ inl (f, t) ↦ absurd (type_or_uses r t u) | inr (f, v) ↦ e ∙ sym f ]
]

pub refers_one : MeansOne → (files : Briefs) (rows : List Row) (k d c : ℕ) → RefersTo files rows k d → RefersTo files rows k c → d ≡ c
refers_one one files rows k d c p q =
    let same : q.1.statement ≡ p.1.statement = same_Some q.1.statement p.1.statement (sym q.1.at ∙ p.1.at) in
    let names : names_definition q.0 p.1.statement ≡ true = ap (names_definition q.0) (sym same) ∙ q.1.names in
    let kinds : q.0 ≡ p.0 = one_kind q.0 p.0 p.1.statement names p.1.names in
    let means : MeansIn files rows p.0 k (name_in p.1.statement) (Some c) = rw (← kinds, ← same) q.1.means in
    same_Some d c (one files rows p.0 k (name_in p.1.statement) (Some d) (Some c) p.1.means means)

-- what is meant is a statement
pub meant_within : (files : Briefs) (rows : List Row) (k d : ℕ) → RefersTo files rows k d → d < length rows
meant_within files rows k d (kind, h) = by (start_of files rows k (name_in h.statement)) h.means
  where
    by : (o : Option ℕ) → MeansFrom kind rows (local_of (name_in h.statement)) o (Some d) → d < length rows
    by None e = absurd (let bad : Some d ≡ None = e in cc)
    by (Some block) m = slice_get_within rows d m.0.2.0 m.0.2.1

-- what refers to a definition is a type or a uses
pub refers_word : (files : Briefs) (rows : List Row) (k d : ℕ) (r : Row) → slice_get rows k ≡ Some r → RefersTo files rows k d → (is_type r ≡ true) ⊎ (is_uses r ≡ true)
refers_word files rows k d r at (kind, h) =
    let same : h.statement ≡ r = same_Some h.statement r (sym h.at ∙ at) in
    elim (named_kind kind h.statement h.names) [
      | inl (e, t) ↦ inl (ap is_type (sym same) ∙ t)
      | inr (e, u) ↦ inr (ap is_uses (sym same) ∙ u)
    ]

-- so no operation does
pub operation_refers : (files : Briefs) (rows : List Row) (k d : ℕ) (r : Row) → slice_get rows k ≡ Some r → is_operation r ≡ true → RefersTo files rows k d → ⊥
operation_refers files rows k d r at is refers =
    false_true (sym (named_no_operation r (refers_word files rows k d r at refers)) ∙ is)
