-- A statement refers to one definition.
use Rattle.std.proofs.Common.{◌⊎◌, inl, inr, ◌≡◌, ℕ, ◌&&◌, not, Bool, true, false, List, map, refl, sym, ◌∙◌, ap, subst, codes, Option, Some}
use Rattle.std.proofs.lemmas.Bool.{false≢true}
use Rattle.std.proofs.lemmas.Option.{same_Some}
use Rattle.std.proofs.lemmas.Slice.Eq.{bytes_eq-Decides}
use Rattle.yv_link_scopes.specs.Files.{Briefs, Files, brief_of}
use Rattle.yv_link_scopes.specs.RowList.{rows_of}
use Rattle.yv_link_scopes.specs.Rows.{Row, name_in}
use Rattle.yv_link_scopes.specs.Scopes.{MeansIn}
use Rattle.yv_link_scopes.specs.declared.kind.NameKind.{NameKind}
use Rattle.yv_link_scopes.specs.declared.kind.NameKind.TheVariants.{Prefix, Include, Typedef, Grouping, Feature, Identity, Extension}
use Rattle.yv_link_definitions.specs.BuiltIn.{is_built_in}
use Rattle.yv_link_definitions.specs.Refers.{is_type, is_uses, names_definition}
use Rattle.yv_expand_definition.proofs.GivenNodeUniqueness.{RefersToOne}

abbrev pub MeansOne : Type 0
MeansOne = (files : Briefs) (rows : List Row) (kind : NameKind) (number : ℕ) (name : List ℕ) (d e : Option ℕ) → MeansIn files rows kind number name d → MeansIn files rows kind number name e → d ≡ e

left_true : (a b : Bool) → (a && b) ≡ true → a ≡ true
left_true true b e = refl
left_true false b e = e

-- a type that names a typedef, or a uses
named : (kind : NameKind) (r : Row) → names_definition kind r ≡ true → ((kind ≡ Typedef) × (is_type r ≡ true)) ⊎ ((kind ≡ Grouping) × (is_uses r ≡ true))
named Typedef r e = inl (refl, left_true (is_type r) (not (is_built_in (name_in r))) e)
named Grouping r e = inr (refl, e)
named Prefix r e = absurd (false≢true e)
named Include r e = absurd (false≢true e)
named Feature r e = absurd (false≢true e)
named Identity r e = absurd (false≢true e)
named Extension r e = absurd (false≢true e)

no_both : (r : Row) → is_type r ≡ true → is_uses r ≡ true → ⊥
no_both r t u =
    false≢true ((bytes_eq-Decides (codes "type") (codes "uses")).1
    (sym ((bytes_eq-Decides r.head.keyword (codes "type")).0 t) ∙ (bytes_eq-Decides r.head.keyword (codes "uses")).0 u))

pub refers_to_one : MeansOne → (files : Files) → RefersToOne files
refers_to_one one files k d e p q = by (named p.0 r p.1.names) (named q.0 r (ap (names_definition q.0) (sym same) ∙ q.1.names))
  where
    r : Row
    r = p.1.statement

    same : q.1.statement ≡ p.1.statement
    same = same_Some q.1.statement p.1.statement (sym q.1.at ∙ p.1.at)

    of_one : (kind : NameKind) → p.0 ≡ kind → q.0 ≡ kind → d ≡ e
    of_one kind a b =
        same_Some d e (one (map brief_of files) (rows_of files) kind k (name_in p.1.statement) (Some d) (Some e)
        (subst (λ x. MeansIn (map brief_of files) (rows_of files) x k (name_in p.1.statement) (Some d)) a p.1.means)
        (subst (λ x. MeansIn (map brief_of files) (rows_of files) x k (name_in p.1.statement) (Some e)) b
        (subst (λ (s : Row). MeansIn (map brief_of files) (rows_of files) q.0 k (name_in s) (Some e)) same q.1.means)))

    by : ((p.0 ≡ Typedef) × (is_type p.1.statement ≡ true)) ⊎ ((p.0 ≡ Grouping) × (is_uses p.1.statement ≡ true))
        → ((q.0 ≡ Typedef) × (is_type p.1.statement ≡ true)) ⊎ ((q.0 ≡ Grouping) × (is_uses p.1.statement ≡ true)) → d ≡ e
    by (inl (a, t)) (inl (b, u)) = of_one Typedef a b
    by (inr (a, t)) (inr (b, u)) = of_one Grouping a b
    by (inl (a, t)) (inr (b, u)) = absurd (no_both p.1.statement t u)
    by (inr (a, t)) (inl (b, u)) = absurd (no_both p.1.statement u t)
