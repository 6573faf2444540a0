-- Statements take one number of units at most.
use Rattle.std.proofs.Common.{◌≡◌, ℕ, List, refl, sym, ◌∙◌, ap, subst, arith, Option, Some, None}
use Rattle.std.specs.List.{slice_get}
use Rattle.std.proofs.lemmas.Option.{same_Some}
use Rattle.yv_link_scopes.specs.Files.{Briefs}
use Rattle.yv_link_scopes.specs.Rows.{Row, name_in}
use Rattle.yv_link_scopes.specs.Scopes.{MeansIn}
use Rattle.yv_link_scopes.specs.declared.kind.NameKind.{NameKind}
use Rattle.yv_link_scopes.specs.declared.kind.NameKind.TheVariants.{Grouping}
use Rattle.yv_link_definitions.specs.Refers.{RefersTo, names_definition}
use Rattle.yv_expand_statements.specs.Units.{units_of}
use Rattle.yv_expand_statements.specs.Weigh.{Weigh, nothing, other, node, uses}
use Rattle.yv_expand_statements.specs.StatementBlocks.{block_of}
use Rattle.yv_expand.proofs.UnitWords.{counts_kind}

abbrev pub MeansOne : Type 0
MeansOne = (files : Briefs) (rows : List Row) (kind : NameKind) (number : ℕ) (name : List ℕ) (d e : Option ℕ) → MeansIn files rows kind number name d → MeansIn files rows kind number name e → d ≡ e

-- what counts means one grouping
pub meant_one : MeansOne → (files : Briefs) (rows : List Row) (k d c own : ℕ) (r : Row) → slice_get rows k ≡ Some r → units_of r.head.keyword ≡ Some own → RefersTo files rows k d → RefersTo files rows k c → d ≡ c
meant_one one files rows k d c own r at e p q =
    let p_is : p.1.statement ≡ r = same_Some p.1.statement r (sym p.1.at ∙ at) in
    let q_is : q.1.statement ≡ r = same_Some q.1.statement r (sym q.1.at ∙ at) in
    let p_kind : p.0 ≡ Grouping = counts_kind p.0 r own e (ap (names_definition p.0) (sym p_is) ∙ p.1.names) in
    let q_kind : q.0 ≡ Grouping = counts_kind q.0 r own e (ap (names_definition q.0) (sym q_is) ∙ q.1.names) in
    let p_means : MeansIn files rows Grouping k (name_in r) (Some d) = rw (← p_kind, ← p_is) p.1.means in
    let q_means : MeansIn files rows Grouping k (name_in r) (Some c) = rw (← q_kind, ← q_is) q.1.means in
    same_Some d c (one files rows Grouping k (name_in r) (Some d) (Some c) p_means q_means)

units_same : (rows : List Row) (k : ℕ) (r s : Row) (a b : Option ℕ) → slice_get rows k ≡ Some r → slice_get rows k ≡ Some s → units_of r.head.keyword ≡ a → units_of s.head.keyword ≡ b → a ≡ b
units_same rows k r s a b at at' e f = sym e ∙ ap (λ (x : Row). units_of x.head.keyword) (same_Some r s (sym at ∙ at')) ∙ f

none_some : {n : ℕ} → None ≡ Some n → ⊥
none_some h = cc

module _ {files : Briefs} {rows : List Row} where
  pub weigh_one : MeansOne → {numbers : List ℕ} {n m : ℕ} → Weigh files rows numbers n → Weigh files rows numbers m → n ≡ m
  weigh_one one nothing nothing = refl
  weigh_one one (other at e w) (other at' e' w') = weigh_one one w w'
  weigh_one one (other at e w) (node at' e' none' b' w') = absurd (none_some (units_same rows _ _ _ _ _ at at' e e'))
  weigh_one one (other at e w) (uses at' e' refers' g' b' w') = absurd (none_some (units_same rows _ _ _ _ _ at at' e e'))
  weigh_one one (node at e none b w) (other at' e' w') = absurd (none_some (units_same rows _ _ _ _ _ at' at e' e))
  weigh_one one (node {own = p} at e none b w) (node {own = q} at' e' none' b' w') =
      let same : p ≡ q = same_Some p q (units_same rows _ _ _ _ _ at at' e e') in omega (arith, weigh_one one b b', weigh_one one w w')
  weigh_one one (node at e none b w) (uses {d = d} at' e' refers' g' b' w') = absurd (none d refers')
  weigh_one one (uses at e refers g b w) (other at' e' w') = absurd (none_some (units_same rows _ _ _ _ _ at' at e' e))
  weigh_one one (uses {d = d} at e refers g b w) (node at' e' none' b' w') = absurd (none' d refers)
  weigh_one one (uses {d = d} {own = p} at e refers g b w) (uses {d = c} {own = q} {g = h} at' e' refers' g' b' w') =
      let same : p ≡ q = same_Some p q (units_same rows _ _ _ _ _ at at' e e') in
      let meant : d ≡ c = meant_one one files rows _ d c p _ at e refers (subst (λ (x : ℕ). RefersTo files rows x c) refl refers') in
      omega (arith, weigh_one one g (subst (λ (x : ℕ). Weigh files rows (block_of rows x) h) (sym meant) g'), weigh_one one b b', weigh_one one w w')
