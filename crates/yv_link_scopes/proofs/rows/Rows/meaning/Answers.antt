use Rattle.std.proofs.Common.{◌≡◌, ℕ, Option, List, map, sym, ap, ◌∙◌, subst}
use Rattle.yv_link_scopes.specs.Rows.{Row, row}
use Rattle.yv_link_scopes.specs.RowList.{rows_of}
use Rattle.yv_link_scopes.specs.Tables.{first_of, table_of}
use Rattle.yv_link_scopes.specs.Names.{local_of}
use Rattle.yv_link_scopes.specs.Views.{rows_in}
use Rattle.yv_link_scopes.specs.declared.kind.NameKind.{NameKind}
use Rattle.yv_link_scopes.specs.Scopes.{AreNested, Means, MeansFrom}
use Rattle.yv_link_scopes.proofs.Bodies.{rows_nested}
use Rattle.yv_link_scopes.proofs.rows.Rows.meaning.Goals as goal

pub meaning_at-requires : goal.meaning_at-requires
meaning_at-requires c =
    let same : map row c.deref.result.now ≡ rows_of c.args.self.now.roots.now = ap (map row) c.deref.ensures.value ∙ c.args.self.now.listed in
    subst (λ (rs : List Row). AreNested rs) (sym same) (rows_nested c.args.self.now.roots.now)

pub returns : goal.returns
returns c =
    let same : map row c.deref.result.now ≡ rows_of c.args.self.now.roots.now = ap (map row) c.deref.ensures.value ∙ c.args.self.now.listed in
    subst (λ (o : Option ℕ). (kind : NameKind) → table_of c.args.places.now ≡ first_of kind (rows_in c.args.self.now) → MeansFrom kind (rows_in c.args.self.now) (local_of c.args.name.now) o c.meaning_at.result) c.in_ok-block.ensures
    (subst (λ (text : List ℕ). (kind : NameKind) → table_of c.args.places.now ≡ first_of kind (rows_in c.args.self.now) → Means kind (rows_in c.args.self.now) c.in_ok-block.block text c.meaning_at.result) c.local.ensures
    (subst (λ (rs : List Row). (kind : NameKind) → table_of c.args.places.now ≡ first_of kind rs → Means kind rs c.in_ok-block.block c.local.result.now c.meaning_at.result) same c.meaning_at.ensures))
