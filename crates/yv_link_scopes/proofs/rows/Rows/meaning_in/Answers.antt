use Rattle.std.proofs.Common.{◌≡◌, List, map, sym, ap, ◌∙◌, subst}
use Rattle.yv_link_scopes.specs.Tables.{first_of, table_of}
use Rattle.yv_link_scopes.specs.Rows.{Row, row}
use Rattle.yv_link_scopes.specs.RowList.{rows_of}
use Rattle.yv_link_scopes.specs.Scopes.{AreNested, Means}
use Rattle.yv_link_scopes.specs.declared.kind.NameKind.{NameKind}
use Rattle.yv_link_scopes.proofs.Bodies.{rows_nested}
use Rattle.yv_link_scopes.proofs.rows.Rows.meaning_in.Goals as goal

pub meaning_at-requires : goal.meaning_at-requires
meaning_at-requires c =
    let same : map row c.deref.result.now ≡ rows_of c.args.self.now.roots.now = ap (map row) c.deref.ensures.value ∙ c.args.self.now.listed in
    subst (λ (rs : List Row). AreNested rs) (sym same) (rows_nested c.args.self.now.roots.now)

pub returns : goal.returns
returns c =
    let same : map row c.deref.result.now ≡ rows_of c.args.self.now.roots.now = ap (map row) c.deref.ensures.value ∙ c.args.self.now.listed in
    subst (λ (rs : List Row). (kind : NameKind) → table_of c.args.places.now ≡ first_of kind rs → Means kind rs c.args.block c.args.name.now c.meaning_at.result) same c.meaning_at.ensures
