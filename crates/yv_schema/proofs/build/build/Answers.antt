use Rattle.std.proofs.Common.{◌≡◌, List, sym, subst, IfOk, OnOk, None}
use Rattle.std.specs.declared.option.Option.{Option}
use Rattle.std.specs.declared.result.Result.{Result}
use Rattle.std.proofs.lemmas.Result.{IfOk-weaker}
use Rattle.yv_text_statement.specs.Order.{IsLeast}
use Rattle.yv_text_statement.specs.declared.refusal.Refusal.{Refusal}
use Rattle.yv_text_statement.specs.declared.refusal.Stop.{Stop}
use Rattle.yv_nodes.specs.Link.{Link}
use Rattle.yv_nodes.specs.Rows.{Rows, whole}
use Rattle.yv_nodes.specs.Tree.{Forest}
use Rattle.yv_node_leafrefs.specs.Resolution.{IsTyped}
use Rattle.yv_node_leafrefs.specs.Links.{AreLinks}
use Rattle.yv_schema_tables.specs.Bad.{BadRows}
use Rattle.yv_schema.specs.InnerBuild.{HasLeast}
use Rattle.yv_schema.specs.InnerBasis.{leafrefs_of, stated_of}
use Rattle.yv_schema.specs.InnerParts.{BadOther}
use Rattle.yv_schema.proofs.BuildRefusals.{both_clear, first_stands, on_ok_from}
use Rattle.yv_schema.proofs.build.build.Goals as goal

pub returns-clause-schema : goal.returns-clause-schema
returns-clause-schema c = λ b p.
    let made = c.number_nodes.ensures.schema p.tree p.rows p.top in
    IfOk-weaker c.with_refusal.result _ _
    (λ s h.
    let same : whole s ≡ p.tree = subst (λ (o : Result Rows Stop). IfOk o (λ t. whole t ≡ p.tree)) h.0 made in
    subst (λ (ts : Forest). IsTyped (leafrefs_of b) (stated_of b) ts) (sym same) p.is) c.with_refusal.ensures.clear

pub returns-clause-references : goal.returns-clause-references
returns-clause-references c = λ b p.
    IfOk-weaker c.with_refusal.result _ _
    (λ s h.
    let same : s.links ≡ c.args.parts.links = subst (λ (o : Result Rows Stop). IfOk o (λ t. t.links ≡ c.args.parts.links)) h.0 c.number_nodes.ensures.links in
    subst (λ (ls : List (Option Link)). AreLinks (leafrefs_of b) ls) (sym same) (p.links h.1)) c.with_refusal.ensures.clear

pub returns-clause-clear : goal.returns-clause-clear
returns-clause-clear c = λ b p.
    let duplicate = c.number_nodes.ensures.clear p.tree p.rows p.top in
    on_ok_from c.with_refusal.result
    (λ s h. let x : HasLeast b None = record {
      tree = p.tree;
      is = p.is;
      least = both_clear b p.tree (subst (λ (o : Result Rows Stop). OnOk o (IsLeast (BadRows p.tree) None)) h.0 duplicate)
          (subst (λ (o : Option Refusal). IsLeast (BadOther b p.tree) o) h.1 p.wrong);
    } in x) c.with_refusal.ensures.clear

pub returns-clause-refusal : goal.returns-clause-refusal
returns-clause-refusal c = λ b p.
    let duplicate = c.number_nodes.ensures.clear p.tree p.rows p.top in
    λ r e. record {
      tree = p.tree;
      is = p.is;
      least = first_stands b p.tree c.number_nodes.result _ r duplicate (c.number_nodes.ensures.refusal p.tree p.rows p.top) p.wrong (c.with_refusal.ensures.refusal r e);
    }
