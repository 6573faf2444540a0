use Rattle.std.proofs.Common.{sym, subst}
use Rattle.std.specs.Prelude.{IfOk}
use Rattle.yv_text_statement.specs.Order.{IsLeast}
use Rattle.yv_values.specs.Types.{plain_of}
use Rattle.yv_values.specs.declared.plain.PlainType.{PlainType}
use Rattle.yv_type_restrictions.specs.FacetRefusals.{BadFacets}
use Rattle.yv_type_restrictions.proofs.facets.narrow.Goals as goal

pub returns-in-Text-clause-fault : goal.returns-in-Text-clause-fault
returns-in-Text-clause-fault c =
    subst (λ (p : PlainType). IfOk c.text.result (λ n. IsLeast (BadFacets c.args.file c.args.statement.now (plain_of p)) n.fault)) (sym c.in-Text.is) c.text.ensures.fault

pub returns-in_ok-binary-in-Binary-clause-fault : goal.returns-in_ok-binary-in-Binary-clause-fault
returns-in_ok-binary-in-Binary-clause-fault c =
    subst (λ (p : PlainType). IsLeast (BadFacets c.args.file c.args.statement.now (plain_of p)) c.in_ok-binary-in-Binary.field-0.fault) (sym c.in-Binary.is) c.in_ok-binary-in-Binary.ensures.fault
