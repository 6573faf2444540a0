-- Only private clauses cite this: what is found on the types before they are judged.
use Rattle.std.specs.Prelude.{List}
use Rattle.yv_link_scopes.specs.Files.{Briefs}
use Rattle.yv_link_scopes.specs.Rows.{Row}
use Rattle.yv_type_chains.specs.Refusals.{IsMisfit}
use Rattle.yv_type_chains.specs.InnerTables.{AreBased}
use Rattle.yv_type_chains.specs.InnerCounts.{AreCounts}
use Rattle.yv_type_chains.specs.InnerMarks.{AreMarked, Meets}
use Rattle.yv_type_chains.specs.declared.findings.Findings.{Findings}

pub record AreFound (files : Briefs) (rows : List Row) (found : Findings) : Type 0 where
  pub based : AreBased files rows found.bases.items
  pub counted : AreCounts files rows found.counts.items
  pub misfits : AreMarked (IsMisfit files rows) rows found.misfits.items
  pub met : AreMarked (Meets rows) rows found.met.items
