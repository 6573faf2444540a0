use Rattle.std.proofs.Common.{◌∙◌, ℕ, List, Some, refl, string_bytes, subst, sym}
use Rattle.yv_batch.specs.AskedDocument.{asked_of}
use Rattle.yv_batch.specs.LinesLeft.{lines_of}
use Rattle.yv_batch.specs.Supply.{Takes}
use Rattle.yv_batch.proofs.LineLemmas.{blank_more, document_after, end_after}
use Rattle.yv_batch.proofs.SupplyLemmas.{same_start}
use Rattle.yv_batch.proofs.lines.Lines.fetch.Goals as goal

pub loop-init : goal.loop-init
loop-init g c = record { same = same_start (lines_of g.R.Read.remaining c.args.self.now); source = refl }

pub loop-preserved : goal.loop-preserved
loop-preserved g c = record {
  same = blank_more (string_bytes c.loop.self.source) (lines_of g.R.Read.remaining c.args.self.now) (lines_of g.R.Read.remaining c.loop.self) (lines_of g.R.Read.remaining c.next_line.new.self)
      c.next_line.result c.in-Blank.is c.loop.invariant.same c.next_line.ensures.line;
  source = c.next_line.ensures.source ∙ c.loop.invariant.source;
}

pub returns-in-Document : goal.returns-in-Document
returns-in-Document g c =
    let old = lines_of g.R.Read.remaining c.args.self.now in
    let new = lines_of g.R.Read.remaining c.next_line.new.self in
    subst (λ (name : List ℕ). Takes old new (Some (asked_of name c.in-Document.fetched))) (sym c.next_line.ensures.source)
    (document_after (string_bytes c.loop.self.source) old (lines_of g.R.Read.remaining c.loop.self) new c.next_line.result c.in-Document.fetched c.in-Document.is c.loop.invariant.same c.next_line.ensures.line)

pub returns-in-End : goal.returns-in-End
returns-in-End g c =
    end_after (string_bytes c.loop.self.source) (lines_of g.R.Read.remaining c.args.self.now) (lines_of g.R.Read.remaining c.loop.self) (lines_of g.R.Read.remaining c.next_line.new.self)
    c.next_line.result c.in-End.is c.loop.invariant.same c.next_line.ensures.line

pub returns : goal.returns
returns g c =
    let old = lines_of g.R.Read.remaining c.args.self.now in
    let new = lines_of g.R.Read.remaining c.lose.new.self in
    subst (λ (name : List ℕ). Takes old new (Some (asked_of name c.lose.result))) (sym c.lose.ensures.source) (c.lose.ensures.line old)
