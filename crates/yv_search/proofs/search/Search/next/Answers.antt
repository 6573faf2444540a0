use Rattle.std.proofs.Common.{arith, ap}
use Rattle.std.specs.Option.{option_map}
use Rattle.yv_search.specs.InnerIndex.{listed_of}
use Rattle.yv_search.specs.InnerSearch.{Comes, at_start, no_more}
use Rattle.yv_search.proofs.SearchSteps.{none_left, comes_on, finds_file}
use Rattle.yv_search.proofs.search.Search.next.Goals as goal

pub loop-self-init : goal.loop-self-init
loop-self-init c = λ listing s at. record { state = s; passes = at_start; at = at }

pub loop-self-preserved : goal.loop-self-preserved
loop-self-preserved c = λ listing s at.
    comes_on listing s c.loop-self.self c.try_next.new.self (option_map listed_of c.in_ok-file.field-0) (c.loop-self.invariant listing s at) (c.in_ok-file.ensures.tries listing) (ap (option_map listed_of) c.in_default.is)

pub returns-in-Some : goal.returns-in-Some
returns-in-Some c = λ listing s at.
    finds_file listing s c.loop-self.self c.try_next.new.self (option_map listed_of c.in_ok-file.field-0) (listed_of c.in-Some.file) (c.loop-self.invariant listing s at) (c.in_ok-file.ensures.tries listing) (ap (option_map listed_of) c.in-Some.is)

pub returns : goal.returns
returns c = λ listing s at.
    let h : Comes listing s c.loop-self.self = c.loop-self.invariant listing s at in
    no_more h.state h.passes (none_left listing c.loop-self.self h.state h.at (omega arith))
