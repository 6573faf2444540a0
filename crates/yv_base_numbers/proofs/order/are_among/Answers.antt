use Rattle.std.proofs.Common.{◌∙◌, sym, subst, ℕ, length, rules}
use Rattle.std.specs.Prelude.{◌≡◌, false, int_le}
use Rattle.std.specs.List.{AllWithin}
use Rattle.std.proofs.lemmas.List.Sorted.{IsPartitionPoint-from_clause}
use Rattle.yv_base_numbers.specs.declared.intervals.Span.{Span}
use Rattle.yv_base_numbers.specs.Numbers.{integer}
use Rattle.yv_base_numbers.proofs.Halves.{parted, none_begins, last_begins, spans_fall, among_spans}
use Rattle.yv_base_numbers.proofs.order.are_among.Goals as goal

pub returns-then-count-eq0 : goal.returns-then-count-eq0
returns-then-count-eq0 c =
    let z = integer c.args.number in
    let begins = λ (s : Span). int_le (integer s.low) z in
    let reaches = λ (s : Span). int_le z (integer s.high) in
    let xs = c.args.spans.now in
    let point = IsPartitionPoint-from_clause begins _ _ c.partition_point-count.ensures.partitioned (parted begins reaches xs (spans_fall z xs c.requires)) (λ a r q k. search rules) in
    sym (among_spans z xs ∙ none_begins begins reaches xs (subst (λ (n : ℕ). AllWithin (λ s. begins s ≡ false) xs n (length xs)) c.if-count-eq0.true point.1))

pub returns : goal.returns
returns c =
    let z = integer c.args.number in
    let begins = λ (s : Span). int_le (integer s.low) z in
    let reaches = λ (s : Span). int_le z (integer s.high) in
    let xs = c.args.spans.now in
    let falls = spans_fall z xs c.requires in
    let point = IsPartitionPoint-from_clause begins _ _ c.partition_point-count.ensures.partitioned (parted begins reaches xs falls) (λ a r q k. search rules) in
    c.is_at_most.ensures ∙ sym (among_spans z xs ∙ last_begins begins reaches xs c.partition_point-count.result _ falls c.if-count-eq0.false c.partition_point-count.ensures.bound point.0 point.1)
