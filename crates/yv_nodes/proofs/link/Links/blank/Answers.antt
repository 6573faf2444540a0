use Rattle.std.proofs.Common.{◌≡◌, ◌∙◌, ℕ, zero, suc, List, false, None, replicate, ap, refl, sym, rules}
use Rattle.std.specs.BTreeSet.{contains}
use Rattle.std.specs.declared.option.Option.{Option}
use Rattle.std.specs.Ordering.{nat_cmp}
use Rattle.yv_nodes.specs.Link.{is_target, Link}
use Rattle.yv_nodes.specs.InnerLinks.{links_with_rest}
use Rattle.yv_nodes.proofs.link.Links.blank.Goals as goal

none_leads : (count n : ℕ) → is_target (replicate count None) n ≡ false
none_leads zero n = refl
none_leads (suc count) n = none_leads count n

pub invariant_of-result : goal.invariant_of-result
invariant_of-result c = λ n.
    let none : contains nat_cmp c.new-2.result n ≡ false = search rules in
    none ∙ sym (none_leads c.args.count n) ∙ ap (λ (ls : List (Option Link)). is_target (links_with_rest ls c.args.count) n) (sym c.new.ensures.items)
