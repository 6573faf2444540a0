use Rattle.std.proofs.Common.{◌≡◌, ◌∙◌, ap, subst, sym, ℕ, List, ◌&&◌}
use Rattle.std.specs.Prelude.{is_some}
use Rattle.std.proofs.lemmas.Result.{IfOk-weaker}
use Rattle.yv_link.specs.LinkedFiles.{truth_in}
use Rattle.yv_base_numbers.specs.Numberings.{keep_numbers, is_wrong_in, IsFirstWrong, number_in, table_of}
use Rattle.yv_type_enums.specs.Entries.{is_on_among}
use Rattle.yv_type_enums.specs.InnerEntries.{entries_in, refusal_of_entry, borrow}
use Rattle.yv_type_enums.specs.Values.{has}
use Rattle.yv_type_enums.specs.Names.{is_value, is_value_from, number_from, number_of}
use Rattle.yv_type_enums.proofs.Faults.{number_listed, of_both, values_listed}
use Rattle.yv_type_enums.proofs.type_names.NamedEntries.fewer.Goals as goal

pub returns-clause-numbers : goal.returns-clause-numbers
returns-clause-numbers c =
    let base = number_of c.args.self.now in
    let kind = c.args.kind in
    let found = c.in_ok-found.found.numbering in
    let ls = c.args.lines.now in
    let all = subst (λ sh. (s : List ℕ) → table_of found s ≡ number_in (keep_numbers (table_of sh.numbering) (entries_in kind ls)) s) c.deref.ensures c.in_ok-found.ensures.numbers in
    IfOk-weaker c.make.result (λ l. (s : List ℕ) → number_of l.names s ≡ table_of found s)
    (λ l. (s : List ℕ) → number_of l.names s ≡ number_from base (entries_in kind ls) s)
    (λ l p s. p s ∙ all s ∙ number_listed base kind (borrow ls) s c.requires)
    c.make.ensures.numbers

pub returns-clause-values : goal.returns-clause-values
returns-clause-values c =
    let base = is_value c.args.self.now in
    let listed = is_on_among (truth_in c.args.linked.now) c.args.file in
    let found = c.in_ok-found.found.numbering in
    let cs = borrow c.args.lines.now in
    of_both c.make.result (λ l. (s : List ℕ) → number_of l.names s ≡ table_of found s)
    (λ l. (s : List ℕ) → is_value l.names s ≡ ((is_some (table_of found s) && has c.deref-2.result.now.values s) && listed cs s))
    (λ l. (s : List ℕ) → is_value l.names s ≡ is_value_from base (number_of l.names) listed cs s)
    (λ l p q s.
    q s
    ∙ ap (λ sh. (is_some (table_of found s) && has sh.values s) && listed cs s) c.deref-2.ensures
    ∙ ap (λ o. (is_some o && base s) && listed cs s) (sym (p s))
    ∙ values_listed base (number_of l.names) listed cs s c.requires)
    c.make.ensures.numbers
    c.make.ensures.values

pub returns-clause-fault : goal.returns-clause-fault
returns-clause-fault c =
    let kind = c.args.kind in
    let base = number_of c.args.self.now in
    let first = c.in_ok-found.found.first_wrong in
    let ls = c.args.lines.now in
    let wrong = subst (λ sh. IsFirstWrong (keep_numbers (table_of sh.numbering)) (is_wrong_in (table_of sh.numbering)) (entries_in kind ls) first) c.deref.ensures c.in_ok-found.ensures.wrong in
    IfOk-weaker c.make.result (λ l. l.fault ≡ refusal_of_entry c.args.file (borrow ls) first) _
    (λ l h. (first, wrong, h))
    c.make.ensures.fault
