use Rattle.std.proofs.Common.{◌≡◌, ◌∙◌, ap, subst, sym, ℕ, ◌==◌, List, map, Option}
use Rattle.std.specs.Prelude.{IfOk}
use Rattle.std.proofs.lemmas.Result.{IfOk-weaker}
use Rattle.yv_link.specs.LinkedFiles.{truth_in}
use Rattle.yv_text_statement.specs.Tree.{Tree}
use Rattle.yv_base_numbers.specs.Numberings.{keep_numbers, is_wrong_in, IsFirstWrong}
use Rattle.yv_type_enums.specs.Entries.{entry_of, is_on_among}
use Rattle.yv_type_enums.specs.InnerEntries.{entries_in, refusal_of_entry, borrow}
use Rattle.yv_type_enums.specs.Names.{IsRefusal, is_value, is_value_from, number_from, number_of}
use Rattle.yv_type_enums.proofs.Faults.{fault_is, lists_some}
use Rattle.yv_type_enums.proofs.type_names.NamedEntries.derive.Goals as goal

pub fewer-requires : goal.fewer-requires
fewer-requires c = lists_some c.deref.result.now c.is_empty.result (c.is_empty.ensures ∙ ap (λ n. n == 0) (sym c.deref.ensures.len)) c.if-is_empty.false

pub returns-clause-numbers : goal.returns-clause-numbers
returns-clause-numbers c =
    let kind = c.args.kind in
    let same = ap borrow c.deref.ensures.value ∙ c.in_ok-lines.ensures in
    subst (λ (cs : List Tree). IfOk c.fewer.result (λ l. (name : List ℕ) → number_of l.names name ≡ number_from (number_of c.args.self.now) (map (entry_of kind) cs) name)) same c.fewer.ensures.numbers

pub returns-clause-values : goal.returns-clause-values
returns-clause-values c =
    let same = ap borrow c.deref.ensures.value ∙ c.in_ok-lines.ensures in
    subst (λ (cs : List Tree). IfOk c.fewer.result (λ l. (name : List ℕ) → is_value l.names name
    ≡ is_value_from (is_value c.args.self.now) (number_of l.names) (is_on_among (truth_in c.args.linked.now) c.args.file) cs name)) same c.fewer.ensures.values

pub returns-clause-fault : goal.returns-clause-fault
returns-clause-fault c =
    let kind = c.args.kind in
    let t = c.args.statement.now in
    let base = number_of c.args.self.now in
    let ls = c.deref.result.now in
    let same = ap borrow c.deref.ensures.value ∙ c.in_ok-lines.ensures in
    IfOk-weaker c.fewer.result (λ l. (first : Option ℕ) × IsFirstWrong (keep_numbers base) (is_wrong_in base) (entries_in kind ls) first × (l.fault ≡ refusal_of_entry c.args.file (borrow ls) first))
    (λ l. IsRefusal (keep_numbers base) (is_wrong_in base) kind c.args.file t l.fault)
    (λ l h. subst (IsRefusal (keep_numbers base) (is_wrong_in base) kind c.args.file t) (sym h.2) (fault_is (keep_numbers base) (is_wrong_in base) kind c.args.file t (borrow ls) h.0 same h.1))
    c.fewer.ensures.fault
