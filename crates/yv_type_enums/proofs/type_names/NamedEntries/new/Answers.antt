use Rattle.std.proofs.Common.{◌≡◌, ◌∙◌, ap, subst, sym}
use Rattle.std.proofs.lemmas.Result.{IfOk-weaker}
use Rattle.yv_base_numbers.specs.Numberings.{number_entries, is_wrong, IsFirstWrong}
use Rattle.yv_type_enums.specs.InnerEntries.{entries_in, refusal_of_entry, borrow}
use Rattle.yv_type_enums.specs.Names.{IsRefusal}
use Rattle.yv_type_enums.proofs.Faults.{fault_is}
use Rattle.yv_type_enums.proofs.type_names.NamedEntries.new.Goals as goal

pub returns-clause-fault : goal.returns-clause-fault
returns-clause-fault c =
    let kind = c.args.kind in
    let t = c.args.statement.now in
    let first = c.in_ok-found.found.first_wrong in
    let cs = borrow c.deref-2.result.now in
    let same = ap borrow c.deref-2.ensures.value ∙ c.in_ok-lines.ensures in
    let wrong = subst (λ ls. IsFirstWrong (number_entries kind) (is_wrong kind) (entries_in kind ls) first) (c.deref.ensures.value ∙ sym c.deref-2.ensures.value) c.in_ok-found.ensures.wrong in
    IfOk-weaker c.make.result (λ l. l.fault ≡ refusal_of_entry c.args.file cs first) (λ l. IsRefusal (number_entries kind) (is_wrong kind) kind c.args.file t l.fault)
    (λ l h. subst (IsRefusal (number_entries kind) (is_wrong kind) kind c.args.file t) (sym h) (fault_is (number_entries kind) (is_wrong kind) kind c.args.file t cs first same wrong))
    c.make.ensures.fault
