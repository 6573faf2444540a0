use Rattle.std.proofs.Common.{◌≡◌, ◌∙◌, ℕ, List, refl, sym, ap, subst, cond, Some, is_some}
use Rattle.std.specs.Rc.{rc_str_bytes}
use Rattle.std.specs.Str.{bytes_eq}
use Rattle.yv_schema_tables.specs.InnerNames.{HaveNumbers, get_by_name, number_in}
use Rattle.yv_schema_tables.proofs.SharedNameTables.{put_name}
use Rattle.yv_schema_tables.proofs.NameNumbers.{number_new, numbered_more, with_new, with_old}
use Rattle.yv_schema_tables.proofs.names.NameTable.add.Goals as goal

pub returns-in-Some-clause-names : goal.returns-in-Some-clause-names
returns-in-Some-clause-names c = λ names h.
    let text = c.args.node.now.label.defined.name in
    let found : get_by_name c.args.self.now.numbers text ≡ Some c.in-Some.number = ap (get_by_name c.args.self.now.numbers) (sym c.name.ensures) ∙ sym c.number.ensures ∙ c.in-Some.is in
    subst (λ (ns : List (List ℕ)). HaveNumbers ns c.args.self.now) (sym (with_old names text (ap is_some (sym (h.each text) ∙ found)))) h

pub returns-in-Some-clause-number : goal.returns-in-Some-clause-number
returns-in-Some-clause-number c = λ names h.
    let text = c.args.node.now.label.defined.name in
    let found : get_by_name c.args.self.now.numbers text ≡ Some c.in-Some.number = ap (get_by_name c.args.self.now.numbers) (sym c.name.ensures) ∙ sym c.number.ensures ∙ c.in-Some.is in
    let known : number_in names text ≡ Some c.in-Some.number = sym (h.each text) ∙ found in
    ap (λ (ns : List (List ℕ)). number_in ns text) (with_old names text (ap is_some known)) ∙ known

pub returns-clause-names : goal.returns-clause-names
returns-clause-names c = λ names h.
    let text = c.args.node.now.label.defined.name in
    let absent = ap is_some (sym (h.each text) ∙ ap (get_by_name c.args.self.now.numbers) (sym c.name.ensures) ∙ sym c.number.ensures ∙ c.in_default.is) in
    numbered_more names c.args.self.now _ text h absent refl (λ q.
    put_name c.args.self.now.numbers c.insert.new.self (rc_str_bytes c.in_ok-shared_name.field-0) c.args.self.now.count c.in_ok-insert.ensures.updates q
    ∙ ap (λ (bs : List ℕ). cond (bytes_eq bs q) (Some c.args.self.now.count) (get_by_name c.args.self.now.numbers q)) c.in_ok-shared_name.ensures)

pub returns-clause-number : goal.returns-clause-number
returns-clause-number c = λ names h.
    let text = c.args.node.now.label.defined.name in
    let absent = ap is_some (sym (h.each text) ∙ ap (get_by_name c.args.self.now.numbers) (sym c.name.ensures) ∙ sym c.number.ensures ∙ c.in_default.is) in
    ap (λ (ns : List (List ℕ)). number_in ns text) (with_new names text absent) ∙ number_new names text absent ∙ ap Some (sym h.counted)
