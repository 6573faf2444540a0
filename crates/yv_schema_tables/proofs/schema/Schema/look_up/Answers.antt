use Rattle.std.proofs.Common.{ap, sym, ◌∙◌, arith}
use Rattle.std.proofs.lemmas.Str.Pattern.{split_once_first}
use Rattle.yv_schema_tables.specs.Sound.{inside, member_named}
use Rattle.yv_schema_tables.proofs.Colons.{cut_found, none_in}
use Rattle.yv_schema_tables.proofs.schema.Schema.look_up.Goals as goal

pub returns-in_err-module_file-in-Some-clause-value : goal.returns-in_err-module_file-in-Some-clause-value
returns-in_err-module_file-in-Some-clause-value c =
    let s = c.args.self.now in
    let owner = c.in-Some.module.now in
    let name = c.in-Some.name.now in
    let parts = rw c.in-Some.is at (split_once_first 58 c.args.member.now c.split_once.result c.split_once.ensures.cases (omega arith)) in
    let cut = cut_found c.args.member.now owner name parts.0 parts.1 parts.2 in
    c.from_residual.ensures ∙ sym (c.in_err-module_file-in-Some.ensures.unknown c.args.parent name c.requires cut.0) ∙ ap (member_named s (inside s c.args.parent)) (sym cut.1)

pub returns-in_ok-module_file-in-Some-clause-value : goal.returns-in_ok-module_file-in-Some-clause-value
returns-in_ok-module_file-in-Some-clause-value c =
    let s = c.args.self.now in
    let owner = c.in-Some.module.now in
    let name = c.in-Some.name.now in
    let parts = rw c.in-Some.is at (split_once_first 58 c.args.member.now c.split_once.result c.split_once.ensures.cases (omega arith)) in
    let cut = cut_found c.args.member.now owner name parts.0 parts.1 parts.2 in
    c.find_in.ensures ∙ c.directory-directory.ensures.answers.fronted owner name c.in_ok-module_file-in-Some.field-0 (sym c.in_ok-module_file-in-Some.ensures.value) ∙ ap (member_named s (inside s c.args.parent)) (sym cut.1)

pub returns-in-None-clause-value : goal.returns-in-None-clause-value
returns-in-None-clause-value c =
    let none = rw c.in-None.is at (split_once_first 58 c.args.member.now c.split_once.result c.split_once.ensures.cases (omega arith)) in
    c.find_in-in-None.ensures ∙ c.directory-directory.ensures.answers.bare c.args.member.now (none_in c.args.member.now none)
