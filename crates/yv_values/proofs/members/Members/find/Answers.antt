use Rattle.std.proofs.Common.{◌≡◌, ◌∙◌, Bool, List, is_some, false, ap, sym, rules}
use Rattle.std.specs.List.{list_any}
use Rattle.yv_values.specs.Identities.{Id, NumberedId, is_between, is_identity, numbered_of}
use Rattle.yv_values.proofs.NumberedIdentities.{is_itself, none_left, only_one}
use Rattle.yv_values.proofs.members.Members.find.Goals as goal

pub returns-in_err-entry-clause-value : goal.returns-in_err-entry-clause-value
returns-in_err-entry-clause-value c =
    let module_name = c.args.«module».now in
    let called = c.args.name.now in
    let all : List NumberedId = c.self.inside.all in
    let q : NumberedId → Bool = λ e. is_between c.self.inside.low c.self.inside.high e.number in
    let none : is_some c.from_residual.result ≡ false = search rules in
    none ∙ sym (none_left module_name called q all (sym c.in_err-entry.ensures.value)) ∙ ap (λ (ids : List Id). list_any (is_identity module_name called) ids) c.self.view_is

pub returns-then-is_between-clause-value : goal.returns-then-is_between-clause-value
returns-then-is_between-clause-value c =
    let module_name = c.args.«module».now in
    let called = c.args.name.now in
    let all : List NumberedId = c.self.inside.all in
    let q : NumberedId → Bool = λ e. is_between c.self.inside.low c.self.inside.high e.number in
    let at = c.in_ok-entry.ensures.there in
    let e : NumberedId = numbered_of c.in_ok-entry.entry.now in
    let one = only_one module_name called q all at.0 e c.self.invariant at.1 at.2 (is_itself module_name called e.id c.in_ok-entry.ensures.same) in
    sym (one ∙ sym c.is_between.ensures ∙ c.if-is_between.true) ∙ ap (λ (ids : List Id). list_any (is_identity module_name called) ids) c.self.view_is

pub returns-else-is_between-clause-value : goal.returns-else-is_between-clause-value
returns-else-is_between-clause-value c =
    let module_name = c.args.«module».now in
    let called = c.args.name.now in
    let all : List NumberedId = c.self.inside.all in
    let q : NumberedId → Bool = λ e. is_between c.self.inside.low c.self.inside.high e.number in
    let at = c.in_ok-entry.ensures.there in
    let e : NumberedId = numbered_of c.in_ok-entry.entry.now in
    let one = only_one module_name called q all at.0 e c.self.invariant at.1 at.2 (is_itself module_name called e.id c.in_ok-entry.ensures.same) in
    sym (one ∙ sym c.is_between.ensures ∙ c.if-is_between.false) ∙ ap (λ (ids : List Id). list_any (is_identity module_name called) ids) c.self.view_is
