use Rattle.std.proofs.Common.{rules, ◌≡◌, ◌∙◌, List, length, map, sym, subst}
use Rattle.std.specs.List.{AllZip}
use Rattle.std.proofs.lemmas.List.{length-map}
use Rattle.yv_text_statement.specs.Tree.{Tree}
use Rattle.yv_link_scopes.specs.Views.{lent_in, rows_in}
use Rattle.yv_base_streams.specs.Files.{File, file_of}
use Rattle.yv_source.specs.FileStatements.{IsRead}
use Rattle.yv_note_patterns.specs.PatternFailure.{AreNoPatterns, HasNoPattern, read, unread}
use Rattle.yv_note_patterns.proofs.NoPattern.{none_then, same_length}
use Rattle.yv_note_patterns.proofs.pattern_failure.unbuilt_pattern.Goals as goal

pub told_among-requires : goal.told_among-requires
told_among-requires c =
    let files : List File = map file_of c.args.inputs.now in
    let trees : List Tree = lent_in c.in_ok-rows-in-Ok.rows in
    let lent : trees ≡ c.in-Ok.statements.items = search rules in
    let each : AllZip IsRead files trees = subst (AllZip IsRead files) (sym lent) (c.in-Ok.ensures.reads files c.in_ok-texts.ensures) in
    let count : length files ≡ length c.args.inputs.now = length-map c.args.inputs.now file_of in
    sym count ∙ same_length IsRead files trees each

pub returns-in-Ok-clause-none : goal.returns-in-Ok-clause-none
returns-in-Ok-clause-none c =
    let files : List File = map file_of c.args.inputs.now in
    let trees : List Tree = lent_in c.in_ok-rows-in-Ok.rows in
    let lent : trees ≡ c.in-Ok.statements.items = search rules in
    let each : AllZip IsRead files trees = subst (AllZip IsRead files) (sym lent) (c.in-Ok.ensures.reads files c.in_ok-texts.ensures) in
    none_then c.told_among.result (AreNoPatterns (rows_in c.in_ok-rows-in-Ok.rows)) (HasNoPattern files) (λ none. read trees each none) c.told_among.ensures.none

pub returns-in-Err-Fault-clause-none : goal.returns-in-Err-Fault-clause-none
returns-in-Err-Fault-clause-none c =
    let files : List File = map file_of c.args.inputs.now in
    unread c.in-Err-Fault.field-0-0 (c.in-Err-Fault.ensures.refuses files c.in_ok-texts.ensures c.in-Err-Fault.field-0-0 (search rules))
