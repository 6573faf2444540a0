use Rattle.std.proofs.Common.{map}
use Rattle.yv_text_statement.specs.Selection.{selected_of}
use Rattle.yv_base_streams.specs.Files.{file_of}
use Rattle.yv_run.proofs.FileLemmas.{err_again, refuses_unread}
use Rattle.yv_run.proofs.compilation.compile_files.Goals as goal

pub returns-in-Ok-clause-schema : goal.returns-in-Ok-clause-schema
returns-in-Ok-clause-schema c =
    (rw (c.deref.ensures.value) at c.compile_statements.ensures.schema) (map file_of c.args.inputs.now) (c.in-Ok.ensures.reads (map file_of c.args.inputs.now) c.in_ok-texts.ensures)

pub returns-in-Ok-clause-refuses : goal.returns-in-Ok-clause-refuses
returns-in-Ok-clause-refuses c =
    (rw (c.deref.ensures.value) at c.compile_statements.ensures.refuses) (map file_of c.args.inputs.now) (c.in-Ok.ensures.reads (map file_of c.args.inputs.now) c.in_ok-texts.ensures)

pub returns-in-Ok-clause-builds : goal.returns-in-Ok-clause-builds
returns-in-Ok-clause-builds c =
    (rw (c.deref.ensures.value) at c.compile_statements.ensures.builds) (map file_of c.args.inputs.now) (c.in-Ok.ensures.reads (map file_of c.args.inputs.now) c.in_ok-texts.ensures)

pub returns-clause-refuses : goal.returns-clause-refuses
returns-clause-refuses c = λ r e.
    refuses_unread (selected_of c.args.selection.now) c.args.limit (map file_of c.args.inputs.now) r
    (c.in-Err.ensures.refuses (map file_of c.args.inputs.now) c.in_ok-texts.ensures r (err_again _ _ e))
