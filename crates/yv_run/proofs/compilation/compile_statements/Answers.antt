use Rattle.yv_text_statement.specs.Selection.{selected_of}
use Rattle.yv_run.specs.Compiles.{refuses}
use Rattle.yv_run.proofs.FileLemmas.{all_given, is_schema}
use Rattle.yv_run.proofs.compilation.compile_statements.Goals as goal

pub returns-clause-schema : goal.returns-clause-schema
returns-clause-schema c = λ files read.
    is_schema (selected_of c.args.selection.now) c.args.limit files c.args.statements.now c.compile.result read
    (all_given (selected_of c.args.selection.now) c.args.statements.now c.args.limit c.compile.result
    c.compile.ensures.schema c.compile.ensures.limit c.compile.ensures.modules
    c.compile.ensures.augments c.compile.ensures.references c.compile.ensures.sound)
    c.compile.ensures.clear

pub returns-clause-refuses : goal.returns-clause-refuses
returns-clause-refuses c = λ files read r e. refuses c.args.statements.now read (c.compile.ensures.refusal r e)

pub returns-clause-builds : goal.returns-clause-builds
returns-clause-builds c = λ files read e. record {
  trees = c.args.statements.now;
  read = read;
  clear = c.compile.ensures.before e;
  pattern = c.compile.ensures.builds e;
}
