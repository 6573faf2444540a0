-- The command line, as clap reads it: five commands with their options.
use Rattle.std.specs.Prelude.{Some, true, codes}
use Rattle.clap.specs.Lexer.{usize_max}
use Rattle.clap.specs.Words.{App, Rule, Text, new_app, new_rule, with_rule, with_subcommand}
use Rattle.clap.specs.declared.builder.action.ArgAction.TheVariants.{Set, Append, SetTrue}

-- `--id VALUE`, at most once
abbrev pub option_rule : Text → Rule
option_rule id = record (new_rule id) { long = Some id; value_names = 1; action = Some Set }

-- `--id VALUE`, any number of times
abbrev pub repeated_rule : Text → Rule
repeated_rule id = record (option_rule id) { action = Some Append }

-- `--id VALUE`, once or more
abbrev pub required_repeated_rule : Text → Rule
required_repeated_rule id = record (repeated_rule id) { required = true }

-- `--id`, at most once
abbrev pub flag_rule : Text → Rule
flag_rule id = record (new_rule id) { long = Some id; action = Some SetTrue }

-- FILE...
abbrev pub files_rule : Rule
files_rule = record (new_rule (codes "file")) {
  value_names = 1;
  range = Some (record { start_inclusive = 1; end_inclusive = usize_max });
  required = true;
}

-- with what says how results are written: `--format F` and `--measures`
abbrev pub with_output : App → App
with_output a =
    let formed = with_rule a (option_rule (codes "format")) in
    with_rule formed (flag_rule (codes "measures"))

-- with what all commands take: `--max-nodes N`, `--support S`, `--import-only L`, `--path DIR` and
-- FILE...
abbrev pub with_shared : App → App
with_shared a =
    let counted = with_rule a (option_rule (codes "max-nodes")) in
    let supported = with_rule counted (option_rule (codes "support")) in
    let chosen = with_rule supported (option_rule (codes "import-only")) in
    let searched = with_rule chosen (repeated_rule (codes "path")) in
    with_rule searched files_rule

-- `compile`, with `--format F` and `--measures`
abbrev pub compile_app : App
compile_app = with_shared (with_output (new_app (codes "compile")))

-- `tree`, with `--module M..`, `--depth N`, `--below P` and `--columns`
abbrev pub tree_app : App
tree_app =
    let naming = with_rule (new_app (codes "tree")) (repeated_rule (codes "module")) in
    let stopping = with_rule naming (option_rule (codes "depth")) in
    let choosing = with_rule stopping (option_rule (codes "below")) in
    with_shared (with_rule choosing (flag_rule (codes "columns")))

-- `validate --data F..`, with `--each W`, `--kind K`, `--explain N`, `--format F` and `--measures`
abbrev pub validate_app : App
validate_app =
    let checking = with_rule (new_app (codes "validate")) (required_repeated_rule (codes "data")) in
    let splitting = with_rule checking (option_rule (codes "each")) in
    let asking = with_rule splitting (option_rule (codes "kind")) in
    let explaining = with_rule asking (option_rule (codes "explain")) in
    with_shared (with_output explaining)

-- `lint`, with `--rules NAMES` and `--format F`
abbrev pub lint_app : App
lint_app =
    let choosing = with_rule (new_app (codes "lint")) (option_rule (codes "rules")) in
    with_shared (with_rule choosing (option_rule (codes "format")))

-- `files`
abbrev pub files_app : App
files_app = with_shared (new_app (codes "files"))

-- a command that has a version, and wants one of its subcommands
abbrev pub top_app : Text → App
top_app name =
    let a = new_app name in
    record a { top = record a.top { has_version = true; subcommand_required = true } }

-- the program with its five commands
abbrev pub yangcheck_app : App
yangcheck_app =
    let one = with_subcommand (top_app (codes "yangcheck")) compile_app.top in
    let two = with_subcommand one tree_app.top in
    let three = with_subcommand two validate_app.top in
    let four = with_subcommand three lint_app.top in
    with_subcommand four files_app.top
