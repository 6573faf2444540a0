use Rattle.std.proofs.Common.{◌+◌, drop, map, string_bytes}
use Rattle.yv_text_statement.specs.Codes.{phase_of}
use Rattle.yv_base_streams.specs.Files.{file_of}
use Rattle.yv_note_refusals.proofs.OtherLines.{no_lines, others_clear, others_short}
use Rattle.yv_note_refusals.proofs.other_files.other_refusals.Goals as goal

pub returns-then-phase-gt-LAST_LONE_PHASE-clause-lines : goal.returns-then-phase-gt-LAST_LONE_PHASE-clause-lines
returns-then-phase-gt-LAST_LONE_PHASE-clause-lines c =
    no_lines (phase_of c.args.refusal.now.code) (drop (c.args.refusal.now.file + 1) (map file_of c.args.inputs.now)) (string_bytes c.new.result) c.new.ensures.bytes

pub returns-clause-clear : goal.returns-clause-clear
returns-clause-clear c = others_clear c.phase-phase.result (map file_of c.files_after.result.now) (string_bytes c.in_ok-lines.lines.text) c.in_ok-lines.ensures.are

pub returns-clause-short : goal.returns-clause-short
returns-clause-short c = others_short c.phase-phase.result (map file_of c.files_after.result.now) (string_bytes c.in_ok-lines.lines.text) c.in_ok-lines.ensures.are
