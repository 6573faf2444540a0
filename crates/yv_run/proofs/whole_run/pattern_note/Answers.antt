use Rattle.std.proofs.Common.{map, string_bytes}
use Rattle.yv_base_streams.specs.Files.{file_of}
use Rattle.yv_run.proofs.PatternLemmas.{notes_pattern}
use Rattle.yv_run.proofs.whole_run.pattern_note.Goals as goal

pub returns : goal.returns
returns c = λ choice limit have. notes_pattern string_bytes (map file_of c.args.inputs.now) choice limit c.unbuilt_pattern.result
    (record {
      legal = c.a_bad_file_is_refused_once.ensures.not_legal;
      spelled = c.a_text_is_spelled_or_refused_once.ensures.spells;
      apart = c.a_text_is_spelled_or_refused_once.ensures.not_both;
      listed = c.a_pattern_of_a_type_is_listed.ensures;
    })
    have c.unbuilt_pattern.ensures.tells c.unbuilt_pattern.ensures.none
