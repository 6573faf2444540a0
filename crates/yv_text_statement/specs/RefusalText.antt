-- What is printed of a refusal, and of whatever else stops a call.
use Rattle.std.specs.Prelude.{ℕ, List, ◌++◌, codes}
use Rattle.std.specs.Fmt.{decimal}
use Rattle.yv_text_statement.specs.declared.refusal.Refusal.{Refusal}
use Rattle.yv_text_statement.specs.declared.refusal.Stop.{Stop}
use Rattle.yv_text_statement.specs.declared.refusal.Stop.TheVariants.{Fault, NoMemory, PatternBuild}
use Rattle.yv_text_statement.specs.Codes.{name_of}

-- the number of the file, the line, and the name of the code
abbrev pub refusal_text : Refusal → List ℕ
refusal_text r = codes "file " ++ decimal r.file ++ codes ", line " ++ decimal r.line ++ codes ": "
    ++ name_of r.code

-- what is printed of a stop
abbrev pub stop_text : Stop → List ℕ
stop_text (Fault r) = refusal_text r
stop_text PatternBuild = codes "pattern not built"
stop_text NoMemory = codes "out of memory"
