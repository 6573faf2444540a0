-- What the nodes of a schema say as leafrefs (RFC 7950, section 9.9).
use Rattle.std.specs.Prelude.{Bool, Option, Some, None}
use Rattle.yv_link_scopes.specs.Files.{Files}
use Rattle.yv_expand_statements.specs.declared.origin.Origin.{Origin}
use Rattle.yv_text_statement.specs.TextInFile.{TextInFile}
use Rattle.yv_node_paths.specs.Referral.{climbs_of, steps_in}
use Rattle.yv_types.specs.Referrals.{path_at}
use Rattle.yv_types.specs.declared.leafref_path.TypeLeafref.{TypeLeafref}
use Rattle.yv_node_leafrefs.specs.Schema.{Referral}
use Rattle.yv_node_statements.specs.Kinds.{TypeMeanings}
use Rattle.yv_node_statements.specs.Definitions.{leafref_of}

-- the path that is written so, as a leafref with it says it; nothing is said without a path
abbrev pub referral_of_path : Files → (is_required : Bool) → Option TextInFile → Option Referral
referral_of_path files is_required None = None
referral_of_path files is_required (Some w) =
    Some (record {
      climbs = climbs_of w.text;
      steps = steps_in files w.file w.text;
      is_required = is_required;
    })

-- what a type says that has the path of a statement and requires an instance, or not
abbrev pub referral_of : Files → Option TypeLeafref → Option Referral
referral_of files None = None
referral_of files (Some r) = referral_of_path files r.is_required (path_at files r.origin)

-- what a node of this origin says as a leafref (RFC 7950, section 9.9)
abbrev pub referral_at : TypeMeanings → Files → Origin → Option Referral
referral_at typing files from = referral_of files (leafref_of typing files from)
