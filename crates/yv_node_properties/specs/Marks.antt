-- What is said of a node that doesn't wait for its types: whether it is configuration, mandatory or
-- has a presence, and how many entries it has at least (RFC 7950, sections 3, 7.5.5, 7.6.5, 7.7.5
-- and 7.21.1).
use Rattle.std.specs.Prelude.{ℕ, nat_lt, Bool, false, ◌||◌, Option, None, is_some}
use Rattle.std.specs.Option.{option_map, option_or, unwrap_or}
use Rattle.yv_text_statement.specs.declared.keyword.Keyword.TheVariants as word
use Rattle.yv_node_properties.specs.Properties.{Substatements, is_true, least_of}
use Rattle.yv_node_properties.specs.declared.properties.StatedProperties.{StatedProperties}

-- what is said of these
abbrev pub stated_of : Substatements → StatedProperties
stated_of said = record {
  config = option_map is_true (said word.Config);
  mandatory = option_map is_true (said word.Mandatory);
  presence = is_some (said word.Presence);
  min = option_map least_of (said word.MinElements);
}

-- nothing is said
abbrev pub silent : Substatements
silent keyword = None

-- what is said later replaces what was said before (section 7.13.2)
abbrev pub over : (later earlier : StatedProperties) → StatedProperties
over later earlier = record {
  config = option_or later.config earlier.config;
  mandatory = option_or later.mandatory earlier.mandatory;
  presence = later.presence || earlier.presence;
  min = option_or later.min earlier.min;
}

-- a node of which this is said is mandatory, or has one entry at least
abbrev pub is_mandatory : StatedProperties → Bool
is_mandatory s = unwrap_or s.mandatory false || nat_lt 0 (unwrap_or s.min 0)
