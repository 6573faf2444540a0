use Rattle.std.proofs.Common.{◌≡◌, map, take}
use Rattle.yv_node_properties.specs.Marks.{is_mandatory}
use Rattle.yv_node_properties.specs.declared.properties.StatedProperties.{StatedProperties}
use Rattle.yv_expand_changes.proofs.properties.ItemProperties.of.Given as goal

abbrev pub invariant-loop-stated : goal.invariant-loop-stated
invariant-loop-stated l = record {
  mandatory : l.properties.mandatory.items ≡ map is_mandatory (take l.stated-index l.said);
  presence : l.properties.presence.items ≡ map (λ (s : StatedProperties). s.presence) (take l.stated-index l.said);
  config : l.properties.config.items ≡ map (λ (s : StatedProperties). s.config) (take l.stated-index l.said);
}
