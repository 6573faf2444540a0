-- Only private clauses cite this: what nodes measure, one after the other.
use Rattle.std.specs.Prelude.{◌+◌, length, max, ◌||◌, if◌then◌else◌}
use Rattle.yv_node_content.specs.Kinds.{is_list, is_operation_or_notification}
use Rattle.yv_nodes.specs.Defaults.{width}
use Rattle.yv_nodes.specs.Tree.{Label, Forest}
use Rattle.yv_schema_tables.specs.Measures.{greatest, is_container, is_open, count_met, met_below, types_of, uniques_of}
use Rattle.yv_schema_tables.specs.declared.measures.Passage.{Passage}

abbrev pub nothing : Passage
nothing = record { met = 0; most = 0; uniques = 0; types = 0 }

-- what these trees measure
abbrev pub passage_of : Forest → Passage
passage_of ts = record {
  met = count_met ts;
  most = greatest met_below ts;
  uniques = greatest uniques_of ts;
  types = greatest types_of ts;
}

-- what a node measures, where those below it measure so much
abbrev pub one_of : Label → Passage → Passage
one_of l inner =
    if is_operation_or_notification l.defined.kind then nothing else record {
      met = width l + (if is_open l then inner.met else 0);
      most = max (if is_container l.defined.kind || is_list l.defined.kind then inner.met else 0)
          inner.most;
      uniques = max (length l.defined.uniques) inner.uniques;
      types = max (length l.defined.types) inner.types;
    }

-- what nodes measure beside others
abbrev pub beside : Passage → Passage → Passage
beside a b = record {
  met = a.met + b.met;
  most = max a.most b.most;
  uniques = max a.uniques b.uniques;
  types = max a.types b.types;
}
