use Rattle.std.proofs.Common.{◌≡◌, ◌≤◌, true, take}
use Rattle.std.specs.List.{list_all}
use Rattle.yv_text_if_feature.specs.Bytes.{is_digit}
use Rattle.yv_text_grammar.specs.Texts.{decimal_after}
use Rattle.yv_lint.proofs.arguments.number_of.Given as goal

abbrev pub invariant-loop-byte : goal.invariant-loop-byte
invariant-loop-byte l = record {
  digits : list_all is_digit (take l.byte-index l.text) ≡ true;
  value : l.value ≡ decimal_after 0 (take l.byte-index l.text);
  within : l.value ≤ 4294967295;
}
