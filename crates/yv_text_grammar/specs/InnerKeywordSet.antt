-- Only private clauses cite this: which keywords were met.
use Rattle.std.specs.Prelude.{ℕ, Bool, false, slice_index_or}
use denote.Enum.Declared.{tag_of}
use Rattle.yv_text_statement.specs.declared.keyword.Keyword.{Keyword}
use Rattle.yv_text_statement.specs.contracts.keyword.Keyword.{the_type}
use Rattle.yv_text_grammar.specs.declared.keyword_set.KeywordSet.{KeywordSet}

-- a keyword's place among all
abbrev pub number : Keyword → ℕ
number k = tag_of the_type k

abbrev pub is_marked : KeywordSet → Keyword → Bool
is_marked s k = slice_index_or s.marks (number k) false
