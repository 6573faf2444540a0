-- What the entries of the list of statements say of the statements.
use Rattle.std.specs.Prelude.{◌≡◌, ℕ, ◌<◌, false, List, length, map, nat_lt, option_map, slice_index_or}
use Rattle.yv_link_scopes.specs.Rows.{Row}
use Rattle.yv_text_statement.specs.Keywords.{keyword_of}
use Rattle.yv_text_statement.specs.declared.keyword.Keyword.{Keyword}
use Rattle.yv_note_statements.specs.declared.entry.StatementEntry.{StatementEntry}

-- the row of an entry: its file and its block, and the words and the place of its statement
abbrev pub row_of : StatementEntry → Row
row_of e =
    record {
      file = e.file;
      scope = e.scope;
      head = record {
        keyword = e.keyword.now;
        argument = option_map (λ text. text.now) e.argument;
        line = e.line;
        offset = e.offset;
      };
    }

-- what the keyword of a row means
abbrev pub kind_of : Row → Keyword
kind_of r = keyword_of r.head.keyword

-- the first entries are those of the roots of so many files, and no others are
abbrev pub MarkRoots : (files : ℕ) → List StatementEntry → Type 0
MarkRoots files entries = (number : ℕ) → number < length entries
    → slice_index_or (map (λ (e : StatementEntry). e.is_root) entries) number false
    ≡ nat_lt number files
