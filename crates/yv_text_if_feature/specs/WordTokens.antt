-- What the program's words show.
use Rattle.std.specs.Prelude.{List}
use Rattle.yv_text_if_feature.specs.Tokens.{Token, tokens}
use Rattle.yv_text_if_feature.specs.Tokens as token
use Rattle.yv_text_if_feature.specs.declared.word.Word.{Word}
use Rattle.yv_text_if_feature.specs.declared.word.Word.TheVariants as word
use Rattle.yv_text_if_feature.specs.declared.word.Words.{Words}

-- what a word is
abbrev pub token_shown : Word → Token
token_shown word.Open = token.Open
token_shown word.Close = token.Close
token_shown word.Not = token.Not
token_shown word.And = token.And
token_shown word.Or = token.Or
token_shown (word.Name n) = token.Name n.now
token_shown word.Wrong = token.Wrong

-- the words that are still to come
abbrev pub tokens_left : Words → List Token
tokens_left it = tokens it.rest.now
