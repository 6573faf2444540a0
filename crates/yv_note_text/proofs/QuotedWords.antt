use Rattle.std.proofs.Common.{◌≡◌, ◌++◌, ◌∙◌, ap, sym, List, ℕ, Option, Some, None, IfSome}
use Rattle.std.proofs.lemmas.List.{append_assoc}
use Rattle.yv_note_text.specs.Quotes.{Quotes, Extends, in_quotes}

-- a text to which a word in quotes was added, and then more, quotes the word
pub quotes_within : (word one two three : List ℕ) → two ≡ one ++ in_quotes word → Extends two three → Quotes word three
quotes_within word one two three is_two (more, is_three) =
    (one, more, is_three ∙ ap (λ front. front ++ more) is_two ∙ append_assoc one (in_quotes word) more)

-- it does so still where more was added
pub quotes_longer : (word old new : List ℕ) → Extends old new → Quotes word old → Quotes word new
quotes_longer word old new (more, is) (before, after, quotes) =
    (before, after ++ more, is ∙ ap (λ front. front ++ more) quotes ∙ append_assoc before (in_quotes word ++ after) more ∙ ap (λ rest. before ++ rest) (append_assoc (in_quotes word) after more))

pub named_longer : (word : Option (List ℕ)) (old new : List ℕ) → Extends old new → IfSome word (λ w. Quotes w old) → IfSome word (λ w. Quotes w new)
named_longer None old new longer named = tt
named_longer (Some word) old new longer named = quotes_longer word old new longer named

-- what quotes the word does so behind another text
pub quotes_behind : (word old new : List ℕ) → Quotes word new → Quotes word (old ++ new)
quotes_behind word old new (before, after, is) =
    (old ++ before, after, ap (λ rest. old ++ rest) is ∙ sym (append_assoc old before (in_quotes word ++ after)))

pub named_behind : (word : Option (List ℕ)) (old new : List ℕ) → IfSome word (λ w. Quotes w new) → IfSome word (λ w. Quotes w (old ++ new))
named_behind None old new named = tt
named_behind (Some word) old new named = quotes_behind word old new named

-- a text that went on twice went on, and so did one that is the same
pub further : (one two three : List ℕ) → Extends one two → Extends two three → Extends one three
further one two three (first, is_two) (second, is_three) = (first ++ second, is_three ∙ ap (λ front. front ++ second) is_two ∙ append_assoc one first second)

pub as_before : (one two three : List ℕ) → Extends one two → three ≡ two → Extends one three
as_before one two three (first, is_two) same = (first, same ∙ is_two)

-- a text that grew by three texts
pub grown : (a b c d one two three : List ℕ) → one ≡ a ++ b → two ≡ one ++ c → three ≡ two ++ d → three ≡ a ++ (b ++ (c ++ d))
grown a b c d one two three e f g = g ∙ ap (λ t. t ++ d) (f ∙ ap (λ t. t ++ c) e) ∙ append_assoc (a ++ b) c d ∙ append_assoc a b (c ++ d)
