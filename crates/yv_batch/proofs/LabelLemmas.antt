-- What a label has for characters.
use Rattle.std.proofs.Common.{◌≡◌, ◌<◌, ◌^◌, ◌/◌, ◌%◌, ◌+◌, ℕ, List, [], ◌∷◌, Bool, true, false, cond, refl, decimal, arith}
use Rattle.std.specs.List.{All}
use Rattle.std.specs.Prelude.{IfSome}
use Rattle.std.specs.declared.option.Option.{Option}
use Rattle.std.specs.declared.option.Option.TheVariants.{None, Some}
use Rattle.std.proofs.lemmas.Bool.Decides.{nat_tests}
use Rattle.std.proofs.lemmas.Fmt.{decimal_by_steps}
use Rattle.std.proofs.lemmas.List.Elements.{All-append, All-cons, All-head, All-nil, All-tail}
use Rattle.yv_data_faults.specs.Line.{escape, escaped_byte, hexadecimal, is_plain}
use Rattle.yv_batch.specs.AskedDocument.{AskedDocument}
use Rattle.yv_batch.specs.Label.{HasBytes, IsVisible, label_text, number_text}

one : (b : ℕ) → IsVisible b → All IsVisible (b ∷ [])
one b h = All-cons IsVisible b [] h (All-nil IsVisible)

plain_visible : (b : ℕ) → is_plain b ≡ true → IsVisible b
plain_visible b e = (grind (arith, nat_tests), grind (arith, nat_tests))

digit_visible : (n : ℕ) → n < 16 → IsVisible (hexadecimal n)
digit_visible n lt = (grind (arith, nat_tests), grind (arith, nat_tests))

byte_visible : (b : ℕ) (is : Bool) → is_plain b ≡ is → b < 2 ^ 8 → All IsVisible (cond is (b ∷ []) (37 ∷ hexadecimal (b / 16) ∷ hexadecimal (b % 16) ∷ []))
byte_visible b true e lt = one b (plain_visible b e)
byte_visible b false e lt =
    All-cons IsVisible 37 (hexadecimal (b / 16) ∷ hexadecimal (b % 16) ∷ []) (omega arith, omega arith)
    (All-cons IsVisible (hexadecimal (b / 16)) (hexadecimal (b % 16) ∷ []) (digit_visible (b / 16) (omega arith)) (one (hexadecimal (b % 16)) (digit_visible (b % 16) (omega arith))))

name_visible : (name : List ℕ) → All (λ b. b < 2 ^ 8) name → All IsVisible (escape name)
name_visible [] h = All-nil IsVisible
name_visible (b ∷ bs) h =
    All-append IsVisible (escaped_byte b) (escape bs) (byte_visible b (is_plain b) refl (All-head (λ (x : ℕ). x < 2 ^ 8) b bs h)) (name_visible bs (All-tail (λ (x : ℕ). x < 2 ^ 8) b bs h))

decimal_visible : (n : ℕ) → n < 2 ^ 64 → All IsVisible (decimal n)
decimal_visible = decimal_by_steps (λ n ds. All IsVisible ds) (λ n lt. one (48 + n) (omega arith, omega arith))
    (λ n ds le h. All-append IsVisible ds ((48 + n % 10) ∷ []) h (one (48 + n % 10) (omega arith, omega arith)))

number_visible : (line : Option ℕ) → IfSome line (λ n. n < 2 ^ 64) → All IsVisible (number_text line)
number_visible None h = All-nil IsVisible
number_visible (Some n) h = All-cons IsVisible 58 (decimal n) (omega arith, omega arith) (decimal_visible n h)

pub label_visible : (asked : AskedDocument) → HasBytes asked → All IsVisible (label_text asked)
label_visible asked h = All-append IsVisible (escape asked.name) (number_text asked.line) (name_visible asked.name h.name) (number_visible asked.line h.line)
