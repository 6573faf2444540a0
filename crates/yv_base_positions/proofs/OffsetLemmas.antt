-- An offset by its line and its column.
use Rattle.std.proofs.Common.{◌≡◌, ◌∙◌, ◌+◌, ◌-◌, ◌<◌, ◌≤◌, ℕ, zero, suc, not, Bool, true, false, List, length, get_or, take, refl, ap, sym, subst, nat_lt, arith}
use Rattle.std.specs.Prelude.{count_by}
use Rattle.std.specs.List.{suffix_len}
use Rattle.std.proofs.lemmas.Bool.{eqb-true, ltb-false, ltb-true}
use Rattle.std.proofs.lemmas.List.Sums.{count_by_more_no, count_by_more_yes, suffix_len-take_no, suffix_len-take_yes}
use Rattle.yv_base_positions.specs.Column.{LineBegins, column, is_in_line, is_line_feed, line_at}

-- how many line feeds stand before a place
feeds : List ℕ → ℕ → ℕ
feeds bytes n = count_by is_line_feed (take n bytes)

-- how many bytes without a line feed stand before a place
run : List ℕ → ℕ → ℕ
run bytes n = suffix_len is_in_line (take n bytes)

module _ (bytes : List ℕ) where
  -- behind a line feed
  feeds_yes : (n : ℕ) → n < length bytes → is_line_feed (get_or bytes n 0) ≡ true → feeds bytes (n + 1) ≡ feeds bytes n + 1
  unfolding feeds
  feeds_yes n lt is = count_by_more_yes is_line_feed bytes n 0 lt is

  run_yes : (n : ℕ) → 0 < n → n ≤ length bytes → is_line_feed (get_or bytes (n - 1) 0) ≡ true → run bytes n ≡ 0
  unfolding run
  run_yes n some le is = suffix_len-take_no is_in_line bytes n 0 some le (ap not is)

  -- behind any other byte
  feeds_no : (n : ℕ) → n < length bytes → is_line_feed (get_or bytes n 0) ≡ false → feeds bytes (n + 1) ≡ feeds bytes n
  unfolding feeds
  feeds_no n lt is = count_by_more_no is_line_feed bytes n 0 lt is

  run_no : (n : ℕ) → n < length bytes → is_line_feed (get_or bytes n 0) ≡ false → run bytes (n + 1) ≡ 1 + run bytes n
  unfolding run
  run_no n lt is =
      let back : n ≡ n + 1 - 1 = omega arith in
      suffix_len-take_yes is_in_line bytes (n + 1) 0 (omega arith) (omega arith) (ap (λ (k : ℕ). not (is_line_feed (get_or bytes k 0))) (sym back) ∙ ap not is)
      ∙ ap (λ (k : ℕ). 1 + suffix_len is_in_line (take k bytes)) (sym back)

  more_by : (n m : ℕ) (is : Bool) → is_line_feed (get_or bytes (n + m) 0) ≡ is → n + m < length bytes → feeds bytes n ≤ feeds bytes (n + m) → feeds bytes n ≤ feeds bytes (n + m + 1)
  more_by n m true e lt h = omega (arith, feeds_yes (n + m) lt e)
  more_by n m false e lt h = omega (arith, feeds_no (n + m) lt e)

  -- line feeds never get fewer
  more : (n m : ℕ) → n + m ≤ length bytes → feeds bytes n ≤ feeds bytes (n + m)
  more n zero le = let same : n + 0 ≡ n = omega arith in omega (arith, ap (feeds bytes) same)
  more n (suc m) le =
      let same : n + m + 1 ≡ n + suc m = omega arith in
      omega (arith, more_by n m _ refl (omega arith) (more n m (omega arith)), ap (feeds bytes) same)

  further_by : (n m : ℕ) (is : Bool) → is_line_feed (get_or bytes (n + m) 0) ≡ is → n + m < length bytes → feeds bytes (n + m + 1) ≡ feeds bytes n
      → (feeds bytes (n + m) ≡ feeds bytes n → run bytes (n + m) ≡ run bytes n + m) → run bytes (n + m + 1) ≡ run bytes n + suc m
  further_by n m true e lt same rest = absurd (let never : ⊥ = omega (arith, feeds_yes (n + m) lt e, more n m (omega arith)) in never)
  further_by n m false e lt same rest = let before : feeds bytes (n + m) ≡ feeds bytes n = omega (arith, feeds_no (n + m) lt e) in omega (arith, run_no (n + m) lt e, rest before)

  -- further on a line
  further : (n m : ℕ) → n + m ≤ length bytes → feeds bytes (n + m) ≡ feeds bytes n → run bytes (n + m) ≡ run bytes n + m
  further n zero le same = let is : n + 0 ≡ n = omega arith in omega (arith, ap (run bytes) is)
  further n (suc m) le same =
      let is : n + m + 1 ≡ n + suc m = omega arith in
      ap (run bytes) (sym is) ∙ further_by n m _ refl (omega arith) (ap (feeds bytes) is ∙ same) (further n m (omega arith))

  -- where a line begins, no byte of it stands before
  at_start : (place : ℕ) → place ≤ length bytes → (0 < place → get_or bytes (place - 1) 0 ≡ 10) → run bytes place ≡ 0
  unfolding run
  at_start zero le behind = refl
  at_start (suc n) le behind = run_yes (suc n) (omega arith) le (ap is_line_feed (behind (omega arith)))

  -- a line that begins behind an offset isn't that of the offset
  not_later : (offset place : ℕ) → offset < place → place ≤ length bytes → get_or bytes (place - 1) 0 ≡ 10 → feeds bytes place ≡ feeds bytes offset → ⊥
  not_later offset place lt le behind same =
      let back : place - 1 + 1 ≡ place = omega arith in
      let up : offset + (place - 1 - offset) ≡ place - 1 = omega arith in
      let never : ⊥ = omega (arith, feeds_yes (place - 1) (omega arith) (ap is_line_feed behind), more offset (place - 1 - offset) (omega arith), ap (feeds bytes) back, ap (feeds bytes) up, same) in
      never

  found_by : (offset place : ℕ) (is_later : Bool) → nat_lt offset place ≡ is_later → offset ≤ length bytes → place ≤ length bytes → (0 < place → get_or bytes (place - 1) 0 ≡ 10)
      → feeds bytes place ≡ feeds bytes offset → offset ≡ place + run bytes offset
  found_by offset place true e le within behind same = absurd (let lt = ltb-true offset place e in not_later offset place lt within (behind (omega arith)) same)
  found_by offset place false e le within behind same =
      let before = ltb-false offset place e in
      let up : place + (offset - place) ≡ offset = omega arith in
      omega (arith, at_start place within behind, further place (offset - place) (omega arith) (ap (feeds bytes) up ∙ sym same), ap (run bytes) up)

  pub offset_back : (offset place : ℕ) → offset ≤ length bytes → LineBegins bytes (line_at bytes offset) place → offset ≡ place + (column bytes offset - 1)
  unfolding feeds run
  offset_back offset place le begins =
      let same : feeds bytes place ≡ feeds bytes offset = omega (arith, begins.number) in
      let found : offset ≡ place + run bytes offset = found_by offset place _ refl le begins.within begins.behind same in
      omega (arith, found)

  begins_by : (n : ℕ) (is : Bool) → is_line_feed (get_or bytes n 0) ≡ is → n < length bytes → (place : ℕ) × LineBegins bytes (line_at bytes n) place
      → (place : ℕ) × LineBegins bytes (line_at bytes (n + 1)) place
  unfolding feeds
  begins_by n true e lt before =
      let back : n + 1 - 1 ≡ n = omega arith in
      (n + 1, record { within = omega arith; behind = λ some. ap (λ (k : ℕ). get_or bytes k 0) back ∙ eqb-true (get_or bytes n 0) 10 e; number = refl })
  begins_by n false e lt before =
      (before.0, record { within = before.1.within; behind = before.1.behind; number = before.1.number ∙ ap (λ (k : ℕ). 1 + k) (sym (feeds_no n lt e)) })

  pub line_begins : (offset : ℕ) → offset ≤ length bytes → (place : ℕ) × LineBegins bytes (line_at bytes offset) place
  line_begins zero le = (zero, record { within = le; behind = λ some. absurd (let never : ⊥ = omega arith in never); number = refl })
  line_begins (suc n) le =
      let same : n + 1 ≡ suc n = omega arith in
      subst (λ (k : ℕ). (place : ℕ) × LineBegins bytes (line_at bytes k) place) same (begins_by n _ refl (omega arith) (line_begins n (omega arith)))

  pub same_offset : (offset other : ℕ) → offset ≤ length bytes → other ≤ length bytes → line_at bytes offset ≡ line_at bytes other → column bytes offset ≡ column bytes other → offset ≡ other
  same_offset offset other le less line same =
      let begin = line_begins offset le in
      let first : offset ≡ begin.0 + (column bytes offset - 1) = offset_back offset begin.0 le begin.1 in
      let second : other ≡ begin.0 + (column bytes other - 1) = offset_back other begin.0 less (subst (λ (l : ℕ). LineBegins bytes l begin.0) line begin.1) in
      first ∙ ap (λ (c : ℕ). begin.0 + (c - 1)) same ∙ sym second
