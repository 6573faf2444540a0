-- Statements are listed one by one.
use Rattle.std.proofs.Common.{◌≡◌, ℕ, ◌+◌, ◌<◌, ◌≤◌, Bool, true, false, cond, List, [], ◌∷◌, ◌++◌, length, map, get_or, drop, zero, suc, refl, sym, ◌∙◌, ap, arith, length-append, append_assoc, add-one, drop-cons}
use Rattle.std.proofs.lemmas.List.{append-nil, drop_all, map-append}
use Rattle.yv_text_statement.specs.Tree.{Head, Forest, Then, End, Tree, trees, forest, count}
use Rattle.yv_link_scopes.specs.Rows.{Row, row, row_list, is_extended}
use Rattle.yv_link_scopes.specs.declared.entry.Entry.{Entry}

inner_of : ℕ → ℕ → Head → Forest → List Row
inner_of file number h c = cond (is_extended h.keyword) [] (row_list file number (number + 1) c)

-- a statement, and then the others
pub listed_then : (file scope number : ℕ) (h : Head) (c o : Forest) → row_list file scope number (Then h c o) ≡ row_list file scope number (Then h c End) ++ row_list file scope (number + length (row_list file scope number (Then h c End))) o
unfolding inner_of
listed_then file scope number h c o =
    let inner : List Row = inner_of file number h c in
    let plain : (record { file = file; scope = scope; head = h } ∷ inner ++ []) ≡ record { file = file; scope = scope; head = h } ∷ inner = ap (λ xs. record { file = file; scope = scope; head = h } ∷ xs) (append-nil inner) in
    let count : number + 1 + length inner ≡ number + length (record { file = file; scope = scope; head = h } ∷ inner ++ []) = let e = ap length plain in omega (arith, e) in
    ap (λ n. record { file = file; scope = scope; head = h } ∷ inner ++ row_list file scope n o) count
    ∙ ap (λ xs. xs ++ row_list file scope (number + length (record { file = file; scope = scope; head = h } ∷ inner ++ [])) o) (sym plain)

-- what is left to list completes the whole
pub record Lists (file scope : ℕ) (old now : List Row) (whole rest : Forest) : Type 0 where
  pub completes : now ++ row_list file scope (length now) rest ≡ old ++ row_list file scope (length old) whole

pub lists_step : {file scope : ℕ} {old now next : List Row} {whole rest after : Forest} (h : Head) (c : Forest) → Lists file scope old now whole rest → rest ≡ Then h c after → next ≡ now ++ row_list file scope (length now) (Then h c End) → Lists file scope old next whole after
lists_step {file} {scope} {old} {now} {next} {whole} {rest} {after} h c l e n = record {
  completes =
      let one : List Row = row_list file scope (length now) (Then h c End) in
      let count : length next ≡ length now + length one = ap length n ∙ length-append now one in
      ap (λ k. next ++ row_list file scope k after) count
      ∙ ap (λ xs. xs ++ row_list file scope (length now + length one) after) n
      ∙ append_assoc now one (row_list file scope (length now + length one) after)
      ∙ ap (λ xs. now ++ xs) (sym (listed_then file scope (length now) h c after))
      ∙ ap (λ f. now ++ row_list file scope (length now) f) (sym e)
      ∙ l.completes;
}

-- the next statement of a block
pub next_of : (ts : List Tree) (i : ℕ) (t : Tree) → i < length ts → t ≡ get_or ts i t → forest (drop i ts) ≡ Then t.head t.children (forest (drop (i + 1) ts))
next_of ts i t h e = rw (add-one, drop-cons ts i t h) (rw (← e) refl)

pub lists_end : {file scope : ℕ} {old now : List Row} {whole rest : Forest} → Lists file scope old now whole rest → rest ≡ End → now ≡ old ++ row_list file scope (length old) whole
lists_end {file} {scope} {old} {now} {whole} {rest} l e = sym (append-nil now) ∙ ap (λ f. now ++ row_list file scope (length now) f) (sym e) ∙ l.completes

pub forest-trees : (f : Forest) → forest (trees f) ≡ f
forest-trees End = refl
forest-trees (Then h c o) = ap (Then h c) (forest-trees o)

-- a child has fewer statements below it
pub fewer : (ts : List Tree) (i : ℕ) (t : Tree) → i < length ts → t ≡ get_or ts i t → count t.children < count (forest ts)
fewer [] i t h e = elim h [ ]
fewer (x ∷ ts) zero t h e = rw (← e) (omega arith)
fewer (x ∷ ts) (suc i) t h e = let r : count t.children < count (forest ts) = fewer ts i t (omega arith) e in omega (arith, r)

cond_at : {X : Type 0} (b : Bool) (v : Bool) (x y : X) → b ≡ v → cond b x y ≡ cond v x y
cond_at b v x y e = ap (λ t. cond t x y) e

pub listed_whole : (file scope number : ℕ) (h : Head) (c : Forest) (old mid new : List Row) → number ≡ length old → is_extended h.keyword ≡ false → mid ≡ old ++ record { file = file; scope = scope; head = h } ∷ [] → new ≡ mid ++ row_list file number (length mid) c → new ≡ old ++ row_list file scope number (Then h c End)
listed_whole file scope number h c old mid new at plain m n =
    let one : Row = record { file = file; scope = scope; head = h } in
    let count : length mid ≡ number + 1 = let e = ap length m in omega (arith, e, at, length-append old (one ∷ [])) in
    n
    ∙ ap (λ k. mid ++ row_list file number k c) count
    ∙ ap (λ xs. xs ++ row_list file number (number + 1) c) m
    ∙ append_assoc old (one ∷ []) (row_list file number (number + 1) c)
    ∙ ap (λ xs. old ++ (one ∷ xs)) (sym (append-nil (row_list file number (number + 1) c)) ∙ ap (λ xs. xs ++ []) (sym (cond_at (is_extended h.keyword) false [] (row_list file number (number + 1) c) plain)))

pub listed_bare : (file scope number : ℕ) (h : Head) (c : Forest) (old new : List Row) → is_extended h.keyword ≡ true → new ≡ old ++ record { file = file; scope = scope; head = h } ∷ [] → new ≡ old ++ row_list file scope number (Then h c End)
listed_bare file scope number h c old new bare n =
    n ∙ ap (λ xs. old ++ (record { file = file; scope = scope; head = h } ∷ xs ++ [])) (sym (cond_at (is_extended h.keyword) true [] (row_list file number (number + 1) c) bare))

-- one more entry
pub pushed : (old new : List Entry) (e : Entry) → new ≡ old ++ e ∷ [] → map row new ≡ map row old ++ row e ∷ []
pushed old new e h = ap (map row) h ∙ map-append row old (e ∷ [])

pub end_of : (ts : List Tree) (i : ℕ) → length ts ≤ i → forest (drop i ts) ≡ End
end_of ts i h = rw drop_all refl
