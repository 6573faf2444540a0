-- A text that is written through a page.
use Rattle.std.specs.Prelude.{◌≡◌, ◌≤◌, ℕ, List, [], ◌++◌, Bool, false}
use Rattle.std.specs.declared.option.Option.{Option}
use Rattle.std.specs.Io.KnownBytes.{Appends}
use Rattle.yv_base_streams.specs.declared.counted_stream.Counted.{Counted}
use Rattle.yv_base_streams.specs.Stream.{has_failed, stream_failures, stream_inner}

-- what a writer holds, as far as that is known, whether it has failed and by how many calls, and
-- the bytes of the page before it
pub record Output : Type 0 where
  pub contents : Option (List ℕ)
  pub has_failed : Bool
  pub failures : ℕ
  pub page : List ℕ

-- what a writer holds and a page adds to it
abbrev pub output_of : Option (List ℕ) → Bool → ℕ → List ℕ → Output
output_of contents has_failed failures page =
    record { contents = contents; has_failed = has_failed; failures = failures; page = page }

-- the same of a writer that is known by its counts, these being the contents of the one it wraps
abbrev pub paged_output : {T : Type 0} → (contents : T → Option (List ℕ)) → Counted T
    → (page : List ℕ) → Output
paged_output contents writer page =
    output_of (contents (stream_inner writer)) (has_failed writer) (stream_failures writer) page

-- Of this text the first bytes were appended to what the writer held at the start, and the page
-- holds those after them. A writer that has failed gets no more.
pub record IsPaged (start : Option (List ℕ)) (text : List ℕ) (h : Output) : Type 0 where
  pub written : List ℕ
  pub others : List ℕ
  pub parts : text ≡ written ++ others
  pub appended : Appends start h.contents written
  pub once : h.failures ≤ 1
  pub in_page : h.has_failed ≡ false → h.page ≡ others

-- these bytes were put after whatever text there was
abbrev pub Adds : (bytes : List ℕ) → (old new : Output) → Type 0
Adds bytes old new = (start : Option (List ℕ)) (text : List ℕ) → IsPaged start text old
    → IsPaged start (text ++ bytes) new

-- the text is as before
abbrev pub Keeps : (old new : Output) → Type 0
Keeps old new =
    (start : Option (List ℕ)) (text : List ℕ) → IsPaged start text old → IsPaged start text new

-- nothing is left of a page that was written
abbrev pub IsEmptied : (has_failed : Bool) → (page : List ℕ) → Type 0
IsEmptied has_failed page = has_failed ≡ false → page ≡ []
