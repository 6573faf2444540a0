-- The example of JSON Pointer (RFC 6901, section 5): a document, pointers, and what these lead to.
use Rattle.std.specs.Prelude.{ℕ, List, [], ◌∷◌, ◌++◌, codes}
use Rattle.serde_json.specs.Data.{Data, array, item, member, no_items, no_members, number, object, string, unsigned}
use Rattle.yv_json_lines.specs.Values.{number_member}

-- the array of two texts in the document
abbrev pub foo : Data
foo = array (item (string (codes "bar")) (item (string (codes "baz")) no_items))

-- the document
abbrev pub document : Data
document =
    object (member (codes "foo") foo (number_member [] 0 (number_member (codes "a/b") 1
    (number_member (codes "c%d") 2 (number_member (codes "e^f") 3 (number_member (codes "g|h") 4
    (number_member (codes "i" ++ 92 ∷ codes "j") 5 (number_member (codes "k" ++ 34 ∷ codes "l") 6
    (number_member (codes " ") 7 (number_member (codes "m~n") 8 no_members))))))))))

-- its pointers, in order
abbrev pub pointers : List (List ℕ)
pointers =
    [] ∷ codes "/foo" ∷ codes "/foo/0" ∷ codes "/" ∷ codes "/a~1b" ∷ codes "/c%d" ∷ codes "/e^f"
    ∷ codes "/g|h" ∷ (codes "/i" ++ 92 ∷ codes "j") ∷ (codes "/k" ++ 34 ∷ codes "l")
    ∷ codes "/ " ∷ codes "/m~0n" ∷ []

-- what they lead to
abbrev pub values : List Data
values =
    document ∷ foo ∷ string (codes "bar") ∷ number (unsigned 0) ∷ number (unsigned 1)
    ∷ number (unsigned 2) ∷ number (unsigned 3) ∷ number (unsigned 4) ∷ number (unsigned 5)
    ∷ number (unsigned 6) ∷ number (unsigned 7) ∷ number (unsigned 8) ∷ []

-- texts that lead nowhere, by sections 3 and 4: without `/` at the head, with a `~` that means
-- nothing, of a member that isn't there, past the array's end, with a leading zero, with a sign,
-- without a digit, and into a text and a number
abbrev pub other_texts : List (List ℕ)
other_texts =
    codes "foo" ∷ codes "/m~n" ∷ codes "/m~2n" ∷ codes "/bar" ∷ codes "/foo/2" ∷ codes "/foo/-"
    ∷ codes "/foo/00" ∷ codes "/foo/+0" ∷ codes "/foo/" ∷ codes "/foo/0/" ∷ codes "//" ∷ []
