-- The grammar of a tool's words: its options and its positional word, and what the words give them.
use Rattle.std.specs.Prelude.{ℕ, Bool, true, false, not, ◌&&◌, ◌==◌, if◌then◌else◌, List, [], ◌∷◌, ◌++◌, drop, codes, bytes_eq, find, Option, Some, None, option_map}
use Rattle.std.specs.List.{list_any, before_first, after_first}
use Rattle.std.specs.Option.{option_and_then}

abbrev pub Text : Type 0
Text = List ℕ

-- an option, named by the text that gives it: a letter after `-`, or a long name after `--`. One without a value is a
-- flag.
pub record Opt : Type 0 where
  pub name : Text
  pub has_value : Bool

abbrev pub valued : Text → Opt
valued name = record { name = name; has_value = true }

abbrev pub flag : Text → Opt
flag name = record { name = name; has_value = false }

-- what a tool takes: its options, and the one word that may stand by itself, if any. That has a name too, which no text
-- gives.
pub record Grammar : Type 0 where
  pub options : List Opt
  pub positional : Option Opt

-- an option that stands in the words, with its value; a flag's value is empty
pub record Use : Type 0 where
  pub option : Opt
  pub value : Text

abbrev pub uses_name : Text → Use → Bool
uses_name name u = bytes_eq u.option.name name

-- the option of this name was used
abbrev pub is_used : Text → List Use → Bool
is_used name uses = list_any (uses_name name) uses

-- the value with which it was used
abbrev pub value_in : Text → List Use → Option Text
value_in name uses = option_map (λ u. u.value) (find (uses_name name) uses)

-- how far the words are read: an option may wait for its value, which is the next word, and after `--` each word stands
-- by itself
pub data Reading : Type 0 where
  between : List Use → Reading
  waits : List Use → Opt → Reading
  trailing : List Use → Reading

-- the option that this text gives, as `-x` or `--name`
abbrev pub named : Grammar → Text → Option Opt
named g text = find (λ o. bytes_eq o.name text) g.options

-- each option stands at most once
abbrev pub with_use : List Use → Opt → Text → Option (List Use)
with_use uses o value = if is_used o.name uses then None else Some (uses ++ (record { option = o; value = value }) ∷ [])

-- `-` is 45, and `=` is 61
abbrev pub is_equals : ℕ → Bool
is_equals b = b == 61

abbrev pub is_empty : Text → Bool
is_empty [] = true
is_empty (b ∷ bs) = false

abbrev pub begins : ℕ → Text → Bool
begins c [] = false
begins c (b ∷ bs) = b == c

-- the word begins with `-`, and isn't that alone
abbrev pub is_dashed : Text → Bool
is_dashed [] = false
is_dashed (b ∷ bs) = b == 45 && not (is_empty bs)

abbrev pub is_long : Text → Bool
is_long word = is_dashed word && begins 45 (drop 1 word)

-- a word by itself
abbrev pub positional_use : Grammar → List Use → Text → Option (List Use)
positional_use g uses word = option_and_then (λ o. with_use uses o word) g.positional

-- `--name=VALUE`, `--name` with its value in the next word, or the flag `--name`
abbrev pub long_use : List Use → Opt → Bool → Text → Option Reading
long_use uses o has_equals value =
    if o.has_value then (if has_equals then option_map between (with_use uses o value) else Some (waits uses o))
    else (if has_equals then None else option_map between (with_use uses o []))

abbrev pub long_read : Grammar → List Use → Text → Option Reading
long_read g uses word =
    option_and_then (λ o. long_use uses o (list_any is_equals word) (after_first is_equals word)) (named g (before_first is_equals word))

-- the value that stands behind a letter in its word: `V`, or `=V`
abbrev pub behind : Text → Text
behind [] = []
behind (b ∷ bs) = if b == 61 then bs else b ∷ bs

-- a letter, and what stands behind it in its word
abbrev pub letter_use : List Use → Opt → Text → (List Use → Option Reading) → Option Reading
letter_use uses o rest next =
    if o.has_value then (if is_empty rest then Some (waits uses o) else option_map between (with_use uses o (behind rest)))
    else option_and_then next (with_use uses o [])

-- the letters of a word: each is a flag, but the last may be an option, with its value behind it or in the next word
unfoldable pub letters_read : Grammar → List Use → Text → Option Reading
letters_read g uses [] = Some (between uses)
letters_read g uses (b ∷ rest) =
    option_and_then (λ o. letter_use uses o rest (λ more. letters_read g more rest)) (named g (45 ∷ b ∷ []))

-- what a word is, where no option waits
abbrev pub word_read : Grammar → List Use → Text → Option Reading
word_read g uses word =
    if bytes_eq word (codes "--") then Some (trailing uses)
    else (if is_long word then long_read g uses word
    else (if is_dashed word then letters_read g uses (drop 1 word)
    else option_map between (positional_use g uses word)))

-- a value in a word of its own begins with no `-`, but may be that alone
abbrev pub value_read : List Use → Opt → Text → Option Reading
value_read uses o word = if is_dashed word then None else option_map between (with_use uses o word)

abbrev pub next_read : Grammar → Reading → Text → Option Reading
next_read g (between uses) word = word_read g uses word
next_read g (waits uses o) word = value_read uses o word
next_read g (trailing uses) word = option_map trailing (positional_use g uses word)

-- no option waits at the end
abbrev pub ended : Reading → Option (List Use)
ended (between uses) = Some uses
ended (waits uses o) = None
ended (trailing uses) = Some uses

unfoldable pub read_from : Grammar → Reading → List Text → Option (List Use)
read_from g r [] = ended r
read_from g r (word ∷ words) = option_and_then (λ next. read_from g next words) (next_read g r word)

-- what the words give the tool, where they are words of its grammar
abbrev pub uses_of : Grammar → List Text → Option (List Use)
uses_of g words = read_from g (between []) words
