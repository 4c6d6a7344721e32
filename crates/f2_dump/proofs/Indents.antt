-- The spaces before a name, level by level.
use Rattle.std.proofs.Common.{◌≡◌, ℕ, ◌+◌, ◌<◌, cond, List, [], ◌++◌, Result, Ok, Err, OnOk, codes, sym}
use Rattle.std.specs.Result.{is_ok}
use Rattle.f2_dump.specs.Text.{lines_between}
use Rattle.f2_dump.specs.Trees.{indent}
use Rattle.f2_dump.proofs.EntryLines.{below_whole}
use Rattle.f2_dump.proofs.FieldLines.{lines-none, lines-more}

abbrev two_spaces : ℕ → List ℕ
two_spaces k = codes "  "

pub indent-none : indent 0 ≡ []
unfolding indent
indent-none = sym (lines-none two_spaces [])

pub indent-more : (k : ℕ) → indent (k + 1) ≡ indent k ++ codes "  "
unfolding indent
indent-more k = lines-more two_spaces k

-- those that would have followed
abbrev pub rest_of : ℕ → ℕ → List ℕ
rest_of k level = lines_between two_spaces (k + 1) level

pub indent-whole : (k level : ℕ) → k < level → (indent k ++ codes "  ") ++ rest_of k level ≡ indent level
unfolding indent
indent-whole k level less = below_whole two_spaces k level less

pub ok_then : {T E : Type 0} (r : Result T E) (x a b : List ℕ) → x ≡ cond (is_ok r) a b → OnOk r (x ≡ a)
ok_then (Ok y) x a b is = is
ok_then (Err e) x a b is = tt
