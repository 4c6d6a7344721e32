-- Lost files: those without a kept name, the directory that they are put in, and the names that they get there.
use Rattle.std.specs.Prelude.{ℕ, zero, suc, ◌+◌, Bool, true, not, ◌&&◌, ◌==◌, List, ◌++◌, length, filter, find, is_none, unwrap_or, codes, decimal}
use Rattle.std.specs.Option.{option_map_or}
use Rattle.std.specs.List.{list_any}
use Rattle.f2_bytes.specs.Bytes.{Image, numbers_below}
use Rattle.f2_bytes.specs.RollForward.{found_place}
use Rattle.f2_bytes.specs.Check.{nids}
use Rattle.f2_bytes.specs.SalvagedFiles.{root, is_file, is_directory_file}
use Rattle.f2_bytes.specs.Claims.{Claim, is_on, kept_claims, kept_target}

-- a file other than the root that has no kept name
unfoldable pub is_lost : Image → ℕ → Bool
is_lost image ino = is_file image ino && not (ino == root) && not (list_any (is_on ino) (kept_claims image))

abbrev pub has_lost : Image → Bool
has_lost image = list_any (is_lost image) (numbers_below (nids image))

-- the lost files, in order
abbrev pub lost_files : Image → List ℕ
lost_files image = filter (is_lost image) (numbers_below (nids image))

-- the name, and after it the name with `.1`, `.2` and so on
abbrev pub numbered : List ℕ → ℕ → List ℕ
numbered name zero = name
numbered name (suc n) = name ++ codes "." ++ decimal (suc n)

-- the first of the numbered names that passes
abbrev pub first_numbered : List ℕ → ℕ → (List ℕ → Bool) → List ℕ
first_numbered name tries test =
    numbered name (unwrap_or (find (λ n. test (numbered name n)) (numbers_below tries)) 0)

-- one more than the kept names are enough
abbrev pub tries : Image → ℕ
tries image = length (kept_claims image) + 1

-- the name of the directory for lost files: the first that the root keeps as a directory or doesn't keep
unfoldable pub lost_directory_name : Image → List ℕ
lost_directory_name image =
    first_numbered (codes "lost+found") (tries image)
    (λ name. option_map_or (is_directory_file image) (kept_target image root name) true)

-- the least nid from 4 on that no node has
unfoldable pub least_free_nid : Image → ℕ
least_free_nid image =
    4 + unwrap_or (find (λ n. is_none (found_place image (4 + n))) (numbers_below (nids image + 1))) 0

-- the directory for lost files is made anew
abbrev pub makes_lost_directory : Image → Bool
makes_lost_directory image = has_lost image && is_none (kept_target image root (lost_directory_name image))

-- the number of the directory that lost files are put in
abbrev pub lost_directory : Image → ℕ
lost_directory image = unwrap_or (kept_target image root (lost_directory_name image)) (least_free_nid image)

-- this is the number of a directory for lost files that is made anew
abbrev pub is_made : Image → ℕ → Bool
is_made image ino = makes_lost_directory image && (ino == lost_directory image)

-- the name of a lost file there: its number in decimal, or the first free of that with `.1`, `.2` and so on
unfoldable pub lost_name : Image → ℕ → List ℕ
lost_name image ino =
    first_numbered (decimal ino) (tries image) (λ name. is_none (kept_target image (lost_directory image) name))

-- the name that a lost file gets, and that of the directory for lost files
abbrev pub lost_claim : Image → ℕ → Claim
lost_claim image ino = record { directory = lost_directory image; name = lost_name image ino; target = ino }

abbrev pub made_claim : Image → Claim
made_claim image = record { directory = root; name = lost_directory_name image; target = lost_directory image }
