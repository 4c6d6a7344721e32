-- What a test of all rows of a table says of one row.
use Rattle.std.proofs.Common.{◌≡◌, ℕ, ◌<◌, Bool, true, false, List, length, get_or, refl}
use Rattle.std.specs.List.{list_all}
use Rattle.std.proofs.lemmas.List.Folds.{list_all_at}

pub row_passes : {X : Type 0} (p : X → Bool) (xs : List X) (i : ℕ) (d : X) → i < length xs → list_all p xs ≡ true → p (get_or xs i d) ≡ true
row_passes p xs i d inside all = go (p (get_or xs i d)) refl
  where
    go : (t : Bool) → p (get_or xs i d) ≡ t → t ≡ true
    go true is = refl
    go false is = let none = list_all_at p xs i d inside is in cc
