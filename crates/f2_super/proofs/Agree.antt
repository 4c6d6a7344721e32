-- When two copies agree.
use Rattle.std.proofs.Common.{◌≡◌, ℕ, ◌<◌, Bool, List, true, false, refl}
use Rattle.std.proofs.lemmas.Bool.{eq-eqb}
use Rattle.std.specs.Prelude.{◌==◌, ◌||◌, not}
use Rattle.f2_bytes.specs.Superblock.{agree, agree_at, copy_row, is_compared_row}
use Rattle.f2_bytes.proofs.Below.{each_below, all_below}

pub agree-all : (c d : List ℕ) → ((k : ℕ) → k < 33 → agree_at c d k ≡ true) → agree c d ≡ true
unfolding agree
agree-all c d each = all_below (agree_at c d) 33 each

agree-each : (c d : List ℕ) (k : ℕ) → k < 33 → agree c d ≡ true → agree_at c d k ≡ true
unfolding agree
agree-each c d k below all = each_below (agree_at c d) 33 all k below

pub agree-row : (c d : List ℕ) (k : ℕ) → k < 33 → agree_at c d k ≡ false → agree c d ≡ false
agree-row c d k below differs = go (agree c d) refl
  where
    go : (t : Bool) → agree c d ≡ t → t ≡ false
    go true is = let same = agree-each c d k below is in cc
    go false is = refl

-- a copy agrees with itself
pub agree-self : (s : List ℕ) → agree s s ≡ true
agree-self s = agree-all s s (λ k below. or_true (not (is_compared_row k)) (copy_row s k == copy_row s k) (eq-eqb (copy_row s k) (copy_row s k) refl))
  where
    or_true : (a b : Bool) → b ≡ true → (a || b) ≡ true
    or_true true b is = refl
    or_true false b is = is
