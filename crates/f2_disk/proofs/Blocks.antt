-- Lists of bytes that are blocks.
use Rattle.std.proofs.Common.{inl, inr, ℕ, ◌+◌, ◌-◌, ◌<◌, List, ◌++◌, length, get_or, take, drop, refl, arith, length-take, get_or-drop}
use Rattle.std.specs.Prelude.{replicate}
use Rattle.std.proofs.lemmas.List.{length-replicate, get_or-replicate, get_or_past, get_or-take, get_or_append_left, get_or-append_right}
use Rattle.std.proofs.lemmas.Bool.{cases_lt}
use Rattle.f2_bytes.specs.Bytes.{IsBlock}

-- each number of a list is a byte
abbrev pub AreBytes : List ℕ → Type 0
AreBytes xs = (i : ℕ) → get_or xs i 0 < 256

pub zeros_block : IsBlock (replicate 4096 0)
zeros_block = record { length = length-replicate {A = ℕ} 4096 0; bytes = λ i. zero_byte 4096 i }
  where
    zero_byte : (n i : ℕ) → get_or (replicate n 0) i 0 < 256
    zero_byte n i = elim (cases_lt i n) [
      | inl inside ↦ omega (arith, get_or-replicate {A = ℕ} n i 0 0 inside)
      | inr past ↦ omega (arith, get_or_past {X = ℕ} (replicate n 0) i 0 (omega (arith, length-replicate {A = ℕ} n 0)))
    ]

pub bytes-append : (xs ys : List ℕ) → AreBytes xs → AreBytes ys → AreBytes (xs ++ ys)
bytes-append xs ys first second i = elim (cases_lt i (length xs)) [
  | inl inside ↦ omega (arith, get_or_append_left xs ys 0 i inside, first i)
  | inr past ↦ omega (arith, get_or-append_right xs ys (length xs) i 0 refl past, second (i - length xs))
]

pub bytes-take : (n : ℕ) (xs : List ℕ) → AreBytes xs → AreBytes (take n xs)
bytes-take n xs each i = elim (cases_lt i n) [
  | inl inside ↦ omega (arith, get_or-take n xs i 0 inside, each i)
  | inr past ↦ omega (arith, get_or_past (take n xs) i 0 (omega (arith, length-take n xs)))
]

pub bytes-drop : (n : ℕ) (xs : List ℕ) → AreBytes xs → AreBytes (drop n xs)
bytes-drop n xs each i = omega (arith, get_or-drop n xs i 0, each (n + i))
