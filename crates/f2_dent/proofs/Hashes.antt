-- Steps of the hash of a name.
use Rattle.std.proofs.Common.{◌≡◌, ℕ, suc, ◌+◌, ◌-◌, ◌/◌, ◌<◌, ◌≤◌, List, length, take, drop, refl, sym, ap, ◌∙◌, arith, min, true, false, ◌==◌, inl, inr}
use Rattle.std.specs.Prelude.{slice_index}
use Rattle.std.proofs.lemmas.Bool.{cases_lt}
use Rattle.std.proofs.lemmas.List.{length-drop, take_all, drop_all}
use Rattle.f2_bytes.specs.Names.{low_32, is_dots, tea_half, tea, hash_words, hash_from, name_hash}

pub tea-more : (n i : ℕ) (words : List ℕ) (s x y : ℕ) → i < n
    → let s' = low_32 (s + 0x9E3779B9) in
    let x' = tea_half x y s' (slice_index words 0) (slice_index words 1) in
    tea (n - i) words s x y ≡ tea (n - (i + 1)) words s' x' (tea_half y x' s' (slice_index words 2) (slice_index words 3))
unfolding tea
tea-more n i words s x y below = ap (λ k. tea k words s x y) (counted n i below)
  where
    counted : (n i : ℕ) → i < n → n - i ≡ suc (n - (i + 1))
    counted n i below = omega arith

pub tea-round : (n i : ℕ) (words : List ℕ) (s x y x' y' : ℕ) → i < n
    → x' ≡ tea_half x y (low_32 (s + 0x9E3779B9)) (slice_index words 0) (slice_index words 1)
    → y' ≡ tea_half y x' (low_32 (s + 0x9E3779B9)) (slice_index words 2) (slice_index words 3)
    → tea (n - (i + 1)) words (low_32 (s + 0x9E3779B9)) x' y' ≡ tea (n - i) words s x y
tea-round n i words s x y x' y' below first second =
    let s' = low_32 (s + 0x9E3779B9) in
    ap (tea (n - (i + 1)) words s' x') second
    ∙ ap (λ z. tea (n - (i + 1)) words s' z (tea_half y z s' (slice_index words 2) (slice_index words 3))) first
    ∙ sym (tea-more n i words s x y below)

pub tea-done : (n i : ℕ) (words : List ℕ) (s x y : ℕ) → n ≤ i → tea (n - i) words s x y ≡ (x, y)
unfolding tea
tea-done n i words s x y done = let none : n - i ≡ 0 = omega arith in ap (λ k. tea k words s x y) none

pub hash_from-more : (p q : ℕ) (rest : List ℕ) → 0 < length rest
    → let mixed = tea 16 (hash_words (length rest) (take 16 rest)) 0 p q in
    hash_from ((length rest + 15) / 16) p q rest
    ≡ hash_from ((length (drop 16 rest) + 15) / 16) (low_32 (p + mixed.0)) (low_32 (q + mixed.1)) (drop 16 rest)
unfolding hash_from
hash_from-more p q rest some =
    let pieces : (length rest + 15) / 16 ≡ suc ((length (drop 16 rest) + 15) / 16) = omega (arith, some, length-drop 16 rest) in
    ap (λ k. hash_from k p q rest) pieces

pub hash_from-done : (p q : ℕ) (rest : List ℕ) → length rest ≡ 0 → hash_from ((length rest + 15) / 16) p q rest ≡ p
unfolding hash_from
hash_from-done p q rest none = let pieces : (length rest + 15) / 16 ≡ 0 = omega (arith, none) in ap (λ k. hash_from k p q rest) pieces

pub hash-dots : (name : List ℕ) → is_dots name ≡ true → name_hash name ≡ 0
unfolding name_hash
hash-dots name dots = rw dots refl

pub hash-other : (name : List ℕ) → is_dots name ≡ false → name_hash name ≡ hash_from ((length name + 15) / 16) 0x67452301 0xEFCDAB89 name
unfolding name_hash
hash-other name other = rw other refl

piece-of : (rest : List ℕ) (n : ℕ) → n ≡ min (length rest) 16 → (take n rest ≡ take 16 rest) × (drop n rest ≡ drop 16 rest)
piece-of rest n is = elim (cases_lt (length rest) 16) [
  | inl short ↦ (take_all n rest (omega (arith, is, short)) ∙ sym (take_all 16 rest (omega (arith, short))), drop_all n rest (omega (arith, is, short)) ∙ sym (drop_all 16 rest (omega (arith, short))))
  | inr long ↦ let whole : n ≡ 16 = omega (arith, is, long) in (ap (λ k. take k rest) whole, ap (λ k. drop k rest) whole)
]

-- what is left behind a piece goes on to the same hash
pub hash_from-step : (p q : ℕ) (rest piece behind : List ℕ) (n : ℕ) (words : List ℕ) (mixed : ℕ × ℕ) → 0 < length rest → n ≡ min (length rest) 16
    → piece ≡ take n rest → behind ≡ drop n rest → words ≡ hash_words (length rest) piece → mixed ≡ tea 16 words 0 p q
    → hash_from ((length behind + 15) / 16) (low_32 (p + mixed.0)) (low_32 (q + mixed.1)) behind ≡ hash_from ((length rest + 15) / 16) p q rest
hash_from-step p q rest piece behind n words mixed some count front back read is =
    let parts = piece-of rest n count in
    let same-piece : piece ≡ take 16 rest = front ∙ parts.0 in
    let same-rest : behind ≡ drop 16 rest = back ∙ parts.1 in
    let same-mixed : mixed ≡ tea 16 (hash_words (length rest) (take 16 rest)) 0 p q =
    is ∙ ap (λ w. tea 16 w 0 p q) (read ∙ ap (hash_words (length rest)) same-piece) in
    (λ i. hash_from ((length (same-rest i) + 15) / 16) (low_32 (p + (same-mixed i).0)) (low_32 (q + (same-mixed i).1)) (same-rest i))
    ∙ sym (hash_from-more p q rest some)

pub some_left : (rest : List ℕ) → (length rest == 0) ≡ false → 0 < length rest
some_left rest some = grind arith

pub none_left : (rest : List ℕ) → (length rest == 0) ≡ true → length rest ≡ 0
none_left rest none = grind arith
