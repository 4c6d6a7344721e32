-- The names in directories, and their hash.
use Rattle.std.specs.Prelude.{ℕ, zero, suc, ◌+◌, ◌*◌, ◌/◌, ◌%◌, ◌^◌, Bool, not, ◌||◌, ◌&&◌, ◌==◌, nat_le, if◌then◌else◌, List, [], ◌∷◌, map, length, take, drop, fold, slice_index, bit_xor}
use Rattle.std.specs.List.{list_all}
use Rattle.std.specs.Str.{bytes_eq}

-- the slots of 8 bytes that a name of this length takes
abbrev pub slots_for : ℕ → ℕ
slots_for len = (len + 7) / 8

-- 1 to 255 bytes, none of them zero or a slash
abbrev pub is_legal_name : List ℕ → Bool
is_legal_name name = nat_le 1 (length name) && nat_le (length name) 255 && list_all (λ c. not (c == 0) && not (c == 47)) name

-- the names `.` and `..`
abbrev pub dot : List ℕ
dot = 46 ∷ []

abbrev pub dot_dot : List ℕ
dot_dot = 46 ∷ 46 ∷ []

abbrev pub is_dots : List ℕ → Bool
is_dots name = bytes_eq name dot || bytes_eq name dot_dot

-- a number cut to 32 bits
abbrev pub low_32 : ℕ → ℕ
low_32 n = n % 2 ^ 32

-- what fills up a piece where n bytes of the name are left
abbrev pub hash_pad : ℕ → ℕ
hash_pad n = let p = low_32 (n + 256 * n) in low_32 (p + 2 ^ 16 * p)

-- word j of a piece of 16 bytes: its four bytes pushed into the pad
abbrev pub hash_word : ℕ → List ℕ → ℕ → ℕ
hash_word pad piece j = fold (λ w c. low_32 (c + 256 * w)) pad (take 4 (drop (4 * j) piece))

-- the four words of a piece, the first of n bytes that are left
abbrev pub hash_words : ℕ → List ℕ → List ℕ
hash_words n piece = map (hash_word (hash_pad n) piece) (0 ∷ 1 ∷ 2 ∷ 3 ∷ [])

-- half a round of the cipher TEA, and n whole rounds
abbrev pub tea_half : ℕ → ℕ → ℕ → ℕ → ℕ → ℕ
tea_half x y s a b = low_32 (x + bit_xor (bit_xor (low_32 (16 * y + a)) (low_32 (y + s))) (low_32 (y / 32 + b)))

unfoldable pub tea : ℕ → List ℕ → ℕ → ℕ → ℕ → ℕ × ℕ
tea zero words s x y = (x, y)
tea (suc n) words s x y =
    let s' = low_32 (s + 0x9E3779B9) in
    let x' = tea_half x y s' (slice_index words 0) (slice_index words 1) in
    let y' = tea_half y x' s' (slice_index words 2) (slice_index words 3) in
    tea n words s' x' y'

-- the hash of the rest of a name, of at most n pieces
unfoldable pub hash_from : ℕ → ℕ → ℕ → List ℕ → ℕ
hash_from zero p q rest = p
hash_from (suc n) p q rest =
    let mixed = tea 16 (hash_words (length rest) (take 16 rest)) 0 p q in
    hash_from n (low_32 (p + mixed.0)) (low_32 (q + mixed.1)) (drop 16 rest)

-- the hash of a name: that of `.` and `..` is 0
unfoldable pub name_hash : List ℕ → ℕ
name_hash name = if is_dots name then 0 else hash_from ((length name + 15) / 16) 0x67452301 0xEFCDAB89 name
