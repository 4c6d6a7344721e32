-- Two blocks that agree in some words agree in the bytes of these, and in what is read of them.
use Rattle.std.proofs.Common.{◌≡◌, ℕ, zero, suc, ◌+◌, ◌-◌, ◌*◌, ◌/◌, ◌%◌, ◌<◌, ◌≤◌, length, drop, refl, sym, ap, ◌∙◌, subst, arith, get_or-drop}
use Rattle.std.specs.Prelude.{slice_index}
use Rattle.std.proofs.lemmas.List.{ext_get_or, get_or-take, length-take, length-drop}
use Rattle.f2_bytes.specs.Bytes.{Block, IsBlock, number_at, word, bytes_at}

-- the bytes from one on and below another are the same
abbrev pub AgreeIn : ℕ → ℕ → Block → Block → Type 0
AgreeIn low high b c = (k : ℕ) → low ≤ k → k < high → slice_index c k ≡ slice_index b k

first_byte : (x0 x1 x2 x3 y0 y1 y2 y3 : ℕ) → x0 < 256 → y0 < 256 → x0 + 256 * (x1 + 256 * (x2 + 256 * (x3 + 256 * 0))) ≡ y0 + 256 * (y1 + 256 * (y2 + 256 * (y3 + 256 * 0))) → x0 ≡ y0
first_byte x0 x1 x2 x3 y0 y1 y2 y3 x y e = omega (arith, x, y, e)

second_byte : (x0 x1 x2 x3 y0 y1 y2 y3 : ℕ) → x0 < 256 → y0 < 256 → x1 < 256 → y1 < 256 → x0 + 256 * (x1 + 256 * (x2 + 256 * (x3 + 256 * 0))) ≡ y0 + 256 * (y1 + 256 * (y2 + 256 * (y3 + 256 * 0))) → x1 ≡ y1
second_byte x0 x1 x2 x3 y0 y1 y2 y3 a b x y e = omega (arith, a, b, x, y, e)

third_byte : (x0 x1 x2 x3 y0 y1 y2 y3 : ℕ) → x0 ≡ y0 → x1 ≡ y1 → x2 < 256 → y2 < 256 → x0 + 256 * (x1 + 256 * (x2 + 256 * (x3 + 256 * 0))) ≡ y0 + 256 * (y1 + 256 * (y2 + 256 * (y3 + 256 * 0))) → x2 ≡ y2
third_byte x0 x1 x2 x3 y0 y1 y2 y3 a b x y e = omega (arith, a, b, x, y, e)

fourth_byte : (x0 x1 x2 x3 y0 y1 y2 y3 : ℕ) → x0 ≡ y0 → x1 ≡ y1 → x2 ≡ y2 → x0 + 256 * (x1 + 256 * (x2 + 256 * (x3 + 256 * 0))) ≡ y0 + 256 * (y1 + 256 * (y2 + 256 * (y3 + 256 * 0))) → x3 ≡ y3
fourth_byte x0 x1 x2 x3 y0 y1 y2 y3 a b c e = omega (arith, a, b, c, e)

-- the bytes of a word
word_bytes : (b c : Block) (j : ℕ) → ((k : ℕ) → slice_index b k < 256) → ((k : ℕ) → slice_index c k < 256) → word c j ≡ word b j → (r : ℕ) → r < 4 → slice_index c (4 * j + r) ≡ slice_index b (4 * j + r)
unfolding number_at
word_bytes b c j small_b small_c same =
    let i = 4 * j in
    let e0 : slice_index c i ≡ slice_index b i = first_byte _ _ _ _ _ _ _ _ (small_c i) (small_b i) same in
    let e1 : slice_index c (suc i) ≡ slice_index b (suc i) = second_byte _ _ _ _ _ _ _ _ (small_c i) (small_b i) (small_c (suc i)) (small_b (suc i)) same in
    let e2 : slice_index c (suc (suc i)) ≡ slice_index b (suc (suc i)) = third_byte _ _ _ _ _ _ _ _ e0 e1 (small_c (suc (suc i))) (small_b (suc (suc i))) same in
    let e3 : slice_index c (suc (suc (suc i))) ≡ slice_index b (suc (suc (suc i))) = fourth_byte _ _ _ _ _ _ _ _ e0 e1 e2 same in
    pick e0 e1 e2 e3
  where
    pick : slice_index c (4 * j) ≡ slice_index b (4 * j) → slice_index c (suc (4 * j)) ≡ slice_index b (suc (4 * j)) → slice_index c (suc (suc (4 * j))) ≡ slice_index b (suc (suc (4 * j))) → slice_index c (suc (suc (suc (4 * j)))) ≡ slice_index b (suc (suc (suc (4 * j))))
        → (r : ℕ) → r < 4 → slice_index c (4 * j + r) ≡ slice_index b (4 * j + r)
    pick e0 e1 e2 e3 zero low = subst (λ n. slice_index c n ≡ slice_index b n) (omega arith) e0
    pick e0 e1 e2 e3 (suc zero) low = subst (λ n. slice_index c n ≡ slice_index b n) (omega arith) e1
    pick e0 e1 e2 e3 (suc (suc zero)) low = subst (λ n. slice_index c n ≡ slice_index b n) (omega arith) e2
    pick e0 e1 e2 e3 (suc (suc (suc zero))) low = subst (λ n. slice_index c n ≡ slice_index b n) (omega arith) e3
    pick e0 e1 e2 e3 (suc (suc (suc (suc r)))) low = absurd (omega (arith, low))

-- words from one on and below another
pub words_agree : (b c : Block) → IsBlock b → IsBlock c → (low high : ℕ) → ((j : ℕ) → low ≤ j → j < high → word c j ≡ word b j) → AgreeIn (4 * low) (4 * high) b c
words_agree b c old new low high same k above below =
    let j = k / 4 in
    let at : 4 * j + k % 4 ≡ k = omega arith in
    subst (λ n. slice_index c n ≡ slice_index b n) at
    (word_bytes b c j old.bytes new.bytes (same j (omega (arith, above)) (omega (arith, below))) (k % 4) (omega arith))

pub narrow : (b c : Block) (low high l h : ℕ) → AgreeIn low high b c → low ≤ l → h ≤ high → AgreeIn l h b c
narrow b c low high l h same above below k up down = same k (omega (arith, above, up)) (omega (arith, below, down))

-- a number in bytes that are the same
pub number_same : (b c : Block) (i n : ℕ) → AgreeIn i (i + n) b c → number_at c i n ≡ number_at b i n
unfolding number_at
number_same b c i zero same = refl
number_same b c i (suc n) same =
    let rest = number_same b c (suc i) n (λ k low high. same k (omega (arith, low)) (omega (arith, high))) in
    let first = same i (omega arith) (omega arith) in
    omega (arith, first, rest)

-- the bytes themselves
pub bytes_same : (b c : Block) (i n : ℕ) → length c ≡ length b → AgreeIn i (i + n) b c → bytes_at c i n ≡ bytes_at b i n
bytes_same b c i n same_length same =
    let same_drop : length (drop i c) ≡ length (drop i b) = length-drop i c ∙ ap (λ m. m - i) same_length ∙ sym (length-drop i b) in
    ext_get_or 0 (bytes_at c i n) (bytes_at b i n)
    (length-take (i + n - i) (drop i c) ∙ omega (arith, same_drop, length-take (i + n - i) (drop i b)))
    (λ k low.
    let short : k < i + n - i = omega (arith, low, length-take (i + n - i) (drop i c)) in
    get_or-take (i + n - i) (drop i c) k 0 short ∙ get_or-drop i c k 0
    ∙ same (i + k) (omega arith) (omega (arith, short))
    ∙ sym (get_or-take (i + n - i) (drop i b) k 0 short ∙ get_or-drop i b k 0))
