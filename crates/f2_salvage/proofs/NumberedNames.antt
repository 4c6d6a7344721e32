-- Names with numbers behind them: they differ, and are legal.
use Rattle.std.proofs.Common.{◌≡◌, ℕ, zero, suc, ◌+◌, ◌%◌, ◌^◌, ◌<◌, ◌≤◌, List, [], ◌∷◌, ◌++◌, Bool, true, false, not, ◌&&◌, ◌==◌, nat_le, length, get_or, refl, sym, ap, ◌∙◌, arith, append-nil, append_assoc}
use Rattle.std.specs.Prelude.{codes, decimal}
use Rattle.std.specs.List.{list_all}
use Rattle.std.proofs.lemmas.Bool.{and_parts, and_from, le-leb, leb-true, ne_eqb}
use Rattle.std.proofs.lemmas.List.{append_cancel_left, length-append}
use Rattle.std.proofs.lemmas.List.Folds.{list_all-append}
use Rattle.std.proofs.lemmas.Fmt.{decimal_by_steps, decimal_injective, decimal_nonempty, length-decimal-le}
use Rattle.f2_bytes.specs.Names.{is_legal_name, is_dots}
use Rattle.f2_bytes.specs.LostFiles.{numbered}
use Rattle.f2_salvage.proofs.ListFacts.{cons_parts, cons_same}

abbrev pub is_digit : ℕ → Bool
is_digit c = nat_le 48 c && nat_le c 57

-- a byte that a name may have
abbrev pub is_plain : ℕ → Bool
is_plain c = not (c == 0) && not (c == 47)

digit-is : (c : ℕ) → 48 ≤ c → c ≤ 57 → is_digit c ≡ true
digit-is c low high = and_from (nat_le 48 c) (nat_le c 57) (le-leb 48 c low) (le-leb c 57 high)

digit-range : (c : ℕ) → is_digit c ≡ true → (48 ≤ c) × (c ≤ 57)
digit-range c h = let parts = and_parts (nat_le 48 c) (nat_le c 57) h in (leb-true 48 c parts.0, leb-true c 57 parts.1)

pub digits-decimal : (n : ℕ) → n < 2 ^ 64 → list_all is_digit (decimal n) ≡ true
digits-decimal n small =
    decimal_by_steps (λ m ds. list_all is_digit ds ≡ true)
    (λ m low. and_from (is_digit (48 + m)) true (digit-is (48 + m) (omega arith) (omega (arith, low))) refl)
    (λ m ds big ih. list_all-append is_digit ds ((48 + m % 10) ∷ []) ∙ rw (ih, digit-is (48 + m % 10) (omega arith) (omega arith)) refl)
    n small

plain-digits : (xs : List ℕ) → list_all is_digit xs ≡ true → list_all is_plain xs ≡ true
plain-digits [] h = refl
plain-digits (x ∷ xs) h =
    let parts = and_parts (is_digit x) (list_all is_digit xs) h in
    let range = digit-range x parts.0 in
    rw (ne_eqb x 0 (λ e. omega (arith, e, range)), ne_eqb x 47 (λ e. omega (arith, e, range))) (plain-digits xs parts.1)

-- ---- what stands behind the name

abbrev pub suffix : ℕ → List ℕ
suffix zero = []
suffix (suc n) = 46 ∷ decimal (suc n)

pub numbered-suffix : (name : List ℕ) (n : ℕ) → numbered name n ≡ name ++ suffix n
numbered-suffix name zero = sym (append-nil name)
numbered-suffix name (suc n) = append_assoc name (codes ".") (decimal (suc n))

suffix-injective : (m n : ℕ) → m < 2 ^ 64 → n < 2 ^ 64 → suffix m ≡ suffix n → m ≡ n
suffix-injective zero zero a b e = refl
suffix-injective zero (suc n) a b e = absurd (cc e)
suffix-injective (suc m) zero a b e = absurd (cc e)
suffix-injective (suc m) (suc n) a b e = decimal_injective (suc m) (suc n) a b (cons_parts 46 46 (decimal (suc m)) (decimal (suc n)) e).1

-- two numbers give a name two names
pub numbered-injective : (name : List ℕ) (m n : ℕ) → m < 2 ^ 64 → n < 2 ^ 64 → numbered name m ≡ numbered name n → m ≡ n
numbered-injective name m n a b e =
    suffix-injective m n a b (append_cancel_left name (suffix m) (suffix n) (sym (numbered-suffix name m) ∙ e ∙ numbered-suffix name n))

fronts : (a b : List ℕ) (m n : ℕ) → list_all is_digit a ≡ true → list_all is_digit b ≡ true → a ++ suffix m ≡ b ++ suffix n → a ≡ b
fronts [] [] m n da db e = refl
fronts [] (y ∷ b) zero n da db e = absurd (cc e)
fronts [] (y ∷ b) (suc m) n da db e =
    let dot : 46 ≡ y = (cons_parts 46 y (decimal (suc m)) (b ++ suffix n) e).0 in
    let range = digit-range y (and_parts (is_digit y) (list_all is_digit b) db).0 in
    absurd (omega (arith, dot, range))
fronts (x ∷ a) [] m zero da db e = absurd (cc e)
fronts (x ∷ a) [] m (suc n) da db e =
    let dot : x ≡ 46 = (cons_parts x 46 (a ++ suffix m) (decimal (suc n)) e).0 in
    let range = digit-range x (and_parts (is_digit x) (list_all is_digit a) da).0 in
    absurd (omega (arith, dot, range))
fronts (x ∷ a) (y ∷ b) m n da db e =
    let parts = cons_parts x y (a ++ suffix m) (b ++ suffix n) e in
    cons_same x y a b parts.0 (fronts a b m n (and_parts (is_digit x) (list_all is_digit a) da).1 (and_parts (is_digit y) (list_all is_digit b) db).1 parts.1)

-- names of two numbers differ, whatever numbers stand behind them
pub numbered-apart : (i j m n : ℕ) → i < 2 ^ 64 → j < 2 ^ 64 → numbered (decimal i) m ≡ numbered (decimal j) n → i ≡ j
numbered-apart i j m n a b e =
    decimal_injective i j a b
    (fronts (decimal i) (decimal j) m n (digits-decimal i a) (digits-decimal j b) (sym (numbered-suffix (decimal i) m) ∙ e ∙ numbered-suffix (decimal j) n))

-- ---- legal names

plain-suffix : (n : ℕ) → n < 2 ^ 64 → list_all is_plain (suffix n) ≡ true
plain-suffix zero small = refl
plain-suffix (suc n) small = plain-digits (decimal (suc n)) (digits-decimal (suc n) small)

length-suffix : (n : ℕ) → n < 2 ^ 64 → length (suffix n) ≤ 21
length-suffix zero small = omega arith
length-suffix (suc n) small = let len = length-decimal-le 20 (suc n) (omega arith) (omega (arith, small)) small in omega (arith, len)

pub numbered-legal : (name : List ℕ) (n : ℕ) → n < 2 ^ 64 → 1 ≤ length name → length name ≤ 200 → list_all is_plain name ≡ true → is_legal_name (numbered name n) ≡ true
numbered-legal name n small some few plain =
    let len = length-append name (suffix n) in
    let short = length-suffix n small in
    let whole : is_legal_name (name ++ suffix n) ≡ true
    = and_from (nat_le 1 (length (name ++ suffix n)) && nat_le (length (name ++ suffix n)) 255) (list_all is_plain (name ++ suffix n))
    (and_from (nat_le 1 (length (name ++ suffix n))) (nat_le (length (name ++ suffix n)) 255) (le-leb 1 (length (name ++ suffix n)) (omega (arith, len, some))) (le-leb (length (name ++ suffix n)) 255 (omega (arith, len, few, short))))
    (list_all-append is_plain name (suffix n) ∙ rw (plain, plain-suffix n small) refl) in
    ap is_legal_name (numbered-suffix name n) ∙ whole

-- a name that begins with another byte than a dot
pub numbered-no_dots : (name : List ℕ) (n : ℕ) → (get_or name 0 46 ≡ 46 → ⊥) → is_dots (numbered name n) ≡ false
numbered-no_dots [] n other = absurd (other refl)
numbered-no_dots (x ∷ xs) n other = ap is_dots (numbered-suffix (x ∷ xs) n) ∙ rw (ne_eqb x 46 other) refl

-- the decimal digits of a number of 32 bits make a name
pub decimal-name : (n : ℕ) → n < 2 ^ 32 → (1 ≤ length (decimal n)) × (length (decimal n) ≤ 200) × (list_all is_plain (decimal n) ≡ true) × (get_or (decimal n) 0 46 ≡ 46 → ⊥)
decimal-name n small =
    let some = decimal_nonempty n (omega (arith, small)) in
    let few = length-decimal-le 10 n (omega arith) (omega (arith, small)) (omega (arith, small)) in
    let digits = digits-decimal n (omega (arith, small)) in
    (omega (arith, some), omega (arith, few), plain-digits (decimal n) digits, first (decimal n) some digits)
  where
    first : (xs : List ℕ) → 0 < length xs → list_all is_digit xs ≡ true → get_or xs 0 46 ≡ 46 → ⊥
    first [] some h e = omega (arith, some)
    first (x ∷ xs) some h e = let range = digit-range x (and_parts (is_digit x) (list_all is_digit xs) h).0 in omega (arith, e, range)
