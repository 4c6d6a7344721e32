-- Where the address of a block of a file stands: in the inode, or in a node of addresses that has an offset below the limit.
use Rattle.std.proofs.Common.{◌≡◌, ℕ, ◌+◌, ◌-◌, ◌*◌, ◌/◌, ◌%◌, ◌^◌, ◌<◌, ◌⊎◌, inl, inr, Bool, true, false, ◌==◌, ◌&&◌, nat_le, nat_lt, cond, Option, Some, None, subst, refl, ap, arith}
use Rattle.std.proofs.lemmas.Bool.{ne_eqb, lt-ltb, ltb-true, le-leb, lt-leb}
use Rattle.f2_bytes.specs.Node.{is_direct, locate, offset_limit}

-- in the inode, or in a node of addresses
abbrev pub lands : ℕ → ℕ × ℕ → Type 0
lands n t = ((t.0 ≡ 0) × (t.1 < n)) ⊎ ((is_direct t.0 ≡ true) × (t.1 < 1018))

choose : (P : ℕ × ℕ → Type 0) (b : Bool) (s t : ℕ × ℕ) (rest : Option (ℕ × ℕ)) → (b ≡ true → P s) → (rest ≡ Some t → P t) → cond b (Some s) rest ≡ Some t → P t
choose P true s t rest here there e = subst P (some_pair s t e) (here refl)
  where
    some_pair : (x y : ℕ × ℕ) → Some x ≡ Some y → x ≡ y
    some_pair x y e = ap (λ o. elim o [ Some z ↦ z | None ↦ x ]) e
choose P false s t rest here there e = there e

direct_from : (o : ℕ) → 0 < o → o < 1039384 → (o ≡ 3 → ⊥) → (o ≡ 1022 → ⊥) → (o ≡ 2041 → ⊥) → (nat_le 2042 o && ((o - 2042) % 1019 == 0)) ≡ false → is_direct o ≡ true
unfolding offset_limit
direct_from o above below a b c d =
    rw (lt-ltb 0 o above, lt-ltb o 1039384 below, ne_eqb o 3 a, ne_eqb o 1022 b, ne_eqb o 2041 c, d) refl

early_direct : (q : ℕ) → q < 1018 → is_direct (4 + q) ≡ true
early_direct q low = direct_from (4 + q) (omega arith) (omega (arith, low)) (λ e. omega (arith, e)) (λ e. omega (arith, e, low)) (λ e. omega (arith, e, low)) (rw (lt-leb 2042 (4 + q) (omega (arith, low))) refl)

middle_direct : (q : ℕ) → q < 1018 → is_direct (1023 + q) ≡ true
middle_direct q low = direct_from (1023 + q) (omega arith) (omega (arith, low)) (λ e. omega (arith, e)) (λ e. omega (arith, e, low)) (λ e. omega (arith, e, low)) (rw (lt-leb 2042 (1023 + q) (omega (arith, low))) refl)

late_direct : (a c : ℕ) → a < 1018 → c < 1018 → is_direct (2043 + 1019 * a + c) ≡ true
late_direct a c low inside =
    let o = 2043 + 1019 * a + c in
    let rest : (o - 2042) % 1019 ≡ c + 1 = omega (arith, inside) in
    let away : ((o - 2042) % 1019 == 0) ≡ false = ne_eqb ((o - 2042) % 1019) 0 (λ e. omega (arith, e, rest)) in
    direct_from o (omega arith) (omega (arith, low, inside)) (λ e. omega (arith, e)) (λ e. omega (arith, e)) (λ e. omega (arith, e)) (rw (le-leb 2042 o (omega arith), away) refl)

square_low : (p : ℕ) → p < 1018 ^ 2 → p / 1018 < 1018
square_low p h = omega arith

cube_low : (p : ℕ) → p < 1018 ^ 3 → p / 1018 ^ 2 < 1018
cube_low p h = omega arith

inner_low : (p : ℕ) → p % 1018 ^ 2 / 1018 < 1018
inner_low p = omega arith

pub locate_lands : (k n : ℕ) (t : ℕ × ℕ) → locate k n ≡ Some t → lands n t
unfolding locate offset_limit
locate_lands k n t =
    let p1 = k - n - 2 * 1018 in
    let p2 = k - n - 2 * 1018 - 1018 ^ 2 in
    let p3 = k - n - 2 * 1018 - 2 * 1018 ^ 2 in
    choose (lands n) (nat_lt k n) (0, k) t _ (λ b. inl (refl, ltb-true k n b))
    (choose (lands n) (nat_lt k (n + 1018)) (1, k - n) t _ (λ b. let low = ltb-true k (n + 1018) b in inr (refl, omega (arith, low)))
    (choose (lands n) (nat_lt k (n + 2 * 1018)) (2, k - n - 1018) t _ (λ b. let low = ltb-true k (n + 2 * 1018) b in inr (refl, omega (arith, low)))
    (choose (lands n) (nat_lt p1 (1018 ^ 2)) (4 + p1 / 1018, p1 % 1018) t _ (λ b. inr (early_direct (p1 / 1018) (square_low p1 (ltb-true p1 (1018 ^ 2) b)), omega arith))
    (choose (lands n) (nat_lt p2 (1018 ^ 2)) (1023 + p2 / 1018, p2 % 1018) t _ (λ b. inr (middle_direct (p2 / 1018) (square_low p2 (ltb-true p2 (1018 ^ 2) b)), omega arith))
    (choose (lands n) (nat_lt p3 (1018 ^ 3)) (2043 + 1019 * (p3 / 1018 ^ 2) + p3 % 1018 ^ 2 / 1018, p3 % 1018) t None (λ b. inr (late_direct (p3 / 1018 ^ 2) (p3 % 1018 ^ 2 / 1018) (cube_low p3 (ltb-true p3 (1018 ^ 3) b)) (inner_low p3), omega arith))
    (λ e. absurd (cc e)))))))

-- the last range of offsets ends below the limit
deep_below : (p : ℕ) → p < 1018 ^ 3 → 2043 + 1019 * (p / 1018 ^ 2) + p % 1018 ^ 2 / 1018 < 1039384
deep_below p h = omega arith

middle_below : (p : ℕ) → p < 1018 ^ 2 → 1023 + p / 1018 < 1039384
middle_below p h = omega arith

pub locate_below : (k n : ℕ) (t : ℕ × ℕ) → locate k n ≡ Some t → t.0 < offset_limit
unfolding locate offset_limit
locate_below k n t =
    let low = λ (s : ℕ × ℕ). s.0 < 1039384 in
    let p1 = k - n - 2 * 1018 in
    let p2 = k - n - 2 * 1018 - 1018 ^ 2 in
    let p3 = k - n - 2 * 1018 - 2 * 1018 ^ 2 in
    choose low (nat_lt k n) (0, k) t _ (λ b. omega arith)
    (choose low (nat_lt k (n + 1018)) (1, k - n) t _ (λ b. omega arith)
    (choose low (nat_lt k (n + 2 * 1018)) (2, k - n - 1018) t _ (λ b. omega arith)
    (choose low (nat_lt p1 (1018 ^ 2)) (4 + p1 / 1018, p1 % 1018) t _ (λ b. let m = middle_below p1 (ltb-true p1 (1018 ^ 2) b) in omega (arith, m))
    (choose low (nat_lt p2 (1018 ^ 2)) (1023 + p2 / 1018, p2 % 1018) t _ (λ b. middle_below p2 (ltb-true p2 (1018 ^ 2) b))
    (choose low (nat_lt p3 (1018 ^ 3)) (2043 + 1019 * (p3 / 1018 ^ 2) + p3 % 1018 ^ 2 / 1018, p3 % 1018) t None (λ b. deep_below p3 (ltb-true p3 (1018 ^ 3) b))
    (λ e. absurd (cc e)))))))
