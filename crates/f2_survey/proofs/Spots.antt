-- Where the blocks of a file have their addresses, by rows: the nodes of addresses in the order of their offsets, each a row of 1018 words.
use Rattle.std.proofs.Common.{◌≡◌, ℕ, zero, suc, ◌+◌, ◌-◌, ◌*◌, ◌/◌, ◌%◌, ◌^◌, ◌<◌, ◌≤◌, ◌⊎◌, inl, inr, true, false, ◌==◌, ◌&&◌, nat_le, nat_lt, cond, Option, Some, None, refl, sym, ap, ◌∙◌, ⊎_elim, arith}
use Rattle.std.proofs.lemmas.Bool.{and_parts, not-true, cases_lt, cases_eq, eq-eqb, ne_eqb, lt-ltb, le-ltb, ltb-true, lt-leb, le-leb, eqb-false, false≢true}
use Rattle.f2_bytes.specs.Node.{locate, offset_limit}
use Rattle.f2_bytes.specs.Node.{is_direct}

-- the row of the node of addresses at an offset: how many have an offset below this one
unfoldable pub row_of : ℕ → ℕ
row_of o =
    cond (nat_lt o 4) (o - 1) (cond (nat_lt o 1023) (o - 2) (cond (nat_lt o 2042) (o - 3)
    (2038 + 1018 * ((o - 2042) / 1019) + ((o - 2042) % 1019 - 1))))

-- the offset of the node of a row
unfoldable pub offset_of_row : ℕ → ℕ
offset_of_row r =
    cond (nat_lt r 2) (r + 1) (cond (nat_lt r 1020) (r + 2) (cond (nat_lt r 2038) (r + 3)
    (2043 + 1019 * ((r - 2038) / 1018) + (r - 2038) % 1018)))

-- how many rows there are
unfoldable pub row_limit : ℕ
row_limit = 1038362

pub row_limit-value : row_limit ≡ 1038362
unfolding row_limit
row_limit-value = refl

pub limit-value : offset_limit ≡ 1039384
unfolding offset_limit
limit-value = refl

positive : (n : ℕ) → (n ≡ 0 → ⊥) → 0 < n
positive zero away = absurd (away refl)
positive (suc n) away = omega arith

below-ne : (o m : ℕ) → o ≤ m → (o ≡ m → ⊥) → o < m
below-ne o m le away = ⊎_elim (λ lt. lt) (λ ge. absurd (away (omega (arith, le, ge)))) (cases_lt o m)

pub above-ne : (m o : ℕ) → m ≤ o → (o ≡ m → ⊥) → suc m ≤ o
above-ne m o le away = ⊎_elim (λ lt. lt) (λ ge. absurd (away (omega (arith, le, ge)))) (cases_lt m o)

-- ---- rows band by band

row-1 : (o : ℕ) → o < 4 → row_of o ≡ o - 1
unfolding row_of
row-1 o a = rw (lt-ltb o 4 a) refl

row-2 : (o : ℕ) → 4 ≤ o → o < 1023 → row_of o ≡ o - 2
unfolding row_of
row-2 o a b = rw (le-ltb o 4 a, lt-ltb o 1023 b) refl

row-3 : (o : ℕ) → 1023 ≤ o → o < 2042 → row_of o ≡ o - 3
unfolding row_of
row-3 o a b = rw (le-ltb o 4 (omega (arith, a)), le-ltb o 1023 a, lt-ltb o 2042 b) refl

row-4 : (o a c : ℕ) → o ≡ 2042 + 1019 * a + c → c < 1019 → row_of o ≡ 2038 + 1018 * a + (c - 1)
unfolding row_of
row-4 o a c e low =
    let d : (o - 2042) / 1019 ≡ a = omega (arith, e, low) in
    let m : (o - 2042) % 1019 ≡ c = omega (arith, e, low) in
    rw (le-ltb o 4 (omega (arith, e)), le-ltb o 1023 (omega (arith, e)), le-ltb o 2042 (omega (arith, e)), d, m) refl

offset-1 : (r : ℕ) → r < 2 → offset_of_row r ≡ r + 1
unfolding offset_of_row
offset-1 r a = rw (lt-ltb r 2 a) refl

offset-2 : (r : ℕ) → 2 ≤ r → r < 1020 → offset_of_row r ≡ r + 2
unfolding offset_of_row
offset-2 r a b = rw (le-ltb r 2 a, lt-ltb r 1020 b) refl

offset-3 : (r : ℕ) → 1020 ≤ r → r < 2038 → offset_of_row r ≡ r + 3
unfolding offset_of_row
offset-3 r a b = rw (le-ltb r 2 (omega (arith, a)), le-ltb r 1020 a, lt-ltb r 2038 b) refl

offset-4 : (r a c : ℕ) → r ≡ 2038 + 1018 * a + c → c < 1018 → offset_of_row r ≡ 2043 + 1019 * a + c
unfolding offset_of_row
offset-4 r a c e low =
    let d : (r - 2038) / 1018 ≡ a = omega (arith, e, low) in
    let m : (r - 2038) % 1018 ≡ c = omega (arith, e, low) in
    rw (le-ltb r 2 (omega (arith, e)), le-ltb r 1020 (omega (arith, e)), le-ltb r 2038 (omega (arith, e)), d, m) refl

-- ---- which offsets are of nodes of addresses

-- what a direct offset is not
abbrev pub Direct : ℕ → Type 0
Direct o = (0 < o) × (o < 1039384) × (o ≡ 3 → ⊥) × (o ≡ 1022 → ⊥) × (o ≡ 2041 → ⊥) × (2042 ≤ o → (o - 2042) % 1019 ≡ 0 → ⊥)

pub direct-parts : (o : ℕ) → is_direct o ≡ true → Direct o
unfolding offset_limit
direct-parts o h =
    let p5 = and_parts _ _ h in
    let p4 = and_parts _ _ p5.0 in
    let p3 = and_parts _ _ p4.0 in
    let p2 = and_parts _ _ p3.0 in
    let p1 = and_parts _ _ p2.0 in
    let last : (nat_le 2042 o && ((o - 2042) % 1019 == 0)) ≡ false = not-true (nat_le 2042 o && ((o - 2042) % 1019 == 0)) p5.1 in (
      ltb-true 0 o p1.0,
      ltb-true o 1039384 p1.1,
      eqb-false o 3 (not-true (o == 3) p2.1),
      eqb-false o 1022 (not-true (o == 1022) p3.1),
      eqb-false o 2041 (not-true (o == 2041) p4.1),
      λ a b.
          let t : (nat_le 2042 o && ((o - 2042) % 1019 == 0)) ≡ true = rw (le-leb 2042 o a, eq-eqb ((o - 2042) % 1019) 0 b) refl in
          false≢true (sym last ∙ t),
    )

pub direct-from : (o : ℕ) → Direct o → is_direct o ≡ true
unfolding offset_limit
direct-from o d =
    rw (lt-ltb 0 o d.0, lt-ltb o 1039384 d.1, ne_eqb o 3 d.2, ne_eqb o 1022 d.3, ne_eqb o 2041 d.4, last (cases_lt o 2042)) refl
  where
    last : (o < 2042) ⊎ (2042 ≤ o) → (nat_le 2042 o && ((o - 2042) % 1019 == 0)) ≡ false
    last (inl low) = rw (lt-leb 2042 o low) refl
    last (inr high) = rw (le-leb 2042 o high, ne_eqb ((o - 2042) % 1019) 0 (d.5 high)) refl

-- an offset below the limit that is not direct
pub not-direct : (o : ℕ) → o < 1039384 → is_direct o ≡ false → (o ≡ 0) ⊎ ((o ≡ 3) ⊎ ((o ≡ 1022) ⊎ ((o ≡ 2041) ⊎ ((2042 ≤ o) × ((o - 2042) % 1019 ≡ 0)))))
not-direct o below h =
    ⊎_elim inl (λ a. ⊎_elim (λ e. inr (inl e)) (λ b. ⊎_elim (λ e. inr (inr (inl e))) (λ c. ⊎_elim (λ e. inr (inr (inr (inl e)))) (λ d.
    inr (inr (inr (inr (last a b c d (cases_lt o 2042) (cases_eq ((o - 2042) % 1019) 0))))))
    (cases_eq o 2041)) (cases_eq o 1022)) (cases_eq o 3)) (cases_eq o 0)
  where
    last : (o ≡ 0 → ⊥) → (o ≡ 3 → ⊥) → (o ≡ 1022 → ⊥) → (o ≡ 2041 → ⊥) → (o < 2042) ⊎ (2042 ≤ o) → ((o - 2042) % 1019 ≡ 0) ⊎ ((o - 2042) % 1019 ≡ 0 → ⊥) → (2042 ≤ o) × ((o - 2042) % 1019 ≡ 0)
    last a b c d (inl low) m = absurd (false≢true (sym h ∙ direct-from o (positive o a, below, b, c, d, λ high z. omega (arith, low, high))))
    last a b c d (inr high) (inl z) = (high, z)
    last a b c d (inr high) (inr away) = absurd (false≢true (sym h ∙ direct-from o (positive o a, below, b, c, d, λ h z. away z)))

-- ---- rows and offsets are each other's inverse

-- the row and the place in it of a deep offset
deep : (o : ℕ) → 2042 ≤ o → o ≡ 2042 + 1019 * ((o - 2042) / 1019) + (o - 2042) % 1019
deep o h = omega arith

deep_row : (r : ℕ) → 2038 ≤ r → r ≡ 2038 + 1018 * ((r - 2038) / 1018) + (r - 2038) % 1018
deep_row r h = omega arith

pub offset_of_row-row : (o : ℕ) → is_direct o ≡ true → offset_of_row (row_of o) ≡ o
offset_of_row-row o h = go (direct-parts o h) (cases_lt o 4) (cases_lt o 1023) (cases_lt o 2042)
  where
    go : Direct o → (o < 4) ⊎ (4 ≤ o) → (o < 1023) ⊎ (1023 ≤ o) → (o < 2042) ⊎ (2042 ≤ o) → offset_of_row (row_of o) ≡ o
    go d (inl a) b c =
        let p = d.0 in
        let q : o < 3 = below-ne o 3 (omega (arith, a)) d.2 in
        ap offset_of_row (row-1 o a) ∙ offset-1 (o - 1) (omega (arith, p, q)) ∙ omega (arith, p)
    go d (inr a) (inl b) c =
        let q : o < 1022 = below-ne o 1022 (omega (arith, b)) d.3 in
        ap offset_of_row (row-2 o a b) ∙ offset-2 (o - 2) (omega (arith, a)) (omega (arith, q)) ∙ omega (arith, a)
    go d (inr a) (inr b) (inl c) =
        let q : o < 2041 = below-ne o 2041 (omega (arith, c)) d.4 in
        ap offset_of_row (row-3 o b c) ∙ offset-3 (o - 3) (omega (arith, b)) (omega (arith, q)) ∙ omega (arith, b)
    go d (inr a) (inr b) (inr c) =
        let q = (o - 2042) / 1019 in
        let m = (o - 2042) % 1019 in
        let small : m < 1019 = omega arith in
        let some : 0 < m = positive m (d.5 c) in
        let e = deep o c in
        ap offset_of_row (row-4 o q m e small) ∙ offset-4 (2038 + 1018 * q + (m - 1)) q (m - 1) refl (omega (arith, small, some)) ∙ omega (arith, e, some)

pub row_of-offset : (r : ℕ) → row_of (offset_of_row r) ≡ r
row_of-offset r = go (cases_lt r 2) (cases_lt r 1020) (cases_lt r 2038)
  where
    go : (r < 2) ⊎ (2 ≤ r) → (r < 1020) ⊎ (1020 ≤ r) → (r < 2038) ⊎ (2038 ≤ r) → row_of (offset_of_row r) ≡ r
    go (inl a) b c = ap row_of (offset-1 r a) ∙ row-1 (r + 1) (omega (arith, a)) ∙ omega arith
    go (inr a) (inl b) c = ap row_of (offset-2 r a b) ∙ row-2 (r + 2) (omega (arith, a)) (omega (arith, b)) ∙ omega arith
    go (inr a) (inr b) (inl c) = ap row_of (offset-3 r b c) ∙ row-3 (r + 3) (omega (arith, b)) (omega (arith, c)) ∙ omega arith
    go (inr a) (inr b) (inr c) =
        let q = (r - 2038) / 1018 in
        let m = (r - 2038) % 1018 in
        let small : m < 1018 = omega arith in
        let e = deep_row r c in
        ap row_of (offset-4 r q m e small) ∙ row-4 (2043 + 1019 * q + m) q (m + 1) (omega arith) (omega (arith, small)) ∙ omega (arith, e)

pub offset_of_row-direct : (r : ℕ) → r < 1038362 → is_direct (offset_of_row r) ≡ true
offset_of_row-direct r low = go (cases_lt r 2) (cases_lt r 1020) (cases_lt r 2038)
  where
    at : (o : ℕ) → offset_of_row r ≡ o → Direct o → is_direct (offset_of_row r) ≡ true
    at o e d = ap is_direct e ∙ direct-from o d

    go : (r < 2) ⊎ (2 ≤ r) → (r < 1020) ⊎ (1020 ≤ r) → (r < 2038) ⊎ (2038 ≤ r) → is_direct (offset_of_row r) ≡ true
    go (inl a) b c = at (r + 1) (offset-1 r a) (omega arith, omega (arith, a), λ e. omega (arith, e, a), λ e. omega (arith, e, a), λ e. omega (arith, e, a), λ h e. omega (arith, h, a))
    go (inr a) (inl b) c = at (r + 2) (offset-2 r a b) (omega arith, omega (arith, b), λ e. omega (arith, e, a), λ e. omega (arith, e, b), λ e. omega (arith, e, b), λ h e. omega (arith, h, b))
    go (inr a) (inr b) (inl c) = at (r + 3) (offset-3 r b c) (omega arith, omega (arith, c), λ e. omega (arith, e, b), λ e. omega (arith, e, b), λ e. omega (arith, e, c), λ h e. omega (arith, h, c))
    go (inr a) (inr b) (inr c) =
        let q = (r - 2038) / 1018 in
        let m = (r - 2038) % 1018 in
        let small : m < 1018 = omega arith in
        let e = deep_row r c in
        let few : q < 1018 = omega (arith, low) in
        let o = 2043 + 1019 * q + m in
        let rest : (o - 2042) % 1019 ≡ m + 1 = omega (arith, small) in
        at o (offset-4 r q m e small) (omega arith, omega (arith, small, few), λ e. omega (arith, e), λ e. omega (arith, e), λ e. omega (arith, e), λ h e. omega (arith, e, rest))

pub row_of-below : (o : ℕ) → is_direct o ≡ true → row_of o < 1038362
row_of-below o h = go (direct-parts o h) (cases_lt o 4) (cases_lt o 1023) (cases_lt o 2042)
  where
    go : Direct o → (o < 4) ⊎ (4 ≤ o) → (o < 1023) ⊎ (1023 ≤ o) → (o < 2042) ⊎ (2042 ≤ o) → row_of o < 1038362
    go d (inl a) b c = let e = row-1 o a in omega (arith, e, a)
    go d (inr a) (inl b) c = let e = row-2 o a b in omega (arith, e, b)
    go d (inr a) (inr b) (inl c) = let e = row-3 o b c in omega (arith, e, c)
    go d (inr a) (inr b) (inr c) =
        let q = (o - 2042) / 1019 in
        let m = (o - 2042) % 1019 in
        let small : m < 1019 = omega arith in
        let e = row-4 o q m (deep o c) small in
        let below = d.1 in
        let few : q < 1018 = omega (arith, below) in
        omega (arith, e, few, small)

-- one offset more
pub row_of-direct : (o : ℕ) → is_direct o ≡ true → row_of (suc o) ≡ suc (row_of o)
row_of-direct o h = go (direct-parts o h) (cases_lt (suc o) 4) (cases_lt (suc o) 1023) (cases_lt (suc o) 2042)
  where
    go : Direct o → (suc o < 4) ⊎ (4 ≤ suc o) → (suc o < 1023) ⊎ (1023 ≤ suc o) → (suc o < 2042) ⊎ (2042 ≤ suc o) → row_of (suc o) ≡ suc (row_of o)
    go d (inl a) b c =
        let p = d.0 in
        let e = row-1 o (omega (arith, a)) in
        row-1 (suc o) a ∙ omega (arith, e, p)
    go d (inr a) (inl b) c =
        let p : 4 ≤ o = above-ne 3 o (omega (arith, a)) d.2 in
        let e = row-2 o p (omega (arith, b)) in
        row-2 (suc o) a b ∙ omega (arith, e, p)
    go d (inr a) (inr b) (inl c) =
        let p : 1023 ≤ o = above-ne 1022 o (omega (arith, b)) d.3 in
        let e = row-3 o p (omega (arith, c)) in
        row-3 (suc o) b c ∙ omega (arith, e, p)
    go d (inr a) (inr b) (inr c) =
        let p : 2042 ≤ o = above-ne 2041 o (omega (arith, c)) d.4 in
        let q = (o - 2042) / 1019 in
        let m = (o - 2042) % 1019 in
        let small : m < 1019 = omega arith in
        let some : 0 < m = positive m (d.5 p) in
        let e = row-4 o q m (deep o p) small in
        ⊎_elim (λ more. row-4 (suc o) q (suc m) (let f = deep o p in omega (arith, f)) more ∙ omega (arith, e, some))
        (λ last. row-4 (suc o) (suc q) 0 (let f = deep o p in omega (arith, f, last, small)) (omega arith) ∙ omega (arith, e, some, last, small))
        (cases_lt (suc m) 1019)

pub row_of-other : (o : ℕ) → o < 1039384 → is_direct o ≡ false → row_of (suc o) ≡ row_of o
unfolding row_of
row_of-other o below h = go (not-direct o below h)
  where
    go : (o ≡ 0) ⊎ ((o ≡ 3) ⊎ ((o ≡ 1022) ⊎ ((o ≡ 2041) ⊎ ((2042 ≤ o) × ((o - 2042) % 1019 ≡ 0))))) → row_of (suc o) ≡ row_of o
    go (inl e) = rw e refl
    go (inr (inl e)) = rw e refl
    go (inr (inr (inl e))) = rw e refl
    go (inr (inr (inr (inl e)))) = rw e refl
    go (inr (inr (inr (inr t)))) =
        let a = t.0 in
        let z = t.1 in
        let q = (o - 2042) / 1019 in
        let f : o ≡ 2042 + 1019 * q + 0 = omega (arith, deep o a, z) in
        row-4 (suc o) q 1 (omega (arith, f)) (omega arith) ∙ sym (row-4 o q 0 f (omega arith))

-- ---- locate, row by row

pub locate-inode : (k n : ℕ) → k < n → locate k n ≡ Some (0, k)
unfolding locate
locate-inode k n h = rw (lt-ltb k n h) refl

same_spot : (a b c d : ℕ) → a ≡ c → b ≡ d → ◌≡◌ {A = Option (ℕ × ℕ)} (Some (a, b)) (Some (c, d))
same_spot a b c d p q = λ i. Some (p i, q i)

locate-0 : (k n r j : ℕ) → k ≡ n + 1018 * r + j → j < 1018 → r < 1 → locate k n ≡ Some (offset_of_row r, j)
unfolding locate
locate-0 k n r j e low a =
    rw (le-ltb k n (omega (arith, e)), lt-ltb k (n + 1018) (omega (arith, e, low, a)))
    (same_spot 1 (k - n) (offset_of_row r) j (sym (offset-1 r (omega (arith, a)) ∙ omega (arith, a))) (omega (arith, e, a)))

locate-1 : (k n r j : ℕ) → k ≡ n + 1018 * r + j → j < 1018 → 1 ≤ r → r < 2 → locate k n ≡ Some (offset_of_row r, j)
unfolding locate
locate-1 k n r j e low a b =
    rw (le-ltb k n (omega (arith, e)), le-ltb k (n + 1018) (omega (arith, e, a)), lt-ltb k (n + 2 * 1018) (omega (arith, e, low, b)))
    (same_spot 2 (k - n - 1018) (offset_of_row r) j (sym (offset-1 r b ∙ omega (arith, a, b))) (omega (arith, e, a, b)))

locate-2 : (k n r j : ℕ) → k ≡ n + 1018 * r + j → j < 1018 → 2 ≤ r → r < 1020 → locate k n ≡ Some (offset_of_row r, j)
unfolding locate
locate-2 k n r j e low a b =
    let p : ℕ = k - n - 2 * 1018 in
    let f : k - n - 2 * 1018 ≡ 1018 * (r - 2) + j = omega (arith, e, a) in
    rw (le-ltb k n (omega (arith, e)), le-ltb k (n + 1018) (omega (arith, e, a)), le-ltb k (n + 2 * 1018) (omega (arith, e, a)), lt-ltb (k - n - 2 * 1018) (1018 ^ 2) (omega (arith, f, low, b)))
    (same_spot (4 + (k - n - 2 * 1018) / 1018) ((k - n - 2 * 1018) % 1018) (offset_of_row r) j
    (let g = offset-2 r a b in omega (arith, f, low, a, g)) (omega (arith, f, low)))

locate-3 : (k n r j : ℕ) → k ≡ n + 1018 * r + j → j < 1018 → 1020 ≤ r → r < 2038 → locate k n ≡ Some (offset_of_row r, j)
unfolding locate
locate-3 k n r j e low a b =
    let f : k - n - 2 * 1018 - 1018 ^ 2 ≡ 1018 * (r - 1020) + j = omega (arith, e, a) in
    rw (le-ltb k n (omega (arith, e)), le-ltb k (n + 1018) (omega (arith, e, a)), le-ltb k (n + 2 * 1018) (omega (arith, e, a)), le-ltb (k - n - 2 * 1018) (1018 ^ 2) (omega (arith, e, a)), lt-ltb (k - n - 2 * 1018 - 1018 ^ 2) (1018 ^ 2) (omega (arith, f, low, b)))
    (same_spot (1023 + (k - n - 2 * 1018 - 1018 ^ 2) / 1018) ((k - n - 2 * 1018 - 1018 ^ 2) % 1018) (offset_of_row r) j
    (let g = offset-3 r a b in omega (arith, f, low, a, g)) (omega (arith, f, low)))

locate-4 : (k n r j : ℕ) → k ≡ n + 1018 * r + j → j < 1018 → 2038 ≤ r → r < 1038362 → locate k n ≡ Some (offset_of_row r, j)
unfolding locate
locate-4 k n r j e low a b =
    let q = (r - 2038) / 1018 in
    let m = (r - 2038) % 1018 in
    let small : m < 1018 = omega arith in
    let h = deep_row r a in
    let p = k - n - 2 * 1018 - 2 * 1018 ^ 2 in
    let f : p ≡ 1036324 * q + 1018 * m + j = omega (arith, e, h, a) in
    let over : p / 1036324 ≡ q = omega (arith, f, low, small) in
    let under : p % 1036324 ≡ 1018 * m + j = omega (arith, f, low, small) in
    let mid : p % 1036324 / 1018 ≡ m = omega (arith, under, low) in
    let last : p % 1018 ≡ j = omega (arith, f, low) in
    rw (le-ltb k n (omega (arith, e)), le-ltb k (n + 1018) (omega (arith, e, a)), le-ltb k (n + 2 * 1018) (omega (arith, e, a)), le-ltb (k - n - 2 * 1018) (1018 ^ 2) (omega (arith, e, a)), le-ltb (k - n - 2 * 1018 - 1018 ^ 2) (1018 ^ 2) (omega (arith, e, a)), lt-ltb (k - n - 2 * 1018 - 2 * 1018 ^ 2) (1018 ^ 3) (omega (arith, e, low, b)))
    (same_spot (2043 + 1019 * (p / 1018 ^ 2) + p % 1018 ^ 2 / 1018) (p % 1018) (offset_of_row r) j
    (let g = offset-4 r q m h small in omega (arith, over, mid, g)) last)

pub locate-row : (n r j : ℕ) → r < 1038362 → j < 1018 → locate (n + 1018 * r + j) n ≡ Some (offset_of_row r, j)
locate-row n r j below low = go (cases_lt r 1) (cases_lt r 2) (cases_lt r 1020) (cases_lt r 2038)
  where
    k : ℕ
    k = n + 1018 * r + j

    go : (r < 1) ⊎ (1 ≤ r) → (r < 2) ⊎ (2 ≤ r) → (r < 1020) ⊎ (1020 ≤ r) → (r < 2038) ⊎ (2038 ≤ r) → locate (n + 1018 * r + j) n ≡ Some (offset_of_row r, j)
    go (inl a) b c d = locate-0 (n + 1018 * r + j) n r j refl low a
    go (inr a) (inl b) c d = locate-1 (n + 1018 * r + j) n r j refl low a b
    go (inr a) (inr b) (inl c) d = locate-2 (n + 1018 * r + j) n r j refl low b c
    go (inr a) (inr b) (inr c) (inl d) = locate-3 (n + 1018 * r + j) n r j refl low c d
    go (inr a) (inr b) (inr c) (inr d) = locate-4 (n + 1018 * r + j) n r j refl low d below

pub locate-past : (k n : ℕ) → n + 1018 * 1038362 ≤ k → locate k n ≡ None
unfolding locate
locate-past k n h =
    rw (le-ltb k n (omega (arith, h)), le-ltb k (n + 1018) (omega (arith, h)), le-ltb k (n + 2 * 1018) (omega (arith, h)), le-ltb (k - n - 2 * 1018) (1018 ^ 2) (omega (arith, h)), le-ltb (k - n - 2 * 1018 - 1018 ^ 2) (1018 ^ 2) (omega (arith, h)), le-ltb (k - n - 2 * 1018 - 2 * 1018 ^ 2) (1018 ^ 3) (omega (arith, h)))
    refl

pub direct-not-zero : (o : ℕ) → is_direct o ≡ true → (o == 0) ≡ false
direct-not-zero o h = let p = (direct-parts o h).0 in ne_eqb o 0 (λ e. omega (arith, e, p))
