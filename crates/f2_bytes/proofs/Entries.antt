-- Entries of the two tables that are read where their bytes stand.
use Rattle.std.proofs.Common.{◌≡◌, ℕ, ◌+◌, ◌-◌, ◌*◌, ◌/◌, ◌%◌, ◌^◌, ◌<◌, ◌≤◌, ◌⊎◌, inl, inr, List, ◌++◌, length, take, drop, refl, sym, ap, ◌∙◌, arith, append_assoc, length-append}
use Rattle.std.proofs.lemmas.List.{take_at, drop_at, drop-drop, drop-take, take-take, take-append-le, length-take-le}
use Rattle.byteorder.specs.Endian.{little_bytes}
use Rattle.f2_bytes.specs.Bytes.{number_at, bytes_at, with_bytes}
use Rattle.f2_bytes.specs.Journal.{NatEntry, nat_entry_at, nat_entry_bytes, FitsNatEntry, SitEntry, sit_entry_at, sit_entry_bytes, FitsSitBytes}
use Rattle.f2_bytes.proofs.Numbers.{number_at-drop, number_at-first, number_at-front}

-- what stands i bytes behind the front
pub drop-behind : (front ys : List ℕ) (at i : ℕ) → at ≡ length front + i → drop at (front ++ ys) ≡ drop i ys
drop-behind front ys at i is =
    ap (λ n. drop n (front ++ ys)) is ∙ sym (drop-drop i (length front) (front ++ ys)) ∙ ap (drop i) (drop_at front ys (length front) refl)

-- a number i bytes behind the front
pub number_at-behind : (front ys : List ℕ) (at i n v : ℕ) (rest : List ℕ) → at ≡ length front + i → drop i ys ≡ little_bytes n v ++ rest → v < 256 ^ n → number_at (front ++ ys) at n ≡ v
number_at-behind front ys at i n v rest is stands fits =
    ap (λ k. number_at (front ++ ys) k n) (omega arith)
    ∙ sym (number_at-drop (front ++ ys) at 0 n)
    ∙ ap (λ l. number_at l 0 n) (drop-behind front ys at i is ∙ stands)
    ∙ number_at-first n v rest fits

-- a number that has no byte in common with what was put
pub number_at-apart : (b bytes : List ℕ) (at i n : ℕ) → at + length bytes ≤ length b → (i + n ≤ at) ⊎ (at + length bytes ≤ i) → number_at (with_bytes b at bytes) i n ≡ number_at b i n
number_at-apart b bytes at i n inside (inl before) =
    let front : length (take at b) ≡ at = length-take-le at b (omega arith) in
    number_at-front (with_bytes b at bytes) b i n at before
    (ap (take at) (append_assoc (take at b) bytes (drop (at + length bytes) b)) ∙ take_at (take at b) (bytes ++ drop (at + length bytes) b) at front)
number_at-apart b bytes at i n inside (inr behind) =
    let past : ℕ = at + length bytes in
    let front : length (take at b ++ bytes) ≡ past = omega (arith, length-append (take at b) bytes, length-take-le at b (omega arith)) in
    let place : past + (i - past) ≡ i = omega (arith, behind) in
    ap (λ k. number_at (with_bytes b at bytes) k n) (sym place)
    ∙ sym (number_at-drop (with_bytes b at bytes) past (i - past) n)
    ∙ ap (λ l. number_at l (i - past) n) (drop_at (take at b ++ bytes) (drop past b) past front)
    ∙ number_at-drop b past (i - past) n
    ∙ ap (λ k. number_at b k n) place

-- what is read of bytes that were put in, where a reading of them behind any front is known
pub read-put : {X : Type 0} (read : List ℕ → ℕ → X) (x : X) (b bytes : List ℕ) (at : ℕ) → at + length bytes ≤ length b
    → ((front rest : List ℕ) → length front ≡ at → read (front ++ (bytes ++ rest)) at ≡ x) → read (with_bytes b at bytes) at ≡ x
read-put read x b bytes at inside reads =
    ap (λ l. read l at) (append_assoc (take at b) bytes (drop (at + length bytes) b))
    ∙ reads (take at b) (drop (at + length bytes) b) (length-take-le at b (omega arith))

-- an entry whose 9 bytes stand behind a front
pub nat_entry_at-bytes : (e : NatEntry) (front rest : List ℕ) (at : ℕ) → length front ≡ at → FitsNatEntry e → nat_entry_at (front ++ (nat_entry_bytes e ++ rest)) at ≡ e
nat_entry_at-bytes e front rest at is fits =
    let ys : List ℕ = nat_entry_bytes e ++ rest in
    let version : number_at (front ++ ys) at 1 ≡ e.version = number_at-behind front ys at 0 1 e.version _ (omega (arith, is)) refl fits.version in
    let ino : number_at (front ++ ys) (at + 1) 4 ≡ e.ino = number_at-behind front ys (at + 1) 1 4 e.ino _ (omega (arith, is)) refl fits.ino in
    let address : number_at (front ++ ys) (at + 5) 4 ≡ e.address = number_at-behind front ys (at + 5) 5 4 e.address _ (omega (arith, is)) refl fits.address in
    λ i. record { version = version i; ino = ino i; address = address i }

-- an entry apart from bytes that are put in
pub nat_entry_at-other : (b bytes : List ℕ) (at i : ℕ) → length bytes ≡ 9 → at + 9 ≤ length b → (i + 9 ≤ at) ⊎ (at + 9 ≤ i) → nat_entry_at (with_bytes b at bytes) i ≡ nat_entry_at b i
nat_entry_at-other b bytes at i size inside apart = λ j. record {
  version = same i 1 (omega arith) (omega arith) j;
  ino = same (i + 1) 4 (omega arith) (omega arith) j;
  address = same (i + 5) 4 (omega arith) (omega arith) j;
}
  where
    same : (k n : ℕ) → i ≤ k → k + n ≤ i + 9 → number_at (with_bytes b at bytes) k n ≡ number_at b k n
    same k n first last = number_at-apart b bytes at k n (omega (arith, size, inside)) (side apart)
      where
        side : (i + 9 ≤ at) ⊎ (at + 9 ≤ i) → (k + n ≤ at) ⊎ (at + length bytes ≤ k)
        side (inl before) = inl (omega (arith, last, before))
        side (inr behind) = inr (omega (arith, first, behind, size))

-- bytes that have none in common with what was put
bytes_at-apart : (b bytes : List ℕ) (at i n : ℕ) → at + length bytes ≤ length b → (i + n ≤ at) ⊎ (at + length bytes ≤ i) → bytes_at (with_bytes b at bytes) i n ≡ bytes_at b i n
bytes_at-apart b bytes at i n inside apart = (λ j. take (count j) (drop i (with_bytes b at bytes))) ∙ same apart ∙ λ j. take (sym count j) (drop i b)
  where
    count : i + n - i ≡ n
    count = omega arith

    same : (i + n ≤ at) ⊎ (at + length bytes ≤ i) → take n (drop i (with_bytes b at bytes)) ≡ take n (drop i b)
    same (inl before) =
        let front : length (take at b) ≡ at = length-take-le at b (omega arith) in
        let kept : take (i + n) (with_bytes b at bytes) ≡ take (i + n) b =
        ap (take (i + n)) (append_assoc (take at b) bytes (drop (at + length bytes) b))
        ∙ take-append-le (i + n) (take at b) (bytes ++ drop (at + length bytes) b) (omega (arith, front, before)) ∙ take-take (i + n) at b before in
        sym (drop-take i n (with_bytes b at bytes)) ∙ ap (drop i) kept ∙ drop-take i n b
    same (inr behind) =
        let past : ℕ = at + length bytes in
        let front : length (take at b ++ bytes) ≡ past = omega (arith, length-append (take at b) bytes, length-take-le at b (omega arith)) in
        let place : past + (i - past) ≡ i = omega (arith, behind) in
        let kept : drop i (with_bytes b at bytes) ≡ drop i b =
        ap (λ k. drop k (with_bytes b at bytes)) (sym place) ∙ drop_of past (i - past) (with_bytes b at bytes)
        ∙ ap (drop (i - past)) (drop_at (take at b ++ bytes) (drop past b) past front)
        ∙ sym (drop_of past (i - past) b) ∙ ap (λ k. drop k b) place in
        ap (take n) kept
      where
        drop_of : (a k : ℕ) (l : List ℕ) → drop (a + k) l ≡ drop k (drop a l)
        drop_of a k l = sym (drop-drop k a l)

-- an entry whose 74 bytes stand behind a front
pub sit_entry_at-bytes : (e : SitEntry) (front rest : List ℕ) (at : ℕ) → length front ≡ at → FitsSitBytes e → sit_entry_at (front ++ (sit_entry_bytes e ++ rest)) at ≡ e
sit_entry_at-bytes e front rest at is fits =
    let ys : List ℕ = sit_entry_bytes e ++ rest in
    let time : List ℕ = little_bytes 8 e.mtime in
    let behind : drop 2 ys ≡ e.map ++ (time ++ rest) = append_assoc e.map time rest in
    let blocks : number_at (front ++ ys) at 2 ≡ 1024 * e.kind + e.count =
    number_at-behind front ys at 0 2 (1024 * e.kind + e.count) _ (omega (arith, is)) refl (omega (arith, fits.shared.kind, fits.shared.count)) in
    let kind : number_at (front ++ ys) at 2 / 1024 ≡ e.kind = ap (λ n. n / 1024) blocks ∙ omega (arith, fits.shared.count) in
    let count : number_at (front ++ ys) at 2 % 1024 ≡ e.count = ap (λ n. n % 1024) blocks ∙ omega (arith, fits.shared.count) in
    let length_is : at + 2 + 64 - (at + 2) ≡ 64 = omega arith in
    let map : bytes_at (front ++ ys) (at + 2) 64 ≡ e.map =
    (λ i. take (length_is i) (drop (at + 2) (front ++ ys)))
    ∙ ap (take 64) (drop-behind front ys (at + 2) 2 (omega (arith, is)) ∙ behind)
    ∙ take_at e.map (time ++ rest) 64 fits.map in
    let mtime : number_at (front ++ ys) (at + 66) 8 ≡ e.mtime =
    number_at-behind front ys (at + 66) 66 8 e.mtime rest (omega (arith, is))
    (ap (drop 64) behind ∙ drop_at e.map (time ++ rest) 64 fits.map) fits.mtime in
    λ i. record { kind = kind i; count = count i; map = map i; mtime = mtime i }

-- an entry apart from bytes that are put in
pub sit_entry_at-other : (b bytes : List ℕ) (at i : ℕ) → length bytes ≡ 74 → at + 74 ≤ length b → (i + 74 ≤ at) ⊎ (at + 74 ≤ i) → sit_entry_at (with_bytes b at bytes) i ≡ sit_entry_at b i
sit_entry_at-other b bytes at i size inside apart = λ j. record {
  kind = same i 2 (omega arith) (omega arith) j / 1024;
  count = same i 2 (omega arith) (omega arith) j % 1024;
  map = bytes_at-apart b bytes at (i + 2) 64 (omega (arith, size, inside)) (side (i + 2) 64 (omega arith) (omega arith) apart) j;
  mtime = same (i + 66) 8 (omega arith) (omega arith) j;
}
  where
    side : (k n : ℕ) → i ≤ k → k + n ≤ i + 74 → (i + 74 ≤ at) ⊎ (at + 74 ≤ i) → (k + n ≤ at) ⊎ (at + length bytes ≤ k)
    side k n first last (inl before) = inl (omega (arith, last, before))
    side k n first last (inr behind) = inr (omega (arith, first, behind, size))

    same : (k n : ℕ) → i ≤ k → k + n ≤ i + 74 → number_at (with_bytes b at bytes) k n ≡ number_at b k n
    same k n first last = number_at-apart b bytes at k n (omega (arith, size, inside)) (side k n first last apart)

-- how many bytes an entry has
pub sit_entry_width : (e : SitEntry) → length e.map ≡ 64 → length (sit_entry_bytes e) ≡ 74
sit_entry_width e map = omega (arith, length-append e.map (little_bytes 8 e.mtime), map)
