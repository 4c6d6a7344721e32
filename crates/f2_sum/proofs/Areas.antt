-- Records that are put one after the other behind their count, and read again.
use Rattle.std.proofs.Common.{◌≡◌, ℕ, ◌+◌, ◌-◌, ◌*◌, ◌^◌, ◌<◌, ◌≤◌, List, [], ◌∷◌, ◌++◌, length, take, get_or, map, subst, refl, sym, ap, ◌∙◌, arith, append_assoc, length-append}
use Rattle.std.specs.Prelude.{All, flat_map, replicate}
use Rattle.std.specs.List.{range_with_len}
use Rattle.std.proofs.lemmas.List.{length-map, get_or-map, length-take-le, take_more, drop-replicate, flat_map_more}
use Rattle.std.proofs.lemmas.List.Elements.{All-head, All-tail, All-more}
use Rattle.byteorder.specs.Endian.{little_bytes}
use Rattle.f2_bytes.specs.Bytes.{number_at, with_bytes}
use Rattle.f2_bytes.specs.Journal.{area_of}
use Rattle.f2_bytes.proofs.Numbers.{number_at-first}
use Rattle.f2_sum.proofs.Parts.{with_bytes-next}

-- records of m bytes each that fit, and what is read where one stands
module _ {X : Type 0} (bytes : X → List ℕ) (m : ℕ) (Fits : X → Type 0) (width : (x : X) → Fits x → length (bytes x) ≡ m) where
  pub length-records : (xs : List X) → All Fits xs → length (flat_map bytes xs) ≡ m * length xs
  length-records [] all = omega arith
  length-records (x ∷ xs) all =
      let one : length (bytes x) ≡ m = width x (All-head Fits x xs all) in
      let rest : length (flat_map bytes xs) ≡ m * length xs = length-records xs (All-tail Fits x xs all) in
      omega (arith, length-append (bytes x) (flat_map bytes xs), one, rest)

  -- the area with the first k records put, of n in all
  abbrev pub area_so_far : ℕ → List X → ℕ → List ℕ
  area_so_far n xs k = (little_bytes 2 n ++ flat_map bytes (take k xs)) ++ replicate (505 - m * k) 0

  pub area-more : (n : ℕ) (xs : List X) (k : ℕ) (d x : X) (area : List ℕ) → k < length xs → m * (k + 1) ≤ 505 → All Fits (take k xs) → get_or xs k d ≡ x → Fits x → area ≡ area_so_far n xs k → with_bytes area (2 + m * k) (bytes x) ≡ area_so_far n xs (k + 1)
  area-more n xs k d x area inside room all is fits so_far =
      let front : List ℕ = little_bytes 2 n ++ flat_map bytes (take k xs) in
      let taken : length (take k xs) ≡ k = length-take-le k xs (omega arith) in
      let before : length (flat_map bytes (take k xs)) ≡ m * k = length-records (take k xs) all ∙ ap (λ i. m * i) taken in
      let size : length front ≡ 2 + m * k = omega (arith, length-append (little_bytes 2 n) (flat_map bytes (take k xs)), before) in
      let left : 505 - m * k - length (bytes x) ≡ 505 - m * (k + 1) = omega (arith, width x fits) in
      let next : take (k + 1) xs ≡ take k xs ++ x ∷ [] = take_more xs k d inside ∙ ap (λ y. take k xs ++ y ∷ []) is in
      ap (λ l. with_bytes l (2 + m * k) (bytes x)) so_far
      ∙ with_bytes-next front (replicate (505 - m * k) 0) (bytes x) (2 + m * k) size
      ∙ ap (λ l. front ++ bytes x ++ l) (drop-replicate (length (bytes x)) (505 - m * k) 0 ∙ ap (λ i. replicate i 0) left)
      ∙ ap (λ l. l ++ replicate (505 - m * (k + 1)) 0) (flat_map_more bytes (little_bytes 2 n) (take k xs) x ∙ ap (λ ys. little_bytes 2 n ++ flat_map bytes ys) (sym next))

  -- the same for the records of an array, with what is known of those before
  pub area-next : {R : Type 0} (f : R → X) (rs : List R) (k : ℕ) (d r : R) (area new put : List ℕ) → k < length rs → m * (k + 1) ≤ 505 → (area ≡ area_so_far (length rs) (map f rs) k) × All Fits (take k (map f rs)) → get_or rs k d ≡ r → Fits (f r) → put ≡ bytes (f r) → new ≡ with_bytes area (2 + m * k) put → (new ≡ area_so_far (length rs) (map f rs) (k + 1)) × All Fits (take (k + 1) (map f rs))
  area-next f rs k d r area new put inside room known is fits bytes_is new_is =
      let within : k < length (map f rs) = omega (arith, length-map rs f) in
      let element : get_or (map f rs) k (f r) ≡ f r = get_or-map f rs k d (f r) inside ∙ ap f is in
      let known_fit : Fits (get_or (map f rs) k (f r)) = subst Fits (sym element) fits in (
        new_is ∙ ap (with_bytes area (2 + m * k)) bytes_is ∙ area-more (length rs) (map f rs) k (f r) (f r) area within room known.1 element fits known.0,
        All-more Fits (map f rs) k (f r) within known.1 known_fit,
      )

  -- the records are read again
  module _ (at : List ℕ → ℕ → X) (reads : (x : X) (front rest : List ℕ) (i : ℕ) → length front ≡ i → Fits x → at (front ++ (bytes x ++ rest)) i ≡ x) where
    records-read : (xs : List X) (front rest area : List ℕ) (j : ℕ) → length front ≡ 2 + m * j → All Fits xs → area ≡ front ++ (flat_map bytes xs ++ rest) → map (λ k. at area (2 + m * k)) (range_with_len j (length xs)) ≡ xs
    records-read [] front rest area j size all is = refl
    records-read (x ∷ xs) front rest area j size all is =
        let fits : Fits x = All-head Fits x xs all in
        let split : area ≡ front ++ (bytes x ++ (flat_map bytes xs ++ rest)) =
        is ∙ ap (λ l. front ++ l) (append_assoc (bytes x) (flat_map bytes xs) rest) in
        let first : at area (2 + m * j) ≡ x = ap (λ l. at l (2 + m * j)) split ∙ reads x front (flat_map bytes xs ++ rest) (2 + m * j) size fits in
        let next : length (front ++ bytes x) ≡ 2 + m * (j + 1) = omega (arith, length-append front (bytes x), size, width x fits) in
        let others : map (λ k. at area (2 + m * k)) (range_with_len (j + 1) (length xs)) ≡ xs =
        records-read xs (front ++ bytes x) rest area (j + 1) next (All-tail Fits x xs all) (split ∙ sym (append_assoc front (bytes x) (flat_map bytes xs ++ rest))) in
        λ i. first i ∷ others i

    pub area-read : (xs : List X) → All Fits xs → map (λ k. at (area_of (length xs) (flat_map bytes xs)) (2 + m * k)) (range_with_len 0 (length xs)) ≡ xs
    area-read xs all =
        let rest : List ℕ = replicate (507 - length (little_bytes 2 (length xs) ++ flat_map bytes xs)) 0 in
        records-read xs (little_bytes 2 (length xs)) rest (area_of (length xs) (flat_map bytes xs)) 0 (omega arith) all
        (append_assoc (little_bytes 2 (length xs)) (flat_map bytes xs) rest)

-- the count is read again
pub area-count : (n : ℕ) (records : List ℕ) → n < 2 ^ 16 → number_at (area_of n records) 0 2 ≡ n
area-count n records small =
    number_at-first 2 n (records ++ replicate (507 - length (little_bytes 2 n ++ records)) 0) small
