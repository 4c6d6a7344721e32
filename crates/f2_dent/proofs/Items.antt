-- The items of a block in which one is put.
use Rattle.std.proofs.Common.{◌≡◌, ◌⊎◌, inl, inr, ℕ, ◌+◌, ◌-◌, ◌*◌, ◌%◌, ◌^◌, ◌≤◌, ◌<◌, false, List, ◌∷◌, ◌++◌, length, take, drop, get_or, refl, sym, ap, ◌∙◌, subst, arith, append_assoc, length-append, get_or-take}
use Rattle.std.specs.Prelude.{not, ◌&&◌, ◌||◌, nat_lt}
use Rattle.std.proofs.lemmas.Bool.{or_from, le-ltb}
use Rattle.std.proofs.lemmas.List.{get_or_append_left, take_at, drop_at, drop-drop, drop-take, take-take, take-append-le, length-take-le, length-drop}
use Rattle.f2_bytes.specs.Bits.{bit_lsb}
use Rattle.f2_bytes.specs.Bytes.{number_at, bytes_at, with_bytes}
use Rattle.f2_bytes.specs.Directory.{Item, item_in, name_length, entry_start, name_start}
use Rattle.f2_bytes.specs.Names.{slots_for, is_legal_name}
use Rattle.f2_bytes.proofs.Numbers.{number_at-drop}
use Rattle.f2_bytes.proofs.Entries.{number_at-behind, number_at-apart}
use Rattle.f2_dent.proofs.Bits.{bit_front}
use Rattle.f2_dent.specs.Pages.{entry_bytes, new_item, HasPut, is_among}

pub length-with_bytes : (b bytes : List ℕ) (at : ℕ) → at + length bytes ≤ length b → length (with_bytes b at bytes) ≡ length b
length-with_bytes b bytes at inside =
    omega (arith, length-append (take at b ++ bytes) (drop (at + length bytes) b), length-append (take at b) bytes, length-take-le at b (omega arith), length-drop (at + length bytes) b)

drop_of : (a k : ℕ) (l : List ℕ) → drop (a + k) l ≡ drop k (drop a l)
drop_of a k l = sym (drop-drop k a l)

-- bytes that have none in common with what was put
bytes_at-apart : (b bytes : List ℕ) (at i n : ℕ) → at + length bytes ≤ length b → (i + n ≤ at) ⊎ (at + length bytes ≤ i) → bytes_at (with_bytes b at bytes) i n ≡ bytes_at b i n
bytes_at-apart b bytes at i n inside apart = (λ j. take (count j) (drop i (with_bytes b at bytes))) ∙ same apart ∙ λ j. take (sym count j) (drop i b)
  where
    count : i + n - i ≡ n
    count = omega arith

    same : (i + n ≤ at) ⊎ (at + length bytes ≤ i) → take n (drop i (with_bytes b at bytes)) ≡ take n (drop i b)
    same (inl before) =
        let front : length (take at b) ≡ at = length-take-le at b (omega arith) in
        let kept : take (i + n) (with_bytes b at bytes) ≡ take (i + n) b =
        ap (take (i + n)) (append_assoc (take at b) bytes (drop (at + length bytes) b))
        ∙ take-append-le (i + n) (take at b) (bytes ++ drop (at + length bytes) b) (omega (arith, front, before)) ∙ take-take (i + n) at b before in
        sym (drop-take i n (with_bytes b at bytes)) ∙ ap (drop i) kept ∙ drop-take i n b
    same (inr behind) =
        let past : ℕ = at + length bytes in
        let front : length (take at b ++ bytes) ≡ past = omega (arith, length-append (take at b) bytes, length-take-le at b (omega arith)) in
        let place : past + (i - past) ≡ i = omega (arith, behind) in
        let kept : drop i (with_bytes b at bytes) ≡ drop i b =
        ap (λ k. drop k (with_bytes b at bytes)) (sym place) ∙ drop_of past (i - past) (with_bytes b at bytes)
        ∙ ap (drop (i - past)) (drop_at (take at b ++ bytes) (drop past b) past front)
        ∙ sym (drop_of past (i - past) b) ∙ ap (λ k. drop k b) place in
        ap (take n) kept

-- the bytes that were put
bytes_at-put : (b bytes : List ℕ) (at : ℕ) → at + length bytes ≤ length b → bytes_at (with_bytes b at bytes) at (length bytes) ≡ bytes
bytes_at-put b bytes at inside =
    let count : at + length bytes - at ≡ length bytes = omega arith in
    let front : length (take at b) ≡ at = length-take-le at b (omega arith) in
    (λ j. take (count j) (drop at (with_bytes b at bytes)))
    ∙ ap (λ l. take (length bytes) (drop at l)) (append_assoc (take at b) bytes (drop (at + length bytes) b))
    ∙ ap (take (length bytes)) (drop_at (take at b) (bytes ++ drop (at + length bytes) b) at front)
    ∙ take_at bytes (drop (at + length bytes) b) (length bytes) refl

-- what stands behind the first n bytes, where two lists agree
number_at-behind_front : (a b : List ℕ) (n i width : ℕ) → drop n a ≡ drop n b → n ≤ i → number_at a i width ≡ number_at b i width
number_at-behind_front a b n i width same behind =
    let place : n + (i - n) ≡ i = omega (arith, behind) in
    ap (λ k. number_at a k width) (sym place) ∙ sym (number_at-drop a n (i - n) width) ∙ ap (λ l. number_at l (i - n) width) same
    ∙ number_at-drop b n (i - n) width ∙ ap (λ k. number_at b k width) place

bytes_at-behind_front : (a b : List ℕ) (n i size : ℕ) → drop n a ≡ drop n b → n ≤ i → bytes_at a i size ≡ bytes_at b i size
bytes_at-behind_front a b n i size same behind =
    let place : n + (i - n) ≡ i = omega (arith, behind) in
    ap (take (i + size - i))
    (ap (λ k. drop k a) (sym place) ∙ drop_of n (i - n) a ∙ ap (drop (i - n)) same ∙ sym (drop_of n (i - n) b) ∙ ap (λ k. drop k b) place)

-- a byte before what was put
byte-before : (b bytes : List ℕ) (at k : ℕ) → k < at → at ≤ length b → get_or (with_bytes b at bytes) k 0 ≡ get_or b k 0
byte-before b bytes at k before inside =
    let front : length (take at b) ≡ at = length-take-le at b inside in
    get_or_append_left (take at b ++ bytes) (drop (at + length bytes) b) 0 k (omega (arith, length-append (take at b) bytes, front, before))
    ∙ get_or_append_left (take at b) bytes 0 k (omega (arith, front, before)) ∙ get_or-take at b k 0 before

-- the numbers of an entry at byte e
record HasEntry (b : List ℕ) (e hash ino len kind : ℕ) : Type 0 where
  hash_is : number_at b e 4 ≡ hash
  ino_is : number_at b (e + 4) 4 ≡ ino
  len_is : number_at b (e + 8) 2 ≡ len
  kind_is : number_at b (e + 10) 1 ≡ kind

pub record Fits (hash ino len kind : ℕ) : Type 0 where
  pub hash_fits : hash < 256 ^ 4
  pub ino_fits : ino < 256 ^ 4
  pub len_fits : len < 256 ^ 2
  pub kind_fits : kind < 256 ^ 1

entry_behind : (front rest : List ℕ) (e hash ino len kind : ℕ) → Fits hash ino len kind → length front ≡ e → HasEntry (front ++ (entry_bytes hash ino len kind ++ rest)) e hash ino len kind
entry_behind front rest e hash ino len kind fits is =
    let ys : List ℕ = entry_bytes hash ino len kind ++ rest in
    record {
      hash_is = number_at-behind front ys e 0 4 hash _ (omega (arith, is)) refl fits.hash_fits;
      ino_is = number_at-behind front ys (e + 4) 4 4 ino _ (omega (arith, is)) refl fits.ino_fits;
      len_is = number_at-behind front ys (e + 8) 8 2 len _ (omega (arith, is)) refl fits.len_fits;
      kind_is = number_at-behind front ys (e + 10) 10 1 kind rest (omega (arith, is)) (let small : kind ≡ kind % 256 = omega (arith, fits.kind_fits) in ap (λ k. k ∷ rest) small) fits.kind_fits;
    }

entry_put : (b : List ℕ) (e hash ino len kind : ℕ) → Fits hash ino len kind → e + 11 ≤ length b → HasEntry (with_bytes b e (entry_bytes hash ino len kind)) e hash ino len kind
entry_put b e hash ino len kind fits inside =
    let bytes : List ℕ = entry_bytes hash ino len kind in
    subst (λ (l : List ℕ). HasEntry l e hash ino len kind) (sym (append_assoc (take e b) bytes (drop (e + 11) b)))
    (entry_behind (take e b) (drop (e + 11) b) e hash ino len kind fits (length-take-le e b (omega arith)))

-- an entry that is the same in two blocks
entry_same : (a b : List ℕ) (e hash ino len kind : ℕ) → ((k n : ℕ) → e ≤ k → k + n ≤ e + 11 → number_at b k n ≡ number_at a k n) → HasEntry a e hash ino len kind → HasEntry b e hash ino len kind
entry_same a b e hash ino len kind same has = record {
  hash_is = same e 4 (omega arith) (omega arith) ∙ has.hash_is;
  ino_is = same (e + 4) 4 (omega arith) (omega arith) ∙ has.ino_is;
  len_is = same (e + 8) 2 (omega arith) (omega arith) ∙ has.len_is;
  kind_is = same (e + 10) 1 (omega arith) (omega arith) ∙ has.kind_is;
}

-- an item, by its fields
item_of : ℕ → ℕ → ℕ → ℕ → ℕ → ℕ → List ℕ → Item
item_of slots place hash ino kind len name = record {
  place = place;
  hash = hash;
  ino = ino;
  kind = kind;
  len = len;
  name = name;
  is_legal = not (nat_lt 255 len || nat_lt slots (place + slots_for len)) && is_legal_name name;
}

entry_at : (b : List ℕ) (n slot : ℕ) → length b ≡ 4096 → n ≡ 214 → entry_start b n slot ≡ 30 + 11 * slot
entry_at b n slot size slots = omega (arith, size, slots)

name_at : (b : List ℕ) (n slot : ℕ) → length b ≡ 4096 → n ≡ 214 → name_start b n slot ≡ 2384 + 8 * slot
name_at b n slot size slots = omega (arith, size, slots)

read_item : (b : List ℕ) (n slot hash ino kind len : ℕ) (name : List ℕ) → length b ≡ 4096 → n ≡ 214 → HasEntry b (30 + 11 * slot) hash ino len kind → bytes_at b (2384 + 8 * slot) len ≡ name → item_in b n slot ≡ item_of n slot hash ino kind len name
unfolding item_of
read_item b n slot hash ino kind len name size slots has is =
    let e = entry_at b n slot size slots in
    let hashes : number_at b (entry_start b n slot) 4 ≡ hash = ap (λ k. number_at b k 4) e ∙ has.hash_is in
    let inos : number_at b (entry_start b n slot + 4) 4 ≡ ino = ap (λ k. number_at b (k + 4) 4) e ∙ has.ino_is in
    let lens : number_at b (entry_start b n slot + 8) 2 ≡ len = ap (λ k. number_at b (k + 8) 2) e ∙ has.len_is in
    let kinds : number_at b (entry_start b n slot + 10) 1 ≡ kind = ap (λ k. number_at b (k + 10) 1) e ∙ has.kind_is in
    let at = name_at b n slot size slots in
    let names : bytes_at b (name_start b n slot) (number_at b (entry_start b n slot + 8) 2) ≡ name = (λ i. bytes_at b (at i) (lens i)) ∙ is in
    λ i. item_of n slot (hashes i) (inos i) (kinds i) (lens i) (names i)

-- one that is not cut is as it was put
whole_item : (n slot hash ino kind : ℕ) (name : List ℕ) → length name ≤ 255 → slot + slots_for (length name) ≤ n → item_of n slot hash ino kind (length name) name ≡ new_item slot hash ino kind name
unfolding item_of
whole_item n slot hash ino kind name few inside =
    let whole : (nat_lt 255 (length name) || nat_lt n (slot + slots_for (length name))) ≡ false = or_from _ _ (le-ltb 255 (length name) few) (le-ltb n (slot + slots_for (length name)) inside) in
    λ i. record { place = slot; hash = hash; ino = ino; kind = kind; len = length name; name = name; is_legal = not (whole i) && is_legal_name name }

-- Block b0 with the bits of a name, then with its entry, then with its bytes.
module _ (b0 b1 b2 b3 : List ℕ) (slot hash ino kind : ℕ) (name : List ℕ)
    (some : 1 ≤ length name) (few : length name ≤ 255) (within : slot + slots_for (length name) ≤ 214) (fits : Fits hash ino (length name) kind)
    (size0 : length b0 ≡ 4096) (size : length b1 ≡ 4096) (rest : drop 27 b1 ≡ drop 27 b0)
    (entry : b2 ≡ with_bytes b1 (30 + 11 * slot) (entry_bytes hash ino (length name) kind)) (names : b3 ≡ with_bytes b2 (2384 + 8 * slot) name) where
  size2 : length b2 ≡ 4096
  size2 = ap length entry ∙ length-with_bytes b1 (entry_bytes hash ino (length name) kind) (30 + 11 * slot) (omega (arith, size, within)) ∙ size

  size3 : length b3 ≡ 4096
  size3 = ap length names ∙ length-with_bytes b2 name (2384 + 8 * slot) (omega (arith, size2, within)) ∙ size2

  number_past : (k n : ℕ) → k + n ≤ 2384 → number_at b3 k n ≡ number_at b2 k n
  number_past k n before = ap (λ l. number_at l k n) names ∙ number_at-apart b2 name (2384 + 8 * slot) k n (omega (arith, size2, within)) (inl (omega (arith, before)))

  put_bits : (t : ℕ) → t < 214 → bit_lsb b3 t ≡ bit_lsb b1 t
  put_bits t below = bit_front b3 b1 27 t (omega (arith, below)) (λ k inside.
      ap (λ l. get_or l k 0) names ∙ byte-before b2 name (2384 + 8 * slot) k (omega (arith, inside)) (omega (arith, size2))
      ∙ ap (λ l. get_or l k 0) entry ∙ byte-before b1 (entry_bytes hash ino (length name) kind) (30 + 11 * slot) k (omega (arith, inside)) (omega (arith, size)))

  pub put_stands : item_in b3 214 slot ≡ new_item slot hash ino kind name
  put_stands =
      let put : HasEntry b2 (30 + 11 * slot) hash ino (length name) kind = subst (λ (l : List ℕ). HasEntry l (30 + 11 * slot) hash ino (length name) kind) (sym entry) (entry_put b1 (30 + 11 * slot) hash ino (length name) kind fits (omega (arith, size, within))) in
      read_item b3 214 slot hash ino kind (length name) name size3 refl
      (entry_same b2 b3 (30 + 11 * slot) hash ino (length name) kind (λ k n low high. number_past k n (omega (arith, high, within, some))) put)
      (ap (λ l. bytes_at l (2384 + 8 * slot) (length name)) names ∙ bytes_at-put b2 name (2384 + 8 * slot) (omega (arith, size2, within)))
      ∙ whole_item 214 slot hash ino kind name few within

  -- another slot and those behind it
  module _ (x s : ℕ) (one : 1 ≤ s) (short : x + s ≤ 214) (apart : (x + s ≤ slot) ⊎ (slot + slots_for (length name) ≤ x)) where
    number_same : (k n : ℕ) → 30 + 11 * x ≤ k → k + n ≤ 30 + 11 * x + 11 → number_at b3 k n ≡ number_at b0 k n
    number_same k n low high =
        number_past k n (omega (arith, high, short, one))
        ∙ ap (λ l. number_at l k n) entry
        ∙ number_at-apart b1 (entry_bytes hash ino (length name) kind) (30 + 11 * slot) k n (omega (arith, size, within)) (side apart)
        ∙ number_at-behind_front b1 b0 27 k n rest (omega (arith, low))
      where
        side : (x + s ≤ slot) ⊎ (slot + slots_for (length name) ≤ x) → (k + n ≤ 30 + 11 * slot) ⊎ (30 + 11 * slot + 11 ≤ k)
        side (inl before) = inl (omega (arith, before, high, one))
        side (inr behind) = inr (omega (arith, behind, low, some))

    bytes_same : (len : ℕ) → slots_for len ≤ s → bytes_at b3 (2384 + 8 * x) len ≡ bytes_at b0 (2384 + 8 * x) len
    bytes_same len few_bytes =
        ap (λ l. bytes_at l (2384 + 8 * x) len) names
        ∙ bytes_at-apart b2 name (2384 + 8 * slot) (2384 + 8 * x) len (omega (arith, size2, within)) (side apart)
        ∙ ap (λ l. bytes_at l (2384 + 8 * x) len) entry
        ∙ bytes_at-apart b1 (entry_bytes hash ino (length name) kind) (30 + 11 * slot) (2384 + 8 * x) len (omega (arith, size, within)) (inr (omega (arith, within, some)))
        ∙ bytes_at-behind_front b1 b0 27 (2384 + 8 * x) len rest (omega arith)
      where
        side : (x + s ≤ slot) ⊎ (slot + slots_for (length name) ≤ x) → (2384 + 8 * x + len ≤ 2384 + 8 * slot) ⊎ (2384 + 8 * slot + length name ≤ 2384 + 8 * x)
        side (inl before) = inl (omega (arith, before, few_bytes))
        side (inr behind) = inr (omega (arith, behind))

    pub put_keeps : slots_for (name_length b0 214 x) ≤ s → item_in b3 214 x ≡ item_in b0 214 x
    put_keeps fewer =
        let e : ℕ = 30 + 11 * x in
        let len : ℕ = number_at b0 (e + 8) 2 in
        let is : name_length b0 214 x ≡ len = ap (λ k. number_at b0 (k + 8) 2) (entry_at b0 214 x size0 refl) in
        let name : List ℕ = bytes_at b0 (2384 + 8 * x) len in
        let old : HasEntry b0 e (number_at b0 e 4) (number_at b0 (e + 4) 4) len (number_at b0 (e + 10) 1) = record { hash_is = refl; ino_is = refl; len_is = refl; kind_is = refl } in
        read_item b3 214 x (number_at b0 e 4) (number_at b0 (e + 4) 4) (number_at b0 (e + 10) 1) len name size3 refl
        (entry_same b0 b3 e (number_at b0 e 4) (number_at b0 (e + 4) 4) len (number_at b0 (e + 10) 1) (λ k n low high. number_same k n low high) old)
        (bytes_same len (subst (λ (n : ℕ). slots_for n ≤ s) is fewer))
        ∙ sym (read_item b0 214 x (number_at b0 e 4) (number_at b0 (e + 4) 4) (number_at b0 (e + 10) 1) len name size0 refl old refl)

  pub put_all : ((t : ℕ) → t < 214 → bit_lsb b1 t ≡ (bit_lsb b0 t || is_among slot (slots_for (length name)) t)) → HasPut b0 b3 (new_item slot hash ino kind name)
  put_all bits = record {
    bits = λ t below. put_bits t below ∙ bits t below;
    stands = put_stands;
    others = λ x s one short fewer apart. put_keeps x s one short apart fewer;
  }
