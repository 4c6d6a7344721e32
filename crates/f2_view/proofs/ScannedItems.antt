-- The items that a scan of an area gives, and the entries that those with legal names are.
use Rattle.std.proofs.Common.{◌≡◌, ℕ, zero, suc, ◌+◌, ◌-◌, ◌*◌, ◌<◌, ◌≤◌, Bool, true, false, cond, List, [], ◌∷◌, ◌++◌, length, drop, map, All, refl, ap, rules, arith, append_assoc}
use Rattle.std.specs.Prelude.{not, ◌&&◌, nat_le, nat_lt}
use Rattle.std.proofs.lemmas.Bool.{not-true, or_parts, and_parts, ltb-true, ltb-false, leb-true}
use Rattle.std.proofs.lemmas.List.{length-take, append-nil}
use Rattle.std.proofs.lemmas.List.Elements.{All-cons}
use Rattle.f2_bytes.specs.Bytes.{bytes_at}
use Rattle.f2_bytes.specs.Bits.{bit_lsb}
use Rattle.f2_bytes.specs.Directory.{Item, name_start, name_length, is_cut, next_slot, item_in, items_from}
use Rattle.f2_bytes.specs.Names.{slots_for, is_legal_name}
use Rattle.f2_dent.specs.declared.scan.Item.{Item as Scanned}
use Rattle.f2_dent.specs.Scan.{item_in_area}
use Rattle.f2_view.specs.Directories.{legal, shifted, kept, IsNamed}

-- an item begins in the area, and a legal one has a name there
pub record Stands (area : List ℕ) (slots : ℕ) (item : Scanned) : Type 0 where
  pub within : item.slot < slots
  pub named : item.legal ≡ true → IsNamed area item

module _ (area : List ℕ) (slots : ℕ) where
  -- the items are those of the format, with the bytes of their names
  pub kept_from : (first n slot : ℕ) → map (kept area first) (map (item_in_area area slots) (items_from area slots n slot)) ≡ map (shifted first) (items_from area slots n slot)
  unfolding items_from
  kept_from first zero slot = refl
  kept_from first (suc n) slot = go (nat_lt slot slots) (bit_lsb area slot) (kept_from first n (next_slot area slots slot))
    where
      rest : List Item
      rest = items_from area slots n (next_slot area slots slot)

      go : (a b : Bool) → map (kept area first) (map (item_in_area area slots) rest) ≡ map (shifted first) rest
          → map (kept area first) (map (item_in_area area slots) (cond a (cond b (item_in area slots slot ∷ rest) rest) [])) ≡ map (shifted first) (cond a (cond b (item_in area slots slot ∷ rest) rest) [])
      go false b more = refl
      go true false more = more
      go true true more = λ t. shifted first (item_in area slots slot) ∷ more t

  module _ (room : 8 * slots ≤ length area) where
    named_in : (slot : ℕ) → slot < slots → (item_in area slots slot).is_legal ≡ true → IsNamed area (item_in_area area slots (item_in area slots slot))
    named_in slot within is =
        let len : ℕ = name_length area slots slot in
        let name : List ℕ = bytes_at area (name_start area slots slot) len in
        let parts = and_parts (not (is_cut area slots slot)) (is_legal_name name) is in
        let whole = or_parts (nat_lt 255 len) (nat_lt slots (slot + slots_for len)) (not-true (is_cut area slots slot) parts.0) in
        let front = and_parts (nat_le 1 (length name) && nat_le (length name) 255) _ parts.1 in
        let some = leb-true 1 (length name) (and_parts (nat_le 1 (length name)) (nat_le (length name) 255) front.0).0 in
        let few = ltb-false 255 len whole.0 in
        let ends = ltb-false slots (slot + slots_for len) whole.1 in
        let cut = length-take (name_start area slots slot + len - name_start area slots slot) (drop (name_start area slots slot) area) in
        record { some = omega (arith, some, cut); few = few; inside = omega (arith, ends, room) }

    pub stands_from : (n slot : ℕ) → All (Stands area slots) (map (item_in_area area slots) (items_from area slots n slot))
    unfolding items_from
    stands_from zero slot = search rules
    stands_from (suc n) slot = go (nat_lt slot slots) (bit_lsb area slot) refl (stands_from n (next_slot area slots slot))
      where
        rest : List Item
        rest = items_from area slots n (next_slot area slots slot)

        go : (a b : Bool) → nat_lt slot slots ≡ a → All (Stands area slots) (map (item_in_area area slots) rest)
            → All (Stands area slots) (map (item_in_area area slots) (cond a (cond b (item_in area slots slot ∷ rest) rest) []))
        go false b is more = search rules
        go true false is more = more
        go true true is more =
            let within = ltb-true slot slots is in
            All-cons (Stands area slots) (item_in_area area slots (item_in area slots slot)) (map (item_in_area area slots) rest) (record { within = within; named = named_in slot within }) more

-- what was pushed and what is still to come, after one item more
pub one_more : {E : Type 0} (f : E → Item) (k : Scanned → Item) (old new : List E) (x : Scanned) (xs : List Scanned)
    → map f new ≡ map f old ++ legal (k x ∷ []) → map f new ++ legal (map k xs) ≡ map f old ++ legal (map k (x ∷ xs))
one_more f k old new x xs is = rw is (go (k x).is_legal)
  where
    go : (b : Bool) → (map f old ++ cond b (k x ∷ []) []) ++ legal (map k xs) ≡ map f old ++ cond b (k x ∷ legal (map k xs)) (legal (map k xs))
    go true = simp append_assoc
    go false = ap (λ l. l ++ legal (map k xs)) (append-nil (map f old))

-- items that are shifted by nothing
pub unshifted : (items : List Item) → map (shifted 0) items ≡ items
unshifted [] = refl
unshifted (x ∷ xs) = λ t. record x { place = same t } ∷ unshifted xs t
  where
    same : 0 + x.place ≡ x.place
    same = omega arith
