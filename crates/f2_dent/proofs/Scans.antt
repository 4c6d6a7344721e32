-- Steps of a scan.
use Rattle.std.proofs.Common.{◌≡◌, ℕ, zero, suc, ◌+◌, ◌-◌, ◌<◌, ◌≤◌, inl, inr, true, false, ◌||◌, ◌==◌, nat_lt, cond, List, [], ◌∷◌, map, refl, sym, ap, ◌∙◌, arith}
use Rattle.std.proofs.lemmas.Bool.{cases_lt, lt-ltb, le-ltb}
use Rattle.f2_bytes.specs.Bits.{bit_lsb}
use Rattle.f2_bytes.specs.Names.{slots_for}
use Rattle.f2_bytes.specs.Directory.{name_length, is_cut, item_in, next_slot, items_from}
use Rattle.f2_dent.specs.declared.scan.Item.{Item as ScanItem}
use Rattle.f2_dent.specs.Scan.{item_in_area}

-- the scan goes forward
next-forward : (area : List ℕ) (slots slot : ℕ) → slot < slots → slot < next_slot area slots slot
next-forward area slots slot within = grind arith

-- no item begins past the last slot
pub items-end : (area : List ℕ) (slots n slot : ℕ) → slots ≤ slot → items_from area slots n slot ≡ []
unfolding items_from
items-end area slots zero slot past = refl
items-end area slots (suc n) slot past = let no : nat_lt slot slots ≡ false = le-ltb slot slots past in rw no refl

-- as many steps as there are slots left are enough
pub items-enough : (area : List ℕ) (slots n m slot : ℕ) → slots ≤ n + slot → slots ≤ m + slot → items_from area slots n slot ≡ items_from area slots m slot
unfolding items_from
items-enough area slots zero m slot first second = sym (items-end area slots m slot (omega (arith, first)))
items-enough area slots (suc n) zero slot first second = items-end area slots (suc n) slot (omega (arith, second))
items-enough area slots (suc n) (suc m) slot first second = elim (cases_lt slot slots) [
  | inl within ↦
      let forward : slot < next_slot area slots slot = next-forward area slots slot within in
      let rest : items_from area slots n (next_slot area slots slot) ≡ items_from area slots m (next_slot area slots slot) =
      items-enough area slots n m (next_slot area slots slot) (omega (arith, first, forward)) (omega (arith, second, forward)) in
      ap (λ l. cond (nat_lt slot slots) (cond (bit_lsb area slot) (item_in area slots slot ∷ l) l) []) rest
  | inr past ↦ items-end area slots (suc n) slot past ∙ sym (items-end area slots (suc m) slot past)
]

pub items-step : (area : List ℕ) (slots slot : ℕ) → slot < slots
    → let rest = items_from area slots (slots - next_slot area slots slot) (next_slot area slots slot) in
    items_from area slots (slots - slot) slot ≡ cond (bit_lsb area slot) (item_in area slots slot ∷ rest) rest
unfolding items_from
items-step area slots slot within =
    let forward : slot < next_slot area slots slot = next-forward area slots slot within in
    let yes : nat_lt slot slots ≡ true = lt-ltb slot slots within in
    ap (λ n. items_from area slots n slot) (counted slot slots within)
    ∙ ap (λ b. cond b (cond (bit_lsb area slot) (item_in area slots slot ∷ items_from area slots (slots - (slot + 1)) (next_slot area slots slot)) (items_from area slots (slots - (slot + 1)) (next_slot area slots slot))) []) yes
    ∙ ap (λ l. cond (bit_lsb area slot) (item_in area slots slot ∷ l) l)
    (items-enough area slots (slots - (slot + 1)) (slots - next_slot area slots slot) (next_slot area slots slot) (omega (arith, forward, within)) (omega arith))
  where
    counted : (i n : ℕ) → i < n → n - i ≡ suc (n - (i + 1))
    counted i n below = omega arith

-- a clear bit
pub items-clear : (area : List ℕ) (slots slot : ℕ) → slot < slots → bit_lsb area slot ≡ false
    → items_from area slots (slots - slot) slot ≡ items_from area slots (slots - (slot + 1)) (slot + 1)
items-clear area slots slot within clear =
    let next : next_slot area slots slot ≡ slot + 1 = rw clear refl in
    items-step area slots slot within
    ∙ ap (λ b. cond b (item_in area slots slot ∷ items_from area slots (slots - next_slot area slots slot) (next_slot area slots slot)) (items_from area slots (slots - next_slot area slots slot) (next_slot area slots slot))) clear
    ∙ ap (λ k. items_from area slots (slots - k) k) next

-- a set bit, where the scan goes on at `next`
pub items-set : (area : List ℕ) (slots slot next : ℕ) → slot < slots → bit_lsb area slot ≡ true → next ≡ next_slot area slots slot
    → items_from area slots (slots - slot) slot ≡ item_in area slots slot ∷ items_from area slots (slots - next) next
items-set area slots slot next within set is =
    items-step area slots slot within
    ∙ ap (λ b. cond b (item_in area slots slot ∷ items_from area slots (slots - next_slot area slots slot) (next_slot area slots slot)) (items_from area slots (slots - next_slot area slots slot) (next_slot area slots slot))) set
    ∙ ap (λ k. item_in area slots slot ∷ items_from area slots (slots - k) k) (sym is)

-- an item, and those behind it
pub items-next : (area : List ℕ) (slots at slot next : ℕ) (item : ScanItem) → slot < slots → bit_lsb area slot ≡ true
    → items_from area slots (slots - at) at ≡ items_from area slots (slots - slot) slot
    → item ≡ item_in_area area slots (item_in area slots slot)
    → next ≡ cond (item.len == 0) (slot + 1) (cond (nat_lt 255 item.len || nat_lt slots (slot + slots_for item.len)) slots (slot + slots_for item.len))
    → map (item_in_area area slots) (items_from area slots (slots - at) at) ≡ item ∷ map (item_in_area area slots) (items_from area slots (slots - next) next)
items-next area slots at slot next item within set items is behind =
    let len : item.len ≡ name_length area slots slot = ap (λ (x : ScanItem). x.len) is in
    let after : next_slot area slots slot ≡ cond (name_length area slots slot == 0) (slot + 1) (cond (is_cut area slots slot) slots (slot + slots_for (name_length area slots slot))) = rw set refl in
    let next-is : next ≡ next_slot area slots slot =
    behind ∙ ap (λ n. cond (n == 0) (slot + 1) (cond (nat_lt 255 n || nat_lt slots (slot + slots_for n)) slots (slot + slots_for n))) len ∙ sym after in
    ap (map (item_in_area area slots)) (items ∙ items-set area slots slot next within set next-is)
    ∙ ap (λ x. x ∷ map (item_in_area area slots) (items_from area slots (slots - next) next)) (sym is)
