-- What a function gives for the items of a list, by their places.
use Rattle.std.proofs.Common.{◌≡◌, ℕ, zero, suc, ◌+◌, ◌<◌, ◌≤◌, inl, inr, ◌==◌, cond, List, [], ◌∷◌, Option, Some, None, refl, sym, ap, subst, ◌∙◌, arith}
use Rattle.std.specs.Prelude.{find, filter_map, option_and_then}
use Rattle.std.specs.List.{cons_option, range_with_len}
use Rattle.std.proofs.lemmas.Bool.{cases_lt, eq-eqb, ne_eqb}
use Rattle.f2_bytes.specs.Bytes.{numbers_below}
use Rattle.f2_bytes.specs.Directory.{Item}
use Rattle.f2_items.proofs.ItemPlaces.{Ascends, ascends-bounds, none-before}

module _ {Y : Type 0} (f : ℕ → Item → Option Y) where
  -- what it gives for the item at a place
  abbrev pub at_place : List Item → ℕ → Option Y
  at_place items b = option_and_then (f b) (find (λ item. item.place == b) items)

  nothing-before : (a high : ℕ) (items : List Item) → Ascends (suc a) high items → at_place items a ≡ None
  nothing-before a high items h = ap (option_and_then (f a)) (none-before a (suc a) high items (omega arith) h)

  there : (x : Item) (xs : List Item) (a : ℕ) → x.place ≡ a → at_place (x ∷ xs) a ≡ f x.place x
  there x xs a e =
      ap (λ t. option_and_then (f a) (cond t (Some x) (find (λ (item : Item). item.place == a) xs))) (eq-eqb x.place a e)
      ∙ ap (λ p. f p x) (sym e)

  past : (x : Item) (xs : List Item) (b : ℕ) → x.place < b → at_place (x ∷ xs) b ≡ at_place xs b
  past x xs b h = ap (λ t. option_and_then (f b) (cond t (Some x) (find (λ (item : Item). item.place == b) xs))) (ne_eqb x.place b (λ e. omega (arith, e, h)))

  places_from : (g : ℕ → Option Y) (items : List Item) (a n : ℕ) → Ascends a (a + n) items → ((b : ℕ) → a ≤ b → g b ≡ at_place items b)
      → filter_map g (range_with_len a n) ≡ filter_map (λ item. f item.place item) items
  places_from g [] a zero h same = refl
  places_from g (x ∷ xs) a zero h same = absurd (let low : a ≤ x.place = h.0 in let rest : suc x.place ≤ a + 0 = ascends-bounds (suc x.place) (a + 0) xs h.1 in omega (arith, low, rest))
  places_from g [] a (suc n) h same =
      (λ i. cons_option (same a (omega arith) i) (places_from g [] (a + 1) n (omega arith) (λ b low. same b (omega (arith, low))) i))
  places_from g (x ∷ xs) a (suc n) h same = elim (cases_lt a x.place) [
    | inl later ↦
        let items : List Item = x ∷ xs in
        let rest : Ascends (a + 1) (a + 1 + n) items = (omega (arith, later), subst (λ high. Ascends (suc x.place) high xs) (shift a n) h.1) in
        (λ i. cons_option ((same a (omega arith) ∙ nothing-before a (a + 1 + n) items (subst (λ l. Ascends l (a + 1 + n) items) (next a) rest)) i)
        (places_from g items (a + 1) n rest (λ b low. same b (omega (arith, low))) i))
    | inr reached ↦
        let low : a ≤ x.place = h.0 in
        let here : x.place ≡ a = omega (arith, low, reached) in
        let rest : Ascends (a + 1) (a + 1 + n) xs = subst (λ l. Ascends l (a + 1 + n) xs) (after x.place a here) (subst (λ high. Ascends (suc x.place) high xs) (shift a n) h.1) in
        (λ i. cons_option ((same a (omega arith) ∙ there x xs a here) i)
        (places_from g xs (a + 1) n rest (λ b low. same b (omega (arith, low)) ∙ past x xs b (omega (arith, low, here))) i))
  ]
    where
      shift : (a n : ℕ) → a + suc n ≡ a + 1 + n
      shift a n = omega arith

      next : (a : ℕ) → a + 1 ≡ suc a
      next a = omega arith

      after : (p a : ℕ) → p ≡ a → suc p ≡ a + 1
      after p a e = omega (arith, e)

  -- over all places of items, in order
  pub by_places : (g : ℕ → Option Y) (items : List Item) (n : ℕ) → Ascends 0 n items → ((b : ℕ) → g b ≡ at_place items b)
      → filter_map g (numbers_below n) ≡ filter_map (λ item. f item.place item) items
  unfolding numbers_below
  by_places g items n h same = places_from g items 0 n (subst (λ high. Ascends 0 high items) (let e : n ≡ 0 + n = omega arith in e) h) (λ b low. same b)
