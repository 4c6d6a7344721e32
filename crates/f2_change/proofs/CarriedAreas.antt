-- What is read of the image that a commit makes, in each of its areas.
use Rattle.std.proofs.Common.{◌≡◌, ◌⊎◌, inl, inr, ℕ, ◌+◌, ◌-◌, ◌*◌, ◌%◌, ◌≤◌, ◌<◌, Bool, true, false, cond, not, ◌&&◌, ◌++◌, List, [], ◌∷◌, get_or, Option, None, refl, sym, ap, ◌∙◌, arith}
use Rattle.std.specs.Prelude.{◌==◌, filter, unwrap_or}
use Rattle.std.proofs.lemmas.Bool.{and_parts, or_from, ne_eqb, eqb-true, eq-eqb, leb-true, ltb-true, and_from}
use Rattle.std.proofs.lemmas.List.Folds.{list_any_none}
use Rattle.std.proofs.lemmas.Map.Views.{any-filter_same}
use Rattle.f2_bytes.specs.declared.layout.Layout.{Layout}
use Rattle.f2_bytes.specs.Bits.{bit_msb}
use Rattle.f2_bytes.specs.Bytes.{Block, Image, block_at, numbers_below}
use Rattle.f2_bytes.specs.Checkpoint.{sit_bits, nat_bits}
use Rattle.f2_bytes.specs.Superblock.{is_main, IsInOrder}
use Rattle.f2_bytes.proofs.Below.{found_below, some_below}
use Rattle.f2_pack.specs.Written.{written}
use Rattle.f2_view.specs.Mounted.{Mounted, layout_in}
use Rattle.f2_change.specs.declared.change.Change.{Change}
use Rattle.f2_change.specs.Change.{given, is_filled, stored_sums, turned_below, nat_turned, sit_turned, nat_other_address, sit_other_address}
use Rattle.f2_change.specs.Writes.{Prepared, head_address, clearing, filling, sealing, pack_body, writes, committed}
use Rattle.f2_change.proofs.CarriedGiven.{Given}
use Rattle.f2_change.proofs.CarriedReads.{has, append_front, append_back, given_none, given-filter, given-shifted, shifted_below, writes_read, given_other}
use Rattle.f2_change.proofs.SameBlocks.{row, row_apart, body_row}

-- ---- the blocks of a table that are written

same_number : (turned : ℕ → Bool) (j : ℕ) (k : ℕ) → (k == j) ≡ true → turned k ≡ turned j
same_number turned j k is = ap turned (eqb-true k j is)

turned_has-is : (half : ℕ) (turned : ℕ → Bool) (j : ℕ) → has (turned_below half turned) j ≡ (turned j && has (numbers_below half) j)
unfolding turned_below
turned_has-is half turned j = any-filter_same (λ k. k == j) turned (turned j) (same_number turned j) (numbers_below half)

pub turned_low : (half : ℕ) (turned : ℕ → Bool) (j : ℕ) → has (turned_below half turned) j ≡ true → (j < half) × (turned j ≡ true)
turned_low half turned j among =
    let parts = and_parts (turned j) (has (numbers_below half) j) (sym (turned_has-is half turned j) ∙ among) in
    let t = found_below (λ k. k == j) half parts.1 in
    let low = t.1 in
    (omega (arith, low, eqb-true t.0 j t.2), parts.0)

pub turned_has : (half : ℕ) (turned : ℕ → Bool) (j : ℕ) → j < half → turned j ≡ true → has (turned_below half turned) j ≡ true
turned_has half turned j low is =
    turned_has-is half turned j ∙ and_from (turned j) (has (numbers_below half) j) is (some_below (λ k. k == j) half j low (eq-eqb j j refl))

-- where a copy of a block of each table stands: the first copy, or the second
abbrev pub nat_place : Layout → ℕ → Bool → ℕ
nat_place l k first = l.nat + 2 * k - k % 512 + cond {A = ℕ} first 0 512

abbrev pub sit_place : Layout → ℕ → Bool → ℕ
sit_place l k first = l.sit + k + cond {A = ℕ} first 0 l.sit_half

pub nat_place_low : (l : Layout) (k : ℕ) (first : Bool) → IsInOrder l → k < l.nat_half → (l.nat ≤ nat_place l k first) × (nat_place l k first < l.ssa)
nat_place_low l k true order low = (omega arith, omega (arith, low, order.nat_whole, order.ssa))
nat_place_low l k false order low = (omega arith, omega (arith, low, order.nat_whole, order.ssa))

pub sit_place_low : (l : Layout) (k : ℕ) (first : Bool) → IsInOrder l → k < l.sit_half → (l.sit ≤ sit_place l k first) × (sit_place l k first < l.nat)
sit_place_low l k true order low = (omega arith, omega (arith, low, order.nat))
sit_place_low l k false order low = (omega arith, omega (arith, low, order.nat))

no_choice : {T : Type 0} (b : Bool) (o : Option T) → o ≡ None → cond b o None ≡ None
no_choice true o none = none
no_choice false o none = refl

unless : {T : Type 0} (b : Bool) (o : Option T) (d : T) → unwrap_or (cond (not b) o None) d ≡ cond b d (unwrap_or o d)
unless true o d = refl
unless false o d = refl

module _ (image : Image) (m : Mounted) (c : Change) (r : Prepared) (g : Given image m c r) where
  abbrev new : Image
  new = committed r image

  abbrev l : Layout
  l = layout_in m

  order : IsInOrder l
  order = g.kept.in_order

  -- ---- no other write lies behind the packs

  past : (a : ℕ) → l.sit ≤ a → head_address r + 8 ≤ a
  past a low =
      let start : r.layout.cp ≡ l.cp = ap (λ (k : Layout). k.cp) g.follows.layout in
      omega (arith, low, start, g.prepared.number, order.sit)

  off_head : (a : ℕ) (b : Block) → l.sit ≤ a → given ((head_address r, b) ∷ []) a ≡ None
  off_head a b low =
      given_none ((head_address r, b) ∷ []) a (or_from (head_address r == a) false (ne_eqb (head_address r) a (λ e. absurd (omega (arith, e, past a low)))) refl)

  off_body : (a : ℕ) → l.sit ≤ a → given (pack_body r) a ≡ None
  off_body a low =
      ap (λ bs. given bs a) (body_row r)
      ∙ given_none (row (head_address r) (written r.pack) 1 7) a (row_apart (head_address r) (written r.pack) 1 7 a (inr (omega (arith, past a low))))

  only : (a : ℕ) → l.sit ≤ a → given (writes r) a ≡ given r.blocks a
  only a low =
      append_front (clearing r ++ filling r) (sealing r) a (off_head a _ low)
      ∙ append_back (clearing r) (filling r) a (off_head a _ low)
      ∙ append_front r.blocks (pack_body r) a (off_body a low)

  reads : (a : ℕ) → l.sit ≤ a → a < l.blocks → block_at new a ≡ unwrap_or (given r.blocks a) (block_at image a)
  reads a low high =
      writes_read image (writes r) a (omega (arith, high, g.inside))
      ∙ ap (λ (o : Option Block). unwrap_or o (block_at image a)) (only a low)

  -- ---- the four parts

  abbrev main_part : List (ℕ × Block)
  main_part = c.blocks.items

  abbrev sum_part : List (ℕ × Block)
  sum_part = stored_sums l c.logs c.sums.items

  abbrev sit_part : List (ℕ × Block)
  sit_part = g.plan.sit_blocks

  abbrev nat_part : List (ℕ × Block)
  nat_part = g.plan.nat_blocks

  all : r.blocks ≡ main_part ++ sum_part ++ sit_part ++ nat_part
  all = g.plan.all_blocks

  off_main : (a : ℕ) → a < l.main → given main_part a ≡ None
  off_main a low =
      given_none main_part a (list_any_none (λ (w : ℕ × Block). w.0 == a) main_part
      (λ k d below. ne_eqb _ a (λ e. let at = leb-true l.main (get_or main_part k d).0 (and_parts _ _ (g.main k d below)).0 in absurd (omega (arith, at, e, low)))))

  few_sums : (n : ℕ) → l.segments ≤ n → given c.sums.items n ≡ None
  few_sums n high =
      given_none c.sums.items n (list_any_none (λ (w : ℕ × Block). w.0 == n) c.sums.items
      (λ k d below. ne_eqb _ n (λ e. let at = g.sums k d below in absurd (omega (arith, at, e, high)))))

  sums_at : (n : ℕ) → given sum_part (l.ssa + n) ≡ cond (not (is_filled c.logs n)) (given c.sums.items n) None
  unfolding stored_sums
  sums_at n =
      given-shifted l.ssa n (filter (λ (w : ℕ × Block). not (is_filled c.logs w.0)) c.sums.items)
      ∙ given-filter (λ s. not (is_filled c.logs s)) c.sums.items n

  before_sums : (a : ℕ) → a < l.ssa → given sum_part a ≡ None
  unfolding stored_sums
  before_sums a low = shifted_below l.ssa a (filter (λ (w : ℕ × Block). not (is_filled c.logs w.0)) c.sums.items) low

  behind_sums : (a : ℕ) → l.main ≤ a → given sum_part a ≡ None
  behind_sums a high =
      let place : a ≡ l.ssa + (a - l.ssa) = omega (arith, high, order.main) in
      ap (given sum_part) place ∙ sums_at (a - l.ssa)
      ∙ no_choice (not (is_filled c.logs (a - l.ssa))) (given c.sums.items (a - l.ssa)) (few_sums (a - l.ssa) (omega (arith, high, order.summaries)))

  off_sit : (a : ℕ) → (a < l.sit) ⊎ (l.nat ≤ a) → given sit_part a ≡ None
  off_sit a outside =
      given_other (sit_other_address l (sit_bits m.chosen.head)) a (turned_below l.sit_half (sit_turned l c.sit.items m.chosen.sit_journal)) sit_part g.plan.sit_addresses
      (λ j among e.
      let low = (turned_low l.sit_half (sit_turned l c.sit.items m.chosen.sit_journal) j among).0 in
      let place = sit_place_low l j (bit_msb (sit_bits m.chosen.head) j) order low in
      clash (sit_other_address l (sit_bits m.chosen.head) j) place.0 place.1 e outside)
    where
      clash : (at : ℕ) → l.sit ≤ at → at < l.nat → at ≡ a → (a < l.sit) ⊎ (l.nat ≤ a) → ⊥
      clash at low high e (inl before) = absurd (omega (arith, low, e, before))
      clash at low high e (inr behind) = absurd (omega (arith, high, e, behind))

  off_nat : (a : ℕ) → (a < l.nat) ⊎ (l.ssa ≤ a) → given nat_part a ≡ None
  off_nat a outside =
      given_other (nat_other_address l (nat_bits m.chosen.head)) a (turned_below l.nat_half (nat_turned l c.nat.items m.chosen.nat_journal)) nat_part g.plan.nat_addresses
      (λ j among e.
      let low = (turned_low l.nat_half (nat_turned l c.nat.items m.chosen.nat_journal) j among).0 in
      let place = nat_place_low l j (bit_msb (nat_bits m.chosen.head) j) order low in
      clash (nat_other_address l (nat_bits m.chosen.head) j) place.0 place.1 e outside)
    where
      clash : (at : ℕ) → l.nat ≤ at → at < l.ssa → at ≡ a → (a < l.nat) ⊎ (l.ssa ≤ a) → ⊥
      clash at low high e (inl before) = absurd (omega (arith, low, e, before))
      clash at low high e (inr behind) = absurd (omega (arith, high, e, behind))

  -- ---- each area by itself

  of : (part : List (ℕ × Block)) (a : ℕ) → l.sit ≤ a → a < l.blocks → given (main_part ++ sum_part ++ sit_part ++ nat_part) a ≡ given part a → block_at new a ≡ unwrap_or (given part a) (block_at image a)
  of part a low high is =
      reads a low high ∙ ap (λ (o : Option Block). unwrap_or o (block_at image a)) (ap (λ bs. given bs a) all ∙ is)

  pub read_main : (a : ℕ) → is_main l a ≡ true → block_at new a ≡ unwrap_or (given c.blocks.items a) (block_at image a)
  read_main a inside =
      let parts = and_parts _ _ inside in
      let low = leb-true l.main a parts.0 in
      let high = ltb-true a (l.main + 512 * l.segments) parts.1 in
      of main_part a (omega (arith, low, order.nat, order.ssa, order.main)) (omega (arith, high, order.inside))
      (append_front (main_part ++ sum_part ++ sit_part) nat_part a (off_nat a (inr (omega (arith, low, order.main))))
      ∙ append_front (main_part ++ sum_part) sit_part a (off_sit a (inr (omega (arith, low, order.main, order.ssa))))
      ∙ append_front main_part sum_part a (behind_sums a low))

  pub read_sum : (s : ℕ) → s < l.main - l.ssa → block_at new (l.ssa + s) ≡ cond (is_filled c.logs s) (block_at image (l.ssa + s)) (unwrap_or (given c.sums.items s) (block_at image (l.ssa + s)))
  read_sum s low =
      let a = l.ssa + s in
      of sum_part a (omega (arith, order.nat, order.ssa)) (omega (arith, low, order.inside))
      (append_front (main_part ++ sum_part ++ sit_part) nat_part a (off_nat a (inr (omega arith)))
      ∙ append_front (main_part ++ sum_part) sit_part a (off_sit a (inr (omega (arith, order.ssa))))
      ∙ append_back main_part sum_part a (off_main a (omega (arith, low))))
      ∙ ap (λ (o : Option Block). unwrap_or o (block_at image a)) (sums_at s)
      ∙ unless (is_filled c.logs s) (given c.sums.items s) (block_at image a)

  pub read_sit : (a : ℕ) → l.sit ≤ a → a < l.nat → block_at new a ≡ unwrap_or (given g.plan.sit_blocks a) (block_at image a)
  read_sit a low high =
      of sit_part a low (omega (arith, high, order.ssa, order.main, order.inside))
      (append_front (main_part ++ sum_part ++ sit_part) nat_part a (off_nat a (inl high))
      ∙ append_back (main_part ++ sum_part) sit_part a
      (append_front main_part sum_part a (before_sums a (omega (arith, high, order.ssa))) ∙ off_main a (omega (arith, high, order.ssa, order.main))))

  pub read_nat : (a : ℕ) → l.nat ≤ a → a < l.ssa → block_at new a ≡ unwrap_or (given g.plan.nat_blocks a) (block_at image a)
  read_nat a low high =
      of nat_part a (omega (arith, low, order.nat)) (omega (arith, high, order.main, order.inside))
      (append_back (main_part ++ sum_part ++ sit_part) nat_part a
      (append_front (main_part ++ sum_part) sit_part a (off_sit a (inr low))
      ∙ append_front main_part sum_part a (before_sums a high)
      ∙ off_main a (omega (arith, high, order.main))))
