-- What is read of a pack stands in its blocks, as its head counts them.
use Rattle.std.proofs.Common.{◌≡◌, ℕ, zero, suc, ◌+◌, ◌-◌, ◌*◌, ◌/◌, ◌%◌, ◌<◌, ◌≤◌, List, [], ◌∷◌, Bool, true, false, cond, nat_le, nat_lt, not, ◌||◌, ◌&&◌, Option, Some, None, refl, sym, ap, ◌∙◌, arith}
use Rattle.std.specs.Prelude.{length, flat_map, sum, take, map, sum_by, get_or, ◌==◌, if◌then◌else◌}
use Rattle.std.specs.List.{range_with_len, list_all}
use Rattle.std.proofs.lemmas.List.Sums.{AllPass-from_list_all}
use Rattle.std.proofs.lemmas.Bool.{and_parts, leb-true, ltb-true, ltb-false, false≢true}
use Rattle.f2_bytes.specs.declared.layout.Layout.{Layout}
use Rattle.f2_bytes.specs.Bytes.{Block, Image}
use Rattle.f2_bytes.specs.Superblock.{layout}
use Rattle.f2_bytes.specs.Checkpoint.{Pack, is_log_valid, log_numbers, data_log_numbers, pack_head, pack_at, pack_total_block_count, pack_start_sum, checkpoint_ver, is_compact, has_node_summaries, data_summary_blocks, node_summary_blocks, compact_count, compact_blocks, orphans, orphans_in, log, is_pack_valid, agrees_with_layout, has_room_for_summaries, chosen_pack, pack, has_checkpoint, pack_number}
use Rattle.f2_bytes.specs.Journal.{data_summary_start, node_summary_start, nat_journal_area, sit_journal_area}
use Rattle.f2_bytes.specs.Summary.{Summary, pack_summary, compact_entry_place, compact_place, summary_at, summary_entry}

-- the pack that counts is valid
pub chosen_valid : (l : Layout) (image : Image) (n : ℕ) → chosen_pack l image ≡ Some n → is_pack_valid l (pack_at l image n) ≡ true
unfolding chosen_pack
chosen_valid l image n e = go (is_pack_valid l (pack_at l image 0)) refl (is_pack_valid l (pack_at l image 1)) refl (nat_le (checkpoint_ver (pack_head (pack_at l image 1))) (checkpoint_ver (pack_head (pack_at l image 0)))) e
  where
    some_number : (a b : ℕ) → Some a ≡ Some b → a ≡ b
    some_number a b e = cc

    go : (v : Bool) → is_pack_valid l (pack_at l image 0) ≡ v → (w : Bool) → is_pack_valid l (pack_at l image 1) ≡ w → (c : Bool) → cond (v && (not w || c)) (Some 0) (cond w (Some 1) None) ≡ Some n → is_pack_valid l (pack_at l image n) ≡ true
    go true v false w c e = ap (λ k. is_pack_valid l (pack_at l image k)) (sym (some_number 0 n e)) ∙ v
    go true v true w true e = ap (λ k. is_pack_valid l (pack_at l image k)) (sym (some_number 0 n e)) ∙ v
    go true v true w false e = ap (λ k. is_pack_valid l (pack_at l image k)) (sym (some_number 1 n e)) ∙ w
    go false v true w c e = ap (λ k. is_pack_valid l (pack_at l image k)) (sym (some_number 1 n e)) ∙ w
    go false v false w c e = absurd (cc e)

pub pack_valid : (image : Image) → has_checkpoint image ≡ true → is_pack_valid (layout image) (pack image) ≡ true
unfolding pack
pack_valid image h = go (chosen_pack (layout image) image) refl
  where
    go : (o : Option ℕ) → chosen_pack (layout image) image ≡ o → is_pack_valid (layout image) (pack_at (layout image) image (pack_number image)) ≡ true
    go None e =
        let no : false ≡ true = rw e at h in
        absurd (false≢true no)
    go (Some n) e = rw e (chosen_valid (layout image) image n e)

-- the room that the head counts
pub room : (head : Block) → has_room_for_summaries head ≡ true → (1 ≤ pack_start_sum head) × (pack_start_sum head + data_summary_blocks head + node_summary_blocks head + 1 ≤ pack_total_block_count head)
unfolding has_room_for_summaries
room head h =
    let parts = and_parts _ _ h in
    (leb-true 1 (pack_start_sum head) parts.0, leb-true (pack_start_sum head + data_summary_blocks head + node_summary_blocks head + 1) (pack_total_block_count head) parts.1)

-- the place of an entry of the compact form lies in the blocks that these counts take
compact_low : (total n : ℕ) → total ≤ 1536 → n < total → (compact_entry_place n).0 < cond {A = ℕ} (nat_le total 439) 1 (cond (nat_le total 1023) 2 3)
compact_low total n most below = go (nat_lt n 439) refl (nat_le total 439) refl (nat_le total 1023) refl
  where
    go : (f : Bool) → nat_lt n 439 ≡ f → (p : Bool) → nat_le total 439 ≡ p → (q : Bool) → nat_le total 1023 ≡ q → (cond {A = ℕ × ℕ} f (0, 1014 + 7 * n) (1 + (n - 439) / 584, 7 * ((n - 439) % 584))).0 < cond {A = ℕ} p 1 (cond q 2 3)
    go true f true p q r = omega arith
    go true f false p true r = omega arith
    go true f false p false r = omega arith
    go false f true p q r =
        let low = leb-true total 439 p in
        let high = ltb-false n 439 f in
        absurd (omega (arith, low, high, below))
    go false f false p true r =
        let low = leb-true total 1023 r in
        let high = ltb-false n 439 f in
        omega (arith, low, high, below)
    go false f false p false r =
        let high = ltb-false n 439 f in
        omega (arith, high, below, most)

-- an entry of log t stands before the sum of all counts
taken_low : (c : ℕ → ℕ) (t k : ℕ) → t < 3 → k < c t → sum (take t (map c (0 ∷ 1 ∷ 2 ∷ []))) + k < sum_by c (0 ∷ 1 ∷ 2 ∷ [])
taken_low c zero k low below = omega (arith, below)
taken_low c (suc zero) k low below = let b : k < c 1 = below in omega (arith, b)
taken_low c (suc (suc zero)) k low below = let b : k < c 2 = below in omega (arith, b)
taken_low c (suc (suc (suc t))) k low below = absurd (omega (arith, low))

sum_low : (c : ℕ → ℕ) → c 0 ≤ 512 → c 1 ≤ 512 → c 2 ≤ 512 → sum_by c (0 ∷ 1 ∷ 2 ∷ []) ≤ 1536
sum_low c a b d = omega (arith, a, b, d)

-- each log lies in a main segment
log_at : (t : ℕ) → t < 6 → get_or log_numbers t 0 ≡ t
log_at zero low = refl
log_at (suc zero) low = refl
log_at (suc (suc zero)) low = refl
log_at (suc (suc (suc zero))) low = refl
log_at (suc (suc (suc (suc zero)))) low = refl
log_at (suc (suc (suc (suc (suc zero))))) low = refl
log_at (suc (suc (suc (suc (suc (suc t)))))) low = absurd (omega (arith, low))

pub log_valid : (l : Layout) (head : Block) → agrees_with_layout l head ≡ true → (t : ℕ) → t < 6 → is_log_valid l (log head t) ≡ true
unfolding agrees_with_layout
log_valid l head h t low =
    let test = λ (n : ℕ). is_log_valid l (log head n) in
    let inside : t < length log_numbers = omega (arith, low) in
    let all : list_all test log_numbers ≡ true = (and_parts _ _ h).1 in
    let at : test (get_or log_numbers t 0) ≡ true = AllPass-from_list_all test log_numbers all t 0 inside in
    sym (ap test (log_at t low)) ∙ at

pub log_segment_low : (l : Layout) (head : Block) → agrees_with_layout l head ≡ true → (t : ℕ) → t < 6 → (log head t).segment < l.segments
log_segment_low l head h t low = ltb-true (log head t).segment l.segments (and_parts _ _ (and_parts _ _ (log_valid l head h t low)).0).0

count_low : (l : Layout) (head : Block) → agrees_with_layout l head ≡ true → (t : ℕ) → t < 6 → compact_count head t ≤ 512
count_low l head h t low =
    let offset = ltb-true (log head t).offset 512 (and_parts _ _ (and_parts _ _ (log_valid l head h t low)).0).1 in
    go ((log head t).allocation == 1) offset
  where
    go : {x : ℕ} (b : Bool) → x < 512 → cond b 512 x ≤ 512
    go true h = omega arith
    go false h = omega (arith, h)

-- a choice is the same where each side that is taken is
pub cond_same : {A : Type 0} (b : Bool) {x y z w : A} → (b ≡ true → x ≡ y) → (b ≡ false → z ≡ w) → cond b x z ≡ cond b y w
cond_same true first second = first refl
cond_same false first second = second refl

pub flat_map_range : {A : Type 0} (f g : ℕ → List A) (a n : ℕ) → ((j : ℕ) → a ≤ j → j < a + n → g j ≡ f j) → flat_map g (range_with_len a n) ≡ flat_map f (range_with_len a n)
flat_map_range f g a zero same = refl
flat_map_range f g a (suc n) same =
    let rest = flat_map_range f g (a + 1) n (λ j low high. same j (omega (arith, low)) (omega (arith, high))) in
    rw (same a (omega arith) (omega arith), rest) refl

-- two packs with the same blocks, as the one's head counts them
module _ (p q : Pack) (same : (j : ℕ) → j < pack_total_block_count (pack_head p) → q j ≡ p j) (fits : has_room_for_summaries (pack_head p) ≡ true) where
  pub head-frame : q 0 ≡ p 0
  head-frame = let r = room (pack_head p) fits in same 0 (omega (arith, r.0, r.1))

  start_low : data_summary_start (pack_head p) < pack_total_block_count (pack_head p)
  start_low = let r = room (pack_head p) fits in go (is_compact (pack_head p)) (omega (arith, r.0, r.1)) (omega (arith, r.0, r.1))
    where
      go : {x y t : ℕ} (b : Bool) → x < t → y < t → cond b x y < t
      go true h i = h
      go false h i = i

  later_low : is_compact (pack_head p) ≡ false → (k : ℕ) → k < 3 → data_summary_start (pack_head p) + k < pack_total_block_count (pack_head p)
  later_low wide k low =
      let r = room (pack_head p) fits in
      let room_wide : pack_start_sum (pack_head p) + 3 + node_summary_blocks (pack_head p) + 1 ≤ pack_total_block_count (pack_head p) = rw wide at r.1 in
      let first = r.0 in
      rw wide (omega (arith, room_wide, first, low))

  pub nat_area-frame : nat_journal_area q ≡ nat_journal_area p
  unfolding nat_journal_area
  nat_area-frame = rw (head-frame, same (data_summary_start (pack_head p)) start_low) refl

  pub sit_area-frame : sit_journal_area q ≡ sit_journal_area p
  unfolding sit_journal_area
  sit_area-frame = go (is_compact (pack_head p)) refl
    where
      go : (b : Bool) → is_compact (pack_head p) ≡ b → sit_journal_area q ≡ sit_journal_area p
      go true e =
          let r = room (pack_head p) fits in
          let start : q (pack_start_sum (pack_head p)) ≡ p (pack_start_sum (pack_head p)) = same (pack_start_sum (pack_head p)) (omega (arith, r.0, r.1)) in
          rw (head-frame, e, start) refl
      go false e =
          let at = pack_total_block_count (pack_head p) - node_summary_blocks (pack_head p) - 4 + 2 in
          let low : at < pack_total_block_count (pack_head p) = rw e at (later_low e 2 (omega arith)) in
          let start : q at ≡ p at = same at low in
          rw (head-frame, e, start) refl

  pub orphans-frame : orphans q ≡ orphans p
  unfolding orphans
  orphans-frame =
      let r = room (pack_head p) fits in
      let first = r.0 in
      let all = r.1 in
      rw (head-frame, flat_map_range (λ j. orphans_in (p j)) (λ j. orphans_in (q j)) 1 (pack_start_sum (pack_head p) - 1) (λ j low high. ap orphans_in (same j (omega (arith, low, high, first, all))))) refl

  -- the summaries
  pub pack_summary-frame : (l : Layout) → agrees_with_layout l (pack_head p) ≡ true → (t k : ℕ) → t < 6 → pack_summary q t k ≡ pack_summary p t k
  unfolding pack_summary
  pack_summary-frame l logs t k low =
      let heads : pack_summary q t k ≡ in_pack (pack_head p) q = λ i. in_pack (head-frame i) q in
      heads ∙ blocks
    where
      place : Block → ℕ × ℕ
      place head = compact_place (map (compact_count head) data_log_numbers) t k

      in_pack : Block → Pack → Option Summary
      in_pack head x =
          if nat_lt t 3
          then (if is_compact head
          then (if nat_lt k (compact_count head t) then Some (summary_at (x (data_summary_start head + (place head).0)) (place head).1) else None)
          else Some (summary_entry (x (data_summary_start head + t)) k))
          else (if has_node_summaries head then Some (summary_entry (x (node_summary_start head + (t - 3))) k) else None)

      blocks : in_pack (pack_head p) q ≡ in_pack (pack_head p) p
      blocks =
          cond_same (nat_lt t 3)
          (λ early. cond_same (is_compact (pack_head p))
          (λ small. cond_same (nat_lt k (compact_count (pack_head p) t))
          (λ inside. ap (λ b. Some (summary_at b (place (pack_head p)).1)) (same (data_summary_start (pack_head p) + (place (pack_head p)).0) (compact_bound early small inside)))
          (λ past. refl))
          (λ wide. ap (λ b. Some (summary_entry b k)) (same (data_summary_start (pack_head p) + t) (later_low wide t (ltb-true t 3 early)))))
          (λ node. cond_same (has_node_summaries (pack_head p))
          (λ has. ap (λ b. Some (summary_entry b k)) (same (node_summary_start (pack_head p) + (t - 3)) (node_bound node has)))
          (λ none. refl))
        where
          compact_bound : nat_lt t 3 ≡ true → is_compact (pack_head p) ≡ true → nat_lt k (compact_count (pack_head p) t) ≡ true → data_summary_start (pack_head p) + (place (pack_head p)).0 < pack_total_block_count (pack_head p)
          compact_bound early small inside =
              let r = room (pack_head p) fits in
              let few : pack_start_sum (pack_head p) + compact_blocks (pack_head p) + node_summary_blocks (pack_head p) + 1 ≤ pack_total_block_count (pack_head p) = rw small at r.1 in
              let c = compact_count (pack_head p) in
              let most : sum_by c data_log_numbers ≤ 1536 = sum_low c (count_low l (pack_head p) logs 0 (omega arith)) (count_low l (pack_head p) logs 1 (omega arith)) (count_low l (pack_head p) logs 2 (omega arith)) in
              let entry : sum (take t (map c data_log_numbers)) + k < sum_by c data_log_numbers = taken_low c t k (ltb-true t 3 early) (ltb-true k (c t) inside) in
              let at : (place (pack_head p)).0 < compact_blocks (pack_head p) = compact_low (sum_by c data_log_numbers) (sum (take t (map c data_log_numbers)) + k) most entry in
              rw small (omega (arith, few, at))

          node_bound : nat_lt t 3 ≡ false → has_node_summaries (pack_head p) ≡ true → node_summary_start (pack_head p) + (t - 3) < pack_total_block_count (pack_head p)
          node_bound node has =
              let r = room (pack_head p) fits in
              let all : pack_start_sum (pack_head p) + data_summary_blocks (pack_head p) + 3 + 1 ≤ pack_total_block_count (pack_head p) = rw has at r.1 in
              let first = r.0 in
              omega (arith, all, first, low)
