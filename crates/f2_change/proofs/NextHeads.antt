-- A head with new numbers and new version bitmaps.
use Rattle.std.proofs.Common.{◌≡◌, inl, inr, ℕ, ◌+◌, ◌-◌, ◌<◌, ◌≤◌, Bool, None, List, ◌++◌, length, take, drop, refl, sym, ap, subst, ◌∙◌, arith}
use Rattle.std.specs.Prelude.{unwrap_or}
use Rattle.std.proofs.lemmas.List.{append_assoc, length-take-le, length-append, length-drop}
use Rattle.std.proofs.Math.Seq.{take-append_seam}
use Rattle.f2_bytes.specs.Bytes.{IsBlock, number_at, bytes_at, with_bytes}
use Rattle.f2_bytes.specs.Checkpoint.{checkpoint_rows, checkpoint_row, sit_ver_bitmap_bytesize, nat_ver_bitmap_bytesize, sit_bits, nat_bits}
use Rattle.f2_bytes.specs.Fields.{row_at}
use Rattle.f2_bytes.proofs.Entries.{drop-behind, number_at-apart}
use Rattle.f2_bytes.proofs.Numbers.{number_at-byte}
use Rattle.f2_change.specs.Change.{given, TurnsBits, IsNextHead}
use Rattle.f2_change.specs.Heads.{PutsRows}
use Rattle.f2_change.proofs.HeadRows.{row_low}

seam : (n : ℕ) (mid rest : List ℕ) → length mid ≡ n → take n (mid ++ rest) ≡ mid
seam n mid rest size = ap (λ k. take k (mid ++ rest)) (sym size) ∙ take-append_seam mid rest

mid_of : (front mid rest : List ℕ) (at n : ℕ) → at ≡ length front → length mid ≡ n → bytes_at ((front ++ mid) ++ rest) at n ≡ mid
mid_of front mid rest at n place size =
    let count : at + n - at ≡ n = omega arith in
    (λ i. take (count i) (drop at (append_assoc front mid rest i)))
    ∙ ap (take n) (drop-behind front (mid ++ rest) at 0 (omega (arith, place)))
    ∙ seam n mid rest size

module _ (old base sit nat head : List ℕ) (rows : List (ℕ × ℕ)) (long : length old ≡ 4096) (puts : PutsRows rows old base)
    (sit_size : length sit ≡ sit_ver_bitmap_bytesize old) (nat_size : length nat ≡ nat_ver_bitmap_bytesize old) (room : 192 + length sit + length nat ≤ 4092)
    (no_sit : given rows 44 ≡ None) (no_nat : given rows 45 ≡ None)
    (is : head ≡ with_bytes (with_bytes base 192 sit) (192 + length sit) nat) where
  base_size : length base ≡ 4096
  base_size = puts.size ∙ long

  abbrev front : List ℕ
  front = take 192 base

  front_size : length front ≡ 192
  front_size = length-take-le 192 base (omega (arith, base_size))

  one_size : length (with_bytes base 192 sit) ≡ 4096
  one_size =
      length-append (front ++ sit) (drop (192 + length sit) base)
      ∙ omega (arith, front_size, length-append front sit, length-drop (192 + length sit) base, base_size, room)

  -- a number apart from both bitmaps
  kept : (i n : ℕ) → (i + n ≤ 192) → number_at head i n ≡ number_at base i n
  kept i n before =
      ap (λ l. number_at l i n) is
      ∙ number_at-apart (with_bytes base 192 sit) nat (192 + length sit) i n (omega (arith, one_size, room)) (inl (omega (arith, before)))
      ∙ number_at-apart base sit 192 i n (omega (arith, base_size, room)) (inl before)

  kept_behind : (i n : ℕ) → 192 + length sit + length nat ≤ i → number_at head i n ≡ number_at base i n
  kept_behind i n behind =
      ap (λ l. number_at l i n) is
      ∙ number_at-apart (with_bytes base 192 sit) nat (192 + length sit) i n (omega (arith, one_size, room)) (inr behind)
      ∙ number_at-apart base sit 192 i n (omega (arith, base_size, room)) (inr (omega (arith, behind)))

  row : (k : ℕ) → k < 64 → checkpoint_row head k ≡ unwrap_or (given rows k) (checkpoint_row old k)
  row k below = kept (row_at checkpoint_rows k).offset (row_at checkpoint_rows k).width (row_low k below) ∙ puts.put k below

  same_sit : sit_ver_bitmap_bytesize head ≡ length sit
  same_sit = row 44 (omega arith) ∙ ap (λ o. unwrap_or o (checkpoint_row old 44)) no_sit ∙ sym sit_size

  same_nat : nat_ver_bitmap_bytesize head ≡ length nat
  same_nat = row 45 (omega arith) ∙ ap (λ o. unwrap_or o (checkpoint_row old 45)) no_nat ∙ sym nat_size

  -- the front of the second step
  two : take (192 + length sit) (with_bytes base 192 sit) ≡ front ++ sit
  two =
      seam (192 + length sit) (front ++ sit) (drop (192 + length sit) base) (length-append front sit ∙ omega (arith, front_size))

  whole : head ≡ ((front ++ sit) ++ nat) ++ drop (192 + length sit + length nat) (with_bytes base 192 sit)
  whole = is ∙ ap (λ l. (l ++ nat) ++ drop (192 + length sit + length nat) (with_bytes base 192 sit)) two

  its_sit : sit_bits head ≡ sit
  its_sit =
      (λ i. bytes_at (whole i) 192 (same_sit i))
      ∙ ap (λ l. bytes_at l 192 (length sit)) (append_assoc (front ++ sit) nat (drop (192 + length sit + length nat) (with_bytes base 192 sit)))
      ∙ mid_of front sit (nat ++ drop (192 + length sit + length nat) (with_bytes base 192 sit)) 192 (length sit) (sym front_size) refl

  its_nat : nat_bits head ≡ nat
  its_nat =
      (λ i. bytes_at (whole i) (192 + same_sit i) (same_nat i))
      ∙ mid_of (front ++ sit) nat (drop (192 + length sit + length nat) (with_bytes base 192 sit)) (192 + length sit) (length nat) (sym (length-append front sit ∙ omega (arith, front_size))) refl

  pub next-head : IsBlock head → (s n : ℕ → Bool) → TurnsBits (sit_bits old) sit s → TurnsBits (nat_bits old) nat n → IsNextHead old rows s n head
  next-head block s n turns_sit turns_nat = record {
    block = block;
    rows_given = row;
    sit_turns = subst (λ b. TurnsBits (sit_bits old) b s) (sym its_sit) turns_sit;
    nat_turns = subst (λ b. TurnsBits (nat_bits old) b n) (sym its_nat) turns_nat;
    others = λ i past.
        sym (number_at-byte head i) ∙ kept_behind i 1 (omega (arith, past, sit_size, nat_size)) ∙ puts.behind i 1 (omega (arith, past)) ∙ number_at-byte old i;
  }
