-- A block whose seal was just put in is sealed.
use Rattle.std.proofs.Common.{◌≡◌, ℕ, ◌<◌, ◌^◌, true, ◌&&◌, List, length, take, sym, ap, ◌∙◌, arith}
use Rattle.std.proofs.lemmas.Bool.{eq-eqb}
use Rattle.f2_bytes.specs.Bytes.{number_at, with_number}
use Rattle.f2_bytes.specs.Checksum.{crc, magic_number, is_sealed, with_seal}
use Rattle.f2_bytes.proofs.Numbers.{number_at-with_number, number_at-front, take-with_number, length-with_number}

module _ (b placed new : List ℕ) (checksum : ℕ) (size : length b ≡ 4096) (place : placed ≡ with_number b 164 4 4092) (sum : checksum ≡ crc magic_number (take 4092 placed)) (last : new ≡ with_number placed 4092 4 checksum) where
  pub seal-bytes : new ≡ with_seal b
  unfolding with_seal
  seal-bytes = last ∙ λ i. with_number (place i) 4092 4 ((sum ∙ ap (λ l. crc magic_number (take 4092 l)) place) i)

  placed_size : length placed ≡ 4096
  placed_size = ap length place ∙ length-with_number b 164 4 4092 (omega (arith, size)) ∙ size

  front : take 4092 new ≡ take 4092 placed
  front = ap (take 4092) last ∙ take-with_number placed 4092 4092 4 checksum (omega arith) (omega (arith, placed_size))

  pub seal-sealed : checksum < 2 ^ 32 → is_sealed new ≡ true
  unfolding is_sealed
  seal-sealed small =
      let first : number_at new 164 4 ≡ 4092 =
      number_at-front new placed 164 4 4092 (omega arith) front
      ∙ ap (λ l. number_at l 164 4) place ∙ number_at-with_number b 164 4 4092 (omega (arith, size)) (omega arith) in
      let second : number_at new 4092 4 ≡ crc magic_number (take 4092 new) =
      ap (λ l. number_at l 4092 4) last
      ∙ number_at-with_number placed 4092 4 checksum (omega (arith, placed_size)) small
      ∙ sum ∙ ap (crc magic_number) (sym front) in
      λ i. eq-eqb _ _ first i && eq-eqb _ _ second i
