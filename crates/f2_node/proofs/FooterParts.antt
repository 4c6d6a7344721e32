-- A footer that is read where its bytes stand.
use Rattle.std.proofs.Common.{◌≡◌, ℕ, ◌+◌, List, ◌++◌, length, take, refl, ap, ◌∙◌, arith, append_assoc}
use Rattle.std.proofs.lemmas.List.{take_at, length-take-le}
use Rattle.std.specs.Prelude.{drop}
use Rattle.f2_bytes.specs.Bytes.{number_at, with_bytes}
use Rattle.f2_bytes.proofs.Entries.{number_at-behind}
use Rattle.f2_node.specs.Records.{footer_of, footer_bytes, FitsFooter}
use Rattle.f2_node.specs.declared.records.Footer.{Footer}

footer_of-bytes : (f : Footer) (front rest : List ℕ) → length front ≡ 4072 → FitsFooter f → footer_of (front ++ (footer_bytes f ++ rest)) ≡ f
footer_of-bytes f front rest is fits =
    let ys : List ℕ = footer_bytes f ++ rest in
    let nid : number_at (front ++ ys) 4072 4 ≡ f.nid = number_at-behind front ys 4072 0 4 f.nid _ (omega (arith, is)) refl fits.nid in
    let ino : number_at (front ++ ys) 4076 4 ≡ f.ino = number_at-behind front ys 4076 4 4 f.ino _ (omega (arith, is)) refl fits.ino in
    let flag : number_at (front ++ ys) 4080 4 ≡ f.flag = number_at-behind front ys 4080 8 4 f.flag _ (omega (arith, is)) refl fits.flag in
    let cp_ver : number_at (front ++ ys) 4084 8 ≡ f.cp_ver = number_at-behind front ys 4084 12 8 f.cp_ver _ (omega (arith, is)) refl fits.cp_ver in
    let next : number_at (front ++ ys) 4092 4 ≡ f.next = number_at-behind front ys 4092 20 4 f.next _ (omega (arith, is)) refl fits.next in
    λ i. record { nid = nid i; ino = ino i; flag = flag i; cp_ver = cp_ver i; next = next i }

-- a footer that is put in is read again, and what stands before it stays
module _ (b bytes : List ℕ) (size : length b ≡ 4096) where
  parts : with_bytes b 4072 bytes ≡ take 4072 b ++ (bytes ++ drop (4072 + length bytes) b)
  parts = append_assoc (take 4072 b) bytes (drop (4072 + length bytes) b)

  front : length (take 4072 b) ≡ 4072
  front = length-take-le 4072 b (omega (arith, size))

  pub footer_of-put : (f : Footer) → bytes ≡ footer_bytes f → FitsFooter f → footer_of (with_bytes b 4072 bytes) ≡ f
  footer_of-put f is fits =
      ap footer_of (parts ∙ λ i. take 4072 b ++ (is i ++ drop (4072 + length bytes) b))
      ∙ footer_of-bytes f (take 4072 b) (drop (4072 + length bytes) b) front fits

  pub take-put : take 4072 (with_bytes b 4072 bytes) ≡ take 4072 b
  take-put = ap (take 4072) parts ∙ take_at (take 4072 b) (bytes ++ drop (4072 + length bytes) b) 4072 front
