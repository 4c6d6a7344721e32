-- A record that is read where its bytes stand.
use Rattle.std.proofs.Common.{◌≡◌, ℕ, ◌+◌, List, ◌++◌, length, refl, sym, ap, ◌∙◌, arith, append_assoc, length-append}
use Rattle.byteorder.specs.Endian.{little_bytes}
use Rattle.f2_bytes.specs.Bytes.{number_at}
use Rattle.f2_bytes.specs.Summary.{Summary, summary_at, summary_bytes}
use Rattle.f2_bytes.specs.Journal.{NatRecord, nat_entry_at, nat_entry_bytes, nat_record_at, nat_record_bytes, SitRecord, sit_entry_at, sit_entry_bytes, sit_record_at, sit_record_bytes}
use Rattle.f2_bytes.proofs.Entries.{number_at-behind, nat_entry_at-bytes, sit_entry_at-bytes, sit_entry_width}
use Rattle.f2_sum.specs.Records.{FitsSummary, FitsNatRecord, FitsSitRecord}

pub summary_at-bytes : (s : Summary) (front rest : List ℕ) (at : ℕ) → length front ≡ at → FitsSummary s → summary_at (front ++ (summary_bytes s ++ rest)) at ≡ s
summary_at-bytes s front rest at is fits =
    let ys : List ℕ = summary_bytes s ++ rest in
    let nid : number_at (front ++ ys) at 4 ≡ s.nid = number_at-behind front ys at 0 4 s.nid _ (omega (arith, is)) refl fits.nid in
    let version : number_at (front ++ ys) (at + 4) 1 ≡ s.version = number_at-behind front ys (at + 4) 4 1 s.version _ (omega (arith, is)) refl fits.version in
    let place : number_at (front ++ ys) (at + 5) 2 ≡ s.place = number_at-behind front ys (at + 5) 5 2 s.place _ (omega (arith, is)) refl fits.place in
    λ i. record { nid = nid i; version = version i; place = place i }

pub nat_record_at-bytes : (r : NatRecord) (front rest : List ℕ) (at : ℕ) → length front ≡ at → FitsNatRecord r → nat_record_at (front ++ (nat_record_bytes r ++ rest)) at ≡ r
nat_record_at-bytes r front rest at is fits =
    let number : List ℕ = little_bytes 4 r.nid in
    let nid : number_at (front ++ (nat_record_bytes r ++ rest)) at 4 ≡ r.nid = number_at-behind front (nat_record_bytes r ++ rest) at 0 4 r.nid _ (omega (arith, is)) refl fits.nid in
    let moved : front ++ (nat_record_bytes r ++ rest) ≡ (front ++ number) ++ (nat_entry_bytes r.entry ++ rest) = sym (append_assoc front number (nat_entry_bytes r.entry ++ rest)) in
    let entry : nat_entry_at (front ++ (nat_record_bytes r ++ rest)) (at + 4) ≡ r.entry =
    ap (λ l. nat_entry_at l (at + 4)) moved ∙ nat_entry_at-bytes r.entry (front ++ number) rest (at + 4) (omega (arith, length-append front number, is)) fits.entry in
    λ i. record { nid = nid i; entry = entry i }

pub sit_record_at-bytes : (r : SitRecord) (front rest : List ℕ) (at : ℕ) → length front ≡ at → FitsSitRecord r → sit_record_at (front ++ (sit_record_bytes r ++ rest)) at ≡ r
sit_record_at-bytes r front rest at is fits =
    let number : List ℕ = little_bytes 4 r.segment in
    let segment : number_at (front ++ (sit_record_bytes r ++ rest)) at 4 ≡ r.segment = number_at-behind front (sit_record_bytes r ++ rest) at 0 4 r.segment _ (omega (arith, is)) refl fits.segment in
    let moved : front ++ (sit_record_bytes r ++ rest) ≡ (front ++ number) ++ (sit_entry_bytes r.entry ++ rest) = sym (append_assoc front number (sit_entry_bytes r.entry ++ rest)) in
    let entry : sit_entry_at (front ++ (sit_record_bytes r ++ rest)) (at + 4) ≡ r.entry =
    ap (λ l. sit_entry_at l (at + 4)) moved ∙ sit_entry_at-bytes r.entry (front ++ number) rest (at + 4) (omega (arith, length-append front number, is)) fits.entry in
    λ i. record { segment = segment i; entry = entry i }

-- how many bytes they have
pub nat_record_width : (r : NatRecord) → FitsNatRecord r → length (nat_record_bytes r) ≡ 13
nat_record_width r fits = refl

pub sit_record_width : (r : SitRecord) → FitsSitRecord r → length (sit_record_bytes r) ≡ 78
sit_record_width r fits = omega (arith, sit_entry_width r.entry fits.entry.map)
