-- The type of each segment fits its six bits.
use Rattle.std.proofs.Common.{◌≡◌, ℕ, ◌+◌, ◌-◌, ◌*◌, ◌<◌, ◌≤◌, cond, Bool, true, false, List, [], ◌==◌, length, get_or, take, drop, All, Option, Some, None, refl, sym, subst, ⊎_elim, arith}
use Rattle.std.specs.Prelude.{slice_index, find, option_map, unwrap_or}
use Rattle.std.specs.List.{range_with_len}
use Rattle.std.proofs.lemmas.Bool.{cases_lt}
use Rattle.std.proofs.lemmas.List.{get_or-drop, get_or-take, get_or_past, length-take}
use Rattle.std.proofs.lemmas.List.Elements.{All-map}
use Rattle.f2_bytes.specs.Bytes.{Image, IsBlock, block_at, bytes_at}
use Rattle.f2_bytes.specs.Checkpoint.{pack, pack_head, pack_number, is_compact}
use Rattle.f2_bytes.specs.Journal.{SitEntry, SitRecord, sit_entry_at, sit_record_at, sit_records, sit_journal_area, journal_count, data_summary_start}
use Rattle.f2_bytes.specs.SegmentTable.{sit, sit_entry, sit_journal_entry}
use Rattle.f2_bytes.specs.Superblock.{layout}
use Rattle.f2_bytes.proofs.AllPlaces.{find_all}
use Rattle.f2_bytes.proofs.Numbers.{number_at-lt}

abbrev AreBytes : List ℕ → Type 0
AreBytes b = (k : ℕ) → slice_index b k < 256

none_are : AreBytes []
none_are k = omega arith

bytes-drop : (n : ℕ) (b : List ℕ) → AreBytes b → AreBytes (drop n b)
bytes-drop n b are k = let at = get_or-drop n b k 0 in let low = are (n + k) in omega (arith, at, low)

bytes-take : (n : ℕ) (b : List ℕ) → AreBytes b → AreBytes (take n b)
bytes-take n b are k = ⊎_elim inside past (cases_lt k n)
  where
    inside : k < n → slice_index (take n b) k < 256
    inside low = let at = get_or-take n b k 0 low in let byte = are k in omega (arith, at, byte)

    past : n ≤ k → slice_index (take n b) k < 256
    past high =
        let size = length-take n b in
        let at = get_or_past (take n b) k 0 (omega (arith, size, high)) in
        omega (arith, at)

pub blocks_are : (image : Image) → ((n : ℕ) → n < length image → IsBlock (block_at image n)) → (n : ℕ) → AreBytes (block_at image n)
blocks_are image each n = ⊎_elim (λ low. (each n low).bytes) (λ past k. let none : block_at image n ≡ [] = get_or_past image n [] past in subst AreBytes (sym none) none_are k) (cases_lt n (length image))

kind_low : (b : List ℕ) (at : ℕ) → AreBytes b → (sit_entry_at b at).kind < 64
kind_low b at are = let low = number_at-lt b at 2 are in omega (arith, low)

range_are : (b : List ℕ) (i n : ℕ) → AreBytes b → AreBytes (bytes_at b i n)
range_are b i n are = bytes-take (i + n - i) (drop i b) (bytes-drop i b are)

chosen_are : (b : Bool) (x y : List ℕ) → AreBytes x → AreBytes y → AreBytes (cond b x y)
chosen_are true x y one other = one
chosen_are false x y one other = other

module _ (image : Image) (each : (n : ℕ) → n < length image → IsBlock (block_at image n)) where
  area_are : AreBytes (sit_journal_area (pack image))
  unfolding sit_journal_area pack
  area_are =
      let start = data_summary_start (pack_head (pack image)) in
      let first = (layout image).cp + 512 * pack_number image in
      chosen_are (is_compact (pack_head (pack image)))
      (bytes_at (block_at image (first + start)) 507 507) (bytes_at (block_at image (first + (start + 2))) 3584 507)
      (range_are (block_at image (first + start)) 507 507 (blocks_are image each (first + start)))
      (range_are (block_at image (first + (start + 2))) 3584 507 (blocks_are image each (first + (start + 2))))

  record_low : (journal : List SitRecord) → All (λ (r : SitRecord). r.entry.kind < 64) journal → (segment : ℕ) (o : Option SitRecord) → find (λ r. r.segment == segment) journal ≡ o → (e : SitEntry) → e.kind < 64
      → (unwrap_or (option_map (λ (r : SitRecord). r.entry) o) e).kind < 64
  record_low journal all segment None found e low = low
  record_low journal all segment (Some r) found e low = find_all (λ (r : SitRecord). r.entry.kind < 64) (λ r. r.segment == segment) journal r all found

  -- whatever its blocks say
  pub sit_kind : (segment : ℕ) → (sit image segment).kind < 64
  unfolding sit sit_entry sit_journal_entry
  sit_kind segment =
      let area = sit_journal_area (pack image) in
      record_low (sit_records area)
      (All-map (λ (r : SitRecord). r.entry.kind < 64) (λ k. sit_record_at area (2 + 78 * k)) (range_with_len 0 (journal_count area)) (λ i d low. kind_low area (2 + 78 * get_or (range_with_len 0 (journal_count area)) i d + 4) area_are))
      segment _ refl _ (kind_low _ _ (blocks_are image each _))
