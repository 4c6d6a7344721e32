-- Which pack counts, and what is answered of it.
use Rattle.std.specs.Prelude.{◌≡◌, ℕ, ◌/◌, ◌^◌, ◌<◌, nat_le, nat_lt, true, if◌then◌else◌, List, Option, Some, None, Result, Ok, Err}
use Rattle.f2_bytes.specs.Bytes.{Block, Image}
use Rattle.f2_bytes.specs.Checkpoint.{Pack, log, pack_at, pack_head, chosen_pack, checkpoint_ver, sit_ver_bitmap_bytesize, nat_ver_bitmap_bytesize}
use Rattle.f2_bytes.specs.Journal.{NatRecord, SitRecord, nat_records, sit_records, journal_count, nat_journal_area, sit_journal_area, nat_room, sit_room}
use Rattle.f2_bytes.specs.declared.layout.Layout.{Layout}
use Rattle.f2_pack.specs.Held.{Held, IsHeld, chosen_of, nat_area_in, sit_area_in}
use Rattle.f2_pack.specs.Valid.{is_head_valid}
use Rattle.f2_pack.specs.declared.choosing.PackRefusal.{PackRefusal}
use Rattle.f2_pack.specs.declared.choosing.PackRefusal.TheVariants.{NoPack, VersionLimit, BadSummary, DiskFault, NoMemory}

-- a value that the journals in these areas give, where they hold no more records than they have room for
abbrev pub where_bounded : {T : Type 0} → List ℕ → List ℕ → T → Result T PackRefusal
where_bounded nat sit value =
    if nat_lt nat_room (journal_count nat) then Err (BadSummary (journal_count nat)) else (if nat_lt sit_room (journal_count sit) then Err (BadSummary (journal_count sit)) else Ok value)

-- both journals in these areas
abbrev pub journals_in : List ℕ → List ℕ → Result (List NatRecord × List SitRecord) PackRefusal
journals_in nat sit = where_bounded nat sit (nat_records nat, sit_records sit)

-- what is read of a pack with this number
abbrev pub read_of : Pack → ℕ → Result Held PackRefusal
read_of pack number = where_bounded (nat_journal_area pack) (sit_journal_area pack) (chosen_of pack number)

-- the version from which on no pack is taken
abbrev pub version_limit : ℕ
version_limit = 2 ^ 62

-- what is answered of a pack
abbrev pub choice_of : Pack → ℕ → Result Held PackRefusal
choice_of pack number = if nat_le version_limit (checkpoint_ver (pack_head pack)) then Err (VersionLimit (checkpoint_ver (pack_head pack))) else read_of pack number

abbrev pub choice_in : (ℕ → Pack) → Option ℕ → Result Held PackRefusal
choice_in packs None = Err NoPack
choice_in packs (Some number) = choice_of (packs number) number

-- What choosing answers of an image: the valid pack of the higher version, pack 0 at a tie, unless its version is at
-- the limit or a journal says more records than it has room for.
abbrev pub choice : Layout → Image → Result Held PackRefusal
choice l image = choice_in (pack_at l image) (chosen_pack l image)

-- the higher of two heads, that of pack 0 at a tie, with the number of its pack
abbrev pub higher_of : Option Block → Option Block → Option (Block × ℕ)
higher_of (Some a) (Some b) = if nat_le (checkpoint_ver b) (checkpoint_ver a) then Some (a, 0) else Some (b, 1)
higher_of (Some a) None = Some (a, 0)
higher_of None (Some b) = Some (b, 1)
higher_of None None = None

-- the same, where there is one below the limit of versions
abbrev pub below_limit : Option (Block × ℕ) → Result (Block × ℕ) PackRefusal
below_limit None = Err NoPack
below_limit (Some found) = if nat_le version_limit (checkpoint_ver found.0) then Err (VersionLimit (checkpoint_ver found.0)) else Ok found

-- the answer is this one, or the disk had a fault, or memory was short
abbrev pub OrFails : {T : Type 0} → Result T PackRefusal → Result T PackRefusal → Type 0
OrFails (Err DiskFault) is = Unit {0}
OrFails (Err NoMemory) is = Unit {0}
OrFails answer is = answer ≡ is

-- no answer but these two
abbrev pub OnlyFails : PackRefusal → Type 0
OnlyFails DiskFault = Unit {0}
OnlyFails NoMemory = Unit {0}
OnlyFails _ = ⊥

-- What is known of it on every disk: all that its head says by itself agrees with the layout, and the journals are
-- those in its summary blocks.
pub record IsChosen (l : Layout) (h : Held) : Type 0 where
  pub held : IsHeld h
  pub valid : is_head_valid l h.head ≡ true
  -- the version bitmaps have a bit for each block of a table's half
  pub sit_bits : sit_ver_bitmap_bytesize h.head ≡ l.sit_half / 8
  pub nat_bits : nat_ver_bitmap_bytesize h.head ≡ l.nat_half / 8
  pub segments : (t : ℕ) → t < 6 → (log h.head t).segment < l.segments
  pub nat_journal : h.nat_journal ≡ nat_records (nat_area_in h.head h.data_summaries)
  pub sit_journal : h.sit_journal ≡ sit_records (sit_area_in h.head h.data_summaries)
