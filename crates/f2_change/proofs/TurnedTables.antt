-- Tables that a change was put into: which of their blocks are written, their version bits, and their entries.
use Rattle.std.proofs.Common.{◌≡◌, ℕ, zero, suc, ◌*◌, ◌<◌, ◌≤◌, Bool, true, false, cond, not, List, [], ◌∷◌, map, drop, length, get_or, Option, Some, None, refl, sym, ap, subst, ◌∙◌, arith}
use Rattle.std.specs.Prelude.{◌==◌, All, filter, unwrap_or}
use Rattle.std.specs.Option.{option_or}
use Rattle.std.proofs.lemmas.Bool.{eq-eqb, or_left, or_right, false_from_ne_true, false≢true}
use Rattle.f2_bytes.specs.declared.layout.Layout.{Layout}
use Rattle.f2_bytes.specs.Bits.{bit_msb}
use Rattle.f2_bytes.specs.Bytes.{Block, Image, numbers_below}
use Rattle.f2_bytes.specs.Checkpoint.{nat_bits, sit_bits}
use Rattle.f2_bytes.specs.Journal.{NatEntry, NatRecord, SitEntry, SitRecord}
use Rattle.f2_bytes.specs.NodeAddressTable.{nid_limit, image_nat_entry, nat_table_entry, nat_journal_entry}
use Rattle.f2_bytes.specs.SegmentTable.{sit, sit_table_entry, sit_journal_entry}
use Rattle.f2_pack.specs.Held.{Held}
use Rattle.f2_sum.specs.declared.records.NatEntry.{NatEntry as HeldNatEntry}
use Rattle.f2_sum.specs.declared.records.SitEntry.{SitEntry as HeldSitEntry}
use Rattle.f2_tables.specs.Tables.{NatTable, SitTable, OpensNat, OpensSit, nat_newer, sit_newer, nat_in, sit_in, nat_dirty, sit_dirty, is_dirty}
use Rattle.f2_view.specs.Mounted.{Mounted, IsMountOf, layout_in}
use Rattle.f2_view.proofs.TableReadings.{nat_reading, sit_reading}
use Rattle.f2_change.specs.Change.{TurnsBits, nat_given, sit_given, nat_changed, sit_changed, nat_turned, sit_turned, turned_below}
use Rattle.f2_change.specs.TableBlocks.{ChangesNat, ChangesSit, IsNatBlock, IsSitBlock, AreEach}
use Rattle.f2_change.proofs.CarriedAreas.{turned_low, turned_has}
use Rattle.f2_change.proofs.CarriedReads.{has, addresses}

-- ---- lists of the blocks that are turned

-- what holds of each number that a list has holds of all of it
pub all_had : (Q : ℕ → Type 0) (ks : List ℕ) → ((j : ℕ) → has ks j ≡ true → Q j) → All Q ks
all_had Q [] each k d below = absurd (omega (arith, below))
all_had Q (j ∷ ks) each zero d below = each j (or_left (j == j) (has ks j) (eq-eqb j j refl))
all_had Q (j ∷ ks) each (suc k) d below = all_had Q ks (λ n among. each n (or_right (j == n) (has ks n) among)) k d (omega (arith, below))

pub turned_inside : (half limit : ℕ) (turned : ℕ → Bool) → half ≤ limit → All (λ k. k < limit) (turned_below half turned)
turned_inside half limit turned few =
    all_had (λ k. k < limit) (turned_below half turned) (λ j among. let low = (turned_low half turned j among).0 in omega (arith, low, few))

-- blocks whose addresses are those of the turned blocks of a table
pub all_placed : (Q : ℕ → Type 0) (at : ℕ → ℕ) (ks : List ℕ) (blocks : List (ℕ × Block)) → addresses blocks ≡ map at ks → ((j : ℕ) → has ks j ≡ true → Q (at j)) → All (λ (w : ℕ × Block). Q w.0) blocks
all_placed Q at ks [] same each k d below = absurd (omega (arith, below))
all_placed Q at [] (w ∷ blocks) same each k d below = absurd (let e = ap (λ (xs : List ℕ). length xs) same in omega (arith, e))
all_placed Q at (j ∷ ks) (w ∷ blocks) same each zero d below =
    subst Q (sym (ap (λ xs. get_or xs 0 0) same)) (each j (or_left (j == j) (has ks j) (eq-eqb j j refl)))
all_placed Q at (j ∷ ks) (w ∷ blocks) same each (suc k) d below =
    all_placed Q at ks blocks (ap (drop 1) same) (λ n among. each n (or_right (j == n) (has ks n) among)) k d (omega (arith, below))

-- a list has the number of a turned block below its limit, and no other
has_turned : (half : ℕ) (turned : ℕ → Bool) (k : ℕ) → k < half → has (turned_below half turned) k ≡ turned k
has_turned half turned k low = go (turned k) refl
  where
    go : (t : Bool) → turned k ≡ t → has (turned_below half turned) k ≡ t
    go true on = turned_has half turned k low on
    go false off = false_from_ne_true (has (turned_below half turned) k) (λ among. false≢true (sym off ∙ (turned_low half turned k among).1))

-- the bits of the listed blocks are turned, so those that are to be
pub turns_listed : (old new : List ℕ) (ks : List ℕ) (half : ℕ) (turned : ℕ → Bool) → ks ≡ turned_below half turned → 8 * length old ≤ half → TurnsBits old new (has ks) → TurnsBits old new turned
turns_listed old new ks half turned is few turns = record {
  size = turns.size;
  bits = λ k low.
      turns.bits k low
      ∙ ap (λ t. cond t (not (bit_msb old k)) (bit_msb old k)) (ap (λ (l : List ℕ). has l k) is ∙ has_turned half turned k (omega (arith, low, few)));
}

-- ---- the entries that go before those of the blocks

or_unwrap : {T : Type 0} (a b : Option T) (d : T) → unwrap_or (option_or a b) d ≡ unwrap_or a (unwrap_or b d)
or_unwrap None b d = refl
or_unwrap (Some x) b d = refl

module _ (l : Layout) (bitmap : List ℕ) (journal : List NatRecord) (entries : List (ℕ × HeldNatEntry)) (opened changed : NatTable) (opens : OpensNat l bitmap journal opened) (changes : ChangesNat entries opened changed) where
  pub nat_layout : changed.layout ≡ l
  nat_layout = changes.layout ∙ opens.layout

  nat_before : (n : ℕ) → nat_newer changed n ≡ nat_changed entries journal n
  nat_before n = changes.newer n ∙ ap (option_or (nat_given entries n)) (opens.newer n)

  -- the blocks that have such an entry are those that are written
  pub nat_written : nat_dirty changed ≡ turned_below l.nat_half (nat_turned l entries journal)
  unfolding nat_dirty turned_below
  nat_written = λ i. filter (is_dirty 455 (nid_limit (nat_layout i)) (λ n. nat_before n i)) (numbers_below (nat_layout i).nat_half)

module _ (l : Layout) (bitmap : List ℕ) (journal : List SitRecord) (entries : List (ℕ × HeldSitEntry)) (opened changed : SitTable) (opens : OpensSit l bitmap journal opened) (changes : ChangesSit entries opened changed) where
  pub sit_layout : changed.layout ≡ l
  sit_layout = changes.layout ∙ opens.layout

  sit_before : (n : ℕ) → sit_newer changed n ≡ sit_changed entries journal n
  sit_before n = changes.newer n ∙ ap (option_or (sit_given entries n)) (opens.newer n)

  pub sit_written : sit_dirty changed ≡ turned_below l.sit_half (sit_turned l entries journal)
  unfolding sit_dirty turned_below
  sit_written = λ i. filter (is_dirty 55 (sit_layout i).segments (λ n. sit_before n i)) (numbers_below (sit_layout i).sit_half)

-- ---- a table that was opened with what a mount keeps

module _ (m : Mounted) (l : Layout) (held : Held) (bits : List ℕ) (own : l ≡ layout_in m) (kept : held ≡ m.chosen) where
  module _ (journal : List NatRecord) (entries : List (ℕ × HeldNatEntry)) (opened changed : NatTable) (its : bits ≡ nat_bits held.head) (records : journal ≡ held.nat_journal)
      (opens : OpensNat l bits journal opened) (changes : ChangesNat entries opened changed) where
    pub nat_opened : OpensNat (layout_in m) (nat_bits m.chosen.head) m.chosen.nat_journal opened
    nat_opened = record {
      layout = opens.layout ∙ own;
      bits = opens.bits ∙ its ∙ ap (λ (h : Held). nat_bits h.head) kept;
      newer = λ n. opens.newer n ∙ ap (λ (j : List NatRecord). nat_journal_entry j n) (records ∙ ap (λ (h : Held). h.nat_journal) kept);
    }

    pub nat_listed : nat_dirty changed ≡ turned_below (layout_in m).nat_half (nat_turned (layout_in m) entries m.chosen.nat_journal)
    nat_listed = nat_written (layout_in m) (nat_bits m.chosen.head) m.chosen.nat_journal entries opened changed nat_opened changes

  module _ (journal : List SitRecord) (entries : List (ℕ × HeldSitEntry)) (opened changed : SitTable) (its : bits ≡ sit_bits held.head) (records : journal ≡ held.sit_journal)
      (opens : OpensSit l bits journal opened) (changes : ChangesSit entries opened changed) where
    pub sit_opened : OpensSit (layout_in m) (sit_bits m.chosen.head) m.chosen.sit_journal opened
    sit_opened = record {
      layout = opens.layout ∙ own;
      bits = opens.bits ∙ its ∙ ap (λ (h : Held). sit_bits h.head) kept;
      newer = λ n. opens.newer n ∙ ap (λ (j : List SitRecord). sit_journal_entry j n) (records ∙ ap (λ (h : Held). h.sit_journal) kept);
    }

    pub sit_listed : sit_dirty changed ≡ turned_below (layout_in m).sit_half (sit_turned (layout_in m) entries m.chosen.sit_journal)
    sit_listed = sit_written (layout_in m) (sit_bits m.chosen.head) m.chosen.sit_journal entries opened changed sit_opened changes

-- ---- the entries, where the table was opened with what a mount keeps of an image

module _ (image : Image) (m : Mounted) (of : IsMountOf image m) where
  nat_value : (entries : List (ℕ × HeldNatEntry)) (opened changed : NatTable) → OpensNat (layout_in m) (nat_bits m.chosen.head) m.chosen.nat_journal opened → ChangesNat entries opened changed
      → (n : ℕ) → nat_in changed image n ≡ unwrap_or (nat_given entries n) (image_nat_entry image n)
  nat_value entries opened changed opens changes n =
      (λ i. unwrap_or (changes.newer n i) (nat_table_entry (changes.layout i) (changes.bits i) image n))
      ∙ or_unwrap (nat_given entries n) (nat_newer opened n) (nat_table_entry opened.layout opened.bits image n)
      ∙ ap (unwrap_or (nat_given entries n)) (nat_reading image m opened of opens n)

  pub nat_blocks_of : (entries : List (ℕ × HeldNatEntry)) (opened changed : NatTable) (ks written : List ℕ) (blocks : List (ℕ × Block)) → OpensNat (layout_in m) (nat_bits m.chosen.head) m.chosen.nat_journal opened → ChangesNat entries opened changed
      → ks ≡ written → AreEach (IsNatBlock (nat_in changed image)) ks blocks → AreEach (IsNatBlock (λ n. unwrap_or (nat_given entries n) (image_nat_entry image n))) written blocks
  nat_blocks_of entries opened changed ks written blocks opens changes is each =
      subst (λ (l : List ℕ). AreEach (IsNatBlock (λ n. unwrap_or (nat_given entries n) (image_nat_entry image n))) l blocks) is
      (subst (λ (f : ℕ → NatEntry). AreEach (IsNatBlock f) ks blocks) (λ i n. nat_value entries opened changed opens changes n i) each)

  sit_value : (entries : List (ℕ × HeldSitEntry)) (opened changed : SitTable) → OpensSit (layout_in m) (sit_bits m.chosen.head) m.chosen.sit_journal opened → ChangesSit entries opened changed
      → (n : ℕ) → sit_in changed image n ≡ unwrap_or (sit_given entries n) (sit image n)
  sit_value entries opened changed opens changes n =
      (λ i. unwrap_or (changes.newer n i) (sit_table_entry (changes.layout i) (changes.bits i) image n))
      ∙ or_unwrap (sit_given entries n) (sit_newer opened n) (sit_table_entry opened.layout opened.bits image n)
      ∙ ap (unwrap_or (sit_given entries n)) (sit_reading image m opened of opens n)

  pub sit_blocks_of : (entries : List (ℕ × HeldSitEntry)) (opened changed : SitTable) (ks written : List ℕ) (blocks : List (ℕ × Block)) → OpensSit (layout_in m) (sit_bits m.chosen.head) m.chosen.sit_journal opened → ChangesSit entries opened changed
      → ks ≡ written → AreEach (IsSitBlock (layout_in m).segments (sit_in changed image)) ks blocks → AreEach (IsSitBlock (layout_in m).segments (λ n. unwrap_or (sit_given entries n) (sit image n))) written blocks
  sit_blocks_of entries opened changed ks written blocks opens changes is each =
      subst (λ (l : List ℕ). AreEach (IsSitBlock (layout_in m).segments (λ n. unwrap_or (sit_given entries n) (sit image n))) l blocks) is
      (subst (λ (f : ℕ → SitEntry). AreEach (IsSitBlock (layout_in m).segments f) ks blocks) (λ i n. sit_value entries opened changed opens changes n i) each)
