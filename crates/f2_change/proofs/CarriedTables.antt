-- The two tables of the image that a commit makes.
use Rattle.std.proofs.Common.{◌≡◌, ℕ, ◌+◌, ◌-◌, ◌*◌, ◌/◌, ◌%◌, ◌<◌, Bool, true, false, cond, not, ◌&&◌, [], List, map, Option, Some, None, refl, sym, ap, subst, ◌∙◌, arith}
use Rattle.std.specs.Prelude.{◌==◌, unwrap_or, is_some}
use Rattle.std.specs.Option.{option_or}
use Rattle.std.proofs.lemmas.Bool.{and_from, eq-eqb, false_from_ne_true, false≢true}
use Rattle.f2_bytes.specs.declared.layout.Layout.{Layout}
use Rattle.f2_bytes.specs.Bits.{bit_msb}
use Rattle.f2_bytes.specs.Bytes.{Block, Image, block_at}
use Rattle.f2_bytes.specs.Checkpoint.{head, sit_bits, nat_bits}
use Rattle.f2_bytes.specs.Journal.{NatEntry, NatRecord, SitEntry, SitRecord}
use Rattle.f2_bytes.specs.NodeAddressTable.{nid_limit, nat_entry, nat_entry_in, nat_table_entry, nat_journal_entry, image_nat_entry}
use Rattle.f2_bytes.specs.SegmentTable.{sit, sit_entry, sit_entry_in, sit_table_entry, sit_journal_entry}
use Rattle.f2_bytes.specs.Superblock.{layout, IsInOrder}
use Rattle.f2_bytes.proofs.Below.{some_below}
use Rattle.f2_pack.specs.Held.{Held}
use Rattle.f2_tables.specs.Tables.{is_dirty}
use Rattle.f2_view.specs.Mounted.{Mounted, layout_in}
use Rattle.f2_change.specs.declared.change.Change.{Change}
use Rattle.f2_change.specs.Change.{given, nat_given, sit_given, nat_changed, sit_changed, nat_turned, sit_turned, turned_below}
use Rattle.f2_change.specs.TableBlocks.{IsNatBlock, IsSitBlock, AreEach}
use Rattle.f2_change.specs.Writes.{Prepared, committed}
use Rattle.f2_change.proofs.CarriedGiven.{Given}
use Rattle.f2_change.proofs.CarriedReads.{addresses, given_other, given_block}
use Rattle.f2_change.proofs.CarriedAreas.{turned_low, turned_has, nat_place, sit_place, nat_place_low, sit_place_low, read_sit, read_nat}
use Rattle.f2_change.proofs.CarriedPack.{own, order, same_layout, old_head_is, new_sit_bit, new_nat_bit, no_nat_journal, no_sit_journal}

-- ---- one table, over plain numbers

flip : (b : Bool) (x : ℕ) → cond b x 0 ≡ cond (not b) 0 x
flip true x = refl
flip false x = refl

twice : (b : Bool) → not (not b) ≡ b
twice true = refl
twice false = refl

-- A table's blocks have two copies each; a bit says which one is in use. Blocks that are turned were written to their other
-- copies.
module _ (image new : Image) (blocks : List (ℕ × Block)) (half : ℕ) (turned : ℕ → Bool) (place : ℕ → Bool → ℕ) (old_bit new_bit : ℕ → Bool)
    (apart : (j k : ℕ) (a b : Bool) → j < half → k < half → place j a ≡ place k b → j ≡ k)
    (placed : addresses blocks ≡ map (λ k. place k (old_bit k)) (turned_below half turned))
    (reads : (k : ℕ) (b : Bool) → k < half → block_at new (place k b) ≡ unwrap_or (given blocks (place k b)) (block_at image (place k b)))
    (bits : (k : ℕ) → k < half → new_bit k ≡ cond (turned k) (not (old_bit k)) (old_bit k)) where
  turned_block : (is : ℕ → Block → Type 0) → AreEach is (turned_below half turned) blocks → (k : ℕ) → k < half → turned k ≡ true → is k (block_at new (place k (not (new_bit k))))
  turned_block is each k low on =
      let bit : not (new_bit k) ≡ old_bit k = ap not (bits k low ∙ ap (λ t. cond t (not (old_bit k)) (old_bit k)) on) ∙ twice (old_bit k) in
      let at = place k (old_bit k) in
      let t = given_block is (λ j. place j (old_bit j)) k (turned_below half turned) blocks placed each
      (λ j among e. apart j k (old_bit j) (old_bit k) (turned_low half turned j among).0 low e)
      (turned_has half turned k low on) in
      let read : block_at new at ≡ t.0 = reads k (old_bit k) low ∙ ap (λ (o : Option Block). unwrap_or o (block_at image at)) t.1 in
      subst (is k) (sym (ap (λ b. block_at new (place k b)) bit ∙ read)) t.2

  kept_block : (k : ℕ) → k < half → turned k ≡ false → block_at new (place k (not (new_bit k))) ≡ block_at image (place k (not (old_bit k)))
  kept_block k low off =
      let bit : new_bit k ≡ old_bit k = bits k low ∙ ap (λ t. cond t (not (old_bit k)) (old_bit k)) off in
      let at = place k (not (old_bit k)) in
      let none : given blocks at ≡ None = given_other (λ j. place j (old_bit j)) at (turned_below half turned) blocks placed
      (λ j among e.
      let low_j = turned_low half turned j among in
      let is : j ≡ k = apart j k (old_bit j) (not (old_bit k)) low_j.0 low e in
      absurd (false≢true (sym off ∙ ap turned (sym is) ∙ low_j.1))) in
      ap (λ b. block_at new (place k (not b))) bit ∙ reads k (not (old_bit k)) low ∙ ap (λ (o : Option Block). unwrap_or o (block_at image at)) none

-- a number whose block is not turned has no entry that goes before its own
none_newer : {T : Type 0} (entries limit : ℕ) (newer : ℕ → Option T) (n : ℕ) → n < limit → is_dirty entries limit newer (n / entries) ≡ false → is_some (newer n) ≡ false
none_newer entries limit newer n low clean =
    false_from_ne_true (is_some (newer n))
    (λ some. false≢true (sym clean ∙ some_below (λ k. (k / entries == n / entries) && is_some (newer k)) limit n low
    (and_from (n / entries == n / entries) (is_some (newer n)) (eq-eqb (n / entries) (n / entries) refl) some)))

neither : {T : Type 0} (a b : Option T) → is_some (option_or a b) ≡ false → (a ≡ None) × (b ≡ None)
neither (Some x) b e = absurd (false≢true (sym e))
neither None (Some x) e = absurd (false≢true (sym e))
neither None None e = (refl, refl)

pub nat_apart : (n half j k : ℕ) (a b : Bool) → j < half → k < half → n + 2 * j - j % 512 + cond {A = ℕ} a 0 512 ≡ n + 2 * k - k % 512 + cond {A = ℕ} b 0 512 → j ≡ k
nat_apart n half j k true true low_j low_k e = omega (arith, e)
nat_apart n half j k true false low_j low_k e = omega (arith, e)
nat_apart n half j k false true low_j low_k e = omega (arith, e)
nat_apart n half j k false false low_j low_k e = omega (arith, e)

pub sit_apart : (n half j k : ℕ) (a b : Bool) → j < half → k < half → n + j + cond {A = ℕ} a 0 half ≡ n + k + cond {A = ℕ} b 0 half → j ≡ k
sit_apart n half j k true true low_j low_k e = omega (arith, e)
sit_apart n half j k true false low_j low_k e = omega (arith, e, low_j, low_k)
sit_apart n half j k false true low_j low_k e = omega (arith, e, low_j, low_k)
sit_apart n half j k false false low_j low_k e = omega (arith, e)

-- without a journal an entry is that of its block
no_journal_nat : (l : Layout) (bits : List ℕ) (image : Image) (nid : ℕ) → nat_entry l bits [] image nid ≡ nat_table_entry l bits image nid
unfolding nat_entry nat_journal_entry
no_journal_nat l bits image nid = refl

no_journal_sit : (l : Layout) (bits : List ℕ) (image : Image) (segment : ℕ) → sit_entry l bits [] image segment ≡ sit_table_entry l bits image segment
unfolding sit_entry sit_journal_entry
no_journal_sit l bits image segment = refl

of_table_nat : (l : Layout) (bits : List ℕ) (journal : List NatRecord) (image : Image) (nid : ℕ) → nat_journal_entry journal nid ≡ None → nat_entry l bits journal image nid ≡ nat_table_entry l bits image nid
unfolding nat_entry
of_table_nat l bits journal image nid none = ap (λ (o : Option NatEntry). unwrap_or o (nat_table_entry l bits image nid)) none

of_table_sit : (l : Layout) (bits : List ℕ) (journal : List SitRecord) (image : Image) (segment : ℕ) → sit_journal_entry journal segment ≡ None → sit_entry l bits journal image segment ≡ sit_table_entry l bits image segment
unfolding sit_entry
of_table_sit l bits journal image segment none = ap (λ (o : Option SitEntry). unwrap_or o (sit_table_entry l bits image segment)) none

module _ (image : Image) (m : Mounted) (c : Change) (r : Prepared) (g : Given image m c r) where
  abbrev new : Image
  new = committed r image

  abbrev l : Layout
  l = layout_in m

  areas : layout new ≡ l
  areas = same_layout image m c r g ∙ own image m c r g

  in_order : IsInOrder l
  in_order = order image m c r g

  -- ---- the node address table

  abbrev nat_on : ℕ → Bool
  nat_on = nat_turned l c.nat.items m.chosen.nat_journal

  abbrev nat_old : ℕ → Bool
  nat_old k = bit_msb (nat_bits m.chosen.head) k

  abbrev nat_now : ℕ → Bool
  nat_now k = bit_msb (nat_bits (head new)) k

  abbrev nat_wanted : ℕ → NatEntry
  nat_wanted n = unwrap_or (nat_given c.nat.items n) (image_nat_entry image n)

  read_place : (k : ℕ) (b : Bool) → k < l.nat_half → block_at new (nat_place l k b) ≡ unwrap_or (given g.plan.nat_blocks (nat_place l k b)) (block_at image (nat_place l k b))
  read_place k b low = let at = nat_place_low l k b in_order low in read_nat image m c r g (nat_place l k b) at.0 at.1

  new_nat : (nid : ℕ) → image_nat_entry new nid ≡ nat_entry_in (block_at new (nat_place l (nid / 455) (not (nat_now (nid / 455))))) nid
  new_nat nid =
      (λ i. nat_entry (areas i) (nat_bits (head new)) (no_nat_journal image m c r g i) new nid)
      ∙ no_journal_nat l (nat_bits (head new)) new nid
      ∙ ap (λ x. nat_entry_in (block_at new (l.nat + 2 * (nid / 455) - nid / 455 % 512 + x)) nid) (flip (nat_now (nid / 455)) 512)

  old_nat : (nid : ℕ) → nat_journal_entry m.chosen.nat_journal nid ≡ None → image_nat_entry image nid ≡ nat_entry_in (block_at image (nat_place l (nid / 455) (not (nat_old (nid / 455))))) nid
  old_nat nid none =
      (λ i. nat_entry (own image m c r g i) (nat_bits (sym (old_head_is image m c r g) i)) (ap (λ (h : Held). h.nat_journal) (sym g.mount.chosen) i) image nid)
      ∙ of_table_nat l (nat_bits m.chosen.head) m.chosen.nat_journal image nid none
      ∙ ap (λ x. nat_entry_in (block_at image (l.nat + 2 * (nid / 455) - nid / 455 % 512 + x)) nid) (flip (nat_old (nid / 455)) 512)

  nat_case : (nid : ℕ) → nid < 455 * l.nat_half → (t : Bool) → nat_on (nid / 455) ≡ t → image_nat_entry new nid ≡ nat_wanted nid
  nat_case nid low true on =
      let k = nid / 455 in
      let block = turned_block image new g.plan.nat_blocks l.nat_half nat_on (nat_place l) nat_old nat_now (nat_apart l.nat l.nat_half) g.plan.nat_addresses read_place (new_nat_bit image m c r g)
      (IsNatBlock nat_wanted) g.nat_entries k (omega (arith, low)) on in
      let number : 455 * (nid / 455) + nid % 455 ≡ nid = omega arith in
      new_nat nid ∙ block.entries (nid % 455) (omega arith) ∙ ap nat_wanted number
  nat_case nid low false off =
      let k = nid / 455 in
      let none = neither (nat_given c.nat.items nid) (nat_journal_entry m.chosen.nat_journal nid)
      (none_newer 455 (455 * l.nat_half) (nat_changed c.nat.items m.chosen.nat_journal) nid low off) in
      new_nat nid
      ∙ ap (λ (b : Block). nat_entry_in b nid) (kept_block image new g.plan.nat_blocks l.nat_half nat_on (nat_place l) nat_old nat_now (nat_apart l.nat l.nat_half) g.plan.nat_addresses read_place (new_nat_bit image m c r g) k (omega (arith, low)) off)
      ∙ sym (old_nat nid none.1)
      ∙ ap (λ (o : Option NatEntry). unwrap_or o (image_nat_entry image nid)) (sym none.0)

  pub nat_entries : (nid : ℕ) → nid < nid_limit (layout image) → image_nat_entry new nid ≡ unwrap_or (nat_given c.nat.items nid) (image_nat_entry image nid)
  nat_entries nid low =
      nat_case nid (omega (arith, low, ap (λ (k : Layout). k.nat_half) (own image m c r g))) (nat_on (nid / 455)) refl

  -- ---- the segment table

  abbrev sit_on : ℕ → Bool
  sit_on = sit_turned l c.sit.items m.chosen.sit_journal

  abbrev sit_old : ℕ → Bool
  sit_old k = bit_msb (sit_bits m.chosen.head) k

  abbrev sit_now : ℕ → Bool
  sit_now k = bit_msb (sit_bits (head new)) k

  abbrev sit_wanted : ℕ → SitEntry
  sit_wanted n = unwrap_or (sit_given c.sit.items n) (sit image n)

  read_copy : (k : ℕ) (b : Bool) → k < l.sit_half → block_at new (sit_place l k b) ≡ unwrap_or (given g.plan.sit_blocks (sit_place l k b)) (block_at image (sit_place l k b))
  read_copy k b low = let at = sit_place_low l k b in_order low in read_sit image m c r g (sit_place l k b) at.0 at.1

  new_sit : (segment : ℕ) → sit new segment ≡ sit_entry_in (block_at new (sit_place l (segment / 55) (not (sit_now (segment / 55))))) segment
  unfolding sit
  new_sit segment =
      (λ i. sit_entry (areas i) (sit_bits (head new)) (no_sit_journal image m c r g i) new segment)
      ∙ no_journal_sit l (sit_bits (head new)) new segment
      ∙ ap (λ x. sit_entry_in (block_at new (l.sit + segment / 55 + x)) segment) (flip (sit_now (segment / 55)) l.sit_half)

  old_sit : (segment : ℕ) → sit_journal_entry m.chosen.sit_journal segment ≡ None → sit image segment ≡ sit_entry_in (block_at image (sit_place l (segment / 55) (not (sit_old (segment / 55))))) segment
  unfolding sit
  old_sit segment none =
      (λ i. sit_entry (own image m c r g i) (sit_bits (sym (old_head_is image m c r g) i)) (ap (λ (h : Held). h.sit_journal) (sym g.mount.chosen) i) image segment)
      ∙ of_table_sit l (sit_bits m.chosen.head) m.chosen.sit_journal image segment none
      ∙ ap (λ x. sit_entry_in (block_at image (l.sit + segment / 55 + x)) segment) (flip (sit_old (segment / 55)) l.sit_half)

  sit_case : (segment : ℕ) → segment < l.segments → (t : Bool) → sit_on (segment / 55) ≡ t → sit new segment ≡ sit_wanted segment
  sit_case segment low true on =
      let k = segment / 55 in
      let block = turned_block image new g.plan.sit_blocks l.sit_half sit_on (sit_place l) sit_old sit_now (sit_apart l.sit l.sit_half) g.plan.sit_addresses read_copy (new_sit_bit image m c r g)
      (IsSitBlock l.segments sit_wanted) g.sit_entries k (omega (arith, low, in_order.entries)) on in
      let number : 55 * (segment / 55) + segment % 55 ≡ segment = omega arith in
      new_sit segment ∙ block.entries (segment % 55) (omega arith) (omega (arith, number, low)) ∙ ap sit_wanted number
  sit_case segment low false off =
      let k = segment / 55 in
      let none = neither (sit_given c.sit.items segment) (sit_journal_entry m.chosen.sit_journal segment)
      (none_newer 55 l.segments (sit_changed c.sit.items m.chosen.sit_journal) segment low off) in
      new_sit segment
      ∙ ap (λ (b : Block). sit_entry_in b segment) (kept_block image new g.plan.sit_blocks l.sit_half sit_on (sit_place l) sit_old sit_now (sit_apart l.sit l.sit_half) g.plan.sit_addresses read_copy (new_sit_bit image m c r g) k (omega (arith, low, in_order.entries)) off)
      ∙ sym (old_sit segment none.1)
      ∙ ap (λ (o : Option SitEntry). unwrap_or o (sit image segment)) (sym none.0)

  pub sit_entries : (segment : ℕ) → segment < (layout image).segments → sit new segment ≡ unwrap_or (sit_given c.sit.items segment) (sit image segment)
  sit_entries segment low =
      sit_case segment (omega (arith, low, ap (λ (k : Layout). k.segments) (own image m c r g))) (sit_on (segment / 55)) refl
