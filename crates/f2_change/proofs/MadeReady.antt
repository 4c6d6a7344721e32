-- What is made ready for a change: a valid pack and blocks behind the packs, which hold no support, and carry the change.
use Rattle.std.proofs.Common.{◌≡◌, ℕ, ◌+◌, ◌*◌, ◌<◌, ◌≤◌, Bool, true, false, not, List, ◌++◌, map, length, get_or, sym, ap, subst, ◌∙◌, arith}
use Rattle.std.specs.Prelude.{All, filter, unwrap_or}
use Rattle.std.proofs.lemmas.Bool.{and_parts, leb-true, ltb-true}
use Rattle.std.proofs.lemmas.List.Elements.{All-append, All-map, All-filter}
use Rattle.f2_bytes.specs.declared.layout.Layout.{Layout}
use Rattle.f2_bytes.specs.Bytes.{Block, Image, IsBlock}
use Rattle.f2_bytes.specs.Checkpoint.{head, sit_bits, nat_bits, pack_number, pack_total_block_count, checkpoint_ver, is_pack_valid}
use Rattle.f2_bytes.specs.NodeAddressTable.{image_nat_entry}
use Rattle.f2_bytes.specs.SegmentTable.{sit}
use Rattle.f2_bytes.specs.Superblock.{layout, is_main, segment_of, IsInOrder}
use Rattle.f2_bytes.specs.Support.{is_support, is_free}
use Rattle.f2_pack.specs.declared.checkpoint.Log.{Log}
use Rattle.f2_pack.specs.Held.{Held}
use Rattle.f2_pack.specs.Written.{written}
use Rattle.f2_pack.proofs.ValidHeads.{head_facts}
use Rattle.f2_sum.specs.declared.records.NatEntry.{NatEntry as HeldNatEntry}
use Rattle.f2_sum.specs.declared.records.SitEntry.{SitEntry as HeldSitEntry}
use Rattle.f2_view.specs.Mounted.{Mounted, layout_in, IsMountOf, IsKept}
use Rattle.f2_view.proofs.TableReadings.{own_layout, own_head}
use Rattle.f2_change.specs.declared.change.Change.{Change}
use Rattle.f2_change.specs.Carried.{IsFor, Carries}
use Rattle.f2_change.specs.Change.{is_filled, log_at, nat_given, sit_given, nat_turned, sit_turned, turned_below, nat_other_address, sit_other_address, stored_sums}
use Rattle.f2_change.specs.NewPacks.{IsNewPack, IsPackOf}
use Rattle.f2_change.specs.TableBlocks.{IsNatBlock, IsSitBlock, AreEach}
use Rattle.f2_change.specs.Writes.{Prepared, IsPrepared, Follows, AvoidsSupport, committed}
use Rattle.f2_change.proofs.Carried.{carries}
use Rattle.f2_change.proofs.CarriedAreas.{turned_low, nat_place_low, sit_place_low}
use Rattle.f2_change.proofs.CarriedReads.{addresses}
use Rattle.f2_change.proofs.PreparedPack.{normal, pack_valid, journals_bounded}
use Rattle.f2_change.proofs.SpareBlocks.{free_block, nat_other_spare, sit_other_spare}
use Rattle.f2_change.proofs.TurnedTables.{all_placed}
use Rattle.f2_bytes.specs.Bits.{bit_msb}

-- what holds of the places of summary blocks holds of those that are stored
all_stored : (Q : ℕ → Type 0) (l : Layout) (logs : List Log) (sums : List (ℕ × Block)) → All (λ (w : ℕ × Block). Q (l.ssa + w.0)) sums → All (λ (w : ℕ × Block). Q w.0) (stored_sums l logs sums)
unfolding stored_sums
all_stored Q l logs sums each =
    All-map (λ (w : ℕ × Block). Q w.0) (λ (w : ℕ × Block). (l.ssa + w.0, w.1)) (filter (λ (w : ℕ × Block). not (is_filled logs w.0)) sums)
    (All-filter (λ (w : ℕ × Block). not (is_filled logs w.0)) (λ (w : ℕ × Block). Q (l.ssa + w.0)) sums each)

-- The parts are given as they were passed on: the lists of the change, and the blocks of the tables, are those that were read.
module _ (m : Mounted) (c : Change) (r : Prepared) (kept : IsKept m) (own : r.layout ≡ layout_in m) (made : IsNewPack m c r.pack)
    (sit_blocks nat_blocks sits nats sums_read : List (ℕ × Block)) (sit_read : List (ℕ × HeldSitEntry)) (nat_read : List (ℕ × HeldNatEntry))
    (its_sits : sits ≡ sit_blocks) (its_nats : nats ≡ nat_blocks) (its_sums : sums_read ≡ c.sums.items) (its_sit : sit_read ≡ c.sit.items) (its_nat : nat_read ≡ c.nat.items)
    (joined : r.blocks ≡ c.blocks.items ++ stored_sums r.layout c.logs sums_read ++ sits ++ nats)
    (sit_placed : addresses sit_blocks ≡ map (sit_other_address (layout_in m) (sit_bits m.chosen.head)) (turned_below (layout_in m).sit_half (sit_turned (layout_in m) sit_read m.chosen.sit_journal)))
    (nat_placed : addresses nat_blocks ≡ map (nat_other_address (layout_in m) (nat_bits m.chosen.head)) (turned_below (layout_in m).nat_half (nat_turned (layout_in m) nat_read m.chosen.nat_journal)))
    (six : length c.logs ≡ 6)
    (logs : All (λ (at : Log). (at.segno < (layout_in m).segments) × (at.offset < 512)) c.logs)
    (main : All (λ (w : ℕ × Block). is_main (layout_in m) w.0 ≡ true) c.blocks.items)
    (sums : All (λ (w : ℕ × Block). w.0 < (layout_in m).segments) c.sums.items)
    (whole : All (λ (w : ℕ × Block). IsBlock w.1) r.blocks) where
  abbrev l : Layout
  l = layout_in m

  order : IsInOrder l
  order = kept.in_order

  abbrev nat_on : ℕ → Bool
  nat_on = nat_turned l c.nat.items m.chosen.nat_journal

  abbrev sit_on : ℕ → Bool
  sit_on = sit_turned l c.sit.items m.chosen.sit_journal

  pub all_blocks : r.blocks ≡ c.blocks.items ++ stored_sums l c.logs c.sums.items ++ sit_blocks ++ nat_blocks
  all_blocks = joined ∙ λ i. c.blocks.items ++ stored_sums (own i) c.logs (its_sums i) ++ its_sits i ++ its_nats i

  pub sit_addresses : addresses sit_blocks ≡ map (sit_other_address l (sit_bits m.chosen.head)) (turned_below l.sit_half sit_on)
  sit_addresses = sit_placed ∙ λ i. map (sit_other_address l (sit_bits m.chosen.head)) (turned_below l.sit_half (sit_turned l (its_sit i) m.chosen.sit_journal))

  pub nat_addresses : addresses nat_blocks ≡ map (nat_other_address l (nat_bits m.chosen.head)) (turned_below l.nat_half nat_on)
  nat_addresses = nat_placed ∙ λ i. map (nat_other_address l (nat_bits m.chosen.head)) (turned_below l.nat_half (nat_turned l (its_nat i) m.chosen.nat_journal))

  abbrev pub follows : Follows m r
  follows = record { layout = own; number = made.number; version = made.version }

  abbrev pub plan : IsFor m c r
  plan = record {
    new_head = made.head;
    six = made.six;
    ends = made.ends;
    sit_blocks = sit_blocks;
    nat_blocks = nat_blocks;
    all_blocks = all_blocks;
    sit_addresses = sit_addresses;
    nat_addresses = nat_addresses;
  }

  -- what holds of the addresses of each part holds of all
  all_parts : (Q : ℕ → Type 0) → All (λ (w : ℕ × Block). Q w.0) c.blocks.items → All (λ (w : ℕ × Block). Q (l.ssa + w.0)) c.sums.items
      → ((k : ℕ) → k < l.sit_half → Q (sit_other_address l (sit_bits m.chosen.head) k)) → ((k : ℕ) → k < l.nat_half → Q (nat_other_address l (nat_bits m.chosen.head) k))
      → All (λ (w : ℕ × Block). Q w.0) r.blocks
  all_parts Q of_main of_sums of_sit of_nat =
      let P = λ (w : ℕ × Block). Q w.0 in
      let sit_on = sit_turned l c.sit.items m.chosen.sit_journal in
      let nat_on = nat_turned l c.nat.items m.chosen.nat_journal in
      let stored = stored_sums l c.logs c.sums.items in
      let first = All-append P c.blocks.items stored of_main (all_stored Q l c.logs c.sums.items of_sums) in
      let second = All-append P (c.blocks.items ++ stored) sit_blocks first
      (all_placed Q (sit_other_address l (sit_bits m.chosen.head)) (turned_below l.sit_half sit_on) sit_blocks sit_addresses (λ j among. of_sit j (turned_low l.sit_half sit_on j among).0)) in
      let third = All-append P (c.blocks.items ++ stored ++ sit_blocks) nat_blocks second
      (all_placed Q (nat_other_address l (nat_bits m.chosen.head)) (turned_below l.nat_half nat_on) nat_blocks nat_addresses (λ j among. of_nat j (turned_low l.nat_half nat_on j among).0)) in
      subst (All P) (sym all_blocks) third

  -- they lie behind the packs
  behind : All (λ (w : ℕ × Block). (l.sit ≤ w.0) × (w.0 < l.blocks)) r.blocks
  behind =
      all_parts (λ a. (l.sit ≤ a) × (a < l.blocks))
      (λ k d below.
      let parts = and_parts _ _ (main k d below) in
      let low = leb-true l.main _ parts.0 in
      let high = ltb-true _ (l.main + 512 * l.segments) parts.1 in
      (omega (arith, low, order.nat, order.ssa, order.main), omega (arith, high, order.inside)))
      (λ k d below.
      let low = sums k d below in
      (omega (arith, order.nat, order.ssa), omega (arith, low, order.summaries, order.main, order.inside)))
      (λ k low.
      let at = sit_place_low l k (bit_msb (sit_bits m.chosen.head) k) order low in
      (at.0, omega (arith, at.1, order.ssa, order.main, order.inside)))
      (λ k low.
      let at = nat_place_low l k (bit_msb (nat_bits m.chosen.head) k) order low in
      (omega (arith, at.0, order.nat), omega (arith, at.1, order.main, order.inside)))

  fit : (t : ℕ) → t < 6 → ((log_at c.logs t).segno < l.segments) × ((log_at c.logs t).offset < 512)
  fit t low = logs t (record { segno = 0; offset = 0; reuse = false }) (omega (arith, six, low))

  pub prepared : IsPrepared r
  prepared =
      let version = checkpoint_ver r.pack.head in
      let valid : is_pack_valid l (written r.pack) ≡ true =
      pack_valid l m.chosen.head version c.logs c.counts sit_on nat_on r.pack made.head made.six made.ends fit kept.chosen.sit_bits kept.chosen.nat_bits in
      record {
        in_order = subst IsInOrder (sym own) order;
        number = omega (arith, made.number);
        normal = normal l m.chosen.head version c.logs c.counts sit_on nat_on r.pack made.head made.six made.ends fit kept.chosen.sit_bits kept.chosen.nat_bits;
        valid = subst (λ (x : Layout). is_pack_valid x (written r.pack) ≡ true) (sym own) valid;
        bounded = journals_bounded l m.chosen.head version c.logs c.counts sit_on nat_on r.pack made.head made.six made.ends fit kept.chosen.sit_bits kept.chosen.nat_bits;
        blocks = λ k d below.
            let at = behind k d below in
            let first : r.layout.sit ≡ l.sit = ap (λ (x : Layout). x.sit) own in
            let last : r.layout.blocks ≡ l.blocks = ap (λ (x : Layout). x.blocks) own in
            (omega (arith, at.0, first), omega (arith, at.1, last), whole k d below);
      }

  module _ (image : Image) (of : IsMountOf image m) where
    same_layout : l ≡ layout image
    same_layout = own_layout image m of

    same_head : m.chosen.head ≡ head image
    same_head = own_head image m of

    own_order : IsInOrder (layout image)
    own_order = subst IsInOrder same_layout order

    number : pack_number image < 2
    number = omega (arith, ap (λ (h : Held). h.number) of.chosen, kept.chosen.held.number)

    total : pack_total_block_count (head image) ≤ 512
    total =
        let few = (head_facts l m.chosen.head kept.chosen.valid).total in
        omega (arith, few, ap pack_total_block_count same_head)

    pub avoids : All (λ (w : ℕ × Block). is_free image (segment_of l w.0) ≡ true) c.blocks.items → All (λ (w : ℕ × Block). is_support image (l.ssa + w.0) ≡ false) c.sums.items → AvoidsSupport image r
    avoids free spare =
        all_parts (λ a. is_support image a ≡ false)
        (λ k d below.
        let a = (get_or c.blocks.items k d).0 in
        free_block image a (subst (λ (x : Layout). is_main x a ≡ true) same_layout (main k d below)) (subst (λ (x : Layout). is_free image (segment_of x a) ≡ true) same_layout (free k d below)))
        spare
        (λ k low.
        (λ i. is_support image (sit_other_address (same_layout i) (sit_bits (same_head i)) k))
        ∙ sit_other_spare image own_order number total k (omega (arith, low, ap (λ (x : Layout). x.sit_half) same_layout)))
        (λ k low.
        (λ i. is_support image (nat_other_address (same_layout i) (nat_bits (same_head i)) k))
        ∙ nat_other_spare image own_order number total k (omega (arith, low, ap (λ (x : Layout). x.nat_half) same_layout)))

    pub carried : l.blocks ≤ length image
        → AreEach (IsSitBlock l.segments (λ s. unwrap_or (sit_given sit_read s) (sit image s))) (turned_below l.sit_half (sit_turned l sit_read m.chosen.sit_journal)) sit_blocks
        → AreEach (IsNatBlock (λ n. unwrap_or (nat_given nat_read n) (image_nat_entry image n))) (turned_below l.nat_half (nat_turned l nat_read m.chosen.nat_journal)) nat_blocks
        → IsPackOf image m c r.pack → Carries image c r.pack (committed r image)
    carried inside sit_each nat_each says =
        carries image m c r (record {
          mount = of;
          kept = kept;
          inside = inside;
          follows = follows;
          prepared = prepared;
          plan = plan;
          main = main;
          sums = sums;
          sit_entries = subst (λ (e : List (ℕ × HeldSitEntry)). AreEach (IsSitBlock l.segments (λ s. unwrap_or (sit_given e s) (sit image s))) (turned_below l.sit_half (sit_turned l e m.chosen.sit_journal)) sit_blocks) its_sit sit_each;
          nat_entries = subst (λ (e : List (ℕ × HeldNatEntry)). AreEach (IsNatBlock (λ n. unwrap_or (nat_given e n) (image_nat_entry image n))) (turned_below l.nat_half (nat_turned l e m.chosen.nat_journal)) nat_blocks) its_nat nat_each;
          log_entries = says.entries;
          version = says.version;
        })
