-- What a mount's tables say is what its image says.
use Rattle.std.proofs.Common.{◌≡◌, ℕ, ap, ◌∙◌}
use Rattle.std.specs.Prelude.{unwrap_or}
use Rattle.f2_bytes.specs.Bytes.{Image}
use Rattle.f2_bytes.specs.Checkpoint.{head, nat_bits, sit_bits}
use Rattle.f2_bytes.specs.NodeAddressTable.{nat_entry, nat_table_entry, nat_journal, nat_journal_entry, image_nat_entry, next_live}
use Rattle.f2_bytes.specs.SegmentTable.{sit, sit_entry, sit_table_entry, sit_journal, sit_journal_entry}
use Rattle.f2_bytes.specs.Superblock.{layout, layout_of}
use Rattle.f2_pack.specs.Held.{Held}
use Rattle.f2_tables.specs.Tables.{NatTable, SitTable, OpensNat, OpensSit, nat_newer, sit_newer, nat_in, sit_in}
use Rattle.f2_view.specs.Mounted.{Mounted, IsMountOf, layout_in}

pub own_layout : (image : Image) (m : Mounted) → IsMountOf image m → layout_in m ≡ layout image
unfolding layout
own_layout image m of = ap layout_of of.sup

pub own_head : (image : Image) (m : Mounted) → IsMountOf image m → m.chosen.head ≡ head image
unfolding head
own_head image m of = ap (λ (h : Held). h.head) of.chosen

pub nat_reading : (image : Image) (m : Mounted) (t : NatTable) → IsMountOf image m → OpensNat (layout_in m) (nat_bits m.chosen.head) m.chosen.nat_journal t → (nid : ℕ) → nat_in t image nid ≡ image_nat_entry image nid
unfolding nat_entry
nat_reading image m t of opens nid =
    let l : t.layout ≡ layout image = opens.layout ∙ own_layout image m of in
    let bits : t.bits ≡ nat_bits (head image) = opens.bits ∙ ap nat_bits (own_head image m of) in
    let newer : nat_newer t nid ≡ nat_journal_entry (nat_journal image) nid = opens.newer nid ∙ ap (λ (h : Held). nat_journal_entry h.nat_journal nid) of.chosen in
    λ i. unwrap_or (newer i) (nat_table_entry (l i) (bits i) image nid)

pub live_reading : (image : Image) (m : Mounted) (t : NatTable) (from : ℕ) → IsMountOf image m → OpensNat (layout_in m) (nat_bits m.chosen.head) m.chosen.nat_journal t
    → next_live t.layout (nat_in t image) from ≡ next_live (layout image) (image_nat_entry image) from
live_reading image m t from of opens =
    let l : t.layout ≡ layout image = opens.layout ∙ own_layout image m of in
    λ i. next_live (l i) (λ nid. nat_reading image m t of opens nid i) from

pub sit_reading : (image : Image) (m : Mounted) (t : SitTable) → IsMountOf image m → OpensSit (layout_in m) (sit_bits m.chosen.head) m.chosen.sit_journal t → (segment : ℕ) → sit_in t image segment ≡ sit image segment
unfolding sit sit_entry
sit_reading image m t of opens segment =
    let l : t.layout ≡ layout image = opens.layout ∙ own_layout image m of in
    let bits : t.bits ≡ sit_bits (head image) = opens.bits ∙ ap sit_bits (own_head image m of) in
    let newer : sit_newer t segment ≡ sit_journal_entry (sit_journal image) segment = opens.newer segment ∙ ap (λ (h : Held). sit_journal_entry h.sit_journal segment) of.chosen in
    λ i. unwrap_or (newer i) (sit_table_entry (l i) (bits i) image segment)
