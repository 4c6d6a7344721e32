-- Parts of the frame: what a definition reads of the image.
use Rattle.std.proofs.Common.{◌≡◌, ℕ, ◌/◌, ◌<◌, List, not, ◌&&◌, ◌==◌, nat_le, nat_lt, cond, Some, None, ap, ◌∙◌, ⊎_elim, arith}
use Rattle.std.specs.Prelude.{unwrap_or}
use Rattle.std.proofs.lemmas.Bool.{cases_lt, le-ltb}
use Rattle.f2_bytes.specs.declared.layout.Layout.{Layout}
use Rattle.f2_bytes.specs.Bytes.{Image, block_at}
use Rattle.f2_bytes.specs.Superblock.{layout}
use Rattle.f2_bytes.specs.Checkpoint.{head, nat_bits}
use Rattle.f2_bytes.specs.Journal.{NatEntry, NatRecord}
use Rattle.f2_bytes.specs.NodeAddressTable.{nid_limit, nat_journal_entry, nat_entry_in, nat, nat_entry, nat_block_address, nat_journal, live_entry}

-- an entry of the node address table is read from one block
pub nat_entry-same : (l : Layout) (bits : List ℕ) (journal : List NatRecord) (image other : Image) (nid : ℕ)
    → block_at other (nat_block_address l bits (nid / 455)) ≡ block_at image (nat_block_address l bits (nid / 455))
    → nat_entry l bits journal other nid ≡ nat_entry l bits journal image nid
unfolding nat_entry
nat_entry-same l bits journal image other nid same =
    ap (λ b. unwrap_or (nat_journal_entry journal nid) (nat_entry_in b nid)) same

-- the nodes are read from the blocks of the table in use
pub live_entry-same : (l : Layout) (bits : List ℕ) (journal : List NatRecord) (image other : Image) (nid : ℕ)
    → (nid < nid_limit l → block_at other (nat_block_address l bits (nid / 455)) ≡ block_at image (nat_block_address l bits (nid / 455)))
    → live_entry l bits journal other nid ≡ live_entry l bits journal image nid
live_entry-same l bits journal image other nid same =
    ⊎_elim (λ below.
    let choose = λ (entry : NatEntry). cond (nat_le 3 nid && nat_lt nid (nid_limit l) && not (entry.address == 0)) (Some entry) None in
    ap choose (nat_entry-same l bits journal image other nid (same below)))
    (λ past. rw (le-ltb nid (nid_limit l) past) (grind arith))
    (cases_lt nid (nid_limit l))

-- the table of an image, from what else it is read of
pub nat-same : (image other : Image) (nid : ℕ)
    → layout other ≡ layout image → head other ≡ head image → nat_journal other ≡ nat_journal image
    → (nid < nid_limit (layout image) → block_at other (nat_block_address (layout image) (nat_bits (head image)) (nid / 455)) ≡ block_at image (nat_block_address (layout image) (nat_bits (head image)) (nid / 455)))
    → nat other nid ≡ nat image nid
unfolding nat
nat-same image other nid same_layout same_head same_journal same_blocks =
    let parts : live_entry (layout other) (nat_bits (head other)) (nat_journal other) other nid ≡ live_entry (layout image) (nat_bits (head image)) (nat_journal image) other nid
    = λ i. live_entry (same_layout i) (nat_bits (same_head i)) (same_journal i) other nid in
    parts ∙ live_entry-same (layout image) (nat_bits (head image)) (nat_journal image) image other nid same_blocks
