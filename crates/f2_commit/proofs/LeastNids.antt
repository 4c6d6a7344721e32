-- The least number of a node that is free, found block by block of the node address table.
use Rattle.std.proofs.Common.{◌≡◌, ◌≢◌, ℕ, ◌+◌, ◌-◌, ◌*◌, ◌<◌, ◌≤◌, Bool, true, false, ◌==◌, cond, List, Some, None, refl, sym, ap, ◌∙◌, ⊎_elim, arith}
use Rattle.std.specs.Prelude.{unwrap_or}
use Rattle.std.proofs.lemmas.Bool.{eq-eqb, eqb-true, eqb-false, ne_eqb, cases_lt}
use Rattle.f2_bytes.specs.declared.layout.Layout.{Layout}
use Rattle.f2_bytes.specs.Bytes.{Block, Image}
use Rattle.f2_bytes.specs.Checkpoint.{nat_bits}
use Rattle.f2_bytes.specs.Journal.{NatEntry, NatRecord, nat_entry_at}
use Rattle.f2_bytes.specs.NodeAddressTable.{nid_limit, image_nat_entry, nat_journal_entry}
use Rattle.f2_bytes.specs.Superblock.{layout}
use Rattle.f2_bytes.proofs.Finds.{find-some, find-none}
use Rattle.f2_pack.specs.Held.{Held}
use Rattle.f2_tables.specs.Tables.{NatTable, OpensNat}
use Rattle.f2_view.specs.Mounted.{Mounted, layout_in}
use Rattle.f2_commit.specs.FreeNids.{IsFirstFree, least_free_nid}
use Rattle.f2_commit.proofs.MoveNids.{least_free_nid-entries}

-- a table that was opened with what a mount keeps
pub table_opened : (m : Mounted) (l : Layout) (held : Held) (bits : List ℕ) (journal : List NatRecord) (t : NatTable) → l ≡ layout_in m → held ≡ m.chosen → bits ≡ nat_bits held.head → journal ≡ held.nat_journal
    → OpensNat l bits journal t → OpensNat (layout_in m) (nat_bits m.chosen.head) m.chosen.nat_journal t
table_opened m l held bits journal t own kept its records opens = record {
  layout = opens.layout ∙ own;
  bits = opens.bits ∙ its ∙ ap (λ (h : Held). nat_bits h.head) kept;
  newer = λ n. opens.newer n ∙ ap (λ (j : List NatRecord). nat_journal_entry j n) (records ∙ ap (λ (h : Held). h.nat_journal) kept);
}

-- ---- where the search in a block begins

abbrev pub start : ℕ → ℕ
start k = cond (k == 0) 4 (455 * k)

start_is : (k : ℕ) → start k ≡ 455 * k + cond (k == 0) 4 0
start_is k = go (k == 0) refl
  where
    go : (t : Bool) → (k == 0) ≡ t → cond t 4 (455 * k) ≡ 455 * k + cond t 4 0
    go true is = let zero = eqb-true k 0 is in omega (arith, zero)
    go false is = omega arith

start_least : (k : ℕ) → 4 ≤ start k
start_least k = go (k == 0) refl
  where
    go : (t : Bool) → (k == 0) ≡ t → 4 ≤ cond t 4 (455 * k)
    go true is = omega arith
    go false is = let some = eqb-false k 0 is in omega (arith, some)

start_most : (k n : ℕ) → 4 ≤ n → 455 * k ≤ n → start k ≤ n
start_most k n least from = go (k == 0)
  where
    go : (t : Bool) → cond t 4 (455 * k) ≤ n
    go true = least
    go false = from

-- ---- one block

module _ (entry : ℕ → NatEntry) (b : Block) (k from : ℕ) (same : (j : ℕ) → j < 455 → nat_entry_at b (9 * j) ≡ entry (455 * k + j)) (at : from ≡ cond (k == 0) 4 0) where
  begins : start k ≡ 455 * k + from
  begins = start_is k ∙ ap (λ n. 455 * k + n) (sym at)

  -- the entry of a nid by its place in the block
  taken_at : (n : ℕ) → 455 * k ≤ n → n < 455 * (k + 1) → (nat_entry_at b (9 * (n - 455 * k))).address ≢ 0 → (entry n).address ≢ 0
  taken_at n low high some zero =
      let is : 455 * k + (n - 455 * k) ≡ n = omega (arith, low) in
      some (ap (λ (e : NatEntry). e.address) (same (n - 455 * k) (omega (arith, low, high))) ∙ ap (λ m. (entry m).address) is ∙ zero)

  pub nids-some : (j : ℕ) → IsFirstFree from 455 (λ j. nat_entry_at b (9 * j)) (Some j) → IsFirstFree (start k) (455 * (k + 1)) entry (Some (455 * k + j))
  nids-some j first =
      let low = first.within.0 in
      let high = first.within.1 in
      let first_at = begins in record {
        within = (omega (arith, first_at, low), omega (arith, high));
        free = ap (λ (e : NatEntry). e.address) (sym (same j high)) ∙ first.free;
        least = λ n above under.
            taken_at n (omega (arith, above, first_at)) (omega (arith, under, high))
            (first.least (n - 455 * k) (omega (arith, above, first_at)) (omega (arith, above, under, first_at)));
        none = λ nothing. absurd (cc nothing);
      }

  pub nids-none : IsFirstFree from 455 (λ j. nat_entry_at b (9 * j)) None → IsFirstFree (start k) (455 * (k + 1)) entry None
  nids-none first =
      let first_at = begins in record {
        within = first.within;
        free = first.free;
        least = first.least;
        none = λ nothing n above under.
            taken_at n (omega (arith, above, first_at)) under (first.none refl (n - 455 * k) (omega (arith, above, first_at)) (omega (arith, above, under, first_at)));
      }

-- ---- all blocks

pub taken-more : (entry : ℕ → NatEntry) (k : ℕ) → ((n : ℕ) → 4 ≤ n → n < 455 * k → (entry n).address ≢ 0) → IsFirstFree (start k) (455 * (k + 1)) entry None → (n : ℕ) → 4 ≤ n → n < 455 * (k + 1) → (entry n).address ≢ 0
taken-more entry k so_far first n least high =
    ⊎_elim (λ before. so_far n least before) (λ behind. first.none refl n (start_most k n least behind) high) (cases_lt n (455 * k))

module _ (image : Image) (entry : ℕ → NatEntry) (same : (n : ℕ) → entry n ≡ image_nat_entry image n) (k : ℕ) (so_far : (n : ℕ) → 4 ≤ n → n < 455 * k → (entry n).address ≢ 0) where
  taken : (n : ℕ) → (entry n).address ≢ 0 → ((image_nat_entry image n).address == 0) ≡ false
  taken n some = ne_eqb (image_nat_entry image n).address 0 (λ zero. some (ap (λ (e : NatEntry). e.address) (same n) ∙ zero))

  pub least-some : (n : ℕ) → k < (layout image).nat_half → IsFirstFree (start k) (455 * (k + 1)) entry (Some n) → n ≡ least_free_nid image
  least-some n inside first =
      let low = first.within.0 in
      let high = first.within.1 in
      let least = start_least k in
      let is : 4 + (n - 4) ≡ n = omega (arith, low, least) in
      sym (least_free_nid-entries image ∙ ap (λ o. unwrap_or o 4)
      (find-some (λ m. (image_nat_entry image m).address == 0) 4 (nid_limit (layout image) - 4) (n - 4) (omega (arith, low, high, least, inside))
      (ap (λ m. (image_nat_entry image m).address == 0) is ∙ eq-eqb (image_nat_entry image n).address 0 (ap (λ (e : NatEntry). e.address) (sym (same n)) ∙ first.free))
      (λ m under. taken (4 + m)
      (⊎_elim (λ before. so_far (4 + m) (omega arith) before)
      (λ behind. first.least (4 + m) (start_most k (4 + m) (omega arith) behind) (omega (arith, under)))
      (cases_lt (4 + m) (455 * k)))))
      ∙ is)

  pub least-none : (layout image).nat_half ≤ k → 4 ≡ least_free_nid image
  least-none past =
      sym (least_free_nid-entries image ∙ ap (λ o. unwrap_or o 4)
      (find-none (λ m. (image_nat_entry image m).address == 0) 4 (nid_limit (layout image) - 4)
      (λ m under. taken (4 + m) (so_far (4 + m) (omega arith) (omega (arith, under, past))))))
