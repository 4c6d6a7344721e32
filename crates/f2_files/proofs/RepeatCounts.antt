-- The addresses of nodes and slots, and how often each stands among them.
use Rattle.std.proofs.Common.{◌≡◌, ◌≢◌, ℕ, ◌+◌, ◌-◌, ◌^◌, List, [], ◌∷◌, ◌++◌, true, false, not, ◌==◌, cond, map, filter, Option, Some, None, refl, sym, ap, subst, ◌∙◌, arith, append_assoc}
use Rattle.std.specs.Prelude.{count_by, filter_map, option_map}
use Rattle.std.specs.Option.{option_map_or}
use Rattle.std.specs.List.Sorted.{IsPermutation}
use Rattle.std.proofs.lemmas.Bool.{and_parts, not-true, eqb-true, eqb-false}
use Rattle.std.proofs.lemmas.List.{append-nil, map_push}
use Rattle.std.proofs.lemmas.List.Sorted.{sum_by-IsPermutation}
use Rattle.f2_bytes.specs.Bytes.{Image, numbers_below}
use Rattle.f2_bytes.specs.Journal.{NatEntry}
use Rattle.f2_bytes.specs.NodeAddressTable.{nat}
use Rattle.f2_bytes.specs.Check.{nids, is_address, slots_with, nodes_with, where_true, same, defect_of}
use Rattle.f2_defects.specs.Collected.{Collects, Compares}
use Rattle.f2_survey.specs.OwnerTables.{slots_at}
use Rattle.f2_files.specs.Repeats.{node_address, node_addresses, slot_addresses, HasClaims, CountsAddresses, repeat_defect, HasRepeats}
use Rattle.f2_survey.specs.Slots.{Slot, all_slots}
use Rattle.f2_files.specs.declared.repeated_claims.Claims.{Claims}
use Rattle.f2_files.specs.declared.repeated_claims.Repeats.{Repeats}
use Rattle.f2_sum.specs.Records.{nat_entry}
use Rattle.f2_sum.specs.declared.records.NatEntry.{NatEntry as CodeEntry}
use Rattle.f2_items.proofs.GrownLists.{optional, filter_push, filter_map_push}
use Rattle.f2_survey.proofs.NumberLists.{numbers-none, numbers-more}
use Rattle.f2_files.proofs.PartitionCounts.{count-append, count-filter_map, count-filter, count-map}
use Rattle.f2_files.proofs.SlotCounts.{slots_at-all}

-- what is the address of a block is not 0
pub address-some : (a : ℕ) → is_address a ≡ true → a ≢ 0
address-some a names = eqb-false a 0 (not-true (a == 0) (and_parts (not (a == 0)) (not (a == 2 ^ 32 - 1)) names).0)

-- ---- the list

pub nodes-none : (image : Image) → node_addresses image 0 ≡ []
nodes-none image = ap (filter_map (node_address image)) numbers-none

pub nodes-more : (image : Image) (nid : ℕ) → node_addresses image (nid + 1) ≡ node_addresses image nid ++ optional (node_address image nid)
nodes-more image nid = ap (filter_map (node_address image)) (numbers-more nid) ∙ filter_map_push (node_address image) (numbers_below nid) nid

slots-push : (slots : List Slot) (s : Slot) → slot_addresses (slots ++ s ∷ []) ≡ slot_addresses slots ++ cond (is_address s.address) (s.address ∷ []) []
slots-push slots s = ap (filter is_address) (map_push (λ (t : Slot). t.address) slots s) ∙ filter_push is_address (map (λ (t : Slot). t.address) slots) s.address

module _ (image : Image) where
  pub claims-start : (c : Claims) → c.addresses.items ≡ node_addresses image (nids image) → HasClaims image [] c
  unfolding HasClaims
  claims-start c is = is ∙ sym (append-nil (node_addresses image (nids image)))

  pub claims-push : (slots : List Slot) (s : Slot) (old new : Claims) → is_address s.address ≡ true → new.addresses.items ≡ old.addresses.items ++ s.address ∷ []
      → HasClaims image slots old → HasClaims image (slots ++ s ∷ []) new
  unfolding HasClaims
  claims-push slots s old new names is has =
      is
      ∙ (λ i. has i ++ s.address ∷ [])
      ∙ append_assoc (node_addresses image (nids image)) (slot_addresses slots) (s.address ∷ [])
      ∙ ap (λ l. node_addresses image (nids image) ++ l) (ap (λ b. slot_addresses slots ++ cond b (s.address ∷ []) []) (sym names) ∙ sym (slots-push slots s))

  pub claims-skip : (slots : List Slot) (s : Slot) (c : Claims) → is_address s.address ≡ false → HasClaims image slots c → HasClaims image (slots ++ s ∷ []) c
  unfolding HasClaims
  claims-skip slots s c none has =
      has
      ∙ ap (λ l. node_addresses image (nids image) ++ l) (sym (append-nil (slot_addresses slots)) ∙ ap (λ b. slot_addresses slots ++ cond b (s.address ∷ []) []) (sym none) ∙ sym (slots-push slots s))

  -- ---- the counts

  nodes-count : (a : ℕ) → count_by (λ x. x == a) (node_addresses image (nids image)) ≡ nodes_with image a
  unfolding nodes_with
  nodes-count a = count-filter_map (λ x. x == a) (node_address image) (λ nid. option_map_or (λ (e : NatEntry). e.address == a) (nat image nid) false) (λ nid. go (nat image nid)) (numbers_below (nids image))
    where
      go : (o : Option NatEntry) → count_by (λ x. x == a) (optional (option_map (λ (e : NatEntry). e.address) o)) ≡ cond (option_map_or (λ (e : NatEntry). e.address == a) o false) 1 0
      go None = refl
      go (Some e) = omega arith

  slots-count : (slots : List Slot) (a : ℕ) → is_address a ≡ true → count_by (λ x. x == a) (slot_addresses slots) ≡ slots_at slots a
  unfolding slots_at
  slots-count slots a names =
      count-filter (λ x. x == a) is_address (λ x same. ap is_address (eqb-true x a same) ∙ names) (map (λ (t : Slot). t.address) slots)
      ∙ count-map (λ x. x == a) (λ (t : Slot). t.address) slots

  pub claims-count : (c : Claims) (addresses : List ℕ) → HasClaims image (all_slots image) c → IsPermutation c.addresses.items addresses → CountsAddresses image addresses
  unfolding HasClaims
  claims-count c addresses has moved = record {
    counts = λ a names.
        let n = nodes-count a in
        let s = slots-count (all_slots image) a names in
        let all = slots_at-all image a (address-some a names) in
        let both = ap (count_by (λ x. x == a)) has ∙ count-append (λ x. x == a) (node_addresses image (nids image)) (slot_addresses (all_slots image)) in
        let sorted : count_by (λ x. x == a) addresses ≡ count_by (λ x. x == a) c.addresses.items = sum_by-IsPermutation (λ x. cond (x == a) 1 0) c.addresses.items addresses moved in
        omega (arith, n, s, all, both, sorted);
  }

  -- ---- slot by slot

  pub repeats-skip : (slots : List Slot) (s : Slot) (r : Repeats) → is_address s.address ≡ false → HasRepeats image slots r → HasRepeats image (slots ++ s ∷ []) r
  repeats-skip slots s r none has = record {
    addresses = has.addresses;
    part = has.part;
    defects = subst (Collects r.defects)
        (sym (append-nil (filter_map (repeat_defect image) slots))
        ∙ ap (λ b. filter_map (repeat_defect image) slots ++ optional (defect_of 2 s.ino s.k (where_true b (same (slots_with image s.address + nodes_with image s.address) 1)))) (sym none)
        ∙ sym (filter_map_push (repeat_defect image) slots s)) has.defects;
  }

  pub repeats-step : (slots : List Slot) (s : Slot) (old new : Repeats) (found : ℕ) → is_address s.address ≡ true → new.addresses.items ≡ old.addresses.items → new.defects.part ≡ old.defects.part
      → found ≡ count_by (λ x. x == s.address) old.addresses.items → Compares old.defects new.defects s.ino s.k (same found 1)
      → HasRepeats image slots old → HasRepeats image (slots ++ s ∷ []) new
  repeats-step slots s old new found names addresses part counted compares has = record {
    addresses = subst (CountsAddresses image) (sym addresses) has.addresses;
    part = part ∙ has.part;
    defects = subst (Collects new.defects)
        ((λ i. filter_map (repeat_defect image) slots ++ optional (defect_of (has.part i) s.ino s.k (where_true (sym names i) (same ((counted ∙ has.addresses.counts s.address names) i) 1))))
        ∙ sym (filter_map_push (repeat_defect image) slots s)) (compares (filter_map (repeat_defect image) slots) has.defects);
  }

-- the address in an entry that was kept
pub entry-address : (image : Image) (nid : ℕ) (o : Option CodeEntry) → option_map nat_entry o ≡ nat image nid → option_map (λ (e : CodeEntry). e.addr) o ≡ node_address image nid
entry-address image nid o is = go o ∙ ap (option_map (λ (e : NatEntry). e.address)) is
  where
    go : (o : Option CodeEntry) → option_map (λ (e : CodeEntry). e.addr) o ≡ option_map (λ (e : NatEntry). e.address) (option_map nat_entry o)
    go None = refl
    go (Some e) = refl
