-- The node table of an image that carries a batch of moves.
use Rattle.std.proofs.Common.{◌≡◌, ℕ, ◌<◌, inl, inr, List, Bool, true, false, not, ◌==◌, ◌&&◌, nat_lt, nat_le, cond, get_or, All, Option, Some, None, refl, sym, ap, ◌∙◌, subst, arith}
use Rattle.std.specs.Prelude.{option_map, unwrap_or}
use Rattle.std.proofs.lemmas.Bool.{and_parts, and_from, eq-eqb, ne_eqb, eqb-true, ltb-true, false≢true}
use Rattle.std.proofs.lemmas.List.Folds.{list_any_at}
use Rattle.f2_bytes.specs.Bytes.{Image, block_at}
use Rattle.f2_bytes.specs.Superblock.{layout, is_main}
use Rattle.f2_bytes.specs.Journal.{NatEntry}
use Rattle.f2_bytes.specs.Node.{footer_nid}
use Rattle.f2_bytes.specs.NodeAddressTable.{nid_limit, nat, is_live, image_nat_entry}
use Rattle.f2_bytes.specs.Check.{is_checked, is_data}
use Rattle.f2_bytes.specs.Moved.{moved_entry}
use Rattle.f2_bytes.specs.Defragment.{is_among}
use Rattle.f2_bytes.proofs.CheckedNodes.{nat-range, entry_nid}
use Rattle.f2_bytes.proofs.CheckedUsed.{main_range, entry_node, entry_in_main}
use Rattle.f2_bytes.proofs.SlotSupport.{body_checked}
use Rattle.f2_pack.specs.declared.writing.NewPack.{NewPack}
use Rattle.f2_change.specs.declared.change.Change.{Change}
use Rattle.f2_change.specs.Carried.{Carries}
use Rattle.f2_commit.specs.Moves.{MovesBatch, AreTargets, moved_nodes, new_address}
use Rattle.f2_commit.proofs.MoveAddresses.{nid_with-entry, data_used, data_no_node, entry_used}
use Rattle.f2_commit.proofs.MoveLands.{Takes, Goes, goes, lands-moved}

-- a number with this entry is a node where the entry is live
live : (image : Image) (nid : ℕ) (e : NatEntry) → image_nat_entry image nid ≡ e → is_live (layout image) nid e ≡ true → nat image nid ≡ Some e
unfolding nat
live image nid e is there = ap (λ x. cond (is_live (layout image) nid x) (Some x) None) is ∙ rw there refl

-- and its entry is the table's
pub live_entry_is : (image : Image) (nid : ℕ) (e : NatEntry) → nat image nid ≡ Some e → (image_nat_entry image nid ≡ e) × (is_live (layout image) nid (image_nat_entry image nid) ≡ true)
unfolding nat
live_entry_is image nid e is = go (is_live (layout image) nid (image_nat_entry image nid)) refl is
  where
    go : (b : Bool) → is_live (layout image) nid (image_nat_entry image nid) ≡ b → cond b (Some (image_nat_entry image nid)) None ≡ Some e
        → (image_nat_entry image nid ≡ e) × (is_live (layout image) nid (image_nat_entry image nid) ≡ true)
    go true there at = (ap (λ o. elim o [ Some x ↦ x | None ↦ e ]) at, there)
    go false there at = absurd (cc at)

-- two images with one layout and one entry of a number agree on it
same_live : (image new : Image) (nid : ℕ) → layout new ≡ layout image → image_nat_entry new nid ≡ image_nat_entry image nid → nat new nid ≡ nat image nid
unfolding nat
same_live image new nid areas same = λ i. cond (is_live (areas i) nid (same i)) (Some (same i)) None

module _ (image : Image) (h : is_checked image ≡ true) where
  -- no two nodes stand at one address
  pub one_node : (a b : ℕ) (e f : NatEntry) → nat image a ≡ Some e → nat image b ≡ Some f → e.address ≡ f.address → a ≡ b
  one_node a b e f is_e is_f same =
      sym (eqb-true (footer_nid (block_at image e.address)) a (entry_nid image (body_checked image h) a e is_e))
      ∙ ap (λ x. footer_nid (block_at image x)) same
      ∙ eqb-true (footer_nid (block_at image f.address)) b (entry_nid image (body_checked image h) b f is_f)

module _ (image new : Image) (addresses targets : List ℕ) (c : Change) (p : NewPack) (h : is_checked image ≡ true) (mains : All (λ a. is_main (layout image) a ≡ true) addresses) (free : AreTargets image addresses targets) (m : MovesBatch image addresses targets c) (s : Carries image c p new)
    (nodes : (nid : ℕ) → is_among (moved_nodes image addresses) nid ≡ true → (e : NatEntry) × (nat image nid ≡ Some e)) where
  abbrev to : ℕ → ℕ
  to = new_address image addresses targets

  -- a node that is not among the moved stays
  pub node_stays : (nid : ℕ) (e : NatEntry) → nat image nid ≡ Some e → is_among (moved_nodes image addresses) nid ≡ false → to e.address ≡ e.address
  node_stays nid e is other = by (goes image addresses targets e.address)
    where
      by_takes : (n : ℕ) → Takes image addresses targets n e.address → ⊥
      by_takes n (inl t) =
          let d = data_used image h addresses mains n t.0 in
          data_no_node image h e.address (entry_in_main image h nid e is) (subst (λ x. is_data image x ≡ true) t.1 d.1) (entry_node image h nid e is)
      by_takes n (inr t) =
          let found = nid_with-entry image e.address (get_or (moved_nodes image addresses) t.0 0) t.3 in
          let one = one_node image h (get_or (moved_nodes image addresses) t.0 0) nid found.0 e found.1 is found.2 in
          let among : is_among (moved_nodes image addresses) nid ≡ true = list_any_at (λ y. y == nid) (moved_nodes image addresses) t.0 0 t.2 (eq-eqb _ nid one) in
          false≢true (sym other ∙ among)

      by : Goes image addresses targets e.address → to e.address ≡ e.address
      by (inl same) = same
      by (inr t) = absurd (by_takes t.0 t.2)

  pub entry_after : (nid : ℕ) → nid < nid_limit (layout image) → image_nat_entry new nid ≡ cond (is_among (moved_nodes image addresses) nid) (moved_entry to (image_nat_entry image nid)) (image_nat_entry image nid)
  entry_after nid low =
      s.nat_entries nid low
      ∙ ap (λ o. unwrap_or o (image_nat_entry image nid)) (m.entries nid low)
      ∙ go (is_among (moved_nodes image addresses) nid)
    where
      go : (b : Bool) → unwrap_or (cond b (Some (moved_entry to (image_nat_entry image nid))) None) (image_nat_entry image nid) ≡ cond b (moved_entry to (image_nat_entry image nid)) (image_nat_entry image nid)
      go true = refl
      go false = refl

  moved_live : (nid : ℕ) (e : NatEntry) → nat image nid ≡ Some e → is_live (layout new) nid (moved_entry to e) ≡ true
  moved_live nid e is =
      let old = live_entry_is image nid e is in
      let range = (and_parts (nat_le 3 nid && nat_lt nid (nid_limit (layout image))) (not ((image_nat_entry image nid).address == 0)) old.1).0 in
      let main = lands-moved image h addresses mains targets free e.address (entry_used image h nid e is) in
      let low = (main_range image h (to e.address) main).0 in
      let some : not (to e.address == 0) ≡ true = ap not (ne_eqb (to e.address) 0 (λ z. omega (arith, z, low))) in
      ap (λ l. is_live l nid (moved_entry to e)) s.areas ∙ and_from _ _ range some

  pub table-moved : (nid : ℕ) → nat new nid ≡ option_map (moved_entry to) (nat image nid)
  table-moved nid = by_range (nat_lt nid (nid_limit (layout image))) refl
    where
      by_range : (r : Bool) → nat_lt nid (nid_limit (layout image)) ≡ r → nat new nid ≡ option_map (moved_entry to) (nat image nid)
      by_range false out =
          let old : nat image nid ≡ None = nat-range image nid (ap (λ x. nat_le 3 nid && x) out ∙ and_false (nat_le 3 nid)) in
          let after : nat new nid ≡ None = nat-range new nid (ap (λ l. nat_le 3 nid && nat_lt nid (nid_limit l)) s.areas ∙ ap (λ x. nat_le 3 nid && x) out ∙ and_false (nat_le 3 nid)) in
          after ∙ sym (ap (option_map (moved_entry to)) old)
        where
          and_false : (b : Bool) → (b && false) ≡ false
          and_false true = refl
          and_false false = refl
      by_range true inside = by_moved (is_among (moved_nodes image addresses) nid) refl
        where
          low : nid < nid_limit (layout image)
          low = ltb-true nid (nid_limit (layout image)) inside

          by_moved : (b : Bool) → is_among (moved_nodes image addresses) nid ≡ b → nat new nid ≡ option_map (moved_entry to) (nat image nid)
          by_moved true among =
              let node = nodes nid among in
              let old = live_entry_is image nid node.0 node.1 in
              let entry : image_nat_entry new nid ≡ moved_entry to node.0
              = entry_after nid low ∙ ap (λ b. cond b (moved_entry to (image_nat_entry image nid)) (image_nat_entry image nid)) among ∙ ap (moved_entry to) old.0 in
              live new nid (moved_entry to node.0) entry (moved_live nid node.0 node.1) ∙ sym (ap (option_map (moved_entry to)) node.1)
          by_moved false other =
              let entry : image_nat_entry new nid ≡ image_nat_entry image nid
              = entry_after nid low ∙ ap (λ b. cond b (moved_entry to (image_nat_entry image nid)) (image_nat_entry image nid)) other in
              same_live image new nid s.areas entry ∙ by_entry (nat image nid) refl
            where
              by_entry : (o : Option NatEntry) → nat image nid ≡ o → o ≡ option_map (moved_entry to) o
              by_entry None is = refl
              by_entry (Some e) is = ap (λ a. Some (record { version = e.version; ino = e.ino; address = a })) (sym (node_stays nid e is other))
