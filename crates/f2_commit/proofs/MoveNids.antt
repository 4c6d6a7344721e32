-- Where a new node is looked for, by the entries of the node table.
use Rattle.std.proofs.Common.{◌≡◌, ℕ, ◌-◌, ◌<◌, ◌≤◌, Bool, true, false, not, ◌==◌, ◌&&◌, nat_le, nat_lt, cond, get_or, Some, None, refl, ap, ◌∙◌, arith}
use Rattle.std.specs.Prelude.{find, is_none, unwrap_or}
use Rattle.std.specs.List.{range_with_len}
use Rattle.std.proofs.lemmas.Bool.{and_from, le-leb, lt-ltb}
use Rattle.std.proofs.lemmas.List.Elements.{All-from_get_or}
use Rattle.std.proofs.lemmas.List.FromFn.{length-range_with_len, get_or-range_with_len}
use Rattle.f2_bytes.specs.Bytes.{Image}
use Rattle.f2_bytes.specs.Superblock.{layout}
use Rattle.f2_bytes.specs.NodeAddressTable.{nid_limit, nat, image_nat_entry}
use Rattle.f2_bytes.proofs.AllPlaces.{find_same}
use Rattle.f2_commit.specs.FreeNids.{least_free_nid}

-- a number of the table is no node's where its entry has no address
no_node : (image : Image) (nid : ℕ) → 3 ≤ nid → nid < nid_limit (layout image) → is_none (nat image nid) ≡ ((image_nat_entry image nid).address == 0)
unfolding nat
no_node image nid high low =
    let range : (nat_le 3 nid && nat_lt nid (nid_limit (layout image))) ≡ true = and_from _ _ (le-leb 3 nid high) (lt-ltb nid (nid_limit (layout image)) low) in
    ap (λ r. is_none (cond (r && not ((image_nat_entry image nid).address == 0)) (Some (image_nat_entry image nid)) None)) range ∙ go ((image_nat_entry image nid).address == 0)
  where
    go : (z : Bool) → is_none (cond (not z) (Some (image_nat_entry image nid)) None) ≡ z
    go true = refl
    go false = refl

pub least_free_nid-entries : (image : Image) → least_free_nid image ≡ unwrap_or (find (λ nid. (image_nat_entry image nid).address == 0) (range_with_len 4 (nid_limit (layout image) - 4))) 4
unfolding least_free_nid
least_free_nid-entries image =
    ap (λ o. unwrap_or o 4)
    (find_same (λ nid. is_none (nat image nid)) (λ nid. (image_nat_entry image nid).address == 0) (range_with_len 4 (nid_limit (layout image) - 4))
    (All-from_get_or (λ nid. is_none (nat image nid) ≡ ((image_nat_entry image nid).address == 0)) (range_with_len 4 (nid_limit (layout image) - 4)) 0 (λ i inside.
    let long = length-range_with_len 4 (nid_limit (layout image) - 4) in
    let few : i < nid_limit (layout image) - 4 = omega (arith, inside, long) in
    let at = get_or-range_with_len 4 (nid_limit (layout image) - 4) i 0 few in
    no_node image (get_or (range_with_len 4 (nid_limit (layout image) - 4)) i 0) (omega (arith, at)) (omega (arith, at, few)))))
