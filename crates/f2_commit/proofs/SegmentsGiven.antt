-- The entries that a change gives segments, from the lists that are gathered of a batch.
use Rattle.std.proofs.Common.{◌≡◌, ℕ, ◌==◌, ◌||◌, List, ◌++◌, map, true, length, get_or, drop, All, refl, sym, ap, ◌∙◌, subst}
use Rattle.std.proofs.lemmas.Bool.{and_parts, eq-eqb}
use Rattle.std.proofs.lemmas.List.{length-map}
use Rattle.std.proofs.lemmas.List.Folds.{list_any_at}
use Rattle.std.proofs.lemmas.Simd.{map-map}
use Rattle.f2_bytes.specs.Bytes.{Image, quotient_up}
use Rattle.f2_bytes.specs.Check.{is_checked, is_data, is_node}
use Rattle.f2_bytes.specs.Defragment.{is_among}
use Rattle.f2_bytes.specs.Journal.{NatEntry}
use Rattle.f2_bytes.specs.NodeAddressTable.{image_nat_entry}
use Rattle.f2_bytes.specs.Superblock.{layout, is_main}
use Rattle.f2_sum.specs.Records.{nat_entry}
use Rattle.f2_sum.specs.declared.records.NatEntry.{NatEntry as HeldNatEntry}
use Rattle.f2_sum.specs.declared.records.SitEntry.{SitEntry as HeldSitEntry}
use Rattle.f2_gather.specs.declared.gathering.MovedBlock.{MovedBlock}
use Rattle.f2_gather.specs.Gathering.{addresses_of}
use Rattle.f2_commit.specs.Moves.{moved_data, moved_nodes}
use Rattle.f2_commit.specs.Shifting.{AreEmptied, AreTaken, node_addresses}
use Rattle.f2_commit.proofs.LeftPlaces.{node_places}
use Rattle.f2_commit.proofs.MoveAddresses.{entry_used}
use Rattle.f2_commit.proofs.MoveNodes.{moved_there}
use Rattle.f2_commit.proofs.MoveTable.{live_entry_is}
use Rattle.f2_commit.proofs.ShiftSegments.{GivesSegments}

-- the nodes that move stand in main
pub nodes_in_main : (image : Image) → is_checked image ≡ true → (addrs : List ℕ) → All (λ a. is_main (layout image) a ≡ true) addrs → All (λ nid. is_main (layout image) (image_nat_entry image nid).address ≡ true) (moved_nodes image addrs)
nodes_in_main image h addrs mains i d low =
    let nid = get_or (moved_nodes image addrs) i d in
    let node = moved_there image h addrs mains nid (list_any_at (λ y. y == nid) (moved_nodes image addrs) i d low (eq-eqb nid nid refl)) in
    ap (λ (e : NatEntry). is_main (layout image) e.address) (live_entry_is image nid node.0 node.1).0
    ∙ (and_parts (is_main (layout image) node.0.address) (is_data image node.0.address || is_node image node.0.address) (entry_used image h nid node.0 node.1)).0

-- where the nodes with these entries stand
pub node_places-from : (image : Image) (addrs nids : List ℕ) (nodes : List (ℕ × HeldNatEntry)) → nids ≡ moved_nodes image addrs → map (λ (w : ℕ × HeldNatEntry). nat_entry w.1) nodes ≡ map (image_nat_entry image) nids
    → node_addresses nodes ≡ node_places image addrs
node_places-from image addrs nids nodes of entries =
    sym (map-map (λ (e : NatEntry). e.address) (λ (w : ℕ × HeldNatEntry). nat_entry w.1) nodes)
    ∙ ap (map (λ (e : NatEntry). e.address)) entries
    ∙ map-map (λ (e : NatEntry). e.address) (image_nat_entry image) nids
    ∙ ap (map (λ nid. (image_nat_entry image nid).address)) of

unfoldable pub gives_from : (image : Image) (addrs targets : List ℕ) (items left data_new node_new : List (ℕ × HeldSitEntry)) (addresses nids behind : List ℕ) (data_blocks : List MovedBlock) (nodes : List (ℕ × HeldNatEntry))
    → addresses_of data_blocks ≡ moved_data image addrs → nids ≡ moved_nodes image addrs → map (λ (w : ℕ × HeldNatEntry). nat_entry w.1) nodes ≡ map (image_nat_entry image) nids
    → behind ≡ drop (quotient_up (length data_blocks) 512) targets → ((a : ℕ) → is_among addresses a ≡ is_among (addresses_of data_blocks ++ node_addresses nodes) a)
    → AreEmptied image addresses left → AreTaken targets 1 (length data_blocks) data_new → AreTaken behind 4 (length nids) node_new → items ≡ (left ++ data_new) ++ node_new
    → GivesSegments image addrs targets items
gives_from image addrs targets items left data_new node_new addresses nids behind data_blocks nodes of_data of_nodes entries rest same emptied data_taken nodes_taken whole = record {
  addresses = addresses;
  left = left;
  data_new = data_new;
  node_new = node_new;
  whole = whole;
  same = λ a. same a ∙ (λ i. is_among (of_data i ++ node_places-from image addrs nids nodes of_nodes entries i) a);
  emptied = emptied;
  data_taken = subst (λ n. AreTaken targets 1 n data_new) many data_taken;
  nodes_taken = subst (λ l. AreTaken l 4 (length (moved_nodes image addrs)) node_new) (rest ∙ ap (λ n. drop (quotient_up n 512) targets) many) (subst (λ l. AreTaken behind 4 (length l) node_new) of_nodes nodes_taken);
}
  where
    many : length data_blocks ≡ length (moved_data image addrs)
    many = sym (length-map data_blocks (λ (b : MovedBlock). b.address)) ∙ ap (λ (l : List ℕ). length l) of_data
