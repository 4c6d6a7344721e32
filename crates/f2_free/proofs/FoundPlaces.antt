-- Where nodes stand after roll-forward, node by node of the chain.
use Rattle.std.proofs.Common.{◌≡◌, ℕ, ◌+◌, ◌*◌, ◌<◌, ◌≤◌, List, [], ◌∷◌, Bool, true, false, cond, not, length, get_or, Option, Some, None, refl, sym, ap, ◌∙◌, arith}
use Rattle.std.specs.Prelude.{◌&&◌, ◌==◌, nat_le, nat_lt, find, reverse, option_map, is_some}
use Rattle.std.specs.Option.{option_or, option_map_or}
use Rattle.std.specs.List.{list_all}
use Rattle.std.proofs.lemmas.Bool.{and_parts, lt-ltb, le-ltb, ne_eqb, leb-true}
use Rattle.std.proofs.lemmas.List.{length-map, get_or-map, reverse-append}
use Rattle.f2_bytes.specs.declared.layout.Layout.{Layout}
use Rattle.f2_bytes.specs.Bytes.{Image, numbers_below}
use Rattle.f2_bytes.specs.Journal.{NatEntry as FormatNatEntry}
use Rattle.f2_bytes.specs.Node.{footer_nid}
use Rattle.f2_bytes.specs.NodeAddressTable.{nid_limit, nat, image_nat_entry}
use Rattle.f2_bytes.specs.RollForward.{NodePlace, chain, chain_address, chain_length, chain_node, chain_place, is_counting, found_place}
use Rattle.f2_bytes.specs.Superblock.{layout, is_main, IsInOrder}
use Rattle.f2_bytes.proofs.Below.{each_below}
use Rattle.std.proofs.lemmas.List.Folds.{list_all-map}
use Rattle.f2_free.specs.ChainNodes.{node_read}
use Rattle.f2_free.specs.declared.chain_reading.ChainNode.{ChainNode}
use Rattle.f2_free.specs.NodePlaces.{HasTable, IsOffZero, place_said, entry_of, is_in_table}
use Rattle.f2_free.proofs.NumbersBelow.{numbers-none, numbers-more, at_number, many}
use Rattle.f2_sum.specs.Records.{nat_entry}
use Rattle.f2_sum.specs.declared.records.NatEntry.{NatEntry}

-- ---- the entries of the table

abbrev pub place_of : FormatNatEntry → NodePlace
place_of e = record { ino = e.ino; address = e.address }

-- as many entries as numbers
pub table-limit : (image : Image) (entries : List NatEntry) → HasTable image entries → length entries ≡ nid_limit (layout image)
table-limit image entries has = sym (length-map entries nat_entry) ∙ ap length has ∙ many (image_nat_entry image) (nid_limit (layout image))

pub table-entry : (image : Image) (entries : List NatEntry) (nid : ℕ) (d : NatEntry) → HasTable image entries → nid < nid_limit (layout image) → nat_entry (get_or entries nid d) ≡ image_nat_entry image nid
table-entry image entries nid d has low =
    sym (get_or-map nat_entry entries nid d (nat_entry d) (let all = table-limit image entries has in omega (arith, all, low)))
    ∙ ap (λ l. get_or l nid (nat_entry d)) has
    ∙ at_number (image_nat_entry image) (nid_limit (layout image)) nid (nat_entry d) low

live-place : (a b z : Bool) (e : FormatNatEntry) → b ≡ true → cond (a && not z) (Some (place_of e)) None ≡ option_map place_of (cond (a && b && not z) (Some e) None)
live-place true true true e is = refl
live-place true true false e is = refl
live-place false true z e is = refl
live-place a false z e is = cc

-- where the entry says that the node stands
pub place-entry : (image : Image) (nid : ℕ) (e : NatEntry) → nid < nid_limit (layout image) → nat_entry e ≡ image_nat_entry image nid → place_said nid e ≡ option_map place_of (nat image nid)
unfolding nat
place-entry image nid e low is =
    ap (λ (x : FormatNatEntry). cond (nat_le 3 nid && not (x.address == 0)) (Some (place_of x)) None) is
    ∙ live-place (nat_le 3 nid) (nat_lt nid (nid_limit (layout image))) ((image_nat_entry image nid).address == 0) (image_nat_entry image nid) (lt-ltb nid (nid_limit (layout image)) low)

pub place-table : (image : Image) (entries : List NatEntry) (nid : ℕ) (d : NatEntry) → HasTable image entries → nid < nid_limit (layout image) → place_said nid (get_or entries nid d) ≡ option_map place_of (nat image nid)
place-table image entries nid d has low = place-entry image nid (get_or entries nid d) low (table-entry image entries nid d has low)

is_some-map : {X Y : Type 0} (f : X → Y) (o : Option X) → is_some (option_map f o) ≡ is_some o
is_some-map f None = refl
is_some-map f (Some x) = refl

pub listed-table : (image : Image) (entries : List NatEntry) (nid : ℕ) (d : NatEntry) → HasTable image entries → nid < length entries → is_some (place_said nid (get_or entries nid d)) ≡ is_some (nat image nid)
listed-table image entries nid d has low =
    ap is_some (place-table image entries nid d has (let all = table-limit image entries has in omega (arith, all, low)))
    ∙ is_some-map place_of (nat image nid)

not_second : (p q z : Bool) → q ≡ false → (p && q && not z) ≡ false
not_second false q z is = refl
not_second true false z is = refl
not_second true true z is = cc

pub past-table : (image : Image) (entries : List NatEntry) (nid : ℕ) → HasTable image entries → length entries ≤ nid → is_some (nat image nid) ≡ false
unfolding nat
past-table image entries nid has high =
    let all = table-limit image entries has in
    ap (λ b. is_some (cond b (Some (image_nat_entry image nid)) None))
    (not_second (nat_le 3 nid) (nat_lt nid (nid_limit (layout image))) ((image_nat_entry image nid).address == 0) (le-ltb nid (nid_limit (layout image)) (omega (arith, all, high))))

-- the addresses that a table's entry names
pub named-table : (image : Image) (nid : ℕ) (o : Option NodePlace) (address : ℕ) → o ≡ option_map place_of (nat image nid)
    → option_map_or (λ (at : NodePlace). at.address == address) o false ≡ is_in_table image nid address
named-table image nid o address is = ap (λ x. option_map_or (λ (at : NodePlace). at.address == address) x false) is ∙ go (nat image nid)
  where
    go : (e : Option FormatNatEntry) → option_map_or (λ (at : NodePlace). at.address == address) (option_map place_of e) false ≡ option_map_or (λ (x : FormatNatEntry). x.address == address) e false
    go None = refl
    go (Some e) = refl

-- ---- the nodes of the chain

-- a node of the chain that counts and has this number
abbrev pub is_last : Image → ℕ → ℕ → Bool
is_last image nid n = is_counting image n && (footer_nid (chain_node image n) == nid)

-- where a node stands, if this is its last counting place
abbrev pub found_from : Image → ℕ → Option ℕ → Option NodePlace
found_from image nid last =
    cond (nat_le 3 nid && nat_lt nid (nid_limit (layout image))) (option_or (option_map (chain_place image) last) (option_map place_of (nat image nid))) None

-- where it stands after the first n nodes of the chain
abbrev pub found_before : Image → ℕ → ℕ → Option NodePlace
found_before image n nid = found_from image nid (find (is_last image nid) (reverse (numbers_below n)))

pub found-all : (image : Image) (nid : ℕ) → found_before image (chain_length image) nid ≡ found_place image nid
unfolding found_place
found-all image nid = refl

-- before the first one
started : (a b z : Bool) (p : NodePlace) (x : Option NodePlace) → b ≡ true → cond (a && not z) (Some p) None ≡ x → cond (a && not z) (Some p) None ≡ cond (a && b) x None
started true true z p x is same = same
started false b z p x is same = refl
started true false z p x is same = cc

pub found-none : (image : Image) (entries : List NatEntry) (nid : ℕ) (d : NatEntry) → HasTable image entries → nid < nid_limit (layout image)
    → place_said nid (get_or entries nid d) ≡ found_before image 0 nid
found-none image entries nid d has low =
    let e = get_or entries nid d in
    started (nat_le 3 nid) (nat_lt nid (nid_limit (layout image))) (e.addr == 0) (record { ino = e.ino; address = e.addr }) (option_map place_of (nat image nid))
    (lt-ltb nid (nid_limit (layout image)) low) (place-table image entries nid d has low)
    ∙ ap (λ l. found_from image nid (find (is_last image nid) (reverse l))) (sym numbers-none)

-- after one more
pub found-more : (image : Image) (n nid : ℕ) (counts : Bool) (node : ChainNode) (old new : NatEntry) → n < chain_length image → IsOffZero image → nid < nid_limit (layout image)
    → counts ≡ is_counting image n → node ≡ node_read image n → new ≡ cond (counts && (node.nid == nid)) (entry_of node) old
    → place_said nid old ≡ found_before image n nid → place_said nid new ≡ found_before image (n + 1) nid
found-more image n nid counts node old new within zero low counts_is node_is new_is before =
    ap (place_said nid) new_is
    ∙ (λ i. place_said nid (cond (counts_is i && ((node_is i).nid == nid)) (entry_of (node_is i)) old))
    ∙ go (is_last image nid n)
    ∙ sym reversed
  where
    reversed : found_before image (n + 1) nid ≡ found_from image nid (cond (is_last image nid n) (Some n) (find (is_last image nid) (reverse (numbers_below n))))
    reversed =
        ap (λ l. found_from image nid (find (is_last image nid) (reverse l))) (numbers-more n)
        ∙ ap (λ l. found_from image nid (find (is_last image nid) l)) (reverse-append (numbers_below n) (n ∷ []))

    go : (b : Bool) → place_said nid (cond b (entry_of (node_read image n)) old) ≡ found_from image nid (cond b (Some n) (find (is_last image nid) (reverse (numbers_below n))))
    go true =
        ap (λ z. cond (nat_le 3 nid && not z) (Some (chain_place image n)) None) (zero n within)
        ∙ ap (λ b. cond (nat_le 3 nid && b) (Some (chain_place image n)) None) (sym (lt-ltb nid (nid_limit (layout image)) low))
    go false = before

-- the nodes of a chain lie in main, and not at address 0
pub off-zero : (image : Image) (l : Layout) (nodes : List ℕ) → IsInOrder l → nodes ≡ chain image → list_all (is_main l) nodes ≡ true → IsOffZero image
off-zero image l nodes order are main = λ n low.
    let all : list_all (λ m. is_main l (chain_address image m)) (numbers_below (chain_length image)) ≡ true =
    sym (list_all-map (is_main l) (chain_address image) (numbers_below (chain_length image))) ∙ ap (list_all (is_main l)) (sym are) ∙ main in
    let here : is_main l (chain_address image n) ≡ true = each_below (λ m. is_main l (chain_address image m)) (chain_length image) all n low in
    let above = leb-true l.main (chain_address image n) (and_parts (nat_le l.main (chain_address image n)) (nat_lt (chain_address image n) (l.main + 512 * l.segments)) here).0 in
    let some = order.main in
    ne_eqb (chain_address image n) 0 (λ e. absurd (omega (arith, above, some, e)))
