-- The node that is read by its nid.
use Rattle.std.proofs.Common.{◌≡◌, ℕ, ◌+◌, ◌*◌, ◌≤◌, ◌<◌, Bool, true, false, cond, Some, None, refl, sym, ap, ◌∙◌, arith}
use Rattle.std.specs.Prelude.{◌&&◌, not, ◌==◌, nat_le, nat_lt}
use Rattle.std.specs.Option.{option_and_then}
use Rattle.std.proofs.lemmas.Bool.{lt-leb, le-leb, le-ltb, lt-ltb, eqb-true}
use Rattle.f2_bytes.specs.declared.layout.Layout.{Layout}
use Rattle.f2_bytes.specs.Bytes.{Image, block_at}
use Rattle.f2_bytes.specs.Journal.{NatEntry}
use Rattle.f2_bytes.specs.NodeAddressTable.{nat, nid_limit, is_live, image_nat_entry}
use Rattle.f2_bytes.specs.Superblock.{layout, IsInOrder}
use Rattle.f2_bytes.specs.Tree.{main_block, read_node}
use Rattle.f2_view.specs.Mounted.{Mounted, IsMountOf, layout_in}
use Rattle.f2_view.proofs.TableReadings.{own_layout}

inside : (p q z : Bool) → p ≡ true → q ≡ true → (p && q && not z) ≡ not z
inside true true z a b = refl
inside false q z a b = cc
inside true false z a b = cc

not_first : (p q z : Bool) → p ≡ false → (p && q && not z) ≡ false
not_first false q z is = refl
not_first true q z is = cc

not_second : (p q z : Bool) → q ≡ false → (p && q && not z) ≡ false
not_second false q z is = refl
not_second true false z is = refl
not_second true true z is = cc

-- a number that is none of a node's
unlive : (image : Image) (nid : ℕ) → is_live (layout image) nid (image_nat_entry image nid) ≡ false → read_node image nid ≡ None
unfolding read_node nat
unlive image nid is = ap (λ b. option_and_then (λ (e : NatEntry). main_block image e.address) (cond b (Some (image_nat_entry image nid)) None)) is

pub low_nid : (image : Image) (nid : ℕ) → nid < 3 → read_node image nid ≡ None
low_nid image nid low = unlive image nid (not_first (nat_le 3 nid) (nat_lt nid (nid_limit (layout image))) ((image_nat_entry image nid).address == 0) (lt-leb 3 nid low))

-- no block of main has address 0
pub hole : (image : Image) (m : Mounted) → IsMountOf image m → IsInOrder (layout_in m) → (address : ℕ) → address ≡ 0 → main_block image address ≡ None
hole image m of order address zero =
    let main : (layout_in m).main ≡ (layout image).main = ap (λ (l : Layout). l.main) (own_layout image m of) in
    let low : nat_le (layout image).main address ≡ false = lt-leb (layout image).main address (omega (arith, zero, main, order.main)) in
    ap (λ b. cond (b && nat_lt address ((layout image).main + 512 * (layout image).segments)) (Some (block_at image address)) None) low

module _ (image : Image) (m : Mounted) (of : IsMountOf image m) (nid : ℕ) where
  pub high_nid : nid_limit (layout_in m) ≤ nid → read_node image nid ≡ None
  high_nid high =
      let limit : nid_limit (layout_in m) ≡ nid_limit (layout image) = ap nid_limit (own_layout image m of) in
      unlive image nid (not_second (nat_le 3 nid) (nat_lt nid (nid_limit (layout image))) ((image_nat_entry image nid).address == 0) (le-ltb nid (nid_limit (layout image)) (omega (arith, limit, high))))

  -- at an address outside of main the table has no node, and none is there
  pub read_entry : (e : NatEntry) → e ≡ image_nat_entry image nid → IsInOrder (layout_in m) → 3 ≤ nid → nid < nid_limit (layout_in m) → read_node image nid ≡ main_block image e.address
  unfolding read_node nat
  read_entry e entry order least high =
      ap (λ (x : NatEntry). option_and_then (λ (y : NatEntry). main_block image y.address) (cond (is_live l nid x) (Some x) None)) (sym entry)
      ∙ ap (λ b. option_and_then (λ (y : NatEntry). main_block image y.address) (cond b (Some e) None)) live
      ∙ go (e.address == 0) refl
    where
      l : Layout
      l = layout image

      limit : nid_limit (layout_in m) ≡ nid_limit l
      limit = ap nid_limit (own_layout image m of)

      live : is_live l nid e ≡ not (e.address == 0)
      live = inside (nat_le 3 nid) (nat_lt nid (nid_limit l)) (e.address == 0) (le-leb 3 nid least) (lt-ltb nid (nid_limit l) (omega (arith, limit, high)))

      go : (zero : Bool) → (e.address == 0) ≡ zero → option_and_then (λ (y : NatEntry). main_block image y.address) (cond (not zero) (Some e) None) ≡ main_block image e.address
      go true is = sym (hole image m of order e.address (eqb-true e.address 0 is))
      go false is = refl
