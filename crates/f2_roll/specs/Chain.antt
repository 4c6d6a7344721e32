-- What is kept of a chain of nodes.
use Rattle.std.specs.Prelude.{◌≡◌, ℕ, ◌*◌, ◌≤◌, Bool, true, not, ◌&&◌, ◌==◌, if◌then◌else◌, List, length, Option, Some, None, IfSome}
use Rattle.std.specs.List.{list_all, list_any}
use Rattle.std.specs.Ordering.{nat_cmp}
use Rattle.std.specs.BTreeSet.{BTreeSet, contains}
use Rattle.f2_bytes.specs.declared.layout.Layout.{Layout}
use Rattle.f2_bytes.specs.Bytes.{Block, Image, block_at}
use Rattle.f2_bytes.specs.Node.{footer_next}
use Rattle.f2_bytes.specs.Superblock.{is_main}
use Rattle.f2_bytes.specs.RollForward.{chain, chain_stop, is_of_version}
use Rattle.f2_roll.specs.declared.links.Link.{Link}

-- the addresses of its nodes, and the one at which it ends, where that lies in the main area
pub record Followed : Type 0 where
  pub nodes : List ℕ
  pub stop : Option ℕ

-- the chain of an image
abbrev pub chain_in : Image → Followed
chain_in image = record { nodes = chain image; stop = chain_stop image }

-- its addresses lie in the main area, which has no fewer blocks than the chain has nodes
pub record IsWithin (l : Layout) (c : Followed) : Type 0 where
  pub nodes : list_all (is_main l) c.nodes ≡ true
  pub stop : IfSome c.stop (λ at. is_main l at ≡ true)
  pub few : length c.nodes ≤ 512 * l.segments

-- one of the addresses is this one
abbrev pub is_among : List ℕ → ℕ → Bool
is_among addresses at = list_any (λ m. m == at) addresses

-- the set has the addresses of the list
abbrev pub HasEach : List ℕ → BTreeSet ℕ → Type 0
HasEach addresses set = (at : ℕ) → contains nat_cmp set at ≡ is_among addresses at

-- a chain with these nodes so far goes on at this address
abbrev pub goes_on : Layout → Block → List ℕ → Image → ℕ → Bool
goes_on l head nodes image address = is_main l address && not (is_among nodes address) && is_of_version head (block_at image address)

-- the node there, if it does
abbrev pub link_in : Layout → Block → List ℕ → Image → ℕ → Option Link
link_in l head nodes image address =
    if goes_on l head nodes image address then Some (record { at = address; next = footer_next (block_at image address) }) else None
