-- Nodes that are read by their entries.
use Rattle.std.proofs.Common.{◌≡◌, ℕ, Option, sym, ap}
use Rattle.std.specs.Option.{option_and_then}
use Rattle.f2_bytes.specs.Bytes.{Image}
use Rattle.f2_bytes.specs.Journal.{NatEntry}
use Rattle.f2_bytes.specs.NodeAddressTable.{nat}
use Rattle.f2_bytes.specs.Tree.{main_block, read_node}

pub by_entry : (image : Image) (nid : ℕ) (o : Option NatEntry) → o ≡ nat image nid → read_node image nid ≡ option_and_then (λ e. main_block image e.address) o
unfolding read_node
by_entry image nid o is = ap (option_and_then (λ (e : NatEntry). main_block image e.address)) (sym is)
