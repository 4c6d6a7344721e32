-- Numbers of the node address table that no node has.
use Rattle.std.specs.Prelude.{◌≡◌, ◌≢◌, ℕ, ◌-◌, ◌≤◌, ◌<◌, find, Option, None, is_none, unwrap_or, IfSome}
use Rattle.std.specs.List.{range_with_len}
use Rattle.f2_bytes.specs.Bytes.{Image}
use Rattle.f2_bytes.specs.Journal.{NatEntry}
use Rattle.f2_bytes.specs.NodeAddressTable.{nid_limit, nat}
use Rattle.f2_bytes.specs.Superblock.{layout}

-- the least number from one on and below another whose entry has no address, if there is one
pub record IsFirstFree (from to : ℕ) (entry : ℕ → NatEntry) (found : Option ℕ) : Type 0 where
  pub within : IfSome found (λ n. (from ≤ n) × (n < to))
  pub free : IfSome found (λ n. (entry n).address ≡ 0)
  pub least : IfSome found (λ n. (k : ℕ) → from ≤ k → k < n → (entry k).address ≢ 0)
  pub none : found ≡ None → (k : ℕ) → from ≤ k → k < to → (entry k).address ≢ 0

-- where a new node is looked for: the least number from 4 on that no node has, or 4
unfoldable pub least_free_nid : Image → ℕ
least_free_nid image = unwrap_or (find (λ nid. is_none (nat image nid)) (range_with_len 4 (nid_limit (layout image) - 4))) 4
