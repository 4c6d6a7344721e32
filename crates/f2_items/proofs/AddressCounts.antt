-- An inode has at most 923 address words.
use Rattle.std.proofs.Common.{ℕ, ◌≤◌, Bool, true, false, cond, ◌||◌, lit≤}
use Rattle.f2_bytes.specs.Bytes.{Block}
use Rattle.f2_bytes.specs.Node.{address_count, has_inline_xattr, has_inline_dentry}

pub address_count-few : (b : Block) → address_count b ≤ 923
unfolding address_count
address_count-few b = go (has_inline_xattr b || has_inline_dentry b)
  where
    go : (c : Bool) → cond c 873 923 ≤ 923
    go true = lit≤ tt
    go false = lit≤ tt
