-- How many address words of an inode name blocks.
use Rattle.std.proofs.Common.{◌≡◌, ℕ, ◌≤◌, Bool, true, false, cond, arith}
use Rattle.std.specs.Prelude.{◌||◌}
use Rattle.f2_bytes.specs.Node.{address_count, has_inline_xattr, has_inline_dentry}
use Rattle.f2_node.specs.Laws.{SlotsBeforeNids, SlotsBeforeAttributes}

-- the count of address words, as both bits say
count-most : (x d : Bool) → cond {A = ℕ} (x || d) 873 923 ≤ 923
count-most true d = omega arith
count-most false true = omega arith
count-most false false = omega arith

pub slots_before_nids : SlotsBeforeNids
unfolding address_count
slots_before_nids b = omega (arith, count-most (has_inline_xattr b) (has_inline_dentry b))

pub slots_before_attributes : SlotsBeforeAttributes
unfolding address_count
slots_before_attributes b has =
    let count : cond {A = ℕ} (has_inline_xattr b || has_inline_dentry b) 873 923 ≡ 873 = λ i. cond {A = ℕ} (has i || has_inline_dentry b) 873 923 in
    omega (arith, count)
