-- One directory more in the parts of rule 10 that look at whole directories.
use Rattle.std.proofs.Common.{◌≡◌, ℕ, ◌*◌, ◌/◌, List, ◌++◌, Bool, true, false, not, cond, Option, Some, None, refl, ap, subst, ◌∙◌}
use Rattle.std.specs.Option.{option_map_or}
use Rattle.f2_bytes.specs.Buckets.{level_of_block}
use Rattle.f2_bytes.specs.Bytes.{Block}
use Rattle.f2_bytes.specs.Check.{Comparison, Defect, same, at_least, fails_where, of_value}
use Rattle.f2_bytes.specs.Directory.{Item, block_slots}
use Rattle.f2_bytes.specs.Node.{current_depth, dir_level, is_inline, size}
use Rattle.f2_defects.specs.Collected.{Collection, Compares, defects_of}
use Rattle.f2_items.specs.Directories.{depth_comparison, dot_comparison, size_comparison, DepthCompared, DotCompared, SizeCompared}
use Rattle.f2_items.specs.ItemComparisons.{Finds}
use Rattle.f2_items.specs.OpenDirectories.{one_past, HoldsReach, ReachesIn, IsOpen}
use Rattle.f2_items.specs.declared.open_directory.OpenDirectory.{OpenDirectory}
use Rattle.f2_items.proofs.ItemSteps.{finds_more}
use Rattle.f2_view.specs.Directories.{legal}

-- a comparison more, under the number and the comparison that are wanted
finds_one : (part a ino : ℕ) (old new : Collection) (defects : List Defect) (made wanted : Option Comparison) → Finds part defects old → new.part ≡ old.part
    → a ≡ ino → made ≡ wanted → Compares old new a 0 made → Finds part (defects ++ defects_of part ino 0 wanted) new
finds_one part a ino old new defects made wanted finds number own is compares =
    subst (λ (l : List Defect). Finds part l new) (λ t. defects ++ defects_of part (own t) 0 (is t)) (finds_more part old new defects a 0 made finds number compares)

module _ (is_directory : ℕ → Bool) (ino : ℕ) (inode : Block) (items : List Item) (o : OpenDirectory) (is : IsOpen is_directory ino inode items o) where
  reaches : is_inline inode ≡ false → HoldsReach (dir_level inode) (legal items) o.reach
  reaches blocks = subst (λ b. ReachesIn (cond b None (Some (dir_level inode))) (legal items) o.reach) blocks is.reach

  in_blocks : (made : Option Comparison) (wanted : Block → Option Comparison) → (is_inline inode ≡ false → made ≡ wanted inode)
      → cond o.inode.is_inline None made ≡ of_value (cond (is_inline inode) None (Some inode)) wanted
  in_blocks made wanted same = ap (λ b. cond b None made) is.says.inline ∙ go (is_inline inode) refl
    where
      go : (b : Bool) → is_inline inode ≡ b → cond b None made ≡ of_value (cond b None (Some inode)) wanted
      go true e = refl
      go false e = same e

  depth_is : cond o.inode.is_inline None (at_least o.inode.current_depth o.reach.levels) ≡ depth_comparison inode items
  depth_is =
      in_blocks (at_least o.inode.current_depth o.reach.levels) (λ b. at_least (current_depth b) (one_past (λ item. level_of_block (dir_level b) (item.place / block_slots)) (legal items)))
      (λ e t. at_least (is.says.depth t) ((reaches e).levels t))

  size_is : cond o.inode.is_inline None (at_least o.inode.size (4096 * o.reach.blocks)) ≡ size_comparison inode items
  size_is =
      in_blocks (at_least o.inode.size (4096 * o.reach.blocks)) (λ b. at_least (size b) (4096 * one_past (λ item. item.place / block_slots) (legal items)))
      (λ e t. at_least (is.says.size_is t) (4096 * (reaches e).blocks t))

  dot_is : option_map_or (λ target. same target o.ino) o.dots.dot (fails_where (not o.inode.may_lack_dots) 0 o.ino) ≡ dot_comparison ino inode items
  dot_is = λ t. option_map_or (λ target. same target (is.number t)) (is.dots.dot_is t) (fails_where (not (is.says.dots t)) 0 (is.number t))

  module _ (old new : Collection) (defects : List Defect) (number : new.part ≡ old.part) where
    pub depth_compared : Finds 6 defects old → DepthCompared old new o → Finds 6 (defects ++ defects_of 6 ino 0 (depth_comparison inode items)) new
    depth_compared finds compares = finds_one 6 o.ino ino old new defects (cond o.inode.is_inline None (at_least o.inode.current_depth o.reach.levels)) (depth_comparison inode items) finds number is.number depth_is compares

    pub dot_compared : Finds 7 defects old → DotCompared old new o → Finds 7 (defects ++ defects_of 7 ino 0 (dot_comparison ino inode items)) new
    dot_compared finds compares =
        finds_one 7 o.ino ino old new defects (option_map_or (λ target. same target o.ino) o.dots.dot (fails_where (not o.inode.may_lack_dots) 0 o.ino)) (dot_comparison ino inode items) finds number is.number dot_is compares

    pub size_compared : Finds 9 defects old → SizeCompared old new o → Finds 9 (defects ++ defects_of 9 ino 0 (size_comparison inode items)) new
    size_compared finds compares = finds_one 9 o.ino ino old new defects (cond o.inode.is_inline None (at_least o.inode.size (4096 * o.reach.blocks))) (size_comparison inode items) finds number is.number size_is compares
