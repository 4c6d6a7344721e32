use Rattle.std.proofs.Common.{◌≡◌, ◌*◌, ◌++◌, List, ℕ, Bool, true, false, cond, length, map, subst, sym, ap, ◌∙◌, arith}
use Rattle.std.specs.Prelude.{Option, Some, None}
use Rattle.f2_bytes.specs.Buckets.{bucket_of_block, level_of_block}
use Rattle.f2_bytes.specs.Bytes.{Block}
use Rattle.f2_bytes.specs.Directory.{block_items, block_slots, scan}
use Rattle.f2_bytes.specs.Node.{is_inline}
use Rattle.f2_items.specs.Directories.{HasRead}
use Rattle.f2_items.specs.OpenDirectories.{depth_of, FitsDepth, IsBlockIn}
use Rattle.f2_bytes.specs.Node.{dir_level}
use Rattle.f2_items.proofs.names_of_directories.Names.scan_block.Goals as goal
use Rattle.f2_view.specs.Directories.{shifted}

pub returns-then-directory : goal.returns-then-directory
returns-then-directory c = λ image limit before namings ino inode items known read.
    let inline : is_inline inode ≡ true = sym read.directory.says.inline ∙ c.if-directory.true in
    subst (λ (b : Bool). HasRead image limit before namings ino inode (cond b items (items ++ block_items c.args.k c.args.block.now)) c.args.self.now c.args.directory.now) (sym inline) read

pub scan-requires-clause-room : goal.scan-requires-clause-room
scan-requires-clause-room c = omega (arith, ap (λ (b : List ℕ). length b) c.bytes.ensures.same, c.bytes.ensures.block.length)

pub returns : goal.returns
returns c = λ image limit before namings ino inode items known read.
    let inline : is_inline inode ≡ false = sym read.directory.says.inline ∙ c.if-directory.false in
    let place = c.new-place.result in
    let depth : place.dir_level ≡ dir_level inode = c.new-place.ensures.dir_level ∙ read.directory.says.level in
    let number = c.new-place.ensures.number in
    let level : place.level ≡ level_of_block (dir_level inode) place.number = c.new-place.ensures.level ∙ λ t. level_of_block (read.directory.says.level t) (sym number t) in
    let bucket : place.bucket ≡ bucket_of_block (dir_level inode) place.number = c.new-place.ensures.bucket ∙ λ t. bucket_of_block (read.directory.says.level t) (sym number t) in
    let fits : IsBlockIn (dir_level inode) place = record { depth_is = depth; level = level; bucket = bucket } in
    let stands : Some (dir_level inode) ≡ depth_of inode = ap (λ b. cond b None (Some (dir_level inode))) (sym inline) in
    let lies : block_slots * c.args.k ≡ block_slots * place.number = ap (λ n. block_slots * n) (sym number) in
    subst (λ (b : Bool). HasRead image limit before namings ino inode (cond b items (items ++ block_items c.args.k c.args.block.now)) c.scan.new.self c.scan.new.directory) (sym inline)
    (subst (λ (b : Block). HasRead image limit before namings ino inode (items ++ map (shifted (block_slots * c.args.k)) (scan b block_slots)) c.scan.new.self c.scan.new.directory) c.bytes.ensures.same
    (c.in_ok-scan.ensures image limit before namings ino inode items known (subst (λ (d : Option ℕ). FitsDepth d (Some place)) stands fits) (lies, omega arith) read))
