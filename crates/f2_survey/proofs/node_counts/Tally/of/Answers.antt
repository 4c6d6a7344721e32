use Rattle.std.proofs.Common.{◌≡◌, ◌<◌, ℕ, length, get_or, ap, ◌∙◌, arith}
use Rattle.std.proofs.lemmas.List.{get_or-replicate}
use Rattle.std.specs.Prelude.{is_some}
use Rattle.f2_bytes.specs.NodeAddressTable.{nat}
use Rattle.f2_bytes.specs.Tree.{is_inode}
use Rattle.f2_survey.specs.Known.{belongs_to}
use Rattle.f2_survey.proofs.NodeCounts.{count-none}
use Rattle.f2_survey.proofs.node_counts.Tally.of.Goals as goal

pub loop-nid-init : goal.loop-nid-init
loop-nid-init c =
    let v = c.in_ok-vec.field-0 in
    let zeros = c.in_ok-vec.ensures.items_if_clones_equal (λ y e. e) in
    let long : length v.items ≡ c.limit-limit.result = omega (arith, c.in_ok-vec.ensures.len) in
    let zero : (ino : ℕ) → ino < length v.items → get_or v.items ino 0 ≡ 0 =
    λ ino low. ap (λ l. get_or l ino 0) zeros ∙ get_or-replicate c.limit-limit.result ino 0 0 (omega (arith, low, long)) in
    record {
      most = record { nodes = omega arith; inodes = omega arith; of_files = λ ino low. omega (arith, zero ino low) };
      each = long;
      counts = λ image known. record {
        nodes = count-none (λ nid. is_some (nat image nid));
        inodes = count-none (is_inode image);
        of_files = λ ino low. zero ino low ∙ count-none (λ nid. belongs_to image nid ino);
      };
    }
