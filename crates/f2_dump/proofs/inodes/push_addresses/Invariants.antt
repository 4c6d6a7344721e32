use Rattle.std.proofs.Common.{◌≡◌, ◌≤◌, ◌+◌, ◌*◌, ◌++◌, length}
use Rattle.std.specs.Prelude.{flat_map}
use Rattle.f2_bytes.specs.Bytes.{numbers_below}
use Rattle.f2_dump.specs.Files.{address_line}
use Rattle.f2_dump.proofs.inodes.push_addresses.Given as goal

-- the lines so far
abbrev pub invariant-loop-j : goal.invariant-loop-j
invariant-loop-j l = record {
  lines : l.text.items ≡ l.fn.text.items ++ flat_map (address_line l.fn.b) (numbers_below l.j);
  size : length l.text.items ≤ length l.fn.text.items + 47 * l.j;
}
