use Rattle.std.proofs.Common.{◌≡◌, ◌≤◌, ◌+◌, ◌*◌, ◌++◌, length}
use Rattle.std.specs.Prelude.{flat_map}
use Rattle.f2_bytes.specs.Bytes.{numbers_below}
use Rattle.f2_dump.specs.Text.{row_line}
use Rattle.f2_dump.proofs.hex.push_rows.Given as goal

-- the lines so far
abbrev pub invariant-loop-k : goal.invariant-loop-k
invariant-loop-k l = record {
  lines : l.text.items ≡ l.fn.text.items ++ flat_map (row_line l.bytes) (numbers_below l.k);
  size : length l.text.items ≤ length l.fn.text.items + 38 * l.k;
}
