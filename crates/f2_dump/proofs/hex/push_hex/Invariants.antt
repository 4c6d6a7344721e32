use Rattle.std.proofs.Common.{◌≡◌, ◌≤◌, ◌+◌, ◌*◌, ◌++◌, length, take}
use Rattle.f2_dump.specs.Text.{hex_bytes}
use Rattle.f2_dump.proofs.hex.push_hex.Given as goal

-- the digits so far
abbrev pub invariant-loop-b : goal.invariant-loop-b
invariant-loop-b l = record {
  digits : l.text.items ≡ l.fn.text.items ++ hex_bytes (take l.b-index l.bytes);
  size : length l.text.items ≤ length l.fn.text.items + 2 * l.b-index;
}
