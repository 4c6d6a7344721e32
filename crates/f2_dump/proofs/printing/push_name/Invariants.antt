use Rattle.std.proofs.Common.{◌≡◌, ◌≤◌, ◌+◌, ◌*◌, ◌++◌, length, take}
use Rattle.f2_dump.specs.Trees.{printed_name}
use Rattle.f2_dump.proofs.printing.push_name.Given as goal

-- the bytes so far
abbrev pub invariant-loop-c : goal.invariant-loop-c
invariant-loop-c l = record {
  name : l.text.items ≡ l.fn.text.items ++ printed_name (take l.c-index l.name);
  size : length l.text.items ≤ length l.fn.text.items + 4 * l.c-index;
}
