use Rattle.std.proofs.Common.{◌≡◌, ◌≤◌, ◌+◌, ◌*◌, ◌++◌, [], length, get_or, map}
use Rattle.std.specs.Prelude.{flat_map}
use Rattle.f2_bytes.specs.Bytes.{numbers_below}
use Rattle.f2_bytes.specs.Fields.{field_at}
use Rattle.f2_dump.specs.Fields.{field_line}
use Rattle.f2_dump.proofs.lines.push_fields.Given as goal

-- the lines of the fields so far
abbrev pub invariant-loop-k : goal.invariant-loop-k
invariant-loop-k g l = record {
  lines : l.text.items ≡ l.fn.text.items ++ flat_map (λ k. field_line (get_or (map (λ name. name.now) l.fn.names) k []) (field_at l.fn.table.rows l.fn.block k)) (numbers_below l.k);
  size : length l.text.items ≤ length l.fn.text.items + 64 * l.k;
}
