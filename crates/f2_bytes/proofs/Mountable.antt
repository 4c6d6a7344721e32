-- A checked image can be mounted.
use Rattle.std.proofs.lemmas.Bool.{and_parts, and_from, lt-ltb}
use Rattle.std.specs.Prelude.{is_none}
use Rattle.f2_bytes.specs.Check.{is_readable, failing_rule}
use Rattle.f2_bytes.specs.Laws.{CheckedIsMountable}

-- what is checked is readable, and only the version can be too high for a mount
pub checked_is_mountable : CheckedIsMountable
checked_is_mountable image h low =
    let readable = and_parts _ _ (and_parts (is_readable image) (is_none (failing_rule image 1)) h).0 in
    and_from _ _ (and_from _ _ readable.0 (lt-ltb _ _ low)) readable.1
