use Rattle.std.proofs.Common.{◌≡◌, length, map}
use Rattle.f2_bytes.specs.Bytes.{Image, numbers_below}
use Rattle.f2_bytes.specs.RollForward.{is_counting}
use Rattle.f2_free.specs.ChainNodes.{nodes_read}
use Rattle.f2_free.proofs.fsyncs.counting.Given as goal

-- whether the nodes so far count
abbrev pub invariant-loop-n : goal.invariant-loop-n
invariant-loop-n l = record {
  each : length l.counts.items ≡ l.n;
  counts : (image : Image) → l.nodes ≡ nodes_read image → l.counts.items ≡ map (is_counting image) (numbers_below l.n);
}
