use Rattle.std.proofs.Common.{◌≡◌, ◌+◌, ◌-◌, ◌∙◌, Some, sym, ap, arith}
use Rattle.f2_bytes.specs.Bytes.{Image}
use Rattle.f2_disk.proofs.Runs.{goes_then}
use Rattle.f2_pack.specs.Written.{written}
use Rattle.f2_change.specs.Writes.{Prepared, head_address, pack_body, with_writes}
use Rattle.f2_change.proofs.SameBlocks.{row, body_row, body_written, body_more, writes_none}
use Rattle.f2_change.proofs.WriteRuns.{goes_same, only_start, only_one, only_then}
use Rattle.f2_change.proofs.committing.write_pack_body.Goals as goal

pub loop-k-init : goal.loop-k-init
loop-k-init g c = record {
  done = λ image told. told ∙ ap (λ (i : Image). Some i) (sym (writes_none image));
  only = only_start (pack_body c.args.r.now) (g.D.Disk.state c.args.d.now);
  goes = goes_same (g.D.Disk.state c.args.d.now);
}

pub returns-in_err-write-clause-only : goal.returns-in_err-write-clause-only
returns-in_err-write-clause-only g c =
    let r = c.args.r.now in
    let k = c.loop-k.k in
    let written_to = body_written r k (c.address_of_head-head.result + k) (omega arith) (omega arith) (ap (λ n. n + k) c.address_of_head-head.ensures.address) in
    only_then c.loop-k.invariant.goes.later c.loop-k.invariant.only (only_one (pack_body r) (c.address_of_head-head.result + k) c.write_body.new.b written_to c.write.ensures.writes)

pub loop-k-preserved : goal.loop-k-preserved
loop-k-preserved g c =
    let r = c.args.r.now in
    let k = c.loop-k.k in
    let at = c.address_of_head-head.result + k in
    let at_is : at ≡ head_address r + k = ap (λ n. n + k) c.address_of_head-head.ensures.address in
    let block_is : c.write_body.new.b ≡ written r.pack k = c.write_body.ensures ∙ ap (λ (x : Prepared). written x.pack k) c.r.view_is in
    let written_to = body_written r k at (omega arith) (omega arith) at_is in
    record {
      done = λ image told.
          c.in_ok-write.ensures.done.told (with_writes image (row (head_address r) (written r.pack) 1 (k - 1))) (c.loop-k.invariant.done image told)
          ∙ ap (λ (i : Image). Some i) (body_more r image k at c.write_body.new.b (omega arith) at_is block_is);
      only = only_then c.loop-k.invariant.goes.later c.loop-k.invariant.only (only_one (pack_body r) at c.write_body.new.b written_to c.write.ensures.writes);
      goes = goes_then c.loop-k.invariant.goes c.write.ensures.goes;
    }

pub returns-clause-done : goal.returns-clause-done
returns-clause-done g c = λ image told.
    let r = c.args.r.now in
    let all : c.loop-k.k - 1 ≡ 7 = omega arith in
    c.loop-k.invariant.done image told
    ∙ ap (λ n. Some (with_writes image (row (head_address r) (written r.pack) 1 n))) all
    ∙ ap (λ bs. Some (with_writes image bs)) (sym (body_row r))
