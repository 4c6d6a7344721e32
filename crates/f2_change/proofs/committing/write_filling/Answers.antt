use Rattle.std.proofs.Common.{◌≡◌, ◌∙◌, List, Some, ap, sym, subst, ℕ}
use Rattle.f2_bytes.specs.Bytes.{Block, Image}
use Rattle.f2_change.specs.CommitSteps.{WritesOnly}
use Rattle.f2_change.specs.Writes.{Prepared, pack_body, with_writes}
use Rattle.f2_change.proofs.SameBlocks.{within_front, within_back, writes_append}
use Rattle.f2_change.proofs.WriteRuns.{only_then, only_within, ok_map}
use Rattle.f2_change.proofs.committing.write_filling.Goals as goal

pub returns-in_err-write_blocks-clause-only : goal.returns-in_err-write_blocks-clause-only
returns-in_err-write_blocks-clause-only g c =
    let r = c.args.r.now in
    let same : c.deref.result.now ≡ r.blocks = c.deref.ensures.value ∙ ap (λ (x : Prepared). x.blocks) c.r.view_is in
    only_within (within_front r.blocks (pack_body r)) (subst (λ (bs : List (ℕ × Block)). WritesOnly bs (g.D.Disk.state c.args.d.now) (g.D.Disk.state c.write_blocks.new.d)) same c.write_blocks.ensures.only)

pub returns-clause-done : goal.returns-clause-done
returns-clause-done g c =
    let r = c.args.r.now in
    let same : c.deref.result.now ≡ r.blocks = c.deref.ensures.value ∙ ap (λ (x : Prepared). x.blocks) c.r.view_is in
    ok_map c.write_pack_body.result (λ done image told.
    done (with_writes image c.deref.result.now) (c.in_ok-write_blocks.ensures.done image told)
    ∙ ap (λ (bs : List (ℕ × Block)). Some (with_writes (with_writes image bs) (pack_body r))) same
    ∙ ap (λ (i : Image). Some i) (sym (writes_append image r.blocks (pack_body r)))) c.write_pack_body.ensures.done

pub returns-clause-only : goal.returns-clause-only
returns-clause-only g c =
    let r = c.args.r.now in
    let same : c.deref.result.now ≡ r.blocks = c.deref.ensures.value ∙ ap (λ (x : Prepared). x.blocks) c.r.view_is in
    only_then c.write_blocks.ensures.goes.later
    (only_within (within_front r.blocks (pack_body r)) (subst (λ (bs : List (ℕ × Block)). WritesOnly bs (g.D.Disk.state c.args.d.now) (g.D.Disk.state c.write_blocks.new.d)) same c.write_blocks.ensures.only))
    (only_within (within_back r.blocks (pack_body r)) c.write_pack_body.ensures.only)
