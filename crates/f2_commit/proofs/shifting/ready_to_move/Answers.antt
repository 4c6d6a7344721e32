use Rattle.std.proofs.Common.{◌≡◌, ◌+◌, ℕ, List, All, true, false, subst, sym, ap, ◌∙◌, arith}
use Rattle.f2_bytes.specs.Bytes.{Block}
use Rattle.f2_bytes.specs.Checkpoint.{checkpoint_ver}
use Rattle.f2_bytes.specs.Superblock.{is_main, segment_of}
use Rattle.f2_bytes.specs.Support.{is_free, is_support}
use Rattle.f2_disk.proofs.Runs.{reads_then, goes_then}
use Rattle.f2_view.specs.Mounted.{Mounted, IsMountOf, layout_in}
use Rattle.f2_gather.specs.declared.gathering.MovedBlock.{MovedBlock}
use Rattle.f2_gather.specs.Gathering.{addresses_of, moved_block}
use Rattle.f2_change.specs.Writes.{committed}
use Rattle.f2_commit.proofs.ShiftWhole.{found_free, found_spare, found_moves, need_met, some_has}
use Rattle.f2_change.proofs.Valid.{sealed_version}
use Rattle.f2_commit.proofs.shifting.ready_to_move.Goals as goal

pub returns-then-segments_for-targets-clause-some : goal.returns-then-segments_for-targets-clause-some
returns-then-segments_for-targets-clause-some g c = λ image told.
    let found = c.in_ok-found.ensures in
    let enough = need_met image c.args.addrs.now c.args.targets.now c.in_ok-found.found.data.items c.in_ok-found.found.nodes.items (c.requires.targets image told) (found.data image told) (found.nodes image told) in
    absurd (omega (arith, enough, c.segments_for.ensures, c.segments_for-2.ensures, c.if-segments_for-targets.true))

pub prepare-requires-clause-of_image : goal.prepare-requires-clause-of_image
prepare-requires-clause-of_image g c = λ image now.
    subst (IsMountOf image) (sym (c.in_ok-change.ensures.mount ∙ c.in_ok-found.ensures.mount))
    (c.requires.of_image image (sym c.in_ok-found.ensures.reads.told ∙ sym c.in_ok-change.ensures.reads.told ∙ now))

pub prepare-requires-clause-free : goal.prepare-requires-clause-free
prepare-requires-clause-free g c = λ image now.
    let told = sym c.in_ok-found.ensures.reads.told ∙ sym c.in_ok-change.ensures.reads.told ∙ now in
    let found = c.in_ok-found.ensures in
    let of = c.requires.of_image image told in
    let parts = some_has _ _ _ c.in-Some.is c.in_ok-change.ensures.parts image (found.reads.told ∙ told) (subst (IsMountOf image) (sym found.mount) of) (c.requires.checked image told) c.args.addrs.now
    (ap addresses_of c.deref.ensures.value ∙ found.data image told) (subst (λ (bs : List MovedBlock). All (λ b. b ≡ moved_block image b.address) bs) (sym c.deref.ensures.value) (found.blocks image told))
    (c.deref-2.ensures.value ∙ found.nodes image told) in
    subst (λ (m : Mounted). All (λ (w : ℕ × Block). is_free image (segment_of (layout_in m) w.0) ≡ true) c.in-Some.change.blocks.items) (sym (c.in_ok-change.ensures.mount ∙ found.mount))
    (found_free image c.args.m.now of (c.requires.checked image told) _ (g.met.D.Disk.whole c.args.d.now image told) c.args.addrs.now c.args.targets.now _ c.requires.main (c.requires.targets image told) c.deref.result.now c.in-Some.change parts)

pub prepare-requires-clause-spare : goal.prepare-requires-clause-spare
prepare-requires-clause-spare g c = λ image now.
    let told = sym c.in_ok-found.ensures.reads.told ∙ sym c.in_ok-change.ensures.reads.told ∙ now in
    let found = c.in_ok-found.ensures in
    let of = c.requires.of_image image told in
    let parts = some_has _ _ _ c.in-Some.is c.in_ok-change.ensures.parts image (found.reads.told ∙ told) (subst (IsMountOf image) (sym found.mount) of) (c.requires.checked image told) c.args.addrs.now
    (ap addresses_of c.deref.ensures.value ∙ found.data image told) (subst (λ (bs : List MovedBlock). All (λ b. b ≡ moved_block image b.address) bs) (sym c.deref.ensures.value) (found.blocks image told))
    (c.deref-2.ensures.value ∙ found.nodes image told) in
    subst (λ (m : Mounted). All (λ (w : ℕ × Block). is_support image ((layout_in m).ssa + w.0) ≡ false) c.in-Some.change.sums.items) (sym (c.in_ok-change.ensures.mount ∙ found.mount))
    (found_spare image c.args.m.now of (c.requires.checked image told) _ (g.met.D.Disk.whole c.args.d.now image told) c.args.addrs.now c.args.targets.now _ c.requires.main (c.requires.targets image told) c.deref.result.now c.in-Some.change parts)

pub returns-in-Some-clause-moves : goal.returns-in-Some-clause-moves
returns-in-Some-clause-moves g c = λ image told.
    let found = c.in_ok-found.ensures in
    let of = c.requires.of_image image told in
    let parts = some_has _ _ _ c.in-Some.is c.in_ok-change.ensures.parts image (found.reads.told ∙ told) (subst (IsMountOf image) (sym found.mount) of) (c.requires.checked image told) c.args.addrs.now
    (ap addresses_of c.deref.ensures.value ∙ found.data image told) (subst (λ (bs : List MovedBlock). All (λ b. b ≡ moved_block image b.address) bs) (sym c.deref.ensures.value) (found.blocks image told))
    (c.deref-2.ensures.value ∙ found.nodes image told) in
    let ready = c.in_ok-prepare-in-Some.field-0 in
    found_moves image c.args.m.now of (c.requires.checked image told) _ (g.met.D.Disk.whole c.args.d.now image told) c.args.addrs.now c.args.targets.now _ c.requires.main (c.requires.targets image told) c.deref.result.now c.in-Some.change parts
    (committed ready image) ready.pack c.requires.ascending (c.in_ok-prepare-in-Some.ensures.carries image (c.in_ok-change.ensures.reads.told ∙ found.reads.told ∙ told))

pub returns-in-Some-clause-near : goal.returns-in-Some-clause-near
returns-in-Some-clause-near g c =
    let own : c.moving.new.m ≡ c.args.m.now = c.in_ok-change.ensures.mount ∙ c.in_ok-found.ensures.mount in
    let ready = c.in_ok-prepare-in-Some.field-0 in
    let near = c.in_ok-prepare-in-Some.ensures.near in
    let old = ap (λ (m : Mounted). checkpoint_ver m.chosen.head) own in
    let sealed = sealed_version ready.pack.head c.in_ok-prepare-in-Some.ensures.made.new_head.block.length in
    omega (arith, near, old, sealed)

pub returns-in-Some-clause-avoids : goal.returns-in-Some-clause-avoids
returns-in-Some-clause-avoids g c = λ image told. c.in_ok-prepare-in-Some.ensures.avoids image (c.in_ok-change.ensures.reads.told ∙ c.in_ok-found.ensures.reads.told ∙ told)

pub returns-in-Some-clause-reads : goal.returns-in-Some-clause-reads
returns-in-Some-clause-reads g c =
    let first = c.in_ok-found.ensures in
    let second = c.in_ok-change.ensures in
    reads_then (goes_then first.goes second.goes).later (reads_then first.goes.later first.reads second.reads) c.in_ok-prepare-in-Some.ensures.reads

pub returns-in-Some-clause-goes : goal.returns-in-Some-clause-goes
returns-in-Some-clause-goes g c = goes_then (goes_then c.in_ok-found.ensures.goes c.in_ok-change.ensures.goes) c.in_ok-prepare-in-Some.ensures.goes

pub returns-clause-some : goal.returns-clause-some
returns-clause-some g c = λ image told.
    let found = c.in_ok-found.ensures in
    let of = c.requires.of_image image told in
    absurd (c.in_ok-change.ensures.some image (found.reads.told ∙ told) (subst (IsMountOf image) (sym found.mount) of) (c.requires.checked image told) c.args.addrs.now
    (subst (λ (m : Mounted). All (λ a. is_main (layout_in m) a ≡ true) c.args.addrs.now) (sym found.mount) c.requires.main) (c.deref-2.ensures.value ∙ found.nodes image told) c.in-None.is)
