use Rattle.std.proofs.Common.{◌≡◌, ◌+◌, ◌*◌, sym, ap, ◌∙◌, arith}
use Rattle.std.specs.Prelude.{unwrap_or}
use Rattle.f2_bytes.specs.Bytes.{block_at}
use Rattle.f2_bytes.specs.Checkpoint.{sit_ver_bitmap_bytesize, nat_ver_bitmap_bytesize}
use Rattle.f2_bytes.specs.declared.layout.Layout.{Layout}
use Rattle.f2_pack.specs.declared.checkpoint.Log.{Log}
use Rattle.f2_pack.specs.Held.{Held}
use Rattle.f2_view.specs.Mounted.{layout_in}
use Rattle.f2_change.specs.Carried.{next_address}
use Rattle.f2_change.specs.Change.{given, log_at, next_version}
use Rattle.f2_change.proofs.FollowingHeads.{length_sit, length_nat, its_version, follows-head}
use Rattle.f2_change.proofs.preparing.new_head.Goals as goal

pub next_head-requires-clause-sit : goal.next_head-requires-clause-sit
next_head-requires-clause-sit g c =
    let m = c.args.m.now in
    let is_old : c.block.result.now ≡ m.chosen.head = c.block.ensures.same ∙ c.head.ensures.value ∙ ap (λ (h : Held). h.head) c.chosen.ensures in
    c.requires.sit.size ∙ length_sit m c.layout-l.ensures.kept ∙ ap sit_ver_bitmap_bytesize (sym is_old)

pub next_head-requires-clause-nat : goal.next_head-requires-clause-nat
next_head-requires-clause-nat g c =
    let m = c.args.m.now in
    let is_old : c.block.result.now ≡ m.chosen.head = c.block.ensures.same ∙ c.head.ensures.value ∙ ap (λ (h : Held). h.head) c.chosen.ensures in
    c.requires.nat.size ∙ length_nat m c.layout-l.ensures.kept ∙ ap nat_ver_bitmap_bytesize (sym is_old)

pub next_head-requires-clause-room : goal.next_head-requires-clause-room
next_head-requires-clause-room g c =
    let m = c.args.m.now in
    let kept = c.layout-l.ensures.kept in
    omega (arith, c.requires.sit.size, length_sit m kept, c.requires.nat.size, length_nat m kept, kept.chosen.held.bitmaps)

pub returns-clause-head : goal.returns-clause-head
returns-clause-head g c =
    let m = c.args.m.now in
    let is_old : c.block.result.now ≡ m.chosen.head = c.block.ensures.same ∙ c.head.ensures.value ∙ ap (λ (h : Held). h.head) c.chosen.ensures in
    follows-head m c.args.c.now c.block.result.now c.next_head.result c.next_version-version.result c.args.sit.now c.args.nat.now is_old c.requires.sit c.requires.nat c.next_head.ensures

pub returns-clause-later : goal.returns-clause-later
returns-clause-later g c =
    let m = c.args.m.now in
    let is_old : c.block.result.now ≡ m.chosen.head = c.block.ensures.same ∙ c.head.ensures.value ∙ ap (λ (h : Held). h.head) c.chosen.ensures in
    let version = its_version m c.args.c.now c.block.result.now c.next_head.result c.next_version-version.result c.args.sit.now c.args.nat.now is_old c.requires.sit c.requires.nat c.next_head.ensures in
    omega (arith, version, c.next_version-version.ensures.later, c.version.ensures)

pub returns-clause-near : goal.returns-clause-near
returns-clause-near g c =
    let m = c.args.m.now in
    let is_old : c.block.result.now ≡ m.chosen.head = c.block.ensures.same ∙ c.head.ensures.value ∙ ap (λ (h : Held). h.head) c.chosen.ensures in
    let version = its_version m c.args.c.now c.block.result.now c.next_head.result c.next_version-version.result c.args.sit.now c.args.nat.now is_old c.requires.sit c.requires.nat c.next_head.ensures in
    omega (arith, version, c.next_version-version.ensures.near, c.version.ensures)

pub returns-clause-version : goal.returns-clause-version
returns-clause-version g c = λ image told.
    let m = c.args.m.now in
    let blocks = c.args.c.now.blocks.items in
    let is_old : c.block.result.now ≡ m.chosen.head = c.block.ensures.same ∙ c.head.ensures.value ∙ ap (λ (h : Held). h.head) c.chosen.ensures in
    let version = its_version m c.args.c.now c.block.result.now c.next_head.result c.next_version-version.result c.args.sit.now c.args.nat.now is_old c.requires.sit c.requires.nat c.next_head.ensures in
    let at : c.layout-l.result.main + 512 * c.warm_nodes-log.result.segno + c.from.result ≡ next_address (layout_in m) (log_at c.args.c.now.logs 4) =
    omega (arith, ap (λ (l : Layout). l.main) c.layout-l.ensures.value, ap (λ (x : Log). x.segno) c.warm_nodes-log.ensures.log, ap (λ (x : Log). x.offset) c.warm_nodes-log.ensures.log, c.from.ensures) in
    let next = c.in_ok-next.ensures.block image told ∙ (λ i. unwrap_or (given (c.deref.ensures.value i) (at i)) (block_at image (at i))) in
    version ∙ c.next_version-version.ensures.value ∙ λ i. next_version (c.version.ensures i) (next i)
