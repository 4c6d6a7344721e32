use Rattle.std.proofs.Common.{◌≡◌, ◌≤◌, ℕ, List, All, length, true, sym, ap, subst, ◌∙◌}
use Rattle.std.proofs.lemmas.List.Elements.{filter_passes}
use Rattle.std.proofs.lemmas.Result.{IfOk-weaker}
use Rattle.f2_bytes.specs.Check.{is_marked}
use Rattle.f2_bytes.specs.Defragment.{placement, batch_need}
use Rattle.f2_bytes.specs.NodeAddressTable.{nid_limit}
use Rattle.f2_bytes.specs.Superblock.{layout}
use Rattle.f2_view.specs.Mounted.{layout_in, IsMountOf}
use Rattle.f2_view.proofs.TableReadings.{own_layout}
use Rattle.f2_reloc.specs.Emptying.{part_of}
use Rattle.f2_reloc.proofs.CutEnds.{parts_need}
use Rattle.f2_reloc.proofs.emptying.batch_need.Goals as goal

pub need_for-requires-clause-valid : goal.need_for-requires-clause-valid
need_for-requires-clause-valid g c = λ image told.
    let read = c.in_ok-addresses.ensures in
    let was = sym read.reads.told ∙ told in
    let part = part_of (layout_in c.args.m.now) c.args.range c.args.batch in
    let says = c.deref.ensures.value ∙ read.valid image was (c.requires.of_image image was) in
    subst (All (λ a. is_marked image a ≡ true)) (sym says) (filter_passes (is_marked image) part)

pub returns-clause-need : goal.returns-clause-need
returns-clause-need g c =
    let m = c.args.m.now in
    let batch = c.args.batch in
    let part = part_of (layout_in m) c.args.range batch in
    let read = c.in_ok-addresses.ensures in
    IfOk-weaker c.need_for.result _ _
    (λ n needs image told few.
    let of = c.requires.of_image image told in
    let says = c.deref.ensures.value ∙ read.valid image told of in
    needs image (read.reads.told ∙ told) (subst (λ (xs : List ℕ). length xs ≤ 4096) (sym says) few)
    ∙ ap (batch_need (nid_limit (layout image)) (placement image)) says
    ∙ parts_need image (c.requires.checked image told) (layout_in m) (own_layout image m of) c.args.range c.requires.range batch.first batch.end)
    c.need_for.ensures.need

pub need_for-requires-clause-of_image : goal.need_for-requires-clause-of_image
need_for-requires-clause-of_image g c = λ image now.
    subst (IsMountOf image) (sym c.in_ok-addresses.ensures.mount) (c.requires.of_image image (sym c.in_ok-addresses.ensures.reads.told ∙ now))
