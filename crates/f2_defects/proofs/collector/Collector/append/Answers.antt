use Rattle.std.proofs.Common.{◌≡◌, ◌+◌, ◌++◌, length, map, take, min, ap, sym, ◌∙◌, arith}
use Rattle.std.proofs.lemmas.List.{map-append, take-map, length-map}
use Rattle.f2_defects.specs.Collected.{most_listed, defect_in}
use Rattle.f2_defects.proofs.Collecting.{take-min, take-room, length-kept, collects_both}
use Rattle.f2_defects.proofs.collector.Collector.append.Goals as goal

pub returns-clause-appends : goal.returns-clause-appends
returns-clause-appends c = λ defects more first second.
    let mine = c.self.inside.kept.items in
    let theirs = c.other.inside.kept.items in
    let room = c.saturating_sub-room.result in
    let view : map defect_in mine ≡ c.args.self.now.kept = ap (λ v. v.kept) c.self.view_is in
    let other : map defect_in theirs ≡ c.args.other.now.kept = ap (λ v. v.kept) c.other.view_is in
    let few = length-kept c.args.self.now defects first in
    let long : length (map defect_in mine) ≡ length c.args.self.now.kept = ap length view in
    let same_length = length-map mine defect_in in
    let fills : length (map defect_in mine) + room ≡ most_listed = omega (arith, c.len.ensures, c.saturating_sub-room.ensures) in
    let len : c.len-2.result ≡ length theirs = omega (arith, c.len-2.ensures) in
    let taken : take c.min-taken.result c.deref.result.now ≡ take room theirs =
    (λ i. take (c.min-taken.ensures i) (c.deref.ensures.value i)) ∙ ap (λ n. take (min room n) theirs) len ∙ take-min room theirs in
    let kept =
    ap (map defect_in) (c.in_ok-extend_from_slice.ensures.items ∙ ap (λ l. mine ++ l) taken)
    ∙ map-append defect_in mine (take room theirs)
    ∙ ap (λ l. map defect_in mine ++ l) (sym (take-map defect_in room theirs))
    ∙ sym (take-room most_listed room (map defect_in mine) (map defect_in theirs) fills)
    ∙ (λ i. take most_listed (view i ++ other i)) in
    let p = ap (λ v. v.count) c.self.view_is in
    let q = ap (λ v. v.count) c.other.view_is in
    collects_both c.args.self.now c.args.other.now _ defects more first second kept (omega (arith, p, q, c.saturating_add-self-inside.ensures))
