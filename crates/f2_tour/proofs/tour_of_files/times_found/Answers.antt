use Rattle.std.proofs.Common.{◌≡◌, ◌≤◌, ◌<◌, ◌^◌, ◌+◌, ℕ, [], subst, sym, ap, ◌∙◌, arith}
use Rattle.std.specs.Prelude.{flat_map}
use Rattle.f2_bytes.specs.Bytes.{numbers_below}
use Rattle.f2_bytes.specs.Check.{nids, defects_at, part_defects}
use Rattle.f2_survey.specs.Parts.{part_in}
use Rattle.f2_view.proofs.Rows.{flat_map-more}
use Rattle.f2_items.proofs.NameSteps.{collects_same}
use Rattle.f2_items.proofs.Tours.{none_so_far, times_part}
use Rattle.f2_tour.proofs.tour_of_files.times_found.Goals as goal

pub loop-nid-init : goal.loop-nid-init
loop-nid-init c = record {
  part = c.new-found.ensures.part;
  times = λ image known counted. collects_same c.new-found.result [] (flat_map (defects_at (part_in image 3 7)) (numbers_below 0)) (sym (none_so_far (part_in image 3 7))) c.new-found.ensures.none;
}

pub loop-nid-preserved : goal.loop-nid-preserved
loop-nid-preserved c =
    let so_far = c.loop-nid.invariant in
    let done = c.in_ok-take_times.ensures in
    let nid = c.loop-nid.nid in
    record {
      part = done.part ∙ so_far.part;
      times = λ image known counted.
          let limit = c.limit-limit.ensures image known in
          let below : c.loop-nid.nid < nids image = subst (λ (n : ℕ). c.loop-nid.nid < n) limit c.loop-nid-test.true in
          let few : nids image ≤ 2 ^ 32 = omega (arith, limit, c.limit-limit.type_inv) in
          collects_same c.take_times.new.into _ (flat_map (defects_at (part_in image 3 7)) (numbers_below (nid + 1))) (sym (flat_map-more (defects_at (part_in image 3 7)) nid))
          (done.times image (flat_map (defects_at (part_in image 3 7)) (numbers_below nid)) known below few counted so_far.part (so_far.times image known counted));
    }

pub returns : goal.returns
returns c = λ image known counted.
    let all : c.loop-nid.nid ≡ nids image = omega (arith, c.limit-limit.ensures image known) in
    collects_same c.loop-nid.found _ (part_defects (part_in image 3 7))
    (ap (λ n. flat_map (defects_at (part_in image 3 7)) (numbers_below n)) all ∙ sym (times_part image))
    (c.loop-nid.invariant.times image known counted)
