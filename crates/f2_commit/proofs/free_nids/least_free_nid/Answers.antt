use Rattle.std.proofs.Common.{ℕ, ◌<◌, ◌≤◌, ◌+◌, ◌*◌, Option, Some, None, subst, ◌∙◌}
use Rattle.f2_bytes.specs.declared.layout.Layout.{Layout}
use Rattle.f2_disk.proofs.Runs.{reads_then, goes_then}
use Rattle.f2_tables.specs.Tables.{NatTable, nat_in}
use Rattle.f2_view.proofs.TableReadings.{nat_reading}
use Rattle.f2_commit.specs.FreeNids.{IsFirstFree}
use Rattle.f2_gather.proofs.GatheredSteps.{layout_is}
use Rattle.f2_commit.proofs.LeastNids.{start, table_opened, taken-more, least-some, least-none}
use Rattle.f2_commit.proofs.free_nids.least_free_nid.Goals as goal

pub returns-in-Some-clause-least : goal.returns-in-Some-clause-least
returns-in-Some-clause-least g c = λ image told of.
    let m = c.args.m.now in
    let opened = table_opened m c.layout-l.result c.chosen-chosen.result.now c.nat_bits.result.now c.nat_journal.result.now c.in_ok-nat.nat c.layout-l.ensures.value c.chosen-chosen.ensures c.nat_bits.ensures.value c.nat_journal.ensures.value c.in_ok-nat.ensures in
    let low = c.loop-k-test.true in
    let first = subst (λ (o : Option ℕ). IsFirstFree (start c.loop-k.k) (455 * (c.loop-k.k + 1)) (nat_in c.loop-k.nat image) o) c.in-Some.is (c.in_ok-found.ensures.free image (c.loop-k.invariant.reads.told ∙ told)) in
    least-some image (nat_in c.in_ok-nat.nat image) (λ n. nat_reading image m c.in_ok-nat.nat of opened n) c.loop-k.k (c.loop-k.invariant.none image told) c.in-Some.nid
    (subst (λ (l : Layout). c.loop-k.k < l.nat_half) (c.layout-l.ensures.value ∙ layout_is image m of) low)
    (subst (λ (t : NatTable). IsFirstFree (start c.loop-k.k) (455 * (c.loop-k.k + 1)) (nat_in t image) (Some c.in-Some.nid)) c.loop-k.invariant.table first)

pub loop-k-preserved : goal.loop-k-preserved
loop-k-preserved g c =
    let so_far = c.loop-k.invariant in
    let done = c.in_ok-found.ensures in record {
      reads = reads_then so_far.goes.later so_far.reads done.reads;
      goes = goes_then so_far.goes done.goes;
      table = done.table ∙ so_far.table;
      none = λ image told.
          let first = subst (λ (o : Option ℕ). IsFirstFree (start c.loop-k.k) (455 * (c.loop-k.k + 1)) (nat_in c.loop-k.nat image) o) c.in-None.is (done.free image (so_far.reads.told ∙ told)) in
          taken-more (nat_in c.in_ok-nat.nat image) c.loop-k.k (so_far.none image told)
          (subst (λ (t : NatTable). IsFirstFree (start c.loop-k.k) (455 * (c.loop-k.k + 1)) (nat_in t image) None) so_far.table first);
    }

pub returns-clause-least : goal.returns-clause-least
returns-clause-least g c = λ image told of.
    let m = c.args.m.now in
    let opened = table_opened m c.layout-l.result c.chosen-chosen.result.now c.nat_bits.result.now c.nat_journal.result.now c.in_ok-nat.nat c.layout-l.ensures.value c.chosen-chosen.ensures c.nat_bits.ensures.value c.nat_journal.ensures.value c.in_ok-nat.ensures in
    least-none image (nat_in c.in_ok-nat.nat image) (λ n. nat_reading image m c.in_ok-nat.nat of opened n) c.loop-k.k (c.loop-k.invariant.none image told)
    (subst (λ (l : Layout). l.nat_half ≤ c.loop-k.k) (c.layout-l.ensures.value ∙ layout_is image m of) c.loop-k-test.false)
