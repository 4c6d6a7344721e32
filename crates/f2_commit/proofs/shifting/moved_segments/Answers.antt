use Rattle.std.proofs.Common.{◌≡◌, ◌<◌, ℕ, List, ◌++◌, All, true, length, ap, subst, sym, ◌∙◌}
use Rattle.std.specs.Prelude.{filter}
use Rattle.std.specs.List.Sorted.{IsStrictlyIncreasing}
use Rattle.f2_bytes.specs.Bytes.{Block}
use Rattle.f2_bytes.specs.Defragment.{is_among}
use Rattle.f2_bytes.specs.Superblock.{is_main}
use Rattle.f2_view.specs.Mounted.{Mounted, layout_in}
use Rattle.f2_view.proofs.TableReadings.{own_head}
use Rattle.f2_commit.specs.Shifting.{is_freed}
use Rattle.f2_bytes.specs.Journal.{FitsSitEntry}
use Rattle.f2_sum.specs.Records.{sit_entry}
use Rattle.f2_sum.specs.declared.records.SitEntry.{SitEntry as HeldSitEntry}
use Rattle.std.proofs.lemmas.List.Elements.{All-nil}
use Rattle.f2_commit.proofs.shifting.moved_segments.Goals as goal

pub push_left-requires-clause-main : goal.push_left-requires-clause-main
push_left-requires-clause-main g c =
    subst (λ xs. All (λ a. is_main (layout_in c.args.m.now) a ≡ true) xs) (sym c.deref.ensures.value) (c.in_ok-left.ensures.main (layout_in c.args.m.now) c.requires.main c.requires.node_main)

pub push_left-requires-clause-ascending : goal.push_left-requires-clause-ascending
push_left-requires-clause-ascending g c = subst IsStrictlyIncreasing (sym c.deref.ensures.value) c.in_ok-left.ensures.rises

pub returns-clause-entries : goal.returns-clause-entries
returns-clause-entries g c = λ image told of.
    let one = c.in_ok-freed.ensures in
    let two = c.in_ok-push_filled.ensures in
    let left = one.entries image told of in
    let filled = two.entries in
    let nodes = c.in_ok-push_filled-2.ensures.entries in
    record {
      left = left.0;
      data_entries = filled.0;
      node_entries = nodes.0;
      all = nodes.1 ∙ ap (λ xs. xs ++ nodes.0) (filled.1 ∙ ap (λ xs. xs ++ filled.0) (left.1 ∙ ap (λ xs. xs ++ left.0) c.new-entries.ensures.items));
      addresses = c.deref.result.now;
      same_addresses = λ a. ap (λ xs. is_among xs a) c.deref.ensures.value ∙ c.in_ok-left.ensures.same a;
      emptied = left.2;
      freed_count = left.3 ∙ ap (λ (h : Block). length (filter (is_freed h) left.0)) (own_head image c.args.m.now of);
      data_taken = filled.2;
      node_taken = nodes.2;
    }

-- entries of segments of main that fit
abbrev AreFit : Mounted → List (ℕ × HeldSitEntry) → Type 0
AreFit m xs = All (λ (w : ℕ × HeldSitEntry). (w.0 < (layout_in m).segments) × FitsSitEntry (sit_entry w.1)) xs

pub returns-clause-fits : goal.returns-clause-fits
returns-clause-fits g c =
    let one = c.in_ok-freed.ensures in
    let two = c.in_ok-push_filled.ensures in
    let three = c.in_ok-push_filled-2.ensures in
    let m = c.args.m.now in
    let start : AreFit m c.new-entries.result.items = subst (AreFit m) (sym c.new-entries.ensures.items) (All-nil (λ (w : ℕ × HeldSitEntry). (w.0 < (layout_in m).segments) × FitsSitEntry (sit_entry w.1))) in
    let first : AreFit c.push_left.new.m c.push_left.new.into.items = subst (λ (x : Mounted). AreFit x c.push_left.new.into.items) (sym one.mount) (one.fits start) in
    let second : AreFit c.push_filled.new.m c.push_filled.new.into.items = subst (λ (x : Mounted). AreFit x c.push_filled.new.into.items) (sym two.mount) (two.fits first) in
    subst (λ (x : Mounted). AreFit x c.push_filled-2.new.into.items) (two.mount ∙ one.mount) (three.fits second)
