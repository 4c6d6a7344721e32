-- The image that a commit makes carries the change that was prepared.
use Rattle.std.proofs.Common.{◌≡◌, ℕ, ◌+◌, ◌-◌, ◌<◌, cond, sym, ap, subst, ◌∙◌}
use Rattle.std.specs.Prelude.{unwrap_or}
use Rattle.f2_bytes.specs.declared.layout.Layout.{Layout}
use Rattle.f2_bytes.specs.Bytes.{block_at}
use Rattle.f2_bytes.specs.Checkpoint.{pack_number}
use Rattle.f2_bytes.specs.Superblock.{is_main}
use Rattle.f2_change.specs.Change.{given, is_filled}
use Rattle.f2_change.specs.Writes.{committed}
use Rattle.f2_change.proofs.CarriedGiven.{CarriesChange}
use Rattle.f2_change.proofs.CarriedAreas as areas
use Rattle.f2_change.proofs.CarriedChain as chain
use Rattle.f2_change.proofs.CarriedPack as made
use Rattle.f2_change.proofs.CarriedTables as tables
use Rattle.f2_change.proofs.NewImage.{new_has_checkpoint}

pub carries : CarriesChange
carries image m c r g =
    let own = made.own image m c r g in
    record {
      size = (made.same image m c r g).size;
      copies = made.copies_same image m c r g;
      areas = made.same_layout image m c r g;
      checkpoint = new_has_checkpoint r g.prepared g.plan.new_head.block.length g.plan.six image (pack_number image) (made.stands image m c r g);
      number = made.new_number image m c r g ∙ (made.stands image m c r g).other;
      pack_blocks = made.pack_blocks image m c r g;
      no_nat_journal = made.no_nat_journal image m c r g;
      no_sit_journal = made.no_sit_journal image m c r g;
      no_orphans = made.no_orphans image m c r g;
      flags_given = made.flags image m c r g;
      logs_given = made.logs_given image m c r g;
      user = made.user image m c r g;
      valid = made.valid image m c r g;
      nodes = made.nodes image m c r g;
      inodes = made.inodes image m c r g;
      free = made.free image m c r g;
      reserved = made.reserved image m c r g;
      overprovision = made.overprovision image m c r g;
      next_nid = made.next_nid image m c r g;
      version = chain.version image m c r g;
      no_chain = chain.no_chain image m c r g;
      nat_entries = tables.nat_entries image m c r g;
      sit_entries = tables.sit_entries image m c r g;
      main_blocks = λ address inside. areas.read_main image m c r g address (ap (λ (l : Layout). is_main l address) (sym own) ∙ inside);
      summary_blocks = subst
          (λ (l : Layout). (s : ℕ) → s < l.main - l.ssa → block_at (committed r image) (l.ssa + s) ≡ cond (is_filled c.logs s) (block_at image (l.ssa + s)) (unwrap_or (given c.sums.items s) (block_at image (l.ssa + s))))
          (sym own) (areas.read_sum image m c r g);
      log_summaries = made.log_summaries image m c r g;
    }
