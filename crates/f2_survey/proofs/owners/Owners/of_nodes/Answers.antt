use Rattle.std.proofs.Common.{◌≡◌, ℕ, ◌&&◌, cond, refl, sym, ap, subst, ◌∙◌, arith}
use Rattle.std.specs.Prelude.{find}
use Rattle.std.proofs.lemmas.List.{length-map}
use Rattle.f2_bytes.specs.Bytes.{numbers_below}
use Rattle.f2_bytes.specs.declared.layout.Layout.{Layout}
use Rattle.f2_bytes.specs.NodeAddressTable.{nat}
use Rattle.f2_bytes.specs.Superblock.{is_main, IsInOrder}
use Rattle.f2_bytes.specs.Check.{nids}
use Rattle.f2_survey.specs.Owners.{node_owner}
use Rattle.f2_survey.specs.OwnerTables.{LiesIn, is_nobody, stands_at}
use Rattle.f2_survey.specs.declared.owners.Owner.TheVariants.{Node}
use Rattle.f2_survey.proofs.NumberLists.{numbers-none}
use Rattle.f2_survey.proofs.NodeOwners.{settle-more, owners-start}
use Rattle.f2_survey.proofs.OwnerClaims.{has_block-is}
use Rattle.f2_survey.proofs.owners.Owners.of_nodes.Goals as goal

pub loop-nid-init : goal.loop-nid-init
loop-nid-init c = record {
  lies = record { main = refl; segments = length-map _ _ ∙ c.in_ok-empty_tables.ensures.length };
  sound = refl;
  kept = λ image known is a inside. c.in_ok-empty_tables.ensures.empty _ _ ∙ sym (ap (λ l. node_owner (find (λ nid. stands_at (nat image nid) a) l)) numbers-none);
}

pub loop-nid-preserved : goal.loop-nid-preserved
loop-nid-preserved c =
    let so_far = c.loop-nid.invariant in
    let done = c.in_ok-settle.ensures in
    record {
      lies = record { main = done.main ∙ so_far.lies.main; segments = done.segments ∙ so_far.lies.segments };
      sound = done.spoiled ∙ so_far.sound;
      kept = λ image known is a inside.
          let p = λ (nid : ℕ). stands_at (nat image nid) a in
          let before = so_far.kept image known is a inside in
          let here = c.entry.ensures image known in
          done.kept a (has_block-is c.args.layout.now c.loop-nid.owners a so_far.lies ∙ inside)
          ∙ (λ i. cond (stands_at (here i) a && is_nobody (before i)) (Node c.loop-nid.nid) (before i))
          ∙ settle-more p c.loop-nid.nid (p c.loop-nid.nid) refl;
    }

pub returns : goal.returns
returns c = λ image known order is.
    let so_far = c.loop-nid.invariant in
    let all : c.loop-nid.nid ≡ nids image = omega (arith, c.limit-nid-end.ensures image known) in
    owners-start image c.loop-nid.owners (subst IsInOrder (sym is) order)
    (subst (λ (l : Layout). LiesIn l c.loop-nid.owners) (sym is) so_far.lies) so_far.sound
    (λ a inside. so_far.kept image known is a (ap (λ (l : Layout). is_main l a) (sym is) ∙ inside)
    ∙ ap (λ n. node_owner (find (λ nid. stands_at (nat image nid) a) (numbers_below n))) all)
