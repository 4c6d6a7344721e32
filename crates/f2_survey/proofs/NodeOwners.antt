-- What is kept of the owners where no slot has come yet.
use Rattle.std.proofs.Common.{◌≡◌, ℕ, ◌+◌, ◌&&◌, Bool, true, false, cond, [], Option, Some, None, refl, sym, ap, ◌∙◌, arith}
use Rattle.std.specs.Prelude.{find}
use Rattle.std.specs.Option.{option_or}
use Rattle.std.proofs.lemmas.Bool.{false≢true}
use Rattle.f2_bytes.specs.Bytes.{Image, numbers_below}
use Rattle.f2_bytes.specs.NodeAddressTable.{nat}
use Rattle.f2_bytes.specs.Superblock.{layout, is_main, IsInOrder}
use Rattle.f2_bytes.specs.Check.{nids, nid_with}
use Rattle.f2_survey.specs.Owners.{node_owner}
use Rattle.f2_survey.specs.OwnerTables.{OwnerTable, LiesIn, is_nobody, owner_kept, stands_at, first_at, slots_at, HasOwners}
use Rattle.f2_survey.specs.declared.owners.Owner.TheVariants as owner
use Rattle.f2_survey.proofs.Found.{find_push}
use Rattle.f2_survey.proofs.NumberLists.{numbers-more}

-- the owner after one more node: that node where it stands there and nobody did
settled : (o : Option ℕ) (b : Bool) (nid : ℕ) → cond (b && is_nobody (node_owner o)) (owner.Node nid) (node_owner o) ≡ node_owner (option_or o (cond b (Some nid) None))
settled None true nid = refl
settled None false nid = refl
settled (Some x) true nid = refl
settled (Some x) false nid = refl

pub settle-more : (p : ℕ → Bool) (nid : ℕ) (b : Bool) → b ≡ p nid
    → cond (b && is_nobody (node_owner (find p (numbers_below nid)))) (owner.Node nid) (node_owner (find p (numbers_below nid))) ≡ node_owner (find p (numbers_below (nid + 1)))
settle-more p nid b here =
    settled (find p (numbers_below nid)) b nid
    ∙ (λ i. node_owner (option_or (find p (numbers_below nid)) (cond (here i) (Some nid) None)))
    ∙ ap node_owner (sym (find_push p (numbers_below nid) nid) ∙ ap (find p) (sym (numbers-more nid)))

pub owners-start : (image : Image) (o : OwnerTable) → IsInOrder (layout image) → LiesIn (layout image) o → o.spoiled ≡ false
    → ((a : ℕ) → is_main (layout image) a ≡ true → owner_kept o a ≡ node_owner (find (λ nid. stands_at (nat image nid) a) (numbers_below (nids image))))
    → HasOwners image [] o
unfolding nid_with first_at slots_at
owners-start image o order lies sound kept = record {
  in_order = order;
  lies = lies;
  right = λ _. kept;
  sole = λ _ a names some. absurd (omega (arith, some));
  breaks = λ broken. absurd (false≢true (sym sound ∙ broken));
}
