-- What a batch did, from what its valid blocks did.
use Rattle.std.proofs.Common.{◌≡◌, ℕ, ◌≤◌, ◌+◌, Bool, true, false, ◌==◌, cond, inl, inr, List, [], length, Option, Some, IfSome, Result, Ok, Err, IfOk, refl, sym, ap, subst, ◌∙◌, arith}
use Rattle.std.specs.Result.{IsErrAnd}
use Rattle.f2_bytes.specs.Bytes.{Image}
use Rattle.f2_bytes.specs.Check.{is_checked}
use Rattle.f2_bytes.specs.Superblock.{layout}
use Rattle.f2_bytes.specs.NodeAddressTable.{nid_limit}
use Rattle.f2_bytes.specs.Defragment.{placement, batch_need}
use Rattle.f2_commit.specs.Moves.{HasMoved, HasSameFiles}
use Rattle.f2_reloc.specs.Emptying.{valid_among, moved_with, HasStepped}
use Rattle.f2_reloc.proofs.Rests.{own_files}
use Rattle.f2_commit.specs.declared.relocating.Moved.{Moved}
use Rattle.f2_reloc.specs.declared.moving.Step.{Step}

pub ok_both : {T E : Type 0} (r : Result T E) (P Q : T → Type 0) → IfOk r P → IfOk r Q → IfOk r (λ t. P t × Q t)
ok_both (Ok t) P Q p q = (p, q)
ok_both (Err e) P Q p q = tt

pub stepped_idle : (now : Image) (part targets : List ℕ) → valid_among now part ≡ [] → HasStepped now part targets (record { blocks = 0; targets = 0 }) now
stepped_idle now part targets none = inl (record { same = refl; none = none; blocks = refl; taken = refl })

pub stepped_done : (now : Image) (part targets addresses : List ℕ) → addresses ≡ valid_among now part → (step : Step) (new : Image) → 1 ≤ length addresses → HasMoved now new addresses targets → step.blocks ≡ length addresses
    → step.targets ≡ batch_need (nid_limit (layout now)) (placement now) addresses → layout new ≡ layout now → HasStepped now part targets step new
stepped_done now part targets addresses is step new some moved blocks taken areas = inr (record {
  some = omega (arith, some, blocks);
  blocks = blocks ∙ ap length is;
  taken = taken ∙ ap (batch_need (nid_limit (layout now)) (placement now)) is;
  moved = subst (λ (xs : List ℕ). HasMoved now new xs targets) is moved;
  areas = areas;
})

pub stepped_kept : (now : Image) (part targets : List ℕ) (step : Step) (new : Image) → HasStepped now part targets step new → is_checked now ≡ true → HasSameFiles now new
stepped_kept now part targets step new (inl idle) h = subst (HasSameFiles now) (sym idle.same) (own_files now h)
stepped_kept now part targets step new (inr done) h = (done.moved.checked, done.moved.same_tree, done.moved.blocks.copies)

pub moved_once : (moved : Moved) (step : Step) → (moved_with moved step).batches ≤ moved.batches + 1
moved_once moved step = once (step.blocks == 0)
  where
    once : (b : Bool) → moved.batches + cond b 0 1 ≤ moved.batches + 1
    once true = omega arith
    once false = omega arith

pub some_has : {T : Type 0} (P : T → Type 0) (o : Option T) (x : T) → o ≡ Some x → IfSome o P → P x
some_has P o x is h = subst (λ p. IfSome p P) is h

pub err_has : {T E : Type 0} (P : E → Type 0) (r : Result T E) (e : E) → r ≡ Err e → IsErrAnd r P → P e
err_has P r e is h = subst (λ q. IsErrAnd q P) is h
