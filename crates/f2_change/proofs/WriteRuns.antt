-- Runs of writes that change no other block.
use Rattle.std.proofs.Common.{◌≡◌, inl, inr, ⊎_elim, ℕ, ◌≤◌, true, List, Some, Result, Ok, Err, OnOk, refl, sym, subst, arith}
use Rattle.f2_bytes.specs.Bytes.{Block, Image}
use Rattle.f2_disk.specs.Disk.{State, Goes, LeavesOnly, Writes}
use Rattle.f2_change.specs.CommitSteps.{SameBut, WritesOnly}
use Rattle.f2_change.proofs.SameBlocks.{is_written, Within, same_start, same_then, same_within, lands_same}

pub goes_same : (s : State) → Goes s s
goes_same s = record { size = refl; tells = refl; tells_left = refl; faults = omega arith; writes = omega arith; later = omega arith; keeps = λ t c le left. left }

-- what is said of an address and a block is so of equal ones
pub at_same : (P : ℕ → Block → Type 0) {at to : ℕ} {b c : Block} → at ≡ to → b ≡ c → P at b → P to c
at_same P same_at same_block h = subst (λ (x : ℕ × Block). P x.0 x.1) (λ i. (same_at i, same_block i)) h

-- what follows from what holds at an answer
pub ok_map : {T E P Q : Type 0} (r : Result T E) → (P → Q) → OnOk r P → OnOk r Q
ok_map (Ok x) from p = from p
ok_map (Err e) from p = tt

-- before the first write
pub only_start : (blocks : List (ℕ × Block)) (s : State) → WritesOnly blocks s s
only_start blocks s = record {
  told = λ image told. (image, told, same_start blocks image);
  crash = λ c left. (c, left, same_start blocks c);
  since = λ t c le left. inl left;
}

pub only_one : {old new : State} (blocks : List (ℕ × Block)) (at : ℕ) (b : Block) → is_written blocks at ≡ true → Writes at b old new → WritesOnly blocks old new
only_one blocks at b written write = record {
  told = λ image told. let now = write.lands image told in (now.0, now.1, lands_same blocks image now.0 at b written now.2);
  crash = λ c left. let from = write.crash c left in (from.0, from.1, lands_same blocks from.0 c at b written from.2);
  since = λ t c le left. ⊎_elim (λ before. inl before) (λ now. let from = write.crash c now in inr (from.0, from.1, lands_same blocks from.0 c at b written from.2)) (write.since t c le left);
}

pub only_then : {old mid new : State} {blocks : List (ℕ × Block)} → old.moment ≤ mid.moment → WritesOnly blocks old mid → WritesOnly blocks mid new → WritesOnly blocks old new
only_then later first second = record {
  told = λ image told.
      let half = first.told image told in
      let now = second.told half.0 half.1 in
      (now.0, now.1, same_then half.2 now.2);
  crash = λ c left.
      let half = second.crash c left in
      let from = first.crash half.0 half.1 in
      (from.0, from.1, same_then from.2 half.2);
  since = λ t c le left.
      ⊎_elim (λ before. first.since t c le before)
      (λ half. let from = first.crash half.0 half.1 in inr (from.0, from.1, same_then from.2 half.2))
      (second.since t c (omega (arith, le, later)) left);
}

pub only_within : {old new : State} {blocks all : List (ℕ × Block)} → Within blocks all → WritesOnly blocks old new → WritesOnly all old new
only_within within only = record {
  told = λ image told. let now = only.told image told in (now.0, now.1, same_within within now.2);
  crash = λ c left. let from = only.crash c left in (from.0, from.1, same_within within from.2);
  since = λ t c le left. ⊎_elim (λ before. inl before) (λ from. inr (from.0, from.1, same_within within from.2)) (only.since t c le left);
}

-- such a run from a moment at which nothing is pending
pub only_left : {old new : State} {blocks : List (ℕ × Block)} (image : Image) → ((c : Image) → old.left_since old.moment c → old.may_leave c) → ((c : Image) → old.may_leave c → old.told ≡ Some c) → old.told ≡ Some image
    → WritesOnly blocks old new → LeavesOnly old new (SameBut blocks image)
only_left {old = old} {new = new} {blocks = blocks} image only_now settled told only =
    let start : (c : Image) → old.may_leave c → c ≡ image = λ c left. let h = settled c left in cc (h, told) in
    record {
      each = λ c left. ⊎_elim
          (λ before. subst (SameBut blocks image) (sym (start c (only_now c before))) (same_start blocks image))
          (λ from. subst (λ (d : Image). SameBut blocks d c) (start from.0 from.1) from.2)
          (only.since old.moment c (omega arith) left);
      before = λ t c le left. ⊎_elim
          (λ before. inl before)
          (λ from. inr (subst (λ (d : Image). SameBut blocks d c) (start from.0 from.1) from.2))
          (only.since t c le left);
    }
