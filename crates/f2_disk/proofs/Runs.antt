-- How a run of calls goes on.
use Rattle.std.proofs.Common.{◌≡◌, ◌⊎◌, inl, inr, ⊎_elim, ℕ, ◌≤◌, ◌+◌, ◌-◌, ◌^◌, min, List, Option, Some, None, is_some, Result, Ok, Err, OnOk, refl, ◌∙◌, subst, arith}
use Rattle.f2_bytes.specs.Bytes.{Image}
use Rattle.f2_disk.specs.Stop.{stopped}
use Rattle.f2_disk.specs.Disk.{State, Goes, Reads, Writes, Lands, LeavesOnly, IsTorn, Rose}

pub reads_then : {old mid new : State} → old.moment ≤ mid.moment → Reads old mid → Reads mid new → Reads old new
reads_then later a b = record {
  writes = b.writes ∙ a.writes;
  told = b.told ∙ a.told;
  pending = b.pending ∙ a.pending;
  crash = λ c left. a.crash c (b.crash c left);
  leaves = λ c left. b.leaves c (a.leaves c left);
  since = λ t c le left. a.since t c le (b.since t c (omega (arith, later, le)) left);
}

pub goes_then : {old mid new : State} → Goes old mid → Goes mid new → Goes old new
goes_then a b = record {
  size = b.size ∙ a.size;
  tells = b.tells ∙ a.tells;
  tells_left = b.tells_left ∙ a.tells_left;
  faults = omega (arith, a.faults, b.faults);
  writes = omega (arith, a.writes, b.writes);
  later = omega (arith, a.later, b.later);
  keeps = λ t c le left. b.keeps t c (omega (arith, le, a.later)) (a.keeps t c le left);
}

-- before the first call
pub started : (old : State) (P : Image → Type 0) → ((c : Image) → old.left_since old.moment c → P c) → LeavesOnly old old P
started old P here = record { each = here; before = λ t c le left. inl left }

module _ {old mid new : State} {P : Image → Type 0} (so_far : LeavesOnly old mid P) (later : old.moment ≤ mid.moment) where
  -- one call more after which a crash leaves nothing new
  pub quiet_on : ((t : ℕ) (c : Image) → t ≤ mid.moment → new.left_since t c → mid.left_since t c) → LeavesOnly old new P
  quiet_on since = record {
    each = λ c left. so_far.each c (since old.moment c later left);
    before = λ t c le left. so_far.before t c le (since t c (omega (arith, later, le)) left);
  }

  -- one write more, after which a crash leaves what has P
  pub write_on : ((t : ℕ) (c : Image) → t ≤ mid.moment → new.left_since t c → mid.left_since t c ⊎ new.may_leave c) → ((c : Image) → new.may_leave c → P c) → LeavesOnly old new P
  write_on since here = record {
    each = λ c left. ⊎_elim (so_far.each c) (here c) (since old.moment c later left);
    before = λ t c le left. ⊎_elim (so_far.before t c le) (λ now. inr (here c now)) (since t c (omega (arith, later, le)) left);
  }

-- The first write after reads, from a moment at which nothing was pending: a crash leaves what such a write may leave.
pub first_write : {old mid new : State} {P : Image → Type 0} {at : ℕ} {bytes : List ℕ} (img : Image)
    → ((c : Image) → old.left_since old.moment c → old.may_leave c) → ((c : Image) → old.may_leave c → old.told ≡ Some c) → old.told ≡ Some img
    → Reads old mid → old.moment ≤ mid.moment → Writes at bytes mid new → ((c : Image) → Lands at bytes img c → P c) → LeavesOnly old new P
first_write {old = old} {mid = mid} {new = new} {P = P} {at = at} {bytes = bytes} img only_now settled told reads later write lands =
    let same : (c : Image) → old.may_leave c → c ≡ img = λ c left. let h = settled c left in cc (h, told) in
    let start = started old P (λ c left. lands c (inl (same c (only_now c left)))) in
    let read = quiet_on {new = mid} start (omega arith) reads.since in
    write_on {new = new} read later write.since (λ c left. let from = write.crash c left in lands c (subst (λ (d : Image). Lands at bytes d c) (same from.0 (reads.crash from.0 from.1)) from.2))

some_from : (was is : Option Image) → is_some is ≡ is_some was → (img : Image) → is ≡ Some img → (before : Image) × (was ≡ Some before)
some_from (Some x) is same img told = (x, refl)
some_from None (Some y) same img told = cc
some_from None None same img told = cc

-- what tells its blocks has told them before
pub was_told : {old new : State} → Goes old new → (img : Image) → new.told ≡ Some img → (before : Image) × (old.told ≡ Some before)
was_told {old = old} {new = new} goes img told = some_from old.told new.told goes.tells img told

pub on_ok : {T E P : Type 0} (r : Result T E) → P → OnOk r P
on_ok (Ok x) p = p
on_ok (Err e) p = tt

torn_lands : (at : ℕ) (bytes half : List ℕ) (old new : Image) → IsTorn half → Lands at half old new → Lands at bytes old new
torn_lands at bytes half old new torn (inl same) = inl same
torn_lands at bytes half old new torn (inr (inl wrote)) = inr (inr (half, torn, wrote))
torn_lands at bytes half old new torn (inr (inr other)) = inr (inr other)

-- a write of torn bytes, after a read, is a write that a crash may have cut
pub torn_write : {old mid new : State} {at : ℕ} {bytes half : List ℕ} → Reads old mid → old.moment ≤ mid.moment → IsTorn half → Writes at half mid new → Writes at bytes old new
torn_write {old = old} {mid = mid} {new = new} {at = at} {bytes = bytes} {half = half} reads later torn write = record {
  counted = subst (λ (n : ℕ). Rose n new.writes) reads.writes write.counted;
  lands = λ img told. let from = write.lands img (reads.told ∙ told) in (from.0, from.1, torn_lands at bytes half img from.0 torn from.2);
  crash = λ c left. let from = write.crash c left in (from.0, reads.crash from.0 from.1, torn_lands at bytes half from.0 c torn from.2);
  since = λ t c le left. ⊎_elim (λ before. inl (reads.since t c le before)) (λ now. inr now) (write.since t c (omega (arith, le, later)) left);
}

pub reads_same : (s : State) → Reads s s
reads_same s = record { writes = refl; told = refl; pending = refl; crash = λ c left. left; leaves = λ c left. left; since = λ t c le left. left }

-- a write that reads alone and counts itself is one that was not done
pub unwritten : (old new : State) (at : ℕ) (bytes : List ℕ) → Rose old.writes new.writes → new.told ≡ old.told → ((c : Image) → new.may_leave c → old.may_leave c) → ((t : ℕ) (c : Image) → t ≤ old.moment → new.left_since t c → old.left_since t c) → Writes at bytes old new
unwritten old new at bytes rose same crash since = record {
  counted = rose;
  lands = λ img told. (img, same ∙ told, inl refl);
  crash = λ c left. (c, crash c left, inl refl);
  since = λ t c le left. inl (since t c le left);
}

-- a disk that stops and passes nothing on
pub skipped : (old new : State) (w w' f f' at : ℕ) (bytes : List ℕ) → Reads old new → w' ≡ min (w + 1) (2 ^ 64 - 1) → Writes at bytes (stopped old w f) (stopped new w' f')
skipped old new w w' f f' at bytes reads one = unwritten (stopped old w f) (stopped new w' f') at bytes (omega (arith, reads.writes, one)) reads.told reads.crash reads.since

-- reads before a run
pub reads_first : {old mid new : State} {P : Image → Type 0} → Reads old mid → old.moment ≤ mid.moment → ((c : Image) → old.left_since old.moment c → P c) → LeavesOnly mid new P → LeavesOnly old new P
reads_first {old = old} {mid = mid} {new = new} reads later at_start run = record {
  each = λ c left. ⊎_elim (λ before. at_start c (reads.since old.moment c (omega arith) before)) (λ here. here) (run.before old.moment c later left);
  before = λ t c le left. ⊎_elim (λ before. inl (reads.since t c le before)) (λ here. inr here) (run.before t c (omega (arith, le, later)) left);
}

-- at a moment at which nothing is pending a crash leaves what is read
pub at_rest : (s : State) (img : Image) (P : Image → Type 0) → ((c : Image) → s.left_since s.moment c → s.may_leave c) → ((c : Image) → s.may_leave c → s.told ≡ Some c) → s.told ≡ Some img → P img → (c : Image) → s.left_since s.moment c → P c
at_rest s img P only_now settled told here c left = let h = settled c (only_now c left) in let same : img ≡ c = cc (h, told) in subst P same here

-- one write more in a run of which each outcome has P
pub write_more : {old mid new : State} {P : Image → Type 0} {at : ℕ} {bytes : List ℕ} → LeavesOnly old mid P → old.moment ≤ mid.moment → ((c : Image) → mid.may_leave c → mid.left_since old.moment c) → Writes at bytes mid new
    → ((d c : Image) → P d → Lands at bytes d c → P c) → LeavesOnly old new P
write_more {old = old} {mid = mid} {new = new} so_far later counts write lands =
    write_on {new = new} so_far later write.since (λ c left. let from = write.crash c left in lands from.0 c (so_far.each from.0 (counts from.0 from.1)) from.2)

-- two runs
pub then_run : {old mid new : State} {P : Image → Type 0} → old.moment ≤ mid.moment → LeavesOnly old mid P → LeavesOnly mid new P → LeavesOnly old new P
then_run {old = old} {mid = mid} {new = new} later first second = record {
  each = λ c left. ⊎_elim (first.each c) (λ here. here) (second.before old.moment c later left);
  before = λ t c le left. ⊎_elim (first.before t c le) (λ here. inr here) (second.before t c (omega (arith, le, later)) left);
}

-- a run leaves what has a weaker property too
pub weaker : {old new : State} (P Q : Image → Type 0) → ((c : Image) → P c → Q c) → LeavesOnly old new P → LeavesOnly old new Q
weaker P Q from run = record { each = λ c left. from c (run.each c left); before = λ t c le left. ⊎_elim (λ before. inl before) (λ here. inr (from c here)) (run.before t c le left) }
