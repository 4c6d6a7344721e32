-- The laws of a disk in memory.
use Rattle.std.specs.Prelude.{◌≡◌, ◌⊎◌, ℕ, ◌≤◌, ◌<◌, false, List, [], ◌∷◌, length, fold, Some}
use Rattle.std.proofs.Common.{inl, inr, ⊎_elim, refl, sym, ◌∙◌, ap, subst, arith, length-set, set}
use Rattle.std.proofs.lemmas.List.{length-replicate, take_all, ext_get_or, get_or-set_same, get_or-set_other, set_past}
use Rattle.std.proofs.lemmas.Bool.{cases_eq, cases_lt}
use Rattle.f2_bytes.specs.Bytes.{Image, block_at}
use Rattle.f2_disk.specs.Disk.{IsImage}
use Rattle.f2_disk.specs.declared.memory.Event.{Event}
use Rattle.f2_disk.specs.declared.memory.Event.TheVariants.{Write, Sync}
use Rattle.f2_disk.specs.Memory.{Replay, after, zero_block, zeros, fresh, replay, WrittenAt, MayLeave, LeftSince, has_any}

pub le_or_lt : (a b : ℕ) → (a ≤ b) ⊎ (b < a)
le_or_lt a b = ⊎_elim (λ lt. inr lt) (λ le. inl le) (cases_lt b a)

-- what holds of n blocks after any events
pub record IsGood (n : ℕ) (r : Replay) : Type 0 where
  pub seen : length r.seen ≡ n
  pub synced : length r.synced ≡ n
  pub stays : MayLeave r r.seen
  pub calm : r.written ≡ [] → r.seen ≡ r.synced

good_fresh : (n : ℕ) → IsGood n (fresh n)
unfolding zeros
good_fresh n = record {
  seen = length-replicate n zero_block;
  synced = length-replicate n zero_block;
  stays = record { size = refl; each = λ k. inl refl };
  calm = λ none. refl;
}

-- what stood before is still an outcome
still : (r : Replay) (at : ℕ) (b x : List ℕ) (k : ℕ) → (x ≡ block_at r.synced k) ⊎ WrittenAt k r.written x → (x ≡ block_at r.synced k) ⊎ WrittenAt k ((at, b) ∷ r.written) x
still r at b x k (inl same) = inl same
still r at b x k (inr wrote) = inr (inr wrote)

stays_after : (n : ℕ) (r : Replay) (at : ℕ) (b : List ℕ) → IsGood n r → (k : ℕ) → (block_at (set r.seen at b) k ≡ block_at r.synced k) ⊎ WrittenAt k ((at, b) ∷ r.written) (block_at (set r.seen at b) k)
stays_after n r at b good k = elim (cases_eq at k) [
  | inl same ↦ elim (le_or_lt (length r.seen) at) [
    | inl past ↦
        let kept = set_past r.seen at b past in
        subst (λ (i : Image). (block_at i k ≡ block_at r.synced k) ⊎ WrittenAt k ((at, b) ∷ r.written) (block_at i k)) (sym kept) (still r at b (block_at r.seen k) k (good.stays.each k))
    | inr here ↦ inr (inl (same, inl (ap (λ (j : ℕ). block_at (set r.seen at b) j) (sym same) ∙ get_or-set_same r.seen at b [] here)))
  ]
  | inr other ↦
      let ne : k ≡ at → ⊥ = λ e. other (sym e) in
      let kept = get_or-set_other r.seen at k b [] ne in
      subst (λ (x : List ℕ). (x ≡ block_at r.synced k) ⊎ WrittenAt k ((at, b) ∷ r.written) x) (sym kept) (still r at b (block_at r.seen k) k (good.stays.each k))
]

good_after : (n : ℕ) (r : Replay) (e : Event) → IsGood n r → IsGood n (after r e)
good_after n r (Write at b) good = record {
  seen = length-set r.seen at b ∙ good.seen;
  synced = good.synced;
  stays = record { size = length-set r.seen at b ∙ good.seen ∙ sym good.synced; each = stays_after n r at b good };
  calm = λ none. cc;
}
good_after n r Sync good = record {
  seen = good.seen;
  synced = good.seen;
  stays = record { size = refl; each = λ k. inl refl };
  calm = λ none. refl;
}

good_fold : (n : ℕ) (r : Replay) (events : List Event) → IsGood n r → IsGood n (fold after r events)
good_fold n r [] good = good
good_fold n r (e ∷ events) good = good_fold n (after r e) events (good_after n r e good)

pub good_replay : (n : ℕ) (events : List Event) → IsGood n (replay n events)
good_replay n events = good_fold n (fresh n) events (good_fresh n)

pub whole : (n : ℕ) (events : List Event) (image : Image) → IsImage n (replay n events).seen → Some (replay n events).seen ≡ Some image → IsImage n image
whole n events image is told = let same : (replay n events).seen ≡ image = cc in subst (IsImage n) same is

-- with nothing written since, a crash leaves what is synced
pub none_written : (r : Replay) (c : Image) → r.written ≡ [] → MayLeave r c → c ≡ r.synced
none_written r c none left =
    let bare : (k : ℕ) → (block_at c k ≡ block_at r.synced k) ⊎ WrittenAt k [] (block_at c k) = λ k. subst (λ w. (block_at c k ≡ block_at r.synced k) ⊎ WrittenAt k w (block_at c k)) none (left.each k) in
    ext_get_or [] c r.synced left.size (λ k lt. ⊎_elim (λ same. same) (λ never. absurd never) (bare k))

nothing : (written : List (ℕ × List ℕ)) → has_any written ≡ false → written ≡ []
nothing [] is = refl
nothing (w ∷ written) is = cc

pub settled : (n : ℕ) (events : List Event) (c : Image) → has_any (replay n events).written ≡ false → MayLeave (replay n events) c → Some (replay n events).seen ≡ Some c
settled n events c calm left =
    let none = nothing (replay n events).written calm in
    ap (λ (i : Image). Some i) ((good_replay n events).calm none ∙ sym (none_written (replay n events) c none left))

pub stays : (n : ℕ) (events : List Event) (image : Image) → Some (replay n events).seen ≡ Some image → MayLeave (replay n events) image
stays n events image told = let same : (replay n events).seen ≡ image = cc in subst (λ (i : Image). MayLeave (replay n events) i) same (good_replay n events).stays

pub counts_now : (n : ℕ) (events : List Event) (t : ℕ) (c : Image) → t ≤ length events → MayLeave (replay n events) c → LeftSince n events t c
counts_now n events t c le left = (length events, le, omega arith, subst (λ (l : List Event). MayLeave (replay n l) c) (sym (take_all (length events) events (omega arith))) left)

pub only_now : (n : ℕ) (events : List Event) (c : Image) → LeftSince n events (length events) c → MayLeave (replay n events) c
only_now n events c (k, low, high, left) = subst (λ (l : List Event). MayLeave (replay n l) c) (take_all k events low) left
