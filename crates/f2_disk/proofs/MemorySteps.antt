-- What one event more does to a disk in memory.
use Rattle.std.proofs.Common.{◌≡◌, ◌⊎◌, ◌≢◌, inl, inr, ⊎_elim, ℕ, ◌≤◌, ◌<◌, List, [], ◌∷◌, ◌++◌, length, set, false, Some, refl, sym, ◌∙◌, ap, subst, arith, length-set, length-append, get_or-set_same, get_or-set_other, eq-eqb}
use Rattle.std.specs.Prelude.{unwrap_or, None, cond, ◌==◌, replicate}
use Rattle.std.proofs.lemmas.List.{take_all, take-append-le, set-set, set-get_or, set_past, get_or_past, get_or-replicate}
use Rattle.std.proofs.lemmas.List.Sums.{fold-append}
use Rattle.std.proofs.lemmas.Bool.{cases_eq, ne_eqb}
use Rattle.std.specs.Map.{lookup}
use Rattle.std.specs.BTreeMap.{is_at}
use Rattle.std.specs.Ordering.{nat_cmp}
use Rattle.f2_bytes.specs.Bytes.{Block, Image, IsBlock, block_at}
use Rattle.f2_disk.specs.Disk.{State, IsTorn, IsImage, Lands, Rose, Goes, Reads, Writes, Wrote, Syncs}
use Rattle.f2_disk.specs.declared.memory.Event.{Event}
use Rattle.f2_disk.specs.declared.memory.Event.TheVariants.{Write, Sync}
use Rattle.f2_disk.specs.Memory.{Replay, after, fresh, replay, WrittenAt, MayLeave, LeftSince, zero_block, zeros, has_any, stored, IsCurrent, state_of}
use Rattle.f2_disk.specs.Calls.{CallCount}
use Rattle.f2_disk.specs.MemoryLaws.{IsGood, good_replay, none_written, counts_now, le_or_lt}
use Rattle.f2_disk.proofs.Blocks.{zeros_block}

pub replay_push : (n : ℕ) (events : List Event) (e : Event) → replay n (events ++ e ∷ []) ≡ after (replay n events) e
replay_push n events e = fold-append after (fresh n) events (e ∷ [])

-- of the moments up to the newest event, each is one before it or this one
pub since_push : (n : ℕ) (events : List Event) (e : Event) (t : ℕ) (c : Image) → LeftSince n (events ++ e ∷ []) t c → LeftSince n events t c ⊎ MayLeave (replay n (events ++ e ∷ [])) c
since_push n events e t c (k, low, high, left) = elim (le_or_lt k (length events)) [
  | inl before ↦ inl (k, low, before, subst (λ (l : List Event). MayLeave (replay n l) c) (take-append-le k events (e ∷ []) before) left)
  | inr now ↦ inr (subst (λ (l : List Event). MayLeave (replay n l) c) (take_all k (events ++ e ∷ []) (omega (arith, length-append events (e ∷ []), now))) left)
]

pub keeps_push : (n : ℕ) (events : List Event) (e : Event) (t : ℕ) (c : Image) → LeftSince n events t c → LeftSince n (events ++ e ∷ []) t c
keeps_push n events e t c (k, low, high, left) =
    (k, low, omega (arith, high, length-append events (e ∷ [])), subst (λ (l : List Event). MayLeave (replay n l) c) (sym (take-append-le k events (e ∷ []) high)) left)

-- the outcomes at another block are those from before a write
apart : (r : Replay) (at k : ℕ) (b x : List ℕ) → at ≢ k → (x ≡ block_at r.synced k) ⊎ WrittenAt k ((at, b) ∷ r.written) x → (x ≡ block_at r.synced k) ⊎ WrittenAt k r.written x
apart r at k b x ne (inl same) = inl same
apart r at k b x ne (inr (inl here)) = absurd (ne here.0)
apart r at k b x ne (inr (inr before)) = inr before

-- the image with the synced bytes in this block
abbrev undone : Replay → ℕ → Image → Image
undone r at c = set c at (block_at r.synced at)

undone_left : (r : Replay) (at : ℕ) (b : List ℕ) (c : Image) → MayLeave (after r (Write at b)) c → MayLeave r (undone r at c)
undone_left r at b c left = record {
  size = length-set c at (block_at r.synced at) ∙ left.size;
  each = λ k. elim (cases_eq at k) [
    | inl same ↦ inl (subst (λ (j : ℕ). block_at (undone r at c) j ≡ block_at r.synced j) same (synced_at r at c left.size))
    | inr other ↦
        let ne : k ≡ at → ⊥ = λ e. other (sym e) in
        subst (λ (x : List ℕ). (x ≡ block_at r.synced k) ⊎ WrittenAt k r.written x) (sym (get_or-set_other c at k (block_at r.synced at) [] ne)) (apart r at k b (block_at c k) other (left.each k))
  ];
}
  where
    synced_at : (r : Replay) (at : ℕ) (c : Image) → length c ≡ length r.synced → block_at (undone r at c) at ≡ block_at r.synced at
    synced_at r at c size = elim (le_or_lt (length c) at) [
      | inl past ↦
          ap (λ (i : Image). block_at i at) (set_past c at (block_at r.synced at) past) ∙ get_or_past c at [] past ∙ sym (get_or_past r.synced at [] (omega (arith, size, past)))
      | inr here ↦ get_or-set_same c at (block_at r.synced at) [] here
    ]

redone : (r : Replay) (at : ℕ) (c : Image) → c ≡ set (undone r at c) at (block_at c at)
redone r at c = sym (set-set c at (block_at r.synced at) (block_at c at) ∙ set-get_or c at [])

-- what a crash leaves after a write is what it left before, where the write landed, failed to, or tore
pub lands_after : (r : Replay) (at : ℕ) (b : List ℕ) (c : Image) → MayLeave (after r (Write at b)) c → (d : Image) × MayLeave r d × Lands at b d c
lands_after r at b c left = by_outcome (left.each at)
  where
    by_outcome : (block_at c at ≡ block_at r.synced at) ⊎ WrittenAt at ((at, b) ∷ r.written) (block_at c at) → (d : Image) × MayLeave r d × Lands at b d c
    by_outcome (inl same) = (undone r at c, undone_left r at b c left, inl (redone r at c ∙ ap (λ (x : List ℕ). set (undone r at c) at x) same ∙ set-set c at (block_at r.synced at) (block_at r.synced at)))
    by_outcome (inr (inl (_, inl new))) = (undone r at c, undone_left r at b c left, inr (inl (redone r at c ∙ ap (λ (x : List ℕ). set (undone r at c) at x) new)))
    by_outcome (inr (inl (_, inr torn))) = (undone r at c, undone_left r at b c left, inr (inr (block_at c at, torn, redone r at c)))
    by_outcome (inr (inr before)) = (
      c,
      record {
        size = left.size;
        each = λ k. elim (cases_eq at k) [
          | inl same ↦ inr (subst (λ (j : ℕ). WrittenAt j r.written (block_at c j)) same before)
          | inr other ↦ apart r at k b (block_at c k) other (left.each k)
        ];
      },
      inl refl,
    )

-- and what a write leaves that landed, failed to, or tore, a crash may leave after it
set_outcome : (r : Replay) (at : ℕ) (b x : Block) (d : Image) → MayLeave r d → (x ≡ b) ⊎ IsTorn x → MayLeave (after r (Write at b)) (set d at x)
set_outcome r at b x d left new = record {
  size = length-set d at x ∙ left.size;
  each = λ k. elim (cases_eq at k) [
    | inl same ↦ elim (le_or_lt (length d) at) [
      | inl past ↦ subst (λ (i : Image). (block_at i k ≡ block_at r.synced k) ⊎ WrittenAt k ((at, b) ∷ r.written) (block_at i k)) (sym (set_past d at x past)) (earlier k (block_at d k) (left.each k))
      | inr here ↦ inr (inl (same, subst (λ (y : Block). (y ≡ b) ⊎ IsTorn y) (sym (get_or-set_same d at x [] here) ∙ ap (λ (j : ℕ). block_at (set d at x) j) same) new))
    ]
    | inr other ↦ subst (λ (y : Block). (y ≡ block_at r.synced k) ⊎ WrittenAt k ((at, b) ∷ r.written) y) (sym (get_or-set_other d at k x [] (λ e. other (sym e)))) (earlier k (block_at d k) (left.each k))
  ];
}
  where
    earlier : (k : ℕ) (y : Block) → (y ≡ block_at r.synced k) ⊎ WrittenAt k r.written y → (y ≡ block_at r.synced k) ⊎ WrittenAt k ((at, b) ∷ r.written) y
    earlier k y (inl same) = inl same
    earlier k y (inr wrote) = inr (inr wrote)

leaves_after : (r : Replay) (at : ℕ) (b : Block) (d c : Image) → MayLeave r d → Lands at b d c → MayLeave (after r (Write at b)) c
leaves_after r at b d c left (inl kept) = subst (MayLeave (after r (Write at b))) (sym kept) (kept_outcome r at b d left)
  where
    kept_outcome : (r : Replay) (at : ℕ) (b : Block) (d : Image) → MayLeave r d → MayLeave (after r (Write at b)) d
    kept_outcome r at b d left = record { size = left.size; each = λ k. elim (left.each k) [ inl same ↦ inl same | inr wrote ↦ inr (inr wrote) ] }
leaves_after r at b d c left (inr (inl wrote)) = subst (MayLeave (after r (Write at b))) (sym wrote) (set_outcome r at b b d left (inl refl))
leaves_after r at b d c left (inr (inr (torn, is_torn, wrote))) = subst (MayLeave (after r (Write at b))) (sym wrote) (set_outcome r at b torn d left (inr is_torn))

-- a disk in memory by its parts
abbrev pub state_at : ℕ → List Event → ℕ → CallCount → State
state_at n events writes calls = state_of (record { blocks = n; events = events; writes = writes; calls = calls })

-- a write that was done
writes_push : (n : ℕ) (events : List Event) (at : ℕ) (b : Block) (before now : ℕ) (calls calls' : CallCount) → Rose before now → Writes at b (state_at n events before calls) (state_at n (events ++ Write at b ∷ []) now calls')
writes_push n events at b before now calls calls' rose =
    let is = replay_push n events (Write at b) in
    let seen_is = ap (λ (r : Replay). r.seen) is in
    record {
      counted = rose;
      lands = λ img told. let same : (replay n events).seen ≡ img = cc in ((replay n (events ++ Write at b ∷ [])).seen, refl, inr (inl (seen_is ∙ ap (λ (i : Image). set i at b) same)));
      crash = λ c left. lands_after (replay n events) at b c (subst (λ (r : Replay). MayLeave r c) is left);
      since = λ t c le left. since_push n events (Write at b) t c left;
    }

wrote_push : (n : ℕ) (events : List Event) (at : ℕ) (b : Block) (before now : ℕ) (calls calls' : CallCount) → Wrote at b (state_at n events before calls) (state_at n (events ++ Write at b ∷ []) now calls')
wrote_push n events at b before now calls calls' =
    let is = replay_push n events (Write at b) in
    record {
      told = λ img told. let same : (replay n events).seen ≡ img = cc in ap (λ (r : Replay). Some r.seen) is ∙ ap (λ (i : Image). Some (set i at b)) same;
      pending = ap (λ (r : Replay). has_any r.written) is;
      leaves = λ d c left lands. subst (λ (r : Replay). MayLeave r c) (sym is) (leaves_after (replay n events) at b d c left lands);
    }

-- a write that was not done
writes_none : (n : ℕ) (events : List Event) (at : ℕ) (b : Block) (before now : ℕ) (calls calls' : CallCount) → Rose before now → Writes at b (state_at n events before calls) (state_at n events now calls')
writes_none n events at b before now calls calls' rose = record {
  counted = rose;
  lands = λ img told. (img, told, inl refl);
  crash = λ c left. (c, left, inl refl);
  since = λ t c le left. inl left;
}

synced_outcome : (n : ℕ) (r : Replay) (c : Image) → IsGood n r → MayLeave (after r Sync) c → MayLeave r c
synced_outcome n r c good left = subst (λ (i : Image). MayLeave r i) (sym (none_written (after r Sync) c refl left)) good.stays

pub syncs_push : (n : ℕ) (events : List Event) (writes : ℕ) (calls calls' : CallCount) → Syncs (state_at n events writes calls) (state_at n (events ++ Sync ∷ []) writes calls')
syncs_push n events writes calls calls' =
    let is = replay_push n events Sync in
    let crash : (c : Image) → MayLeave (replay n (events ++ Sync ∷ [])) c → MayLeave (replay n events) c = λ c left. synced_outcome n (replay n events) c (good_replay n events) (subst (λ (r : Replay). MayLeave r c) is left) in
    record {
      writes = refl;
      told = ap (λ (r : Replay). Some r.seen) is;
      crash = crash;
      since = λ t c le left. ⊎_elim (λ before. before) (λ now. counts_now n events t c le (crash c now)) (since_push n events Sync t c left);
    }

-- a sync that was not done, or a call that only reads
pub reads_none : (n : ℕ) (events : List Event) (writes : ℕ) (calls calls' : CallCount) → Reads (state_at n events writes calls) (state_at n events writes calls')
reads_none n events writes calls calls' = record { writes = refl; told = refl; pending = refl; crash = λ c left. left; leaves = λ c left. left; since = λ t c le left. left }

pub calm_push : (n : ℕ) (events : List Event) → has_any (replay n (events ++ Sync ∷ [])).written ≡ false
calm_push n events = ap (λ (r : Replay). has_any r.written) (replay_push n events Sync)

length_more : (events : List Event) (e : Event) → length events ≤ length (events ++ e ∷ [])
length_more events e = omega (arith, length-append events (e ∷ []))

pub goes_push : (n : ℕ) (events : List Event) (e : Event) (before now : ℕ) (calls calls' : CallCount) → before ≤ now → calls.faults ≤ calls'.faults → Goes (state_at n events before calls) (state_at n (events ++ e ∷ []) now calls')
goes_push n events e before now calls calls' more later = record { size = refl; tells = refl; tells_left = refl; faults = later; writes = more; later = length_more events e; keeps = λ t c le left. keeps_push n events e t c left }

goes_same : (n : ℕ) (events : List Event) (before now : ℕ) (calls calls' : CallCount) → before ≤ now → calls.faults ≤ calls'.faults → Goes (state_at n events before calls) (state_at n events now calls')
goes_same n events before now calls calls' more later = record { size = refl; tells = refl; tells_left = refl; faults = later; writes = more; later = omega arith; keeps = λ t c le left. left }

-- the same for a call that pushed its event where it was done
module _ (n : ℕ) (events events' : List Event) (at : ℕ) (b : Block) (before now : ℕ) (calls calls' : CallCount) (done : events' ≡ events ++ Write at b ∷ []) where
  pub writes_done : Rose before now → Writes at b (state_at n events before calls) (state_at n events' now calls')
  writes_done rose = subst (λ (l : List Event). Writes at b (state_at n events before calls) (state_at n l now calls')) (sym done) (writes_push n events at b before now calls calls' rose)

  pub wrote_done : Wrote at b (state_at n events before calls) (state_at n events' now calls')
  wrote_done = subst (λ (l : List Event). Wrote at b (state_at n events before calls) (state_at n l now calls')) (sym done) (wrote_push n events at b before now calls calls')

  pub goes_done : before ≤ now → calls.faults ≤ calls'.faults → Goes (state_at n events before calls) (state_at n events' now calls')
  goes_done more later = subst (λ (l : List Event). Goes (state_at n events before calls) (state_at n l now calls')) (sym done) (goes_push n events (Write at b) before now calls calls' more later)

-- and for one that did not
module _ (n : ℕ) (events events' : List Event) (at : ℕ) (b : Block) (before now : ℕ) (calls calls' : CallCount) (kept : events' ≡ events) where
  pub writes_kept : Rose before now → Writes at b (state_at n events before calls) (state_at n events' now calls')
  writes_kept rose = subst (λ (l : List Event). Writes at b (state_at n events before calls) (state_at n l now calls')) (sym kept) (writes_none n events at b before now calls calls' rose)

  pub goes_kept : before ≤ now → calls.faults ≤ calls'.faults → Goes (state_at n events before calls) (state_at n events' now calls')
  goes_kept more later = subst (λ (l : List Event). Goes (state_at n events before calls) (state_at n l now calls')) (sym kept) (goes_same n events before now calls calls' more later)

-- the map of the blocks as read
zero_is : zero_block ≡ replicate 4096 0
unfolding zero_block
zero_is = refl

zeros_at : (n k : ℕ) → k < n → block_at (zeros n) k ≡ zero_block
unfolding zeros
zeros_at n k lt = get_or-replicate n k zero_block [] lt

fresh_image : (n : ℕ) → IsImage n (zeros n)
fresh_image n = record { size = (good_replay n []).seen; each = λ k lt. subst IsBlock (sym zero_is ∙ sym (zeros_at n k lt)) zeros_block }

pub current_new : (n : ℕ) (events : List Event) (entries : List (ℕ × Block)) → events ≡ [] → entries ≡ [] → IsCurrent n events entries
current_new n events entries no_events none = record {
  current = λ k lt. ap (λ (l : List Event). block_at (replay n l).seen k) no_events ∙ zeros_at n k lt ∙ ap (λ (l : List (ℕ × Block)). stored l k) (sym none);
  image = subst (λ (l : List Event). IsImage n (replay n l).seen) (sym no_events) (fresh_image n);
}

seen_push : (n : ℕ) (events : List Event) (at : ℕ) (b : Block) → (replay n (events ++ Write at b ∷ [])).seen ≡ set (replay n events).seen at b
seen_push n events at b = ap (λ (r : Replay). r.seen) (replay_push n events (Write at b))

set_image : (n : ℕ) (image : Image) (at : ℕ) (b : Block) → at < n → IsImage n image → IsBlock b → IsImage n (set image at b)
set_image n image at b inside is block = record {
  size = length-set image at b ∙ is.size;
  each = λ k lt. elim (cases_eq k at) [
    | inl same ↦ subst IsBlock (sym (ap (λ (j : ℕ). block_at (set image at b) j) same ∙ get_or-set_same image at b [] (omega (arith, inside, is.size)))) block
    | inr other ↦ subst IsBlock (sym (get_or-set_other image at k b [] other)) (is.each k lt)
  ];
}

current_push : (n : ℕ) (events : List Event) (entries entries' : List (ℕ × Block)) (at : ℕ) (b : Block) → at < n → IsBlock b → IsCurrent n events entries → ((k : ℕ) → stored entries' k ≡ cond (k == at) b (stored entries k)) → IsCurrent n (events ++ Write at b ∷ []) entries'
current_push n events entries entries' at b inside block was put =
    let seen = (replay n events).seen in
    record {
      current = λ k lt. ap (λ (i : Image). block_at i k) (seen_push n events at b) ∙ elim (cases_eq k at) [
        | inl same ↦
            let picked = ap (λ (j : ℕ). block_at (set seen at b) j) same ∙ get_or-set_same seen at b [] (omega (arith, (good_replay n events).seen, inside)) in
            picked ∙ sym (put k ∙ ap (λ t. cond t b (stored entries k)) (eq-eqb k at same))
        | inr other ↦
            get_or-set_other seen at k b [] other ∙ was.current k lt ∙ sym (put k ∙ ap (λ t. cond t b (stored entries k)) (ne_eqb k at other))
      ];
      image = subst (IsImage n) (sym (seen_push n events at b)) (set_image n seen at b inside was.image block);
    }

pub current_done : (n : ℕ) (events events' : List Event) (entries entries' : List (ℕ × Block)) (at : ℕ) (b : Block) → at < n → IsBlock b → IsCurrent n events entries → events' ≡ events ++ Write at b ∷ [] → ((k : ℕ) → stored entries' k ≡ cond (k == at) b (stored entries k)) → IsCurrent n events' entries'
current_done n events events' entries entries' at b inside block was done put = subst (λ (l : List Event). IsCurrent n l entries') (sym done) (current_push n events entries entries' at b inside block was put)

pub current_kept : (n : ℕ) (events events' : List Event) (entries entries' : List (ℕ × Block)) → IsCurrent n events entries → events' ≡ events → entries' ≡ entries → IsCurrent n events' entries'
current_kept n events events' entries entries' was kept same = subst (λ (l : List Event). IsCurrent n l entries') (sym kept) (subst (λ (m : List (ℕ × Block)). IsCurrent n events m) (sym same) was)

-- a sync changes no block
pub current_synced : (n : ℕ) (events events' : List Event) (entries : List (ℕ × Block)) → IsCurrent n events entries → events' ≡ events ++ Sync ∷ [] → IsCurrent n events' entries
current_synced n events events' entries was done =
    let same : (replay n events').seen ≡ (replay n events).seen = ap (λ (l : List Event). (replay n l).seen) done ∙ ap (λ (r : Replay). r.seen) (replay_push n events Sync) in
    record { current = λ k lt. ap (λ (i : Image). block_at i k) same ∙ was.current k lt; image = subst (IsImage n) (sym same) was.image }

-- a read finds the block as it was written, or zeros
pub read_none : (n : ℕ) (events : List Event) (entries : List (ℕ × Block)) (at : ℕ) (b : Block) (image : Image) → at < n → IsCurrent n events entries → b ≡ replicate 4096 0 → None ≡ lookup (is_at (nat_cmp at)) entries → Some (replay n events).seen ≡ Some image → b ≡ block_at image at
read_none n events entries at b image lt was is none told =
    let same : (replay n events).seen ≡ image = cc in
    is ∙ sym zero_is ∙ ap (λ o. unwrap_or o zero_block) none ∙ sym (was.current at lt) ∙ ap (λ (i : Image). block_at i at) same

pub read_some : (n : ℕ) (events : List Event) (entries : List (ℕ × Block)) (at : ℕ) (b : Block) (image : Image) → at < n → IsCurrent n events entries → Some b ≡ lookup (is_at (nat_cmp at)) entries → Some (replay n events).seen ≡ Some image → b ≡ block_at image at
read_some n events entries at b image lt was found told =
    let same : (replay n events).seen ≡ image = cc in
    ap (λ o. unwrap_or o zero_block) found ∙ sym (was.current at lt) ∙ ap (λ (i : Image). block_at i at) same

-- a sync that was done
module _ (n : ℕ) (events events' : List Event) (writes : ℕ) (calls calls' : CallCount) (done : events' ≡ events ++ Sync ∷ []) where
  pub syncs_done : Syncs (state_at n events writes calls) (state_at n events' writes calls')
  syncs_done = subst (λ (l : List Event). Syncs (state_at n events writes calls) (state_at n l writes calls')) (sym done) (syncs_push n events writes calls calls')

  pub synced_goes : calls.faults ≤ calls'.faults → Goes (state_at n events writes calls) (state_at n events' writes calls')
  synced_goes later = subst (λ (l : List Event). Goes (state_at n events writes calls) (state_at n l writes calls')) (sym done) (goes_push n events Sync writes writes calls calls' (omega arith) later)

pub zeros_are : (n : ℕ) → zeros n ≡ replicate n (replicate 4096 0)
unfolding zeros zero_block
zeros_are n = refl

pub image_of_zeros : (n : ℕ) (image : Image) → image ≡ replicate n (replicate 4096 0) → IsImage (length image) image
image_of_zeros n image is =
    let same : zeros n ≡ image = zeros_are n ∙ sym is in
    let fresh = fresh_image n in
    subst (λ (i : Image). IsImage (length i) i) same (record { size = refl; each = λ k lt. fresh.each k (omega (arith, lt, fresh.size)) })
