-- Summary blocks of logs, and what their entries come from.
use Rattle.std.proofs.Common.{◌≡◌, ℕ, zero, suc, ◌+◌, ◌*◌, ◌<◌, true, false, cond, ⊎_elim, List, [], ◌∷◌, ◌++◌, length, replicate, set, take, drop, Option, Some, None, Result, Ok, Err, IfOk, refl, sym, ap, subst, ◌∙◌, arith, append_assoc, length-append, get_or-set_same, get_or-set_other}
use Rattle.std.specs.Prelude.{slice_index}
use Rattle.std.proofs.lemmas.Bool.{cases_lt}
use Rattle.std.proofs.lemmas.List.{take_at, drop_at, drop-replicate, length-replicate, length-take-le, replicate-append-replicate}
use Rattle.f2_bytes.specs.declared.layout.Layout.{Layout}
use Rattle.f2_bytes.specs.Bytes.{Block, Image, block_at, number_at, with_bytes}
use Rattle.f2_bytes.specs.Checkpoint.{head, is_log_segment}
use Rattle.f2_bytes.specs.Summary.{Summary, summary, summary_entry}
use Rattle.f2_bytes.specs.Superblock.{layout, segment_start}
use Rattle.f2_bytes.proofs.Entries.{drop-behind}
use Rattle.f2_bytes.proofs.Numbers.{number_at-front}
use Rattle.f2_view.specs.Mounted.{Mounted, IsMountOf, layout_in}
use Rattle.f2_view.proofs.TableReadings.{own_layout, own_head}
use Rattle.f2_change.specs.Change.{given, next_summary, summary_from, summary_end}
use Rattle.f2_change.proofs.Lookups.{given-none}

-- ---- zeros

pub zeros_at : (m i : ℕ) → slice_index (replicate m 0) i ≡ 0
zeros_at zero i = refl
zeros_at (suc m) zero = refl
zeros_at (suc m) (suc i) = zeros_at m i

number_at-zeros : (m i n : ℕ) → number_at (replicate m 0) i n ≡ 0
unfolding number_at
number_at-zeros m i zero = refl
number_at-zeros m i (suc n) =
    let first = zeros_at m i in
    let rest = number_at-zeros m (suc i) n in
    λ k. first k + 256 * rest k

abbrev pub no_summary : Summary
no_summary = record { nid = 0; version = 0; place = 0 }

pub entry-zeros : (b : Block) (k : ℕ) → b ≡ replicate 4096 0 → summary_entry b k ≡ no_summary
entry-zeros b k is =
    ap (λ l. summary_entry l k) is
    ∙ λ i. record {
      nid = number_at-zeros 4096 (7 * k) 4 i;
      version = number_at-zeros 4096 (7 * k + 4) 1 i;
      place = number_at-zeros 4096 (7 * k + 5) 2 i;
    }

-- ---- a block that is put together of entries, zeros and the kind of its log

entry-front : (a b : Block) (k : ℕ) → k < 512 → take 3584 a ≡ take 3584 b → summary_entry a k ≡ summary_entry b k
entry-front a b k inside same = λ i. record {
  nid = number_at-front a b (7 * k) 4 3584 (omega (arith, inside)) same i;
  version = number_at-front a b (7 * k + 4) 1 3584 (omega (arith, inside)) same i;
  place = number_at-front a b (7 * k + 5) 2 3584 (omega (arith, inside)) same i;
}

module _ (entries zeros first b : List ℕ) (kind : ℕ) (long : length entries ≡ 4096) (is_zeros : zeros ≡ replicate 4096 0)
    (is_first : first ≡ with_bytes zeros 0 (take 3584 entries)) (is : b ≡ with_bytes first 4091 (kind ∷ [])) where
  abbrev front : List ℕ
  front = take 3584 entries

  front_size : length front ≡ 3584
  front_size = length-take-le 3584 entries (omega (arith, long))

  abbrev journal : List ℕ
  journal = replicate 507 0

  journal_size : length (front ++ journal) ≡ 4091
  journal_size = length-append front journal ∙ omega (arith, front_size, length-replicate {A = ℕ} 507 0)

  first_is : first ≡ (front ++ journal) ++ replicate 5 0
  first_is =
      let size : 0 + length front ≡ 3584 = omega (arith, front_size) in
      is_first ∙ (λ i. front ++ drop (size i) (is_zeros i)) ∙ ap (λ l. front ++ l) (drop-replicate {X = ℕ} 3584 4096 0 ∙ sym (replicate-append-replicate {A = ℕ} 507 5 0))
      ∙ sym (append_assoc front journal (replicate 5 0))

  before : take 4091 first ≡ front ++ journal
  before = ap (take 4091) first_is ∙ take_at (front ++ journal) (replicate 5 0) 4091 journal_size

  behind : drop (4091 + 1) first ≡ replicate 4 0
  behind = ap (drop (4091 + 1)) first_is ∙ drop-behind (front ++ journal) (replicate 5 0) (4091 + 1) 1 (omega (arith, journal_size))

  whole : b ≡ front ++ summary_end kind
  whole =
      is ∙ (λ i. (before i ++ kind ∷ []) ++ behind i)
      ∙ append_assoc (front ++ journal) (kind ∷ []) (replicate 4 0)
      ∙ append_assoc front journal (kind ∷ replicate 4 0)

  pub log_entries : (k : ℕ) → k < 512 → summary_entry b k ≡ summary_entry entries k
  log_entries k inside = entry-front b entries k inside (ap (take 3584) whole ∙ take_at front (summary_end kind) 3584 front_size)

  pub log_end : drop 3584 b ≡ summary_end kind
  log_end = ap (drop 3584) whole ∙ drop_at front (summary_end kind) 3584 front_size

-- ---- what the entries come from

pub next-given : (image : Image) (sums : List (ℕ × Block)) (segment k : ℕ) (b : Block) → given sums segment ≡ Some b → summary_entry b k ≡ next_summary image sums segment k
unfolding next_summary
next-given image sums segment k b is =
    ap (λ (o : Option Block). summary_from image (is_log_segment (head image) segment) (segment_start (layout image) segment) k o) (sym is)

pub next-absent : (image : Image) (sums : List (ℕ × Block)) (segment k : ℕ) → given sums segment ≡ None → next_summary image [] segment k ≡ next_summary image sums segment k
unfolding next_summary
next-absent image sums segment k is =
    ap (λ (o : Option Block). summary_from image (is_log_segment (head image) segment) (segment_start (layout image) segment) k o) (given-none {T = Block} segment ∙ sym is)

module _ (image : Image) (m : Mounted) (segment k : ℕ) (of : IsMountOf image m) where
  pub next-held : is_log_segment m.chosen.head segment ≡ true → summary image ((layout_in m).main + 512 * segment + k) ≡ next_summary image [] segment k
  unfolding next_summary
  next-held is_log =
      ap (λ (l : Layout). summary image (segment_start l segment + k)) (own_layout image m of)
      ∙ sym (ap (λ (o : Option Block). summary_from image (is_log_segment (head image) segment) (segment_start (layout image) segment) k o) (given-none {T = Block} segment)
      ∙ ap (λ t. cond t (summary image (segment_start (layout image) segment + k)) no_summary) (ap (λ (b : Block). is_log_segment b segment) (sym (own_head image m of)) ∙ is_log))

  pub next-new : is_log_segment m.chosen.head segment ≡ false → no_summary ≡ next_summary image [] segment k
  unfolding next_summary
  next-new no_log =
      sym (ap (λ (o : Option Block). summary_from image (is_log_segment (head image) segment) (segment_start (layout image) segment) k o) (given-none {T = Block} segment)
      ∙ ap (λ t. cond t (summary image (segment_start (layout image) segment + k)) no_summary) (ap (λ (b : Block). is_log_segment b segment) (sym (own_head image m of)) ∙ no_log))

-- ---- blocks that are set one after another

pub each-set : (P : ℕ → Block → Type 0) (blocks : List Block) (t : ℕ) (b : Block) → t < length blocks → ((n : ℕ) → n < t → P n (block_at blocks n)) → P t b → (n : ℕ) → n < t + 1 → P n (block_at (set blocks t b) n)
each-set P blocks t b inside so_far here n low =
    ⊎_elim (λ less. subst (P n) (sym (get_or-set_other blocks t n b [] (λ same. absurd (omega (arith, same, less))))) (so_far n less))
    (λ past. let same : t ≡ n = omega (arith, low, past) in subst (λ m. P m (block_at (set blocks t b) m)) same (subst (P t) (sym (get_or-set_same blocks t b [] inside)) here))
    (cases_lt n t)

-- ---- results

pub if_ok_more : {T E : Type 0} (r : Result T E) (P Q : T → Type 0) → ((x : T) → P x → Q x) → IfOk r P → IfOk r Q
if_ok_more (Ok x) P Q more holds = more x holds
if_ok_more (Err e) P Q more holds = tt
