-- What emptying a range answers, puts and leaves.
use Rattle.std.proofs.Common.{◌≡◌, ◌∙◌, ℕ, ◌≤◌, ◌<◌, Bool, true, cond, List, arith, Option, Some, None, Result, Ok, refl, sym, ap, subst, inl, inr, true≢false}
use Rattle.std.specs.Prelude.{nat_lt, flat_map, false, option_map, IsFalse}
use Rattle.std.proofs.lemmas.Bool.{le-ltb, lt-ltb}
use Rattle.f2_bytes.specs.Bytes.{Block, Image, block_at}
use Rattle.f2_bytes.specs.Check.{is_checked, is_marked}
use Rattle.f2_bytes.specs.Defragment.{defrag_need, defrag_have}
use Rattle.f2_bytes.specs.Superblock.{passes, copy_of, super_of}
use Rattle.f2_defects.specs.Verdicts.{IsVerdict, Says}
use Rattle.f2_defects.specs.declared.verdict.Verdict.{Verdict}
use Rattle.f2_defects.specs.declared.verdict.Verdict.TheVariants as verdict
use Rattle.f2_disk.specs.Disk.{State, Reads, LeavesOnly}
use Rattle.f2_disk.proofs.Runs.{at_rest, quiet_on, reads_first, started, weaker}
use Rattle.f2_super.specs.Load.{KeepsSuper}
use Rattle.f2_commit.specs.Moves.{HasSameFiles}
use Rattle.f2_reloc.specs.Emptying.{IsEmptied}
use Rattle.f2_commit.specs.declared.relocating.Moved.{Moved}
use Rattle.f2_view.specs.Mounted.{Mounted, layout_in}
use Rattle.f2_view.specs.declared.mounting.MountRefusal.{MountRefusal}
use Rattle.f2_top.specs.Answers.{IsWhole}
use Rattle.f2_top.specs.Ranges.{Aim, HasNone, KeepsTreeAlways, LeavesEmptied, lines_unless_failing, moves_line, aim_of, outside_aim, space_answer, unless_failing, unless_outside}
use Rattle.f2_top.specs.Run.{LeavesMoved, least_failing, move_answer, move_lines, said_answer, said_lines}
use Rattle.f2_top.specs.Text.{defect_line, defect_lines, moved_line}
use Rattle.f2_top.specs.declared.moves.DefragRequest.{DefragRequest}
use Rattle.f2_top.specs.declared.answer.Answer.{Answer}
use Rattle.f2_top.specs.declared.answer.Answer.TheVariants.{Done, Defects, NoSpace}

pub space_done : (image : Image) (a : Aim) → defrag_need image a.start a.end ≤ defrag_have image a.start a.end a.target a.down → space_answer image a ≡ Done
space_done image a enough =
    let need = defrag_need image a.start a.end in
    let have = defrag_have image a.start a.end a.target a.down in
    ap (λ t. cond t (NoSpace need have) Done) (le-ltb have need enough)

pub space_short : (image : Image) (a : Aim) (need have : ℕ) → need ≡ defrag_need image a.start a.end → have ≡ defrag_have image a.start a.end a.target a.down → have < need
    → NoSpace need have ≡ space_answer image a
space_short image a need have needs has short =
    let over : nat_lt have need ≡ true = lt-ltb have need short in
    sym (ap (λ t. cond t (NoSpace need have) Done) over) ∙ (λ i. cond (nat_lt (has i) (needs i)) (NoSpace (needs i) (has i)) Done)

-- the line of what moved is that of the moves
pub line_is : (image new : Image) (a : Aim) (moved : Moved) → IsEmptied image a.start a.end a.target a.down new moved → moved_line moved.blocks moved.batches ≡ moves_line image a
line_is image new a moved is = λ i. moved_line (is.blocks i) (is.batches i)

-- a range that was emptied is left so
pub left_done : (image new : Image) (a : Aim) (moved : Moved) → IsEmptied image a.start a.end a.target a.down new moved → LeavesEmptied image a (space_answer image a) new
left_done image new a moved is = subst (λ (answer : Answer). LeavesEmptied image a answer new) (sym (space_done image a is.enough)) (moved, is)

-- an answer with which nothing is left but the image
pub left_short : (image : Image) (a : Aim) (need have : ℕ) → NoSpace need have ≡ space_answer image a → LeavesEmptied image a (space_answer image a) image
left_short image a need have is = subst (λ (answer : Answer). LeavesEmptied image a answer image) is refl

-- a checked image of which nothing moves has no valid block in the range
pub none_there : (image : Image) (a : Aim) → is_checked image ≡ true → HasNone image a → (address : ℕ) → a.start ≤ address → address < a.end → IsFalse (is_marked image address)
none_there image a checked (inl fails) = absurd (true≢false (sym checked ∙ fails))
none_there image a checked (inr none) = none

-- ---- after the check

pub done_whole : (answer : Answer) → answer ≡ Done → IsWhole answer
done_whole answer is = subst IsWhole (sym is) tt

pub clean_answer : (image : Image) (o : Option ℕ) (answer : Answer) → o ≡ None → unless_failing image o answer ≡ answer
clean_answer image o answer none = ap (λ r. unless_failing image r answer) none

pub clean_lines : (image : Image) (o : Option ℕ) (lines : List ℕ) → o ≡ None → lines_unless_failing image o lines ≡ lines
clean_lines image o lines none = ap (λ r. lines_unless_failing image r lines) none

-- the check found defects
abbrev pub IsDefective : Verdict → Type 0
IsDefective verdict.Clean = ⊥
IsDefective (verdict.Defects rule list count) = Unit {0}

-- then these are the answer, the lines and what is left
failing_answer : (image : Image) (o : Option ℕ) (v : Verdict) (answer : Answer) → IsDefective v → Says image o v → said_answer v ≡ unless_failing image o answer
failing_answer image o verdict.Clean answer fails says = absurd fails
failing_answer image None (verdict.Defects rule list count) answer fails says = absurd says
failing_answer image (Some least) (verdict.Defects rule list count) answer fails says = λ i. Defects (says.0 i) (says.2 i)

failing_lines : (image : Image) (o : Option ℕ) (v : Verdict) (lines : List ℕ) → IsDefective v → Says image o v → said_lines false image v ≡ lines_unless_failing image o lines
unfolding defect_lines
failing_lines image o verdict.Clean lines fails says = absurd fails
failing_lines image None (verdict.Defects rule list count) lines fails says = absurd says
failing_lines image (Some least) (verdict.Defects rule list count) lines fails says = λ i. flat_map (defect_line (says.0 i)) (says.1 i)

failing_whole : (image : Image) (o : Option ℕ) (v : Verdict) (answer : Answer) → IsDefective v → Says image o v → IsWhole (unless_failing image o answer)
failing_whole image o verdict.Clean answer fails says = absurd fails
failing_whole image None (verdict.Defects rule list count) answer fails says = absurd says
failing_whole image (Some least) (verdict.Defects rule list count) answer fails says = tt

failing_left : (image : Image) (a : Aim) (o : Option ℕ) (v : Verdict) (answer : Answer) → IsDefective v → Says image o v → LeavesEmptied image a (unless_failing image o answer) image
failing_left image a o verdict.Clean answer fails says = absurd fails
failing_left image a None (verdict.Defects rule list count) answer fails says = absurd says
failing_left image a (Some least) (verdict.Defects rule list count) answer fails says = refl

pub defects_answer : (image : Image) (v : Verdict) (answer : Answer) → IsDefective v → IsVerdict image 1 v → said_answer v ≡ unless_failing image (least_failing image) answer
unfolding least_failing
defects_answer image v answer fails says = failing_answer image (least_failing image) v answer fails says

pub defects_text : (image : Image) (v : Verdict) (lines : List ℕ) → IsDefective v → IsVerdict image 1 v → said_lines false image v ≡ lines_unless_failing image (least_failing image) lines
unfolding least_failing
defects_text image v lines fails says = failing_lines image (least_failing image) v lines fails says

pub defects_whole : (image : Image) (v : Verdict) (answer : Answer) → IsDefective v → IsVerdict image 1 v → IsWhole (unless_failing image (least_failing image) answer)
unfolding least_failing
defects_whole image v answer fails says = failing_whole image (least_failing image) v answer fails says

pub defects_left : (image : Image) (a : Aim) (v : Verdict) (answer : Answer) → IsDefective v → IsVerdict image 1 v → LeavesEmptied image a (unless_failing image (least_failing image) answer) image
unfolding least_failing
defects_left image a v answer fails says = failing_left image a (least_failing image) v answer fails says

-- ---- after the mount, where no number lies outside

module _ (w : DefragRequest) (image : Image) (m : Mounted) (r : Result Mounted MountRefusal) (a : Aim) (same : Ok m ≡ r) (none : outside_aim (layout_in m) w ≡ None) (aim : a ≡ aim_of (layout_in m) w) where
  pub range_answer : unless_failing image (least_failing image) (space_answer image a) ≡ move_answer w image r
  range_answer =
      let whole = unless_failing image (least_failing image) (space_answer image (aim_of (layout_in m) w)) in
      ap (λ (b : Aim). unless_failing image (least_failing image) (space_answer image b)) aim ∙ sym (ap (λ o. unless_outside o whole) none) ∙ ap (λ x. move_answer w image x) same

  pub range_lines : lines_unless_failing image (least_failing image) (moves_line image a) ≡ move_lines w image r
  range_lines = ap (λ (b : Aim). lines_unless_failing image (least_failing image) (moves_line image b)) aim ∙ ap (λ x. move_lines w image x) same

  pub range_left : (left : Image) → LeavesEmptied image a (unless_failing image (least_failing image) (space_answer image a)) left → LeavesMoved w image r left
  range_left left is =
      let to = aim_of (layout_in m) w in
      let whole = unless_failing image (least_failing image) (space_answer image to) in
      let there = subst (λ (b : Aim). LeavesEmptied image b (unless_failing image (least_failing image) (space_answer image b)) left) aim is in
      let own : LeavesMoved w image (Ok m) left = subst (λ (answer : Answer). LeavesEmptied image to answer left) (sym (ap (λ o. unless_outside o whole) none)) there in
      subst (λ (x : Result Mounted MountRefusal). LeavesMoved w image x left) same own

-- ---- the superblock

-- the copy that counts of these two
abbrev super_from : Block → Block → Option (List ℕ)
super_from a b = cond (passes a) (Some (copy_of a)) (cond (passes b) (Some (copy_of b)) None)

picks : (P : ℕ → List ℕ) (a b : Bool) → option_map P (cond a (Some 0) (cond b (Some 1) None)) ≡ cond a (Some (P 0)) (cond b (Some (P 1)) None)
picks P true b = refl
picks P false true = refl
picks P false false = refl

super_is : (image : Image) → super_of image ≡ super_from (block_at image 0) (block_at image 1)
super_is image = picks (λ n. copy_of (block_at image n)) (passes (block_at image 0)) (passes (block_at image 1))

super_kept : (image left : Image) → ((n : ℕ) → n < 2 → block_at left n ≡ block_at image n) → super_of left ≡ super_of image
super_kept image left same =
    let first = same 0 (omega arith) in
    let second = same 1 (omega arith) in
    super_is left ∙ (λ i. super_from (first i) (second i)) ∙ sym (super_is image)

-- ---- at any moment

-- nothing is done
pub same_reads : (s : State) → Reads s s
same_reads s = record { writes = refl; told = refl; pending = refl; crash = λ c may. may; leaves = λ c may. may; since = λ t c low left. left }

-- reads, and a run after them that keeps the tree, or none
module _ {old : State} (only_now : (c : Image) → old.left_since old.moment c → old.may_leave c) (settled : (c : Image) → old.pending ≡ false → old.may_leave c → old.told ≡ Some c) where
  pub always_then : {mid new : State} → Reads old mid → old.moment ≤ mid.moment → KeepsTreeAlways mid new → KeepsTreeAlways old new
  always_then reads later run = λ calm image told checked.
      reads_first reads later (at_rest old image (HasSameFiles image) only_now (λ c left. settled c calm left) told (checked, refl, λ n low. refl)) (run (reads.pending ∙ calm) image (reads.told ∙ told) checked)

  pub always_read : {new : State} → Reads old new → KeepsTreeAlways old new
  always_read {new = new} reads = λ calm image told checked.
      let start = started old (HasSameFiles image) (at_rest old image (HasSameFiles image) only_now (λ c left. settled c calm left) told (checked, refl, λ n low. refl)) in
      quiet_on {new = new} start (omega arith) reads.since

  -- moves keep the superblock, if they move nothing of an image that is not checked
  pub super_stays : {new : State} → ((image : Image) → old.told ≡ Some image → is_checked image ≡ false → Reads old new) → KeepsTreeAlways old new → KeepsSuper old new
  super_stays {new = new} idle run = λ calm image told s has. by calm image told s has (is_checked image) refl
    where
      by : old.pending ≡ false → (image : Image) → old.told ≡ Some image → (s : List ℕ) → super_of image ≡ Some s → (b : Bool) → is_checked image ≡ b → LeavesOnly old new (λ c. super_of c ≡ Some s)
      by calm image told s has true holds = weaker (HasSameFiles image) (λ c. super_of c ≡ Some s) (λ c kept. super_kept image c kept.2 ∙ has) (run calm image told holds)
      by calm image told s has false fails =
          let start = started old (λ c. super_of c ≡ Some s) (at_rest old image (λ c. super_of c ≡ Some s) only_now (λ c left. settled c calm left) told has) in
          quiet_on {new = new} start (omega arith) (idle image told fails).since
