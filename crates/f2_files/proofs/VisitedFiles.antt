-- What is kept of files, whichever tour it is: at the begin and the end of one, at its words, and past a number that is none.
use Rattle.std.proofs.Common.{◌≡◌, ℕ, zero, suc, ◌+◌, ◌-◌, ◌<◌, ◌≤◌, List, [], ◌∷◌, ◌++◌, false, cond, length, get_or, Some, None, sym, ap, subst, ◌∙◌, append_assoc, arith}
use Rattle.std.specs.Prelude.{filter_map, flat_map}
use Rattle.std.proofs.lemmas.Bool.{eq-eqb, ne_eqb}
use Rattle.std.proofs.lemmas.List.{append-nil}
use Rattle.f2_bytes.specs.Bytes.{Block, Image, numbers_below}
use Rattle.f2_bytes.specs.Tree.{is_inode}
use Rattle.f2_bytes.specs.Check.{inode_of}
use Rattle.f2_files.specs.Files.{IsAfter, HasSlots, IsInside}
use Rattle.f2_files.specs.Kept.{KeptAfter, KeptInside}
use Rattle.f2_files.specs.Repeats.{HasClaims, HasRepeats}
use Rattle.f2_survey.specs.Slots.{Slot, Row, slot_in_row, row_slots, file_rows, file_slots, slots_below}
use Rattle.f2_files.specs.declared.files.Files.{Files}
use Rattle.f2_files.specs.declared.files.Files.TheVariants as files
use Rattle.f2_files.specs.declared.kept_of_files.Kept.{Kept}
use Rattle.f2_files.specs.declared.repeated_claims.Claims.{Claims}
use Rattle.f2_files.specs.declared.repeated_claims.Repeats.{Repeats}
use Rattle.f2_items.proofs.FileSlots.{inode-is, slots_below-none, slots_below-inode, slots_below-other}
use Rattle.f2_items.proofs.GrownLists.{optional, filter_map_push, flat_map_push}
use Rattle.f2_files.proofs.KeptFiles.{kept-pass}
use Rattle.f2_survey.proofs.NumberLists.{numbers-none, numbers-more}
use Rattle.f2_files.proofs.RowSlots.{slots_of_rows}

-- ---- words

module _ (row : Row) (j : ℕ) where
  words-more : filter_map (slot_in_row row) (numbers_below (j + 1)) ≡ filter_map (slot_in_row row) (numbers_below j) ++ optional (slot_in_row row j)
  words-more = ap (filter_map (slot_in_row row)) (numbers-more j) ∙ filter_map_push (slot_in_row row) (numbers_below j) j

  -- the slot in a word that is not 0
  abbrev pub slot_of_word : Slot
  slot_of_word = record { ino = row.ino; k = row.first + j; address = get_or row.words j 0; nid = row.nid; place = j }

  pub word-hole : get_or row.words j 0 ≡ 0 → filter_map (slot_in_row row) (numbers_below (j + 1)) ≡ filter_map (slot_in_row row) (numbers_below j)
  word-hole none =
      words-more
      ∙ ap (λ b. filter_map (slot_in_row row) (numbers_below j) ++ optional (cond b None (Some slot_of_word))) (eq-eqb (get_or row.words j 0) 0 none)
      ∙ append-nil (filter_map (slot_in_row row) (numbers_below j))

  pub word-slot : (get_or row.words j 0 ≡ 0 → ⊥) → filter_map (slot_in_row row) (numbers_below (j + 1)) ≡ filter_map (slot_in_row row) (numbers_below j) ++ slot_of_word ∷ []
  word-slot some =
      words-more
      ∙ ap (λ b. filter_map (slot_in_row row) (numbers_below j) ++ optional (cond b None (Some slot_of_word))) (ne_eqb (get_or row.words j 0) 0 some)

pub row-none : (row : Row) (slots : List Slot) → slots ≡ slots ++ filter_map (slot_in_row row) (numbers_below 0)
row-none row slots = sym (append-nil slots) ∙ ap (λ l. slots ++ filter_map (slot_in_row row) l) (sym numbers-none)

-- the words behind the last one that is not 0 are holes
module _ (row : Row) (used : ℕ) (inside : used ≤ length row.words) (none : (j : ℕ) → used ≤ j → j < length row.words → get_or row.words j 0 ≡ 0) where
  holes : (more : ℕ) → used + more ≤ length row.words → filter_map (slot_in_row row) (numbers_below (used + more)) ≡ filter_map (slot_in_row row) (numbers_below used)
  holes zero low = ap (λ n. filter_map (slot_in_row row) (numbers_below n)) (let e : used + 0 ≡ used = omega arith in e)
  holes (suc more) low =
      ap (λ n. filter_map (slot_in_row row) (numbers_below n)) (let e : used + suc more ≡ used + more + 1 = omega arith in e)
      ∙ word-hole row (used + more) (none (used + more) (omega arith) (omega (arith, low)))
      ∙ holes more (omega (arith, low))

  -- one row more
  pub row-used : (rows : List Row) → flat_map row_slots rows ++ filter_map (slot_in_row row) (numbers_below used) ≡ flat_map row_slots (rows ++ row ∷ [])
  unfolding row_slots
  row-used rows =
      ap (λ l. flat_map row_slots rows ++ l)
      (sym (holes (length row.words - used) (omega (arith, inside))) ∙ ap (λ n. filter_map (slot_in_row row) (numbers_below n)) (let e : used + (length row.words - used) ≡ length row.words = omega (arith, inside) in e))
      ∙ sym (flat_map_push row_slots rows row)

-- ---- begin and end

module _ (image : Image) where
  pub begin-kept : (ino : ℕ) (f : Files) (old new : Kept) → f ≡ files.Kept old → (KeptAfter image ino old → KeptInside image ino [] new) → IsAfter image ino f → IsInside image ino [] (files.Kept new)
  unfolding IsAfter HasSlots
  begin-kept ino f old new is step after = step (subst (IsAfter image ino) is after)

  pub begin-claims : (ino : ℕ) (f : Files) (c : Claims) → f ≡ files.Claims c → IsAfter image ino f → IsInside image ino [] f
  unfolding IsAfter HasSlots
  begin-claims ino f c is after =
      subst (IsInside image ino []) (sym is) (subst (λ slots. HasClaims image slots c) (sym (append-nil (slots_below image ino))) (subst (IsAfter image ino) is after))

  pub begin-repeats : (ino : ℕ) (f : Files) (r : Repeats) → f ≡ files.Repeats r → IsAfter image ino f → IsInside image ino [] f
  unfolding IsAfter HasSlots
  begin-repeats ino f r is after =
      subst (IsInside image ino []) (sym is) (subst (λ slots. HasRepeats image slots r) (sym (append-nil (slots_below image ino))) (subst (IsAfter image ino) is after))

  pub take-kept : (ino : ℕ) (slots : List Slot) (s : Slot) (f : Files) (old new : Kept) → f ≡ files.Kept old → (KeptInside image ino slots old → KeptInside image ino (slots ++ s ∷ []) new)
      → HasSlots image ino slots f → HasSlots image ino (slots ++ s ∷ []) (files.Kept new)
  unfolding HasSlots
  take-kept ino slots s f old new is step inside = step (subst (HasSlots image ino slots) is inside)

  pub take-claims : (ino : ℕ) (slots : List Slot) (s : Slot) (f : Files) (old new : Claims) → f ≡ files.Claims old
      → (HasClaims image (slots_below image ino ++ slots) old → HasClaims image (slots_below image ino ++ slots ++ s ∷ []) new)
      → HasSlots image ino slots f → HasSlots image ino (slots ++ s ∷ []) (files.Claims new)
  unfolding HasSlots
  take-claims ino slots s f old new is step inside =
      subst (λ l. HasClaims image l new) (append_assoc (slots_below image ino) slots (s ∷ [])) (step (subst (HasSlots image ino slots) is inside))

  pub take-repeats : (ino : ℕ) (slots : List Slot) (s : Slot) (f : Files) (old new : Repeats) → f ≡ files.Repeats old
      → (HasRepeats image (slots_below image ino ++ slots) old → HasRepeats image (slots_below image ino ++ slots ++ s ∷ []) new)
      → HasSlots image ino slots f → HasSlots image ino (slots ++ s ∷ []) (files.Repeats new)
  unfolding HasSlots
  take-repeats ino slots s f old new is step inside =
      subst (λ l. HasRepeats image l new) (append_assoc (slots_below image ino) slots (s ∷ [])) (step (subst (HasSlots image ino slots) is inside))

  -- all rows of a file have its slots
  whole : (ino : ℕ) (f : Files) → IsInside image ino (file_rows image ino) f → HasSlots image ino (file_slots image ino) f
  whole ino f inside = subst (λ slots. HasSlots image ino slots f) (sym (slots_of_rows image ino)) inside

  pub end-kept : (ino : ℕ) (f : Files) (old new : Kept) → f ≡ files.Kept old → (KeptInside image ino (file_slots image ino) old → KeptAfter image (suc ino) new)
      → IsInside image ino (file_rows image ino) f → IsAfter image (suc ino) (files.Kept new)
  unfolding IsAfter HasSlots
  end-kept ino f old new is step inside = step (subst (HasSlots image ino (file_slots image ino)) is (whole ino f inside))

  pub end-claims : (ino : ℕ) (inode : Block) (f : Files) (c : Claims) → f ≡ files.Claims c → inode_of image ino ≡ Some inode → IsInside image ino (file_rows image ino) f → IsAfter image (suc ino) f
  unfolding IsAfter HasSlots
  end-claims ino inode f c is there inside =
      subst (IsAfter image (suc ino)) (sym is) (subst (λ slots. HasClaims image slots c) (sym (slots_below-inode image ino (inode-is image ino inode there)))
      (subst (HasSlots image ino (file_slots image ino)) is (whole ino f inside)))

  pub end-repeats : (ino : ℕ) (inode : Block) (f : Files) (r : Repeats) → f ≡ files.Repeats r → inode_of image ino ≡ Some inode → IsInside image ino (file_rows image ino) f → IsAfter image (suc ino) f
  unfolding IsAfter HasSlots
  end-repeats ino inode f r is there inside =
      subst (IsAfter image (suc ino)) (sym is) (subst (λ slots. HasRepeats image slots r) (sym (slots_below-inode image ino (inode-is image ino inode there)))
      (subst (HasSlots image ino (file_slots image ino)) is (whole ino f inside)))

  -- a number that is no inode
  pub files_pass : (n : ℕ) (f : Files) → IsAfter image n f → is_inode image n ≡ false → IsAfter image (suc n) f
  unfolding IsAfter
  files_pass n (files.Kept k) after is = kept-pass image n k is after
  files_pass n (files.Claims c) after is = subst (λ slots. HasClaims image slots c) (sym (slots_below-other image n is)) after
  files_pass n (files.Repeats r) after is = subst (λ slots. HasRepeats image slots r) (sym (slots_below-other image n is)) after

  -- ---- a tour that keeps addresses: before its first file, and after its last one

  pub claims_start : (c : Claims) → HasClaims image [] c → IsAfter image 0 (files.Claims c)
  unfolding IsAfter
  claims_start c has = subst (λ slots. HasClaims image slots c) (sym (slots_below-none image)) has

  pub repeats_start : (r : Repeats) → HasRepeats image [] r → IsAfter image 0 (files.Repeats r)
  unfolding IsAfter
  repeats_start r has = subst (λ slots. HasRepeats image slots r) (sym (slots_below-none image)) has

  pub kept_after : (n : ℕ) (f : Files) (k : Kept) → f ≡ files.Kept k → IsAfter image n f → KeptAfter image n k
  unfolding IsAfter
  kept_after n f k is after = subst (IsAfter image n) is after

  pub after_kept : (n : ℕ) (k : Kept) → KeptAfter image n k → IsAfter image n (files.Kept k)
  unfolding IsAfter
  after_kept n k after = after

  pub claims_after : (n : ℕ) (f : Files) (c : Claims) → f ≡ files.Claims c → IsAfter image n f → HasClaims image (slots_below image n) c
  unfolding IsAfter
  claims_after n f c is after = subst (IsAfter image n) is after

  pub repeats_after : (n : ℕ) (f : Files) (r : Repeats) → f ≡ files.Repeats r → IsAfter image n f → HasRepeats image (slots_below image n) r
  unfolding IsAfter
  repeats_after n f r is after = subst (IsAfter image n) is after
