-- An image that was mounted can be read, and what the check says of it then.
use Rattle.std.proofs.Common.{◌≡◌, ◌∙◌, ℕ, ◌^◌, Bool, true, false, cond, ◌&&◌, ◌==◌, List, length, Option, Some, None, Result, Ok, Err, is_some, refl, sym, ap, subst, arith, ⊎_elim}
use Rattle.std.specs.Prelude.{unwrap_or, is_none, nat_le, nat_lt}
use Rattle.std.proofs.lemmas.Bool.{ltb-false, and_from, and_parts}
use Rattle.std.proofs.lemmas.Bool.Decides.{leb_tells}
use Rattle.f2_bytes.specs.Bytes.{Image, block_at}
use Rattle.f2_bytes.specs.Check.{failing_rule, is_checked, is_readable}
use Rattle.f2_bytes.specs.Checkpoint.{pack, pack_at, pack_head, chosen_pack, checkpoint_ver, has_checkpoint}
use Rattle.f2_bytes.specs.Journal.{nat_journal_area, sit_journal_area, journal_count, nat_room, sit_room, are_journals_bounded}
use Rattle.f2_bytes.specs.Superblock.{copy_of, super_copy, has_twins, is_loadable, layout, layout_of, unsupported_features, block_count}
use Rattle.f2_defects.specs.Verdicts.{Says, IsVerdict}
use Rattle.f2_defects.specs.declared.verdict.Verdict.{Verdict}
use Rattle.f2_defects.specs.declared.verdict.Verdict.TheVariants.{Clean, Defects}
use Rattle.f2_super.specs.Load.{loaded, loaded_copy, refusal_of, unless}
use Rattle.f2_super.specs.declared.loading.Found.{Found}
use Rattle.f2_super.specs.declared.loading.SuperRefusal.{SuperRefusal}
use Rattle.f2_super.specs.declared.loading.SuperRefusal.TheVariants.{Unsupported, TooLarge, Truncated}
use Rattle.f2_pack.specs.Choice.{choice, choice_in, version_limit}
use Rattle.f2_pack.specs.Held.{Held, chosen_of}
use Rattle.f2_pack.specs.declared.choosing.PackRefusal.{PackRefusal}
use Rattle.f2_view.specs.Mounted.{Mounted, IsMountOf, layout_in}
use Rattle.f2_view.specs.Mounting.{mounted, with_pack, with_super}
use Rattle.f2_top.specs.Run.{least_failing}

not_above : (a b : ℕ) → nat_lt a b ≡ false → nat_le b a ≡ true
not_above a b is = ⊎_elim (λ p. p.0) (λ q. let low = ltb-false a b is in let high = q.1 in absurd (omega (arith, low, high))) (leb_tells b a)

-- ---- the superblock

not_refused : (known large short : Bool) (a b c : SuperRefusal) → cond known (cond large (Some a) (cond short (Some b) None)) (Some c) ≡ None → (known ≡ true) × (large ≡ false) × (short ≡ false)
not_refused true true short a b c is = cc
not_refused true false true a b c is = cc
not_refused true false false a b c is = (refl, refl, refl)
not_refused false large short a b c is = cc

fits : (size : ℕ) (c : List ℕ) → refusal_of size c ≡ None → ((unsupported_features c == 0) ≡ true) × (nat_lt (2 ^ 28) (block_count c) ≡ false) × (nat_lt size (block_count c) ≡ false)
unfolding refusal_of
fits size c is =
    not_refused (unsupported_features c == 0) (nat_lt (2 ^ 28) (block_count c)) (nat_lt size (block_count c))
    (TooLarge (block_count c)) (Truncated (block_count c) size) (Unsupported (unsupported_features c)) is

loaded_fits : (size : ℕ) (image : Image) (twin : Bool) (copy : Option ℕ) (found : Found) → length image ≡ size → loaded_copy size image copy twin ≡ Ok found
    → (is_some copy && (unsupported_features (copy_of (block_at image (unwrap_or copy 0))) == 0) && nat_le (block_count (copy_of (block_at image (unwrap_or copy 0)))) (2 ^ 28) && nat_le (block_count (copy_of (block_at image (unwrap_or copy 0)))) (length image)) ≡ true
loaded_fits size image twin None found long is = cc
loaded_fits size image twin (Some n) found long is = go (refusal_of size c) refl is
  where
    c : List ℕ
    c = copy_of (block_at image n)

    go : (r : Option SuperRefusal) → refusal_of size c ≡ r → unless r (record { sup = c; copy = n; twin = twin }) ≡ Ok found
        → (true && (unsupported_features c == 0) && nat_le (block_count c) (2 ^ 28) && nat_le (block_count c) (length image)) ≡ true
    go (Some refusal) e is = cc
    go None e is =
        let each = fits size c e in
        let held = subst (λ (k : ℕ). nat_le (block_count c) k ≡ true) (sym long) (not_above size (block_count c) each.2) in
        λ i. true && each.0 i && not_above (2 ^ 28) (block_count c) each.1 i && held i

-- ---- the pack

bounded_in : (late bad worse : Bool) (v a b : PackRefusal) (value held : Held) → cond late (Err v) (cond bad (Err a) (cond worse (Err b) (Ok value))) ≡ Ok held → (bad ≡ false) × (worse ≡ false)
bounded_in true bad worse v a b value held is = cc
bounded_in false true worse v a b value held is = cc
bounded_in false false true v a b value held is = cc
bounded_in false false false v a b value held is = (refl, refl)

bounded : (image : Image) (number : Option ℕ) (held : Held) → chosen_pack (layout image) image ≡ number → choice_in (pack_at (layout image) image) number ≡ Ok held → are_journals_bounded (pack image) ≡ true
unfolding pack
bounded image None held counts is = cc
bounded image (Some n) held counts is =
    let p = pack_at (layout image) image n in
    let nat = journal_count (nat_journal_area p) in
    let sit = journal_count (sit_journal_area p) in
    let both = bounded_in (nat_le version_limit (checkpoint_ver (pack_head p))) (nat_lt nat_room nat) (nat_lt sit_room sit) _ _ _ (chosen_of p n) held is in
    let own : are_journals_bounded p ≡ true = and_from (nat_le nat nat_room) (nat_le sit sit_room) (not_above nat_room nat both.0) (not_above sit_room sit both.1) in
    subst (λ (k : Option ℕ). are_journals_bounded (pack_at (layout image) image (unwrap_or k 0)) ≡ true) (sym counts) own

-- ---- the mount

parts : (image : Image) (r : Result Found SuperRefusal) (m : Mounted) → with_super image r ≡ Ok m → (r ≡ Ok m.found) × (choice (layout_of m.found.sup) image ≡ Ok m.chosen)
parts image (Err refusal) m is = cc
parts image (Ok found) m is = go (choice (layout_of found.sup) image) refl is
  where
    go : (r : Result Held PackRefusal) → choice (layout_of found.sup) image ≡ r → with_pack found r ≡ Ok m → (◌≡◌ {A = Result Found SuperRefusal} (Ok found) (Ok m.found)) × (choice (layout_of m.found.sup) image ≡ Ok m.chosen)
    go (Err refusal) e is = cc
    go (Ok held) e is =
        let same : m ≡ record { found = found; chosen = held } = cc in
        (ap (λ (x : Mounted). Ok x.found) (sym same), ap (λ (x : Mounted). choice (layout_of x.found.sup) image) same ∙ e ∙ ap (λ (x : Mounted). Ok x.chosen) (sym same))

pub layout_same : (image : Image) (m : Mounted) → IsMountOf image m → layout_in m ≡ layout image
unfolding layout
layout_same image m of = ap layout_of of.sup

pub readable : (size : ℕ) (image : Image) (m : Mounted) → length image ≡ size → Ok m ≡ mounted size image → IsMountOf image m → is_readable image ≡ true
readable size image m long is of =
    let both = parts image (loaded size image) m (sym is) in
    let loads : is_loadable image ≡ true = loaded_fits size image (has_twins image) (super_copy image) m.found long both.0 in
    let chooses : choice (layout image) image ≡ Ok m.chosen = ap (λ l. choice l image) (sym (layout_same image m of)) ∙ both.1 in
    let journals = bounded image (chosen_pack (layout image) image) m.chosen refl chooses in
    and_from (is_loadable image && has_checkpoint image) (are_journals_bounded (pack image)) (and_from (is_loadable image) (has_checkpoint image) loads of.checkpoint) journals

-- ---- the verdict

none_fails : (image : Image) (o : Option ℕ) → Says image o Clean → o ≡ None
none_fails image None says = refl
none_fails image (Some rule) says = absurd says

pub clean_none : (image : Image) → IsVerdict image 1 Clean → least_failing image ≡ None
unfolding least_failing
clean_none image says = none_fails image (failing_rule image 1) says

pub clean_checked : (image : Image) → is_readable image ≡ true → IsVerdict image 1 Clean → is_checked image ≡ true
clean_checked image reads says = and_from (is_readable image) (is_none (failing_rule image 1)) reads (ap is_none (none_fails image (failing_rule image 1) says))

-- a checked image has no defects
says_clean : (image : Image) (o : Option ℕ) (v : Verdict) → is_none o ≡ true → Says image o v → v ≡ Clean
says_clean image None Clean none says = refl
says_clean image None (Defects rule list count) none says = absurd says
says_clean image (Some least) v none says = cc

pub checked_clean : (image : Image) (v : Verdict) → is_checked image ≡ true → IsVerdict image 1 v → v ≡ Clean
checked_clean image v checked says = says_clean image (failing_rule image 1) v (and_parts (is_readable image) (is_none (failing_rule image 1)) checked).1 says
