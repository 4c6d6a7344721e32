-- What was mounted of an image is what the image says.
use Rattle.std.proofs.Common.{◌≡◌, ◌==◌, ℕ, ◌^◌, Bool, true, false, cond, List, Option, Some, None, Ok, Err, refl, sym, ap, ◌∙◌}
use Rattle.std.specs.Prelude.{unwrap_or, is_some, nat_le, nat_lt, Result}
use Rattle.std.proofs.lemmas.Bool.{eqb-true}
use Rattle.f2_bytes.specs.declared.layout.Layout.{Layout}
use Rattle.f2_bytes.specs.Bytes.{Image, block_at}
use Rattle.f2_bytes.specs.Superblock.{copy_of, super_copy, super_bytes, has_twins, layout, layout_of, block_count, unsupported_features}
use Rattle.f2_bytes.specs.Checkpoint.{pack, pack_at, pack_head, pack_number, has_checkpoint, chosen_pack, checkpoint_ver}
use Rattle.f2_bytes.specs.Journal.{nat_journal_area, sit_journal_area, journal_count, nat_room, sit_room}
use Rattle.f2_super.specs.Load.{loaded, loaded_copy, refusal_of, unless}
use Rattle.f2_super.specs.declared.loading.Found.{Found}
use Rattle.f2_super.specs.declared.loading.SuperRefusal.{SuperRefusal}
use Rattle.f2_super.specs.declared.loading.SuperRefusal.TheVariants.{Unsupported, TooLarge, Truncated}
use Rattle.f2_pack.specs.Choice.{choice, choice_in, version_limit}
use Rattle.f2_pack.specs.Held.{Held, chosen_of}
use Rattle.f2_pack.specs.declared.choosing.PackRefusal.{PackRefusal}
use Rattle.f2_view.specs.Mounted.{Mounted, IsMountOf}
use Rattle.f2_view.specs.Mounting.{with_pack}

-- the value of an answer that is not a refusal
abbrev pub Gives : {T E : Type 0} → Result T E → T → Type 0
Gives result value = result ≡ Ok value

gives_unless : (refusal : Option SuperRefusal) (f found : Found) → unless refusal f ≡ Ok found → found ≡ f
gives_unless None f found is = cc
gives_unless (Some refusal) f found is = cc

-- where a superblock is not refused, it has no feature bit that isn't read
none_unless : (refusal : Option SuperRefusal) (f found : Found) → unless refusal f ≡ Ok found → refusal ≡ None
none_unless None f found is = refl
none_unless (Some refusal) f found is = cc

not_refused : (known large short : Bool) (a b c : SuperRefusal) → cond known (cond large (Some a) (cond short (Some b) None)) (Some c) ≡ None → known ≡ true
not_refused true large short a b c is = refl
not_refused false large short a b c is = cc

no_other_feature : (size : ℕ) (c : List ℕ) → refusal_of size c ≡ None → unsupported_features c ≡ 0
unfolding refusal_of
no_other_feature size c is =
    eqb-true (unsupported_features c) 0
    (not_refused (unsupported_features c == 0) (nat_lt (2 ^ 28) (block_count c)) (nat_lt size (block_count c))
    (TooLarge (block_count c)) (Truncated (block_count c) size) (Unsupported (unsupported_features c)) is)

-- what was loaded of an image
pub record Loads (image : Image) (found : Found) : Type 0 where
  pub copy : super_copy image ≡ Some found.copy
  pub sup : found.sup ≡ super_bytes image
  pub twin : found.twin ≡ has_twins image
  pub supported : unsupported_features found.sup ≡ 0

loads_of : (size : ℕ) (image : Image) (copy : Option ℕ) (found : Found) → super_copy image ≡ copy → loaded_copy size image copy (has_twins image) ≡ Ok found → Loads image found
loads_of size image None found counts is = cc
loads_of size image (Some n) found counts is =
    let c = copy_of (block_at image n) in
    let same : found ≡ record { sup = c; copy = n; twin = has_twins image } = gives_unless (refusal_of size c) (record { sup = c; copy = n; twin = has_twins image }) found is in
    record {
      copy = counts ∙ ap (λ (f : Found). Some f.copy) (sym same);
      sup = ap (λ (f : Found). f.sup) same ∙ ap (λ (k : Option ℕ). copy_of (block_at image (unwrap_or k 0))) (sym counts);
      twin = ap (λ (f : Found). f.twin) same;
      supported =
          ap (λ (f : Found). unsupported_features f.sup) same
          ∙ no_other_feature size c (none_unless (refusal_of size c) (record { sup = c; copy = n; twin = has_twins image }) found is);
    }

-- what was read of a pack is what is kept of it
read_gives : (bad worse : Bool) (a b : PackRefusal) (value held : Held) → cond bad (Err a) (cond worse (Err b) (Ok value)) ≡ Ok held → held ≡ value
read_gives true worse a b value held is = cc
read_gives false true a b value held is = cc
read_gives false false a b value held is = cc

choice_gives : (late bad worse : Bool) (v a b : PackRefusal) (value held : Held) → cond late (Err v) (cond bad (Err a) (cond worse (Err b) (Ok value))) ≡ Ok held → held ≡ value
choice_gives true bad worse v a b value held is = cc
choice_gives false bad worse v a b value held is = read_gives bad worse a b value held is

-- the pack that counts, and what is kept of it
pub record Chooses (image : Image) (held : Held) : Type 0 where
  pub checkpoint : has_checkpoint image ≡ true
  pub chosen : held ≡ chosen_of (pack image) (pack_number image)

chooses_of : (image : Image) (number : Option ℕ) (held : Held) → chosen_pack (layout image) image ≡ number → choice_in (pack_at (layout image) image) number ≡ Ok held → Chooses image held
unfolding pack
chooses_of image None held counts is = cc
chooses_of image (Some n) held counts is =
    let p = pack_at (layout image) image n in
    let nat = journal_count (nat_journal_area p) in
    let sit = journal_count (sit_journal_area p) in
    let same : held ≡ chosen_of p n = choice_gives (nat_le version_limit (checkpoint_ver (pack_head p))) (nat_lt nat_room nat) (nat_lt sit_room sit) _ _ _ (chosen_of p n) held is in
    record {
      checkpoint = ap is_some counts;
      chosen = same ∙ ap (λ (k : Option ℕ). chosen_of (pack_at (layout image) image (unwrap_or k 0)) (unwrap_or k 0)) (sym counts);
    }

mounts_pack : (image : Image) (found : Found) (r : Result Held PackRefusal) (m : Mounted) → Loads image found → choice (layout image) image ≡ r → with_pack found r ≡ Ok m → IsMountOf image m
mounts_pack image found (Err refusal) m loads is gives = cc
mounts_pack image found (Ok held) m loads is gives =
    let chooses = chooses_of image (chosen_pack (layout image) image) held refl is in
    let same : m ≡ record { found = found; chosen = held } = cc in
    record {
      copy = loads.copy ∙ ap (λ (x : Mounted). Some x.found.copy) (sym same);
      sup = ap (λ (x : Mounted). x.found.sup) same ∙ loads.sup;
      twin = ap (λ (x : Mounted). x.found.twin) same ∙ loads.twin;
      supported = ap (λ (x : Mounted). unsupported_features x.found.sup) same ∙ loads.supported;
      checkpoint = chooses.checkpoint;
      chosen = ap (λ (x : Mounted). x.chosen) same ∙ chooses.chosen;
    }

-- what was read of it in this order
pub mounts : (size : ℕ) (image : Image) (found : Found) (l : Layout) (held : Held) → Ok found ≡ loaded size image → l ≡ layout_of found.sup → Ok held ≡ choice l image → IsMountOf image (record { found = found; chosen = held })
unfolding layout
mounts size image found l held loads is chooses =
    let was = loads_of size image (super_copy image) found refl (sym loads) in
    let own : l ≡ layout image = is ∙ ap layout_of was.sup in
    mounts_pack image found (Ok held) (record { found = found; chosen = held }) was (ap (λ (k : Layout). choice k image) (sym own) ∙ sym chooses) refl
