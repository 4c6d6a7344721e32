-- The words name no image with a feature that the tools don't read.
use Rattle.std.proofs.Common.{◌≡◌, ◌⊎◌, inl, inr, ℕ, zero, suc, ◌-◌, ◌^◌, Bool, true, false, cond, List, [], ◌∷◌, Option, Some, None, refl, sym, subst, bit_and, bit_or}
use Rattle.std.specs.Prelude.{nat_lt, length, codes, bytes_eq, option_map, unwrap_or}
use Rattle.std.specs.List.{position_or_len, before_first, after_first}
use Rattle.std.specs.Option.{option_and_then}
use Rattle.f2_bytes.specs.Superblock.{profile}
use Rattle.f2_dump.specs.declared.dumping.What.{What}
use Rattle.f2_mkfs.specs.Labels.{label_of}
use Rattle.f2_super.specs.NewCopy.{HasProfile}
use Rattle.f2_top.specs.declared.jobs.Job.{Job}
use Rattle.f2_top.specs.declared.jobs.Job.TheVariants.{Check, Tree, Super, Dump, Defrag, Mkfs}
use Rattle.f2_top.specs.Features.{is_comma, feature_of, features_with}
use Rattle.f2_top.specs.Jobs.{HasKnownFeatures}
use Rattle.f2_top.specs.Numbers.{number_of, uuid_of}
use Rattle.f2_top.specs.Tools.{defrag_by, defrag_grammar, defrag_job, dump_choice, dump_job, dump_grammar, features_or_none, fsck_grammar, fsck_job, if_given, job_of, mkfs_by, mkfs_grammar, mkfs_job, tool_job}
use Rattle.f2_top.specs.Words.{Text, Use, is_used, uses_of, value_in}

-- the bits of none, of one or of both features
abbrev IsKnown : ℕ → Type 0
IsKnown bits = (bits ≡ 0) ⊎ ((bits ≡ 0x200) ⊎ ((bits ≡ 0x800) ⊎ (bits ≡ 0xA00)))

abbrev IsFeature : ℕ → Type 0
IsFeature bit = (bit ≡ 0x200) ⊎ (bit ≡ 0x800)

profile_has : (bits : ℕ) → IsKnown bits → HasProfile bits
profile_has bits (inl none) = λ i. bit_and (none i) (2 ^ 32 - 1 - profile)
profile_has bits (inr (inl first)) = λ i. bit_and (first i) (2 ^ 32 - 1 - profile)
profile_has bits (inr (inr (inl second))) = λ i. bit_and (second i) (2 ^ 32 - 1 - profile)
profile_has bits (inr (inr (inr both))) = λ i. bit_and (both i) (2 ^ 32 - 1 - profile)

with_first : (bits bit : ℕ) → IsKnown bits → bit ≡ 0x200 → IsKnown (bit_or bits bit)
with_first bits bit (inl none) is = inr (inl (λ i. bit_or (none i) (is i)))
with_first bits bit (inr (inl first)) is = inr (inl (λ i. bit_or (first i) (is i)))
with_first bits bit (inr (inr (inl second))) is = inr (inr (inr (λ i. bit_or (second i) (is i))))
with_first bits bit (inr (inr (inr both))) is = inr (inr (inr (λ i. bit_or (both i) (is i))))

with_second : (bits bit : ℕ) → IsKnown bits → bit ≡ 0x800 → IsKnown (bit_or bits bit)
with_second bits bit (inl none) is = inr (inr (inl (λ i. bit_or (none i) (is i))))
with_second bits bit (inr (inl first)) is = inr (inr (inr (λ i. bit_or (first i) (is i))))
with_second bits bit (inr (inr (inl second))) is = inr (inr (inl (λ i. bit_or (second i) (is i))))
with_second bits bit (inr (inr (inr both))) is = inr (inr (inr (λ i. bit_or (both i) (is i))))

with_feature : (bits bit : ℕ) → IsKnown bits → IsFeature bit → IsKnown (bit_or bits bit)
with_feature bits bit known (inl first) = with_first bits bit known first
with_feature bits bit known (inr second) = with_second bits bit known second

feature_cases : (p q : Bool) (bit : ℕ) → cond p (Some 0x200) (cond q (Some 0x800) None) ≡ Some bit → IsFeature bit
feature_cases true q bit is = let same : 0x200 ≡ bit = cc in inl (sym same)
feature_cases false true bit is = let same : 0x800 ≡ bit = cc in inr (sym same)
feature_cases false false bit is = cc

is_feature : (name : List ℕ) (bit : ℕ) → feature_of name ≡ Some bit → IsFeature bit
is_feature name bit is = feature_cases (bytes_eq name (codes "lost_found")) (bytes_eq name (codes "sb_checksum")) bit is

last_feature : (bits r : ℕ) (o : Option ℕ) → IsKnown bits → ((bit : ℕ) → o ≡ Some bit → IsFeature bit) → option_map (λ bit. bit_or bits bit) o ≡ Some r → IsKnown r
last_feature bits r None known each is = cc
last_feature bits r (Some bit) known each is =
    let same : bit_or bits bit ≡ r = cc in
    subst (λ (n : ℕ). IsKnown n) same (with_feature bits bit known (each bit refl))

next_feature : (bits r : ℕ) (o : Option ℕ) (next : ℕ → Option ℕ) → IsKnown bits → ((bit : ℕ) → o ≡ Some bit → IsFeature bit)
    → ((more : ℕ) → IsKnown more → next more ≡ Some r → IsKnown r) → option_and_then (λ bit. next (bit_or bits bit)) o ≡ Some r → IsKnown r
next_feature bits r None next known each later is = cc
next_feature bits r (Some bit) next known each later is = later (bit_or bits bit) (with_feature bits bit known (each bit refl)) is

chosen_feature : (b : Bool) (x y : Option ℕ) (r : ℕ) → (x ≡ Some r → IsKnown r) → (y ≡ Some r → IsKnown r) → cond b x y ≡ Some r → IsKnown r
chosen_feature true x y r first second is = first is
chosen_feature false x y r first second is = second is

known_with : (n bits r : ℕ) (text : List ℕ) → IsKnown bits → features_with n bits text ≡ Some r → IsKnown r
unfolding features_with
known_with zero bits r text known is = last_feature bits r (feature_of text) known (is_feature text) is
known_with (suc n) bits r text known is =
    chosen_feature (nat_lt (position_or_len is_comma text) (length text))
    (option_and_then (λ bit. features_with n (bit_or bits bit) (after_first is_comma text)) (feature_of (before_first is_comma text)))
    (option_map (λ bit. bit_or bits bit) (feature_of text)) r
    (next_feature bits r (feature_of (before_first is_comma text)) (λ more. features_with n more (after_first is_comma text)) known (is_feature (before_first is_comma text))
    (λ more known. known_with n more r (after_first is_comma text) known))
    (last_feature bits r (feature_of text) known (is_feature text)) is

known_list : (o : Option Text) (r : ℕ) → features_or_none o ≡ Some r → HasProfile r
known_list None r is = let same : 0 ≡ r = cc in profile_has r (inl (sym same))
known_list (Some list) r is = profile_has r (known_with (length list) 0 r list (inl refl) is)

-- ---- jobs

then_known : {A : Type 0} (f : A → Option Job) (o : Option A) (job : Job) → ((a : A) → f a ≡ Some job → HasKnownFeatures (Some job)) → option_and_then f o ≡ Some job → HasKnownFeatures (Some job)
then_known f None job each is = cc
then_known f (Some a) job each is = each a is

cond_known : (b : Bool) (x y : Option Job) (job : Job) → (x ≡ Some job → HasKnownFeatures (Some job)) → (y ≡ Some job → HasKnownFeatures (Some job)) → cond b x y ≡ Some job
    → HasKnownFeatures (Some job)
cond_known true x y job first second is = first is
cond_known false x y job first second is = second is

made_known : (n : Option ℕ) (units : List ℕ) (id : Option (List ℕ)) (time : Option ℕ) (force : Bool) (o : Option ℕ) (job : Job) → ((r : ℕ) → o ≡ Some r → HasProfile r)
    → option_map (λ bits. Mkfs n units id time bits force) o ≡ Some job → HasKnownFeatures (Some job)
made_known n units id time force None job each is = cc
made_known n units id time force (Some bits) job each is =
    let same : Mkfs n units id time bits force ≡ job = cc in
    subst (λ (j : Job). HasKnownFeatures (Some j)) same (each bits refl)

mkfs_known : (sectors label uuid second features : Option Text) (force : Bool) (job : Job) → mkfs_by sectors label uuid second features force ≡ Some job → HasKnownFeatures (Some job)
mkfs_known sectors label uuid second features force job is =
    then_known (λ n. option_and_then (λ units. option_and_then (λ id. option_and_then (λ time. option_map (λ bits. Mkfs n units id time bits force) (features_or_none features)) (if_given number_of second)) (if_given uuid_of uuid)) (label_of (unwrap_or label [])))
    (if_given number_of sectors) job
    (λ n. then_known (λ units. option_and_then (λ id. option_and_then (λ time. option_map (λ bits. Mkfs n units id time bits force) (features_or_none features)) (if_given number_of second)) (if_given uuid_of uuid))
    (label_of (unwrap_or label [])) job
    (λ units. then_known (λ id. option_and_then (λ time. option_map (λ bits. Mkfs n units id time bits force) (features_or_none features)) (if_given number_of second))
    (if_given uuid_of uuid) job
    (λ id. then_known (λ time. option_map (λ bits. Mkfs n units id time bits force) (features_or_none features)) (if_given number_of second) job
    (λ time. made_known n units id time force (features_or_none features) job (known_list features))))) is

checked_known : (b c : Bool) (job : Job) → cond b (cond c None (Some Super)) (cond c (Some Tree) (Some Check)) ≡ Some job → HasKnownFeatures (Some job)
checked_known true true job is = cc
checked_known true false job is = let same : Super ≡ job = cc in subst (λ (j : Job). HasKnownFeatures (Some j)) same tt
checked_known false true job is = let same : Tree ≡ job = cc in subst (λ (j : Job). HasKnownFeatures (Some j)) same tt
checked_known false false job is = let same : Check ≡ job = cc in subst (λ (j : Job). HasKnownFeatures (Some j)) same tt

dumped_known : (what : Option What) (job : Job) → option_map (λ w. Dump w) what ≡ Some job → HasKnownFeatures (Some job)
dumped_known None job is = cc
dumped_known (Some w) job is = let same : Dump w ≡ job = cc in subst (λ (j : Job). HasKnownFeatures (Some j)) same tt

fsck_known : (uses : List Use) (job : Job) → fsck_job uses ≡ Some job → HasKnownFeatures (Some job)
fsck_known uses job is = checked_known (is_used (codes "--super") uses) (is_used (codes "-t") uses) job is

dump_known : (uses : List Use) (job : Job) → dump_job uses ≡ Some job → HasKnownFeatures (Some job)
dump_known uses job is = then_known (λ what. option_map (λ w. Dump w) what) (dump_choice uses) job (λ what. dumped_known what job) is

image_known : (uses : List Use) (job : Job) → mkfs_job uses ≡ Some job → HasKnownFeatures (Some job)
image_known uses job is =
    mkfs_known (value_in (codes "SECTORS") uses) (value_in (codes "-l") uses) (value_in (codes "-U") uses) (value_in (codes "-T") uses) (value_in (codes "-O") uses)
    (is_used (codes "-f") uses) job is

moved_known : (from n : Option ℕ) (down : Bool) (o : Option (Option ℕ)) (job : Job) → option_map (λ to. Defrag from n to down) o ≡ Some job → HasKnownFeatures (Some job)
moved_known from n down None job is = cc
moved_known from n down (Some to) job is = let same : Defrag from n to down ≡ job = cc in subst (λ (j : Job). HasKnownFeatures (Some j)) same tt

defrag_known : (start blocks target : Option Text) (down : Bool) (job : Job) → defrag_by start blocks target down ≡ Some job → HasKnownFeatures (Some job)
defrag_known start blocks target down job is =
    then_known (λ from. option_and_then (λ n. option_map (λ to. Defrag from n to down) (if_given number_of target)) (if_given number_of blocks)) (if_given number_of start) job
    (λ from. then_known (λ n. option_map (λ to. Defrag from n to down) (if_given number_of target)) (if_given number_of blocks) job
    (λ n. moved_known from n down (if_given number_of target) job)) is

range_known : (uses : List Use) (job : Job) → defrag_job uses ≡ Some job → HasKnownFeatures (Some job)
range_known uses job is = defrag_known (value_in (codes "-s") uses) (value_in (codes "-l") uses) (value_in (codes "-t") uses) (is_used (codes "-i") uses) job is

-- the job of the last tools
late_known : (tool : Text) (words : List Text) (job : Job)
    → cond (bytes_eq tool (codes "mkfs")) (option_and_then mkfs_job (uses_of mkfs_grammar words)) (cond (bytes_eq tool (codes "defrag")) (option_and_then defrag_job (uses_of defrag_grammar words)) None) ≡ Some job
    → HasKnownFeatures (Some job)
late_known tool words job is =
    cond_known (bytes_eq tool (codes "mkfs")) (option_and_then mkfs_job (uses_of mkfs_grammar words)) (cond (bytes_eq tool (codes "defrag")) (option_and_then defrag_job (uses_of defrag_grammar words)) None) job
    (then_known mkfs_job (uses_of mkfs_grammar words) job (λ uses. image_known uses job))
    (cond_known (bytes_eq tool (codes "defrag")) (option_and_then defrag_job (uses_of defrag_grammar words)) None job
    (then_known defrag_job (uses_of defrag_grammar words) job (λ uses. range_known uses job)) (λ none. cc)) is

tool_known : (tool : Text) (words : List Text) (job : Job) → tool_job tool words ≡ Some job → HasKnownFeatures (Some job)
tool_known tool words job is =
    let late = cond (bytes_eq tool (codes "mkfs")) (option_and_then mkfs_job (uses_of mkfs_grammar words)) (cond (bytes_eq tool (codes "defrag")) (option_and_then defrag_job (uses_of defrag_grammar words)) None) in
    cond_known (bytes_eq tool (codes "fsck")) (option_and_then fsck_job (uses_of fsck_grammar words)) (cond (bytes_eq tool (codes "dump")) (option_and_then dump_job (uses_of dump_grammar words)) late) job
    (then_known fsck_job (uses_of fsck_grammar words) job (λ uses. fsck_known uses job))
    (cond_known (bytes_eq tool (codes "dump")) (option_and_then dump_job (uses_of dump_grammar words)) late job
    (then_known dump_job (uses_of dump_grammar words) job (λ uses. dump_known uses job)) (late_known tool words job)) is

pub job_known : (words : List Text) (job : Job) → job_of words ≡ Some job → HasKnownFeatures (Some job)
job_known [] job is = cc
job_known (tool ∷ words) job is = tool_known tool words job is
