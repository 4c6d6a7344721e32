-- The text of a run: what its job put, and then the last line.
use Rattle.std.proofs.Common.{◌≡◌, ◌≢◌, ◌⊎◌, ◌∙◌, ℕ, ◌+◌, List, [], ◌++◌, length, take, min, Option, Some, None, Result, Ok, Err, not, ◌&&◌, refl, sym, ap, subst, append_assoc, arith, inl, inr}
use Rattle.std.proofs.lemmas.List.{append-nil, take-append-le, take_min}
use Rattle.std.proofs.Math.Seq.{take-append-add, take-nil}
use Rattle.f2_bytes.specs.Bytes.{Image}
use Rattle.f2_disk.specs.Disk.{State}
use Rattle.f2_mkfs.specs.Formatting.{has_magic, size_answer, unless_there}
use Rattle.f2_mkfs.specs.declared.formatting.FormatRefusal.{FormatRefusal}
use Rattle.f2_mkfs.specs.declared.formatting.FormatRefusal.TheVariants as new
use Rattle.f2_super.specs.declared.sizes.Geometry.{Geometry}
use Rattle.f2_top.specs.Answers.{IsWhole}
use Rattle.f2_top.specs.Run.{Allowed, AreSizes, FitsSizes, Printed, answer_of, new_answer}
use Rattle.f2_top.specs.Text.{Appends, IsFront, IsText, last_of}
use Rattle.f2_top.specs.declared.answer.Answer.{Answer}
use Rattle.f2_top.specs.declared.answer.Answer.TheVariants.{Done, Corrected, Defects, NoSpace, DiskFault, SinkFault, Usage, Refused, NoMemory}
use Rattle.f2_top.specs.declared.jobs.Job.{Job}
use Rattle.f2_top.specs.declared.jobs.Job.TheVariants.{Check, Tree, Super, Dump, Defrag, Mkfs}

-- these answers have no last line
no_line : (job : Option Job) → last_of job NoMemory ≡ []
no_line None = refl
no_line (Some Check) = refl
no_line (Some Tree) = refl
no_line (Some Super) = refl
no_line (Some (Dump what)) = refl
no_line (Some (Defrag start blocks target down)) = refl
no_line (Some (Mkfs sectors label uuid second features force)) = refl

no_line_sink : (job : Option Job) → last_of job SinkFault ≡ []
no_line_sink None = refl
no_line_sink (Some Check) = refl
no_line_sink (Some Tree) = refl
no_line_sink (Some Super) = refl
no_line_sink (Some (Dump what)) = refl
no_line_sink (Some (Defrag start blocks target down)) = refl
no_line_sink (Some (Mkfs sectors label uuid second features force)) = refl

-- the whole text of an answer
text_of : (job : Option Job) (early lines front : List ℕ) (answer : Answer) → answer ≢ SinkFault → IsFront early lines answer front → IsText job early lines answer (front ++ last_of job answer)
text_of job early lines front Done not is = ap (λ l. l ++ last_of job Done) is
text_of job early lines front Corrected not is = ap (λ l. l ++ last_of job Corrected) is
text_of job early lines front (Defects rule count) not is = ap (λ l. l ++ last_of job (Defects rule count)) is
text_of job early lines front (NoSpace need have) not is = ap (λ l. l ++ last_of job (NoSpace need have)) is
text_of job early lines front DiskFault not (n, is) = (n, ap (λ l. l ++ last_of job DiskFault) is)
text_of job early lines front SinkFault not is = absurd (not refl)
text_of job early lines front Usage not is = ap (λ l. l ++ last_of job Usage) is
text_of job early lines front (Refused refusal) not is = ap (λ l. l ++ last_of job (Refused refusal)) is
text_of job early lines front NoMemory not (n, is) = (n, ap (λ l. front ++ l) (no_line job) ∙ append-nil front ∙ is)

-- what a job put, where these lines are the job's
pub front_of : (early lines own_early own : List ℕ) (answer : Answer) (old new : Option (List ℕ)) → early ≡ own_early → lines ≡ own
    → Appends old new (IsFront own_early own answer) → Appends old new (IsFront early lines answer)
front_of early lines own_early own answer old new first whole put = λ had told.
    let it = put had told in
    let there = subst (λ (l : List ℕ). IsFront own_early l answer it.0) (sym whole) it.1 in
    (it.0, subst (λ (l : List ℕ). IsFront l lines answer it.0) (sym first) there, it.2)

-- a prefix of a text is one of a longer text
prefix_of : (a b : List ℕ) (n : ℕ) → take n a ≡ take (min n (length a)) (a ++ b)
prefix_of a b n = sym (take_min n a) ∙ sym (take-append-le (min n (length a)) a b (omega arith))

-- what a run printed whose answer is not a fault of the sink
printed : (job : Option Job) (early lines : List ℕ) (old new : State) (answer : Answer) (had : List ℕ) (told : Option (List ℕ)) (text : List ℕ) → answer ≢ SinkFault → IsText job early lines answer text → told ≡ Some (had ++ text) → Printed job early lines old new answer had told
printed job early lines old new Done had told text not is put = (text, is, put)
printed job early lines old new Corrected had told text not is put = (text, is, put)
printed job early lines old new (Defects rule count) had told text not is put = (text, is, put)
printed job early lines old new (NoSpace need have) had told text not is put = (text, is, put)
printed job early lines old new DiskFault had told text not is put = (text, is, put)
printed job early lines old new SinkFault had told text not is put = absurd (not refl)
printed job early lines old new Usage had told text not is put = (text, is, put)
printed job early lines old new (Refused refusal) had told text not is put = (text, is, put)
printed job early lines old new NoMemory had told text not is put = (text, is, put)

-- ---- a job that the sink stopped

-- an image that is made is made without defects
new_whole : (r : Result Geometry FormatRefusal) → IsWhole (new_answer r) → new_answer r ≡ Done
new_whole (Ok g) whole = refl
new_whole (Err (new.DeviceTooSmall blocks held)) whole = absurd whole
new_whole (Err (new.TooLarge blocks)) whole = absurd whole
new_whole (Err (new.TooSmall main least)) whole = absurd whole
new_whole (Err new.Exists) whole = absurd whole
new_whole (Err new.DiskFault) whole = absurd whole
new_whole (Err new.NoMemory) whole = absurd whole

sizes_whole : (job : Option Job) (size : ℕ) (image : Image) → IsWhole (answer_of job size image) → AreSizes job size Done → AreSizes job size (answer_of job size image)
sizes_whole None size image whole sizes = tt
sizes_whole (Some Check) size image whole sizes = tt
sizes_whole (Some Tree) size image whole sizes = tt
sizes_whole (Some Super) size image whole sizes = tt
sizes_whole (Some (Dump what)) size image whole sizes = tt
sizes_whole (Some (Defrag start blocks target down)) size image whole sizes = tt
sizes_whole (Some (Mkfs sectors label uuid second features force)) size image whole sizes =
    subst (λ (a : Answer). FitsSizes (size_answer size sectors) a) (sym (new_whole (unless_there (not force && has_magic image) (size_answer size sectors)) whole)) sizes

not_whole : (answer other : Answer) → IsWhole answer → (IsWhole other → ⊥) → answer ≢ other
not_whole answer other whole not is = not (subst IsWhole is whole)

-- the answer that it would have given, which comes after all its lines
pub record Stopped (job : Option Job) (old new : State) : Type 0 where
  pub meant : Answer
  pub whole : IsWhole meant
  pub allowed : Allowed job old new meant

stopped_by : (job : Option Job) (old new : State) (told : Option Image) → old.told ≡ told → ((image : Image) → old.told ≡ Some image → IsWhole (answer_of job old.size image))
    → job ≢ None → AreSizes job old.size Done → Stopped job old new
stopped_by job old new None is stopped named sizes = record {
  meant = Done;
  whole = tt;
  allowed = record {
    exact = λ image t. let none : Some image ≡ None = sym t ∙ is in cc;
    fault = λ e. cc;
    usage = λ none. absurd (named none);
    used = λ e. cc;
    corrected = λ e. cc;
    sizes = sizes;
    sink = λ e. cc;
  };
}
stopped_by job old new (Some image) is stopped named sizes =
    let meant = answer_of job old.size image in
    let whole = stopped image is in
    record {
      meant = meant;
      whole = whole;
      allowed = record {
        exact = λ other t. let same : Some image ≡ Some other = sym is ∙ t in let same_image : image ≡ other = cc in inl (ap (answer_of job old.size) same_image);
        fault = λ e. absurd (not_whole meant DiskFault whole (λ none. none) e);
        usage = λ none. absurd (named none);
        used = λ e. absurd (not_whole meant Usage whole (λ none. none) e);
        corrected = λ e. absurd (not_whole meant Corrected whole (λ none. none) e);
        sizes = sizes_whole job old.size image whole sizes;
        sink = λ e. not_whole meant SinkFault whole (λ none. none) e;
      };
    }

whole_text : (job : Option Job) (early lines : List ℕ) (answer : Answer) → IsWhole answer → IsText job early lines answer (lines ++ last_of job answer)
whole_text job early lines Done whole = refl
whole_text job early lines (Defects rule count) whole = refl
whole_text job early lines Corrected whole = absurd whole
whole_text job early lines (NoSpace need have) whole = absurd whole
whole_text job early lines DiskFault whole = absurd whole
whole_text job early lines SinkFault whole = absurd whole
whole_text job early lines Usage whole = absurd whole
whole_text job early lines (Refused refusal) whole = absurd whole
whole_text job early lines NoMemory whole = absurd whole

-- its text
printed_stopped : (job : Option Job) (early lines : List ℕ) (old new : State) (had front : List ℕ) (told : Option (List ℕ)) → Stopped job old new → IsFront early lines SinkFault front → told ≡ Some (had ++ front) → Printed job early lines old new SinkFault had told
printed_stopped job early lines old new had front told stopped (n, is) put = (
  stopped.meant,
  stopped.allowed,
  lines ++ last_of job stopped.meant,
  whole_text job early lines stopped.meant stopped.whole,
  min n (length lines),
  put ∙ ap (λ (l : List ℕ). Some (had ++ l)) (is ∙ prefix_of lines (last_of job stopped.meant) n),
)

-- The answer of the job is the run's, and its last line was put.
pub printed_whole : (job : Option Job) (early lines had front : List ℕ) (old new : State) (answer : Answer) (told : Option (List ℕ))
    → ((answer ≡ SinkFault) ⊎ Allowed job old new answer)
    → ((image : Image) → old.told ≡ Some image → answer ≡ SinkFault → IsWhole (answer_of job old.size image))
    → (answer ≡ SinkFault → AreSizes job old.size Done)
    → (answer ≡ SinkFault → job ≢ None)
    → IsFront early lines answer front → told ≡ Some ((had ++ front) ++ last_of job answer)
    → Printed job early lines old new answer had told
printed_whole job early lines had front old new answer told (inl fault) stopped sizes named is put =
    let meant = stopped_by job old new old.told refl (λ image t. stopped image t fault) (named fault) (sizes fault) in
    let front_is : IsFront early lines SinkFault front = subst (λ a. IsFront early lines a front) fault is in
    let put_is = put ∙ ap (λ (l : List ℕ). Some ((had ++ front) ++ l)) (ap (λ a. last_of job a) fault ∙ no_line_sink job) ∙ ap (λ (l : List ℕ). Some l) (append-nil (had ++ front)) in
    subst (λ a. Printed job early lines old new a had told) (sym fault) (printed_stopped job early lines old new had front told meant front_is put_is)
printed_whole job early lines had front old new answer told (inr allowed) stopped sizes named is put =
    printed job early lines old new answer had told (front ++ last_of job answer) allowed.sink (text_of job early lines front answer allowed.sink is) (put ∙ ap (λ (l : List ℕ). Some l) (append_assoc had front (last_of job answer)))

-- The sink failed, in the job or in its last line.
pub printed_cut : (job : Option Job) (early lines had front : List ℕ) (old new : State) (answer : Answer) (told : Option (List ℕ)) (n : ℕ)
    → ((answer ≡ SinkFault) ⊎ Allowed job old new answer)
    → ((image : Image) → old.told ≡ Some image → answer ≡ SinkFault → IsWhole (answer_of job old.size image))
    → (answer ≡ SinkFault → AreSizes job old.size Done)
    → (answer ≡ SinkFault → job ≢ None)
    → IsFront early lines answer front → told ≡ Some ((had ++ front) ++ take n (last_of job answer))
    → Printed job early lines old new SinkFault had told
printed_cut job early lines had front old new answer told n (inl fault) stopped sizes named is put =
    let meant = stopped_by job old new old.told refl (λ image t. stopped image t fault) (named fault) (sizes fault) in
    let front_is : IsFront early lines SinkFault front = subst (λ a. IsFront early lines a front) fault is in
    let none : take n (last_of job answer) ≡ [] = ap (λ l. take n l) (ap (λ a. last_of job a) fault ∙ no_line_sink job) ∙ take-nil n in
    let put_is = put ∙ ap (λ (l : List ℕ). Some ((had ++ front) ++ l)) none ∙ ap (λ (l : List ℕ). Some l) (append-nil (had ++ front)) in
    printed_stopped job early lines old new had front told meant front_is put_is
printed_cut job early lines had front old new answer told n (inr allowed) stopped sizes named is put = (
  answer,
  allowed,
  front ++ last_of job answer,
  text_of job early lines front answer allowed.sink is,
  length front + n,
  put ∙ ap (λ (l : List ℕ). Some l) (append_assoc had front (take n (last_of job answer))) ∙ ap (λ (l : List ℕ). Some (had ++ l)) (sym (take-append-add front (last_of job answer) n)),
)
