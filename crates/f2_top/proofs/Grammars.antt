-- The names of the tools' grammars, and the words whose job takes no memory.
use Rattle.std.proofs.Common.{◌≡◌, ◌∙◌, refl, sym, ap₂, arith, List, [], ◌∷◌, codes, Some, true, bytes_eq, true≢false}
use Rattle.std.proofs.lemmas.Bool.{and_parts}
use Rattle.std.proofs.lemmas.Slice.Eq.{bytes_eq-Decides}
use Rattle.f2_top.specs.Parser.{IsNamed, letter, long}
use Rattle.f2_top.specs.Tools.{defrag_grammar, dump_grammar, fsck_grammar, mkfs_grammar, is_super, job_of}
use Rattle.f2_top.specs.Words.{Text, read_from}
use Rattle.f2_top.specs.declared.jobs.Job.TheVariants.{Super}

pub fsck_named : IsNamed fsck_grammar
fsck_named = record { spelled = (long 115 (codes "uper") refl, (letter 116 refl refl (omega arith), tt)); plain = tt }

pub dump_named : IsNamed dump_grammar
dump_named = record {
  spelled = (
    long 99 (codes "p") refl,
    (
      letter 110 refl refl (omega arith),
      (
        letter 115 refl refl (omega arith),
        (
          letter 97 refl refl (omega arith),
          (letter 105 refl refl (omega arith), (long 98 (codes "lock") refl, (long 99 (codes "at") refl, tt))),
        ),
      ),
    ),
  );
  plain = tt;
}

pub defrag_named : IsNamed defrag_grammar
defrag_named = record {
  spelled = (
    letter 115 refl refl (omega arith),
    (
      letter 108 refl refl (omega arith),
      (letter 116 refl refl (omega arith), (letter 105 refl refl (omega arith), tt)),
    ),
  );
  plain = tt;
}

pub mkfs_named : IsNamed mkfs_grammar
mkfs_named = record {
  spelled = (
    letter 108 refl refl (omega arith),
    (
      letter 85 refl refl (omega arith),
      (
        letter 84 refl refl (omega arith),
        (
          letter 79 refl refl (omega arith),
          (letter 102 refl refl (omega arith), tt),
        ),
      ),
    ),
  );
  plain = (refl, (83, codes "ECTORS", refl, refl));
}

super_words : job_of (codes "fsck" ∷ codes "--super" ∷ []) ≡ Some Super
unfolding read_from
super_words = refl

pub super_job : (words : List Text) → is_super words ≡ true → job_of words ≡ Some Super
super_job [] e = absurd (true≢false (sym e))
super_job (tool ∷ []) e = absurd (true≢false (sym e))
super_job (tool ∷ option ∷ []) e =
    let parts = and_parts (bytes_eq tool (codes "fsck")) (bytes_eq option (codes "--super")) e in
    ap₂ (λ t o. job_of (t ∷ o ∷ [])) ((bytes_eq-Decides tool (codes "fsck")).0 parts.0) ((bytes_eq-Decides option (codes "--super")).0 parts.1) ∙ super_words
super_job (tool ∷ option ∷ more ∷ rest) e = absurd (true≢false (sym e))
