use Rattle.std.proofs.Common.{refl, sym, ◌∙◌, Ok, Err, Result}
use Rattle.std.specs.Prelude.{OnOk}
use Rattle.f2_items.specs.Directories.{is_directory_in}
use Rattle.f2_items.proofs.DirectorySteps.{end-other, end-directory}
use Rattle.f2_items.proofs.directories.Directories.end.Goals as goal

-- two clauses on the same result
both : {T E P Q R : Type 0} (r : Result T E) → (P → Q → R) → OnOk r P → OnOk r Q → OnOk r R
both (Ok x) f p q = f p q
both (Err e) f p q = tt

pub returns-in-Some : goal.returns-in-Some
returns-in-Some c = record {
  ends = both c.close.result (λ wholes files image inode known is.
      end-directory image c.args.ino inode is c.args.self.now c.close.new.self c.in-Some.directory (sym c.take.ensures.value ∙ c.in-Some.is) c.close.ensures.names files
      (λ before items. wholes before (is_directory_in image) c.args.ino inode items)) c.close.ensures.wholes c.close.ensures.files;
}

pub returns-in-None : goal.returns-in-None
returns-in-None c = record {
  ends = λ image inode known is. end-other image c.args.ino inode is c.args.self.now _ (sym c.take.ensures.value ∙ c.in-None.is) refl refl refl;
}
