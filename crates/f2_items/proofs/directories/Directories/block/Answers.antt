use Rattle.std.proofs.Common.{refl}
use Rattle.std.proofs.lemmas.Result.{on_ok_weaker}
use Rattle.f2_items.proofs.DirectorySteps.{block-other, block-directory}
use Rattle.f2_items.proofs.directories.Directories.block.Goals as goal

pub returns-in-Some : goal.returns-in-Some
returns-in-Some c = record {
  takes = on_ok_weaker c.scan_block.result (λ scanned image ino blocks known.
      block-directory image ino blocks c.args.k c.args.block.now c.args.self.now _ c.in-Some.directory c.scan_block.new.directory c.in-Some.is refl refl refl
      (λ limit defects namings inode items. scanned image limit defects namings ino inode items known)) c.scan_block.ensures;
}

pub returns-in-None : goal.returns-in-None
returns-in-None c = record {
  takes = λ image ino blocks known. block-other image ino blocks c.args.k c.args.block.now c.args.self.now c.args.self.now refl c.in-None.is;
}
