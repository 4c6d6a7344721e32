-- What is kept of the files, past numbers of no file.
use Rattle.std.proofs.Common.{◌≡◌, ℕ, suc, false}
use Rattle.f2_bytes.specs.Bytes.{Image}
use Rattle.f2_bytes.specs.Tree.{is_inode}
use Rattle.f2_files.specs.Files.{Gathered, IsAfter}
use Rattle.f2_files.proofs.VisitedFiles.{files_pass}

-- a number of no file is passed
pub passed : (image : Image) (n : ℕ) (g : Gathered) → is_inode image n ≡ false → IsAfter image n g → IsAfter image (suc n) g
passed image n g other after = files_pass image n g after other
