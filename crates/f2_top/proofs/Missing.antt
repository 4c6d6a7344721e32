-- A dump of what an image lacks has no lines.
use Rattle.std.proofs.Common.{◌≡◌, ◌∙◌, Bool, true, false, cond, ℕ, List, [], Option, Some, None, Ok, refl, sym, ap, subst}
use Rattle.std.specs.Prelude.{is_some}
use Rattle.std.specs.Option.{option_map_or}
use Rattle.f2_bytes.specs.Bytes.{Block, Image}
use Rattle.f2_dump.specs.Files.{file_bytes, has_file, inode_lines, inode_of}
use Rattle.f2_dump.specs.Text.{dump_lines, missing, outside}
use Rattle.f2_dump.specs.declared.dumping.What.{What}
use Rattle.f2_dump.specs.declared.dumping.What.TheVariants.{Cp, Nat, Sit, Raw, Ssa, Inode, Cat}
use Rattle.f2_view.specs.Mounted.{Mounted, layout_in}
use Rattle.f2_top.specs.Run.{number_answer}
use Rattle.f2_top.specs.Text.{lines_if_done}

no_inode : (o : Option Block) (ino n : ℕ) → cond (is_some o) None (Some ino) ≡ Some n → option_map_or inode_lines o [] ≡ []
no_inode None ino n is = refl
no_inode (Some b) ino n is = cc

no_file : (b : Bool) (ino n : ℕ) (lines : List ℕ) → cond b None (Some ino) ≡ Some n → cond b lines [] ≡ []
no_file true ino n lines is = cc
no_file false ino n lines is = refl

lacks : (image : Image) (what : What) (n : ℕ) → missing image what ≡ Some n → dump_lines image what ≡ []
lacks image Cp n is = cc
lacks image (Nat first last) n is = cc
lacks image (Sit first last) n is = cc
lacks image (Raw address) n is = cc
lacks image (Ssa first last) n is = cc
lacks image (Inode ino) n is = no_inode (inode_of image ino) ino n is
lacks image (Cat ino) n is = no_file (has_file image ino) ino n (option_map_or (file_bytes image ino) (inode_of image ino) []) is

-- so they are those of a dump that would have been done
pub lines_of_missing : (lacking number : Option ℕ) (image : Image) (what : What) → missing image what ≡ lacking → number ≡ None
    → dump_lines image what ≡ lines_if_done (number_answer number lacking) (dump_lines image what)
lines_of_missing None number image what is none = sym (ap (λ o. lines_if_done (number_answer o None) (dump_lines image what)) none)
lines_of_missing (Some n) number image what is none =
    lacks image what n is ∙ sym (ap (λ o. lines_if_done (number_answer o (Some n)) (dump_lines image what)) none)
