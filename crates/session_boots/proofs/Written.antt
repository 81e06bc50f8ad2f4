-- Lines that are written in pieces.
use Rattle.std.specs.Prelude.{ℕ, List, [], ◌++◌, codes}
use Rattle.std.specs.Fmt.{signed_decimal}
use Rattle.std.proofs.Common.{◌≡◌, append_assoc}
use Rattle.std.specs.Prelude.{ℤ}
use Rattle.nuc_base.specs.declared.kinds.Exit.{Exit}
use Rattle.nuc_base.specs.declared.kinds.Exit.TheVariants as exits
use Rattle.nuc_base.specs.declared.kinds.Step.TheVariants as steps
use Rattle.session_boots.specs.Lines.{accepted_line, exit_text, failed_line}

pub accepted_joined : (id : List ℕ) → codes "accepted " ++ (id ++ (codes "\n" ++ [])) ≡ accepted_line id
accepted_joined id = simp append_assoc

pub code_joined : (z : ℤ) → codes "code " ++ (signed_decimal z ++ (codes "\n" ++ [])) ≡ exit_text (exits.Code z) ++ codes "\n"
code_joined z = simp append_assoc

abbrev pub failed_prefix : List ℕ → List ℕ → List ℕ
failed_prefix id name = codes "failed " ++ (id ++ (codes " " ++ (name ++ (codes " bootstrap " ++ []))))

pub failed_joined : (id name : List ℕ) (e : Exit) → failed_line id name steps.Bootstrap e ≡ failed_prefix id name ++ (exit_text e ++ codes "\n")
failed_joined id name e = simp append_assoc
