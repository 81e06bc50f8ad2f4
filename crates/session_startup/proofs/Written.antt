-- Lines that are written in pieces.
use Rattle.std.specs.Prelude.{ℕ, List, [], ◌++◌, codes}
use Rattle.std.proofs.Common.{◌≡◌, append_assoc}
use Rattle.nuc_base.specs.declared.kinds.Exit.{Exit}
use Rattle.nuc_base.specs.declared.kinds.Step.{Step}
use Rattle.nuc_base.specs.declared.kinds.Outcome.{Outcome}
use Rattle.session_boots.specs.Lines.{closed_line, exit_text, failed_line, step_text}
use Rattle.status_text.specs.Words.{outcome_text}

abbrev pub end_text : Step → Exit → List ℕ
end_text s e = step_text s ++ codes " " ++ exit_text e ++ codes "\n"

pub end_joined : (s : Step) (e : Exit) → end_text s e ≡ (step_text s ++ (codes " " ++ [])) ++ (exit_text e ++ codes "\n")
end_joined s e = by (step_text s) (codes " ") (exit_text e) (codes "\n")
  where
    by : (w b x n : List ℕ) → w ++ b ++ x ++ n ≡ (w ++ (b ++ [])) ++ (x ++ n)
    by w b x n = simp append_assoc

abbrev pub failed_prefix : List ℕ → List ℕ → List ℕ
failed_prefix id name = codes "failed " ++ (id ++ (codes " " ++ (name ++ (codes " " ++ []))))

pub failed_joined : (id name : List ℕ) (s : Step) (e : Exit) → failed_line id name s e ≡ failed_prefix id name ++ end_text s e
failed_joined id name s e = by (codes "failed ") (codes " ") (step_text s) (exit_text e) (codes "\n")
  where
    by : (f b w x n : List ℕ) → f ++ id ++ b ++ name ++ b ++ w ++ b ++ x ++ n ≡ (f ++ (id ++ (b ++ (name ++ (b ++ []))))) ++ (w ++ b ++ x ++ n)
    by f b w x n = simp append_assoc

abbrev pub closed_prefix : List ℕ → List ℕ
closed_prefix id = codes "closed " ++ (id ++ (codes " " ++ []))

pub closed_joined : (id : List ℕ) (o : Outcome) → closed_line id o ≡ closed_prefix id ++ (outcome_text o ++ codes "\n")
closed_joined id o = by (codes "closed ") (codes " ") (outcome_text o) (codes "\n")
  where
    by : (f b w n : List ℕ) → f ++ id ++ b ++ w ++ n ≡ (f ++ (id ++ (b ++ []))) ++ (w ++ n)
    by f b w n = simp append_assoc
