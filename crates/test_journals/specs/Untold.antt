-- A disk that tells nothing.
use Rattle.std.specs.Prelude.{false, []}
use Rattle.std.proofs.lemmas.Bool.{false≢true}
use Rattle.disk_model.specs.Disk.{Image, DiskLaws}

abbrev pub no_image : Image → Type 0
no_image c = ⊥

pub untold_laws : (D : Type 0) → DiskLaws {D = D} false (λ _ _. []) (λ _. no_image) (λ _. 0) (λ _ _. no_image)
untold_laws D = record {
  counts_now = λ d t c le left. left;
  only_now = λ d c left. left;
  earlier = λ d s t c le left. left;
  modelled = λ d t c left. absurd left;
  reads = λ d told. absurd (false≢true told);
}
