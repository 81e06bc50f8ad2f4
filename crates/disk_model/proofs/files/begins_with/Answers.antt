use Rattle.std.specs.List.{starts_with}
use Rattle.std.proofs.Common.{nat_eq, List, ℕ, ◌++◌, length, take, drop, refl, sym, ◌∙◌, ap, take-append-drop}
use Rattle.std.proofs.lemmas.Slice.Eq.{slice_eq-Decides}
use Rattle.std.proofs.lemmas.Bool.Decides.{Decides-eqb}
use Rattle.std.proofs.lemmas.List.{take_at}
use Rattle.disk_model.proofs.files.begins_with.Goals as goal

pub returns : goal.returns
returns c =
    let name = c.args.name.now in
    let folder = c.args.folder.now in
    let prefix = take (length folder) name in
    let test = slice_eq-Decides Decides-eqb folder prefix c.starts_with.result
    (c.starts_with.ensures.value ∙ ap (λ (l : List ℕ). starts_with nat_eq l c.as_bytes-2.result.now) c.as_bytes.ensures.value ∙ ap
    (λ (l : List ℕ). starts_with nat_eq name l) c.as_bytes-2.ensures.value) in (
      λ yes. (drop (length folder) name, sym (take-append-drop (length folder) name) ∙ ap (λ (l : List ℕ). l ++ drop (length folder) name) (sym (test.0 yes))),
      λ below. test.1 (sym (ap (λ (l : List ℕ). take (length folder) l) below.1 ∙ take_at folder below.0 (length folder) refl)),
    )
