use Rattle.std.proofs.Common.{◌≡◌, List, ℕ, take, [], refl, sym, ◌∙◌, ap, subst, arith}
use Rattle.std.proofs.lemmas.List.{take_all}
use Rattle.disk_model.specs.Files.{contents}
use Rattle.disk_model.specs.Places.{NoneBefore, IsFirst}
use Rattle.disk_model.specs.declared.files.File.{File}
use Rattle.disk_model.proofs.Named.{changed_after, put_kept, none_holds}
use Rattle.disk_model.proofs.files.Files.cut.Goals as goal

pub returns-then-place-len : goal.returns-then-place-len
returns-then-place-len c n =
    let name = c.args.name.now in
    let files = c.args.self.now.files.items in
    let first : IsFirst name c.find_place-place.result files = subst (λ (l : List File). IsFirst name c.find_place-place.result l) c.deref.ensures.value
    (c.find_place-place.ensures.found (omega arith)) in
    changed_after name c.find_place-place.result (λ old. take c.args.len old) files files c.cut_in.new.files.items (λ m. refl) first c.cut_in.ensures n

pub returns-else-place-len : goal.returns-else-place-len
returns-else-place-len c n =
    let name = c.args.name.now in
    let files = c.args.self.now.files.items in
    let none : NoneBefore name c.find_place-place.result files = subst (λ (l : List File). NoneBefore name c.find_place-place.result l) c.deref.ensures.value
    c.find_place-place.ensures.before in
    let empty : contents files name ≡ [] = none_holds name c.find_place-place.result files (omega arith) none in
    sym (put_kept name (take c.args.len (contents files name)) (contents files)
    (ap (λ (l : List ℕ). take c.args.len l) empty ∙ take_all c.args.len [] (omega arith) ∙ sym empty) n)
