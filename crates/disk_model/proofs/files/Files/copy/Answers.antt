use Rattle.std.proofs.Common.{◌≡◌, ◌+◌, List, [], ◌∷◌, ◌++◌, take, sym, ◌∙◌, ap, subst, rules, arith, get_or}
use Rattle.std.proofs.lemmas.List.{take_more, take_all}
use Rattle.disk_model.specs.Files.{contents}
use Rattle.disk_model.specs.declared.files.File.{File}
use Rattle.disk_model.proofs.Named.{AreSame, same_push, same_contents}
use Rattle.disk_model.proofs.files.Files.copy.Goals as goal

pub loop-file-preserved : goal.loop-file-preserved
loop-file-preserved c =
    let items = c.args.self.now.files.items in
    let file : File = c.file-item.result in
    let at = c.loop-file.file-index in
    let named : c.in_ok-copy.field-0 ≡ file.name = c.in_ok-copy.ensures in
    let copied : c.in_ok-to_vec.field-0.items ≡ file.bytes.items = search rules in
    let here : file ≡ get_or items at file = c.file-item.is ∙ ap (λ (l : List File). get_or l at file) c.deref-file-items.ensures.value in
    let more : take (at + 1) items ≡ take at items ++ file ∷ [] = take_more items at file (omega arith) ∙ ap (λ (f : File). take at items ++ f ∷ [])
    (sym here) in
    subst (λ (l : List File). AreSame l (take (at + 1) items)) (sym c.in_ok-push.ensures.items)
    (subst (λ (l : List File). AreSame (c.loop-file.files.items ++ record { name = c.in_ok-copy.field-0; bytes = c.in_ok-to_vec.field-0 } ∷ []) l) (sym more)
    (same_push c.loop-file.files.items (take at items) _ file c.loop-file.invariant named copied))

pub returns : goal.returns
returns c n =
    let items = c.args.self.now.files.items in
    same_contents c.loop-file.files.items (take c.loop-file.file-index items) c.loop-file.invariant n
    ∙ ap (λ (l : List File). contents l n) (take_all c.loop-file.file-index items (omega arith))
