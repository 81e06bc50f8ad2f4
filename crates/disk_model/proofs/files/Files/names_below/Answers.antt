use Rattle.std.proofs.Common.{◌⊎◌, ◌≡◌, ◌+◌, List, ℕ, [], ◌∷◌, ◌++◌, take, ⊎_elim, sym, ◌∙◌, ap, subst, arith, get_or}
use Rattle.std.specs.List.{Contains}
use Rattle.std.proofs.lemmas.List.{take_more, take_all}
use Rattle.std.proofs.lemmas.List.Elements.{Contains-push, Contains-push_cases, Contains-append_left}
use Rattle.std.proofs.lemmas.Bool.{false≢true}
use Rattle.disk_model.specs.Files.{image_of}
use Rattle.disk_model.specs.Listing.{IsBelow}
use Rattle.disk_model.specs.declared.files.File.{File}
use Rattle.disk_model.proofs.Named.{IsNamed, named_push, named_of}
use Rattle.disk_model.proofs.files.Files.names_below.Goals as goal
use Rattle.disk_model.proofs.files.Files.names_below.Goals.{then-is_listed+in_ok-copy+in_ok-push, else-is_listed}

pub loop-file-preserved : goal.loop-file-preserved
loop-file-preserved c =
    let items = c.args.self.now.files.items in
    let image = image_of c.args.self.now in
    let at = c.loop-file.file-index in
    let file : File = c.file-item.result in
    let here : file ≡ get_or items at file = c.file-item.is ∙ ap (λ (l : List File). get_or l at file) c.deref-file-items.ensures.value in
    let more : take (at + 1) items ≡ take at items ++ file ∷ [] = take_more items at file (omega arith) ∙ ap (λ (f : File). take at items ++ f ∷ [])
    (sym here) in
    let step : (n : List ℕ) → IsNamed n (take (at + 1) items) → IsNamed n (take at items) ⊎ (file.name ≡ n) = λ n named. named_push n (take at items) file
    (subst (λ (l : List File). IsNamed n l) more named) in
    let name : c.as_str.result.now ≡ file.name = c.as_str.ensures in
    let test = c.is_listed.ensures in
    elim c.if-is_listed.branch [
      | then-is_listed+in_ok-copy+in_ok-push w ↦
          let listed = test.0 w.if-is_listed.true in
          let pushed : c.if-is_listed.names.items ≡ c.loop-file.names.items ++ file.name ∷ [] =
          ap (λ v. v.items) w.names-is ∙ w.in_ok-push.ensures.items ∙ ap (λ (l : List ℕ). c.loop-file.names.items ++ l ∷ []) w.in_ok-copy.ensures in
          record {
            sound = λ n there. ⊎_elim (λ was. c.loop-file.invariant.sound n was)
                (λ is. (
                  subst (λ (l : List ℕ). IsBelow c.args.folder.now l) (name ∙ is) listed.0,
                  λ none. listed.1 (ap image (name ∙ is) ∙ none),
                ))
                (Contains-push_cases c.loop-file.names.items file.name n (subst (λ (l : List (List ℕ)). Contains l n) pushed there));
            complete = λ n named below some. subst (λ (l : List (List ℕ)). Contains l n) (sym pushed)
                (⊎_elim (λ was. Contains-append_left c.loop-file.names.items (file.name ∷ []) n (c.loop-file.invariant.complete n was below some))
                (λ is. subst (λ (l : List ℕ). Contains (c.loop-file.names.items ++ l ∷ []) n) (sym is) (Contains-push c.loop-file.names.items n))
                (step n named));
          }
      | else-is_listed w ↦
          let same : c.if-is_listed.names.items ≡ c.loop-file.names.items = ap (λ v. v.items) w.names-is in
          record {
            sound = λ n there. c.loop-file.invariant.sound n (subst (λ (l : List (List ℕ)). Contains l n) same there);
            complete = λ n named below some. subst (λ (l : List (List ℕ)). Contains l n) (sym same)
                (⊎_elim (λ was. c.loop-file.invariant.complete n was below some)
                (λ is. absurd (false≢true (sym w.if-is_listed.false ∙ test.1 (
                  subst (λ (l : List ℕ). IsBelow c.args.folder.now l) (sym (name ∙ is)) below,
                  λ none. some (sym (ap image (name ∙ is)) ∙ none),
                ))))
                (step n named));
          }
    ]

pub returns : goal.returns
returns c n =
    let items = c.args.self.now.files.items in (
      λ there. c.loop-file.invariant.sound n there,
      λ listed. c.loop-file.invariant.complete n
          (subst (λ (l : List File). IsNamed n l) (sym (take_all c.loop-file.file-index items (omega arith))) (named_of n items listed.1)) listed.0 listed.1,
    )
