use Rattle.std.proofs.Common.{◌≡◌, [], ◌∷◌, ◌++◌, List, length, sym, ◌∙◌, ap, subst, arith, rules, length-append}
use Rattle.disk_model.specs.Files.{contents}
use Rattle.disk_model.specs.Places.{NoneBefore, IsFirst}
use Rattle.disk_model.specs.declared.files.File.{File}
use Rattle.disk_model.proofs.Named.{contents-push, first_push}
use Rattle.disk_model.proofs.files.place_of.Goals as goal

pub returns-in_ok-push-clause-same : goal.returns-in_ok-push-clause-same
returns-in_ok-push-clause-same c n =
    let file : File = record { name = c.in_ok-from_str.field-0; bytes = c.new.result } in
    ap (λ (l : List File). contents l n) c.in_ok-push.ensures.items ∙ contents-push c.args.files.now.items file n c.new.ensures.items

pub returns-in_ok-push-clause-found : goal.returns-in_ok-push-clause-found
returns-in_ok-push-clause-found c =
    let file : File = record { name = c.in_ok-from_str.field-0; bytes = c.new.result } in
    let files = c.args.files.now.items in
    let named : file.name ≡ c.args.name.now = search rules in
    let end : c.find_place-i.result ≡ length files = omega arith in
    let none : NoneBefore c.args.name.now c.find_place-i.result files = subst (λ (l : List File). NoneBefore c.args.name.now c.find_place-i.result l)
    c.deref.ensures.value c.find_place-i.ensures.before in
    let first : IsFirst c.args.name.now c.find_place-i.result (files ++ file ∷ []) = first_push c.args.name.now c.find_place-i.result files file none end
    named in (
      subst (λ (l : List File). IsFirst c.args.name.now c.find_place-i.result l) (sym c.in_ok-push.ensures.items) first,
      omega (arith, ap length c.in_ok-push.ensures.items, length-append files (file ∷ []), end),
    )
