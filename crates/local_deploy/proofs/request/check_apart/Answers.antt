use Rattle.std.proofs.Common.{◌≡◌, ◌+◌, ◌∷◌, List, drop, inl, inr, sym, ap, subst, ◌∙◌, true, false}
use Rattle.std.specs.List.{Contains}
use Rattle.std.proofs.lemmas.List.{drop_more}
use Rattle.local_deploy.specs.Lines.{names_apart}
use Rattle.local_deploy.specs.declared.fault.LocalFault.TheVariants.{Both}
use Rattle.local_deploy.proofs.Apart.{Checked, Merged, checked_more, checked_fault}
use Rattle.local_deploy.proofs.Once.{any_in, in_any}
use Rattle.local_deploy.proofs.request.check_apart.Goals as goal

pub returns-then-has_name : goal.returns-then-has_name
returns-then-has_name c =
    let rs : List Merged = c.args.merge.now in
    let i = c.loop-name.name-index in
    let x : Merged = c.loop-name-item.result in
    let lines = names_apart c.args.remove.now in
    let next : drop i rs ≡ x ∷ drop (i + 1) rs = drop_more rs i x c.loop-name-test.true ∙ ap (λ (y : Merged). y ∷ drop (i + 1) rs) (sym c.loop-name-item.is) in
    let has : Contains c.args.remove.now x.0 = any_in x.0 c.args.remove.now (sym c.has_name.ensures ∙ c.if-has_name.true) in
    checked_fault lines rs (drop (i + 1) rs) x (Both c.in_ok-copy.field-0) (subst (Checked lines rs) next c.loop-name.invariant)
    (inr (inl (λ apart. apart has, ap Both c.in_ok-copy.ensures)))

pub loop-name-preserved : goal.loop-name-preserved
loop-name-preserved c =
    let rs : List Merged = c.args.merge.now in
    let i = c.loop-name.name-index in
    let x : Merged = c.loop-name-item.result in
    let lines = names_apart c.args.remove.now in
    let next : drop i rs ≡ x ∷ drop (i + 1) rs = drop_more rs i x c.loop-name-test.true ∙ ap (λ (y : Merged). y ∷ drop (i + 1) rs) (sym c.loop-name-item.is) in
    checked_more lines rs (drop (i + 1) rs) x (subst (Checked lines rs) next c.loop-name.invariant)
    ((λ has. (let both : true ≡ false = sym (in_any x.0 c.args.remove.now has) ∙ sym c.has_name.ensures ∙ c.if-has_name.false in cc)), tt)
