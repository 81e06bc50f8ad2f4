use Rattle.std.proofs.Common.{◌≡◌, ◌∷◌, ◌++◌, [], List, Some, take, sym, ap, ◌∙◌}
use Rattle.std.specs.Prelude.{slice_get, option_map}
use Rattle.std.proofs.lemmas.List.{take_more}
use Rattle.records.specs.declared.record.Group.{Group}
use Rattle.device.specs.Grouped.{put_group}
use Rattle.device.proofs.Sparing.{got, next_joins}
use Rattle.device.proofs.spare.copy_groups.Goals as goal

pub loop-at-preserved : goal.loop-at-preserved
loop-at-preserved c =
    let gs = c.args.groups.now.list in
    let i = c.loop-at.at in
    let g = c.in_ok-group.group in
    let there : slice_get gs i ≡ Some g = sym c.nth.ensures ∙ ap (option_map (λ x. x.now)) c.unwrap.ensures ∙ ap (λ (x : Group). Some x)
    (sym c.in_ok-group.ensures) in
    let here = got gs i g there in
    c.in_ok-join.ensures ∙ ap (λ (l : List Group). put_group l g) c.loop-at.invariant ∙ next_joins gs i g here.0 here.1 c.requires ∙ ap
    (λ (x : Group). take i gs ++ x ∷ []) here.1 ∙ sym (take_more gs i g here.0)
