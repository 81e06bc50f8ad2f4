use Rattle.std.proofs.Common.{◌∙◌, Bool, List, ap, length, map}
use Rattle.std.proofs.lemmas.List.{length-map}
use Rattle.components.specs.Changes.{is_replacing}
use Rattle.components.specs.Flags.{with_flags}
use Rattle.components.specs.Components.{ComponentState}
use Rattle.components.proofs.Meets.{flags_mapped}
use Rattle.supervisor.proofs.merging.flag_replacing.Goals as goal

pub returns-clause-flagged : goal.returns-clause-flagged
returns-clause-flagged c =
    let ps : List ComponentState = c.args.slots.now.items in
    let e = c.flag_each.ensures.flags ∙ ap (λ (qs : List ComponentState). map is_replacing qs) c.as_slice.ensures.value in
    ap (λ (bs : List Bool). with_flags ps bs) e ∙ flags_mapped is_replacing ps

pub returns-clause-many : goal.returns-clause-many
returns-clause-many c =
    let e = c.flag_each.ensures.flags ∙ ap (λ (qs : List ComponentState). map is_replacing qs) c.as_slice.ensures.value in
    ap length e ∙ length-map c.args.slots.now.items is_replacing
