use Rattle.std.proofs.Common.{ap, sym, ◌∙◌, option_map}
use Rattle.std.proofs.lemmas.Option.{get_or_from_slice_get}
use Rattle.records.specs.declared.record.Group.{Group}
use denote.Bor.{Bor}
use Rattle.status_text.proofs.places.group_at.Goals as goal

pub returns : goal.returns
returns c =
    sym (get_or_from_slice_get c.args.groups.now.list c.args.at c.unwrap.result.now c.unwrap.result.now
    (sym c.nth.ensures ∙ ap (option_map (λ (g : Bor Group). g.now)) c.unwrap.ensures))
