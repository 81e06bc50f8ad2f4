use Rattle.std.proofs.Common.{◌≡◌, ◌∙◌, ℕ, List, Option, refl, ap}
use Rattle.store_root.specs.Kinds.{first_some, unknown_of}
use Rattle.store_root.specs.declared.tally.UnknownRecord.{UnknownRecord}
use Rattle.store_root.proofs.tally.count_entry.Goals as goal

pub returns-in-Ok-clause-told : goal.returns-in-Ok-clause-told
returns-in-Ok-clause-told g c = λ told payload place.
    let got = c.in-Ok.ensures.told told payload place in
    let read = c.unknown_in.ensures ∙ ap (λ (l : List ℕ). unknown_of l c.args.at) (c.as_slice.ensures ∙ got.0) in
    (got.1, refl, c.first_of-tally.ensures ∙ ap (λ (u : Option UnknownRecord). first_some c.args.tally.now.unknown u) read)
