use Rattle.std.proofs.Common.{◌∙◌, ℕ, List, subst}
use Rattle.checkpoint_log.specs.Laws.{slots_laws}
use Rattle.store_root.specs.Roots.{NamedBy}
use Rattle.store_root.proofs.First.{has_first, first_at, answers}
use Rattle.store_root.proofs.root.first_root.Goals as goal

pub entry-requires : goal.entry-requires
entry-requires g c = record {
  place = λ told.
      let on = c.requires.stands told in
      let f = has_first on.0 on.2 in
      (f.first, first_at c.args.log.now (g.D.Disk.seen c.args.disk.now) on.0 on.1 f);
}

pub returns-in-Ok-root_in_payload-clause-told : goal.returns-in-Ok-root_in_payload-clause-told
returns-in-Ok-root_in_payload-clause-told g c = λ told.
    let image = g.D.Disk.seen c.args.disk.now in
    let on = c.requires.stands told in
    let f = has_first on.0 on.2 in
    let read = c.in-Ok.ensures.told told f.first (first_at c.args.log.now image on.0 on.1 f) in
    let named = subst (λ (p : List ℕ). NamedBy p c.in-Ok-root_in_payload.root) (c.as_slice.ensures ∙ read.0) c.in-Ok-root_in_payload.ensures in
    answers image on.0 (slots_laws.holds c.args.log.now image on.0 on.1) f c.in-Ok-root_in_payload.root named
