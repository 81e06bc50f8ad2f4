use Rattle.std.proofs.Common.{rules, ◌≡◌, ◌+◌, ◌<◌, ℕ, List, ◌∷◌, length, drop, sym, ap, subst, ◌∙◌, arith}
use Rattle.sha2.specs.Sha256.{sha256}
use Rattle.nuc_base.specs.Tables.{each}
use Rattle.disk_model.specs.Moments.{then_same}
use Rattle.records.specs.Stored.{item_view}
use Rattle.records.specs.declared.record.Held.{Held}
use Rattle.artifact_store.specs.Audited.{AuditOutcome, held_line}
use Rattle.artifact_store.specs.Paths.{path}
use Rattle.artifact_store.proofs.Auditing.{held_next, hashed_file}
use Rattle.artifact_store.proofs.Walking.{next_is}
use Rattle.artifact_store.proofs.audits.audit_item.Goals as goal

pub loop-held-preserved : goal.loop-held-preserved
loop-held-preserved g c =
    let so = c.loop-held.invariant in
    let all : List Held = c.args.item.now.artifacts in
    let xs : List Held = c.as_slice-held-items.result.now in
    let i = c.loop-held.held-index in
    let x : Held = c.held-item.result in
    let below : i < length xs = omega arith in
    let next : drop i all ≡ x ∷ drop (i + 1) all = next_is xs all i x c.as_slice-held-items.ensures below c.held-item.is in
    let item = item_view c.args.item.now in
    let image = g.D.Disk.seen c.args.disk.now in
    let same : c.in_ok-digest.digest ≡ x.digest = search rules in
    record {
      goes = then_same g.met.D.Disk.laws c.args.disk.now c.loop-held.disk c.digest_of.new.disk _ so.goes c.digest_of.ensures.moments;
      seen = c.digest_of.ensures.seen ∙ so.seen;
      faults = c.in_ok-digest.ensures.quiet ∙ so.faults;
      long = c.digest_of.ensures.long;
      rest = λ told r said.
          let holds = hashed_file (g.D.Disk.seen c.loop-held.disk) c.as_str.result.now (path item.name item.version x.file) c.in_ok-digest.digest x.digest
          (c.as_str.ensures ∙ c.in_ok-file.ensures) (c.in_ok-digest.ensures.told told) same in
          so.rest told r
          (subst (λ (ys : List Held). AuditOutcome (each (held_line image item) ys) r) (sym next)
          (held_next image item x (drop (i + 1) all) r (ap (λ (m : List ℕ → List ℕ). sha256 (m (path item.name item.version x.file))) (sym so.seen) ∙ holds)
          said));
    }
