use Rattle.std.proofs.Common.{◌≡◌, ◌<◌, List, None, length, sym, subst, arith}
use Rattle.std.specs.List.{IsDistinct}
use Rattle.std.specs.Map.{lookup}
use Rattle.std.specs.Str.{bytes_eq}
use Rattle.device.specs.Sound.{ids}
use Rattle.device.proofs.Indexing.{Entry}
use Rattle.device.proofs.Sparing.{next_fresh}
use Rattle.device.proofs.spare.copy_closed.Goals as goal

pub add-requires : goal.add-requires
add-requires c =
    let es = c.as_slice-entries.result.now in
    let i = c.loop-entry.entry-index in
    let e = c.entry-item.result in
    let below : i < length es = omega arith in
    let differ = subst (λ (l : List Entry). IsDistinct bytes_eq (ids l)) (sym c.as_slice-entries.ensures) c.requires in
    record { fresh = subst (λ (l : List Entry). lookup (bytes_eq e.0) l ≡ None) (sym c.loop-entry.invariant) (next_fresh es i e below c.entry-item.is differ) }
