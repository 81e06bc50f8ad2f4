use Rattle.std.proofs.Common.{◌≡◌, ◌<◌, ◌≤◌, ℕ, List, length, take, sym, subst, ◌∙◌, arith, IsTrue}
use Rattle.std.specs.Prelude.{Bool}
use Rattle.std.specs.List.{Contains}
use Rattle.std.specs.Ordering.{nat_cmp}
use Rattle.std.specs.Cmp.Lexicographic.{slice_cmp}
use Rattle.std.specs.BTreeSet.{contains}
use Rattle.std.proofs.lemmas.List.{take_all}
use Rattle.disk_model.specs.Moments.{weaker}
use Rattle.device.specs.Devices.{device_view}
use Rattle.artifact_store.specs.Swept.{items_of, IsStray, IsUnneeded}
use Rattle.artifact_store.proofs.Sparing.{still_safe, swept_safe}
use Rattle.artifact_store.proofs.Sweeping.{told_spares, spares_told, stray_of, still_less, gone_next, all_swept}
use Rattle.artifact_store.proofs.Walking.{next_is, next_in}
use Rattle.artifact_store.proofs.sweeps.sweep.Goals as goal

pub returns-in_err-sweep_file-clause-moments : goal.returns-in_err-sweep_file-clause-moments
returns-in_err-sweep_file-clause-moments g c =
    let so = c.loop-file.invariant in
    let items = items_of (device_view c.args.device.now) in
    let all : List (List ℕ) = c.in_ok-listed.listed in
    let xs : List (List ℕ) = c.as_slice-file-items.result.now in
    let i = c.loop-file.file-index in
    let x : List ℕ = c.file-item.result in
    let below : i < length xs = omega arith in
    let has : Contains all x = next_in all i x _ (next_is xs all i x c.as_slice-file-items.ensures below c.file-item.is) in
    let needed : Bool = contains (slice_cmp nat_cmp) c.in_ok-needed.needed x in
    let stray : IsTrue g.D.Disk.is_modelled → (name : List ℕ) → IsUnneeded needed x name → IsStray items name =
    λ told. stray_of items all (g.D.Disk.seen c.args.disk.now) x needed (c.in_ok-listed.ensures.told told) has (c.in_ok-needed.ensures x) in
    told_spares g.met.D.Disk.laws (IsUnneeded needed x) (IsStray items) c.args.disk.now c.loop-file.disk c.sweep_file.new.disk stray so.goes
    c.sweep_file.ensures.moments

pub returns-in_err-sweep_file-clause-others : goal.returns-in_err-sweep_file-clause-others
returns-in_err-sweep_file-clause-others g c = λ told.
    let so = c.loop-file.invariant in
    let items = items_of (device_view c.args.device.now) in
    let all : List (List ℕ) = c.in_ok-listed.listed in
    let xs : List (List ℕ) = c.as_slice-file-items.result.now in
    let i = c.loop-file.file-index in
    let x : List ℕ = c.file-item.result in
    let below : i < length xs = omega arith in
    let has : Contains all x = next_in all i x _ (next_is xs all i x c.as_slice-file-items.ensures below c.file-item.is) in
    let needed : Bool = contains (slice_cmp nat_cmp) c.in_ok-needed.needed x in
    let stray : IsTrue g.D.Disk.is_modelled → (name : List ℕ) → IsUnneeded needed x name → IsStray items name =
    λ told. stray_of items all (g.D.Disk.seen c.args.disk.now) x needed (c.in_ok-listed.ensures.told told) has (c.in_ok-needed.ensures x) in
    spares_told (IsTrue g.D.Disk.is_modelled) (IsUnneeded needed x) (IsStray items) (g.D.Disk.seen c.args.disk.now) (g.D.Disk.seen c.loop-file.disk)
    (g.D.Disk.seen c.sweep_file.new.disk) told stray (so.others told) (c.sweep_file.ensures.others told)

pub loop-file-preserved : goal.loop-file-preserved
loop-file-preserved g c =
    let so = c.loop-file.invariant in
    let items = items_of (device_view c.args.device.now) in
    let all : List (List ℕ) = c.in_ok-listed.listed in
    let xs : List (List ℕ) = c.as_slice-file-items.result.now in
    let i = c.loop-file.file-index in
    let x : List ℕ = c.file-item.result in
    let below : i < length xs = omega arith in
    let has : Contains all x = next_in all i x _ (next_is xs all i x c.as_slice-file-items.ensures below c.file-item.is) in
    let needed : Bool = contains (slice_cmp nat_cmp) c.in_ok-needed.needed x in
    let stray : IsTrue g.D.Disk.is_modelled → (name : List ℕ) → IsUnneeded needed x name → IsStray items name =
    λ told. stray_of items all (g.D.Disk.seen c.args.disk.now) x needed (c.in_ok-listed.ensures.told told) has (c.in_ok-needed.ensures x) in
    record {
      goes = told_spares g.met.D.Disk.laws (IsUnneeded needed x) (IsStray items) c.args.disk.now c.loop-file.disk c.sweep_file.new.disk stray so.goes
          c.sweep_file.ensures.moments;
      others = λ told. spares_told (IsTrue g.D.Disk.is_modelled) (IsUnneeded needed x) (IsStray items) (g.D.Disk.seen c.args.disk.now)
          (g.D.Disk.seen c.loop-file.disk) (g.D.Disk.seen c.sweep_file.new.disk) told stray (so.others told) (c.sweep_file.ensures.others told);
      faults = c.in_ok-sweep_file.ensures.quiet ∙ so.faults;
      gone = λ told.
          gone_next items xs i x needed (g.D.Disk.seen c.loop-file.disk) (g.D.Disk.seen c.sweep_file.new.disk) below c.file-item.is (c.in_ok-needed.ensures x)
          (c.in_ok-sweep_file.ensures.gone told) (c.sweep_file.ensures.others told) (so.gone told);
      less = λ told f some. so.less told f (still_less needed x (g.D.Disk.seen c.loop-file.disk) (g.D.Disk.seen c.sweep_file.new.disk)
          (c.in_ok-sweep_file.ensures.gone told) (c.sweep_file.ensures.others told) f some);
    }

pub returns-clause-swept : goal.returns-clause-swept
returns-clause-swept g c = λ told.
    let so = c.loop-file.invariant in
    let items = items_of (device_view c.args.device.now) in
    let all : List (List ℕ) = c.in_ok-listed.listed in
    let xs : List (List ℕ) = c.as_slice-file-items.result.now in
    let past : length xs ≤ c.loop-file.file-index = omega arith in
    let whole : take c.loop-file.file-index xs ≡ all = take_all c.loop-file.file-index xs past ∙ c.as_slice-file-items.ensures in
    all_swept items all (g.D.Disk.seen c.args.disk.now) (g.D.Disk.seen c.loop-file.disk) (c.in_ok-listed.ensures.told told) (so.less told)
    (λ f has some. so.gone told f (subst (λ (ys : List (List ℕ)). Contains ys f) (sym whole) has) some)

pub returns-in_err-needed-clause-safe : goal.returns-in_err-needed-clause-safe
returns-in_err-needed-clause-safe g c = λ holds. still_safe g.met.D.Disk.laws (device_view c.args.device.now) c.args.disk.now holds

pub returns-in_err-listed-clause-safe : goal.returns-in_err-listed-clause-safe
returns-in_err-listed-clause-safe g c = λ holds. weaker g.met.D.Disk.laws c.args.disk.now c.list.new.self _ _ holds c.list.ensures.moments

pub returns-in_err-sweep_file-clause-safe : goal.returns-in_err-sweep_file-clause-safe
returns-in_err-sweep_file-clause-safe g c = λ holds. swept_safe g.met.D.Disk.laws (device_view c.args.device.now) c.args.disk.now c.sweep_file.new.disk
    (returns-in_err-sweep_file-clause-moments g c) holds

pub returns-clause-safe : goal.returns-clause-safe
returns-clause-safe g c = λ holds. swept_safe g.met.D.Disk.laws (device_view c.args.device.now) c.args.disk.now c.loop-file.disk c.loop-file.invariant.goes
    holds
