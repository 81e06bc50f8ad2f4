-- The bootstraps of a stage, one after another: which comes next, and that they run out.
use Rattle.std.specs.Prelude.{ℕ, ◌+◌, ◌-◌, Bool, true, false, List, [], Option, Some, None, length, option_map, slice_get, is_none, ◌||◌, ◌⊎◌, if◌then◌else◌}
use Rattle.std.specs.Option.{IfSome, IsSomeAnd, option_map_or}
use Rattle.std.proofs.Common.{◌≡◌, ◌<◌, ◌∙◌, inl, inr, refl, sym, ap, subst, arith}
use Rattle.std.proofs.lemmas.Option.{slice_get_within}
use Rattle.nuc_base.specs.declared.kinds.Exit.{Exit}
use Rattle.records.specs.declared.record.Origin.{Origin}
use denote.Bor.{Bor}
use Rattle.device.specs.Devices.{Device, Pending, device_view, pending_view}
use Rattle.device.specs.declared.device.Device as code
use Rattle.device.specs.declared.staged.Pending as code_pending
use Rattle.device.specs.Lawful.{begun, boot_ended, boots_of, goes_on, has_gone_back, next_boot, on_pending, one_ended}
use Rattle.deploy_state.specs.Fields.{has_failed, next_name}
use Rattle.components.specs.declared.kinds.Prepared.{Prepared}
use Rattle.histories.specs.Phases.{duty_in, duty_of}
use Rattle.session_boots.specs.Made.{AreBootsOf, AreMadeFor, AreStageBoots, IsBootOf, IsNextBoot, boot_items}
use Rattle.session_boots.specs.AfterBoot.{DeviceAfterBoot, steps_left}
use Rattle.session_boots.proofs.Duties.{HasBoots, HasNone, IsNextIn, duty_next, ended_so, has_some, next_in, made_next, no_next, none_next, pends}

-- ---- which comes next

pub some_name : (o : Option (List ℕ)) → is_none o ≡ false → (name : List ℕ) × (o ≡ Some name)
some_name None h = absurd cc
some_name (Some n) h = (n, refl)

pub none_name : (o : Option (List ℕ)) → is_none o ≡ true → o ≡ None
none_name None h = refl
none_name (Some n) h = absurd cc

some_origin : (P : Origin → Type 0) (x : Option Origin) → IsSomeAnd x P → (o : Origin) × (x ≡ Some o)
some_origin P None h = absurd h
some_origin P (Some o) h = (o, refl)

origin_of : (d : Device) (name : List ℕ) (made : List Prepared) (t : IsNextIn d name) → AreStageBoots d made → (o : Origin) × (d.origin ≡ Some o)
origin_of d name made t are =
    let here = subst (λ (x : Option Pending). IfSome x (λ q. AreMadeFor d q made)) t.pending are in
    some_origin (λ o. AreBootsOf o (boot_items d t.q) (boots_of t.q) made) d.origin here

next_made : (d : Device) (name : List ℕ) (made : List Prepared) (m : Prepared) (t : IsNextIn d name) → (duty_of d).next_bootstrap ≡ Some name
    → AreStageBoots d made →
    slice_get made t.q.ended ≡ Some m → IsNextBoot d m
next_made d name made m t is_next are there =
    let o = origin_of d name made t are in
    let of = subst (λ (x : Option Prepared). IsSomeAnd x (IsBootOf o.0 (duty_of d).boots name)) there (made_next d name made t o.0 o.1 are) in
    record { origin = o.0; of_device = o.1; name = name; next = is_next; of = of }

next_not_made : (d : Device) (name : List ℕ) (made : List Prepared) (t : IsNextIn d name) → AreStageBoots d made → slice_get made t.q.ended ≡ None → ⊥
next_not_made d name made t are none =
    let o = origin_of d name made t are in
    subst (λ (x : Option Prepared). IsSomeAnd x (IsBootOf o.0 (duty_of d).boots name)) none (made_next d name made t o.0 o.1 are)

-- what the code looks up stands at the place of the next one
place_told : (x : code.Device) (q : code_pending.Pending) (d : Device) (name : List ℕ) (t : IsNextIn d name) → device_view x ≡ d → x.pending ≡ Some q →
    t.q.ended ≡ q.ended
place_told x q d name t view is =
    let told = sym t.pending ∙ ap (λ (y : Device). y.pending) (sym view) ∙ ap (λ (o : Option code_pending.Pending). option_map pending_view o) is in
    ap (λ (o : Option Pending). option_map_or (λ (y : Pending). y.ended) o 0) told

module _ (x : code.Device) (q : code_pending.Pending) (d : Device) (made : List Prepared) (r : Option (Bor Prepared)) (view : device_view x ≡ d)
    (pending : x.pending ≡ Some q)
    (are : AreStageBoots d made) (some : is_none (duty_of d).next_bootstrap ≡ false)
    (there : option_map (λ (m : Bor Prepared). m.now) r ≡ slice_get made q.ended) where
  abbrev name_is : (name : List ℕ) × ((duty_of d).next_bootstrap ≡ Some name)
  name_is = some_name (duty_of d).next_bootstrap some

  abbrev next_is : IsNextIn d name_is.0
  next_is = next_in d name_is.0 name_is.1

  at_next : slice_get made next_is.q.ended ≡ option_map (λ (m : Bor Prepared). m.now) r
  at_next = ap (λ (n : ℕ). slice_get made n) (place_told x q d name_is.0 next_is view pending) ∙ sym there

  pub next_at : IfSome r (λ (s : Bor Prepared). IsNextBoot d s.now)
  next_at = by r at_next
    where
      by : (o : Option (Bor Prepared)) → slice_get made next_is.q.ended ≡ option_map (λ (m : Bor Prepared). m.now) o →
          IfSome o (λ (s : Bor Prepared). IsNextBoot d s.now)
      by None h = tt
      by (Some s) h = next_made d name_is.0 made s.now next_is name_is.1 are h

  pub none_at : r ≡ None → ⊥
  none_at none = next_not_made d name_is.0 made next_is are (at_next ∙ ap (λ (o : Option (Bor Prepared)). option_map (λ (m : Bor Prepared). m.now) o) none)

either : (b : Bool) (o : Option (List ℕ)) → (b || is_none o) ≡ is_none (if b then None else o)
either true o = refl
either false o = refl

neither : (b : Bool) (o : Option (List ℕ)) → o ≡ None → (b || is_none o) ≡ true
neither true o is = refl
neither false o is = ap (λ (x : Option (List ℕ)). is_none x) is

-- whether none comes next
pub through_is : (d : Device) → (has_failed d || is_none (next_name d)) ≡ is_none (duty_of d).next_bootstrap
through_is d = by d.pending
  where
    in_stage : (e : Device) (q : Pending) → HasBoots q ⊎ HasNone q → (q.boot_failed || is_none (next_boot q)) ≡ is_none (duty_in e q).next_bootstrap
    in_stage e q (inl has) = either q.boot_failed (next_boot q) ∙ sym (ap (λ (x : Option (List ℕ)). is_none x) (duty_next e q has))
    in_stage e q (inr none) =
        neither q.boot_failed (next_boot q) (none_next q none) ∙ sym (ap (λ (x : Option (List ℕ)). is_none x) (no_next e q none))

    by : (o : Option Pending) → (has_failed (pends d o) || is_none (next_name (pends d o))) ≡ is_none (duty_of (pends d o)).next_bootstrap
    by None = refl
    by (Some q) = in_stage (pends d (Some q)) q (has_some q)

-- ---- one after another

abbrev turned : Exit → Device → Device
turned exit d = on_pending (boot_ended exit) (on_pending begun d)

turned_is : (d e : Device) (exit : Exit) → DeviceAfterBoot d exit e → e ≡ turned exit d
turned_is d e exit t = t.2.2 ∙ ap (λ (x : Device). on_pending (boot_ended exit) x) t.1.2

none_made : (made : List Prepared) (x : Option Origin) (P : Origin → Type 0) → IsSomeAnd x P → IsSomeAnd x (λ o. AreBootsOf o [] [] made)
none_made made None P h = absurd h
none_made made (Some o) P h = λ k name there. absurd cc

made_ended : (d : Device) (made : List Prepared) (goes gone : Bool) (q : Pending) → AreMadeFor d q made → AreMadeFor d (ended_so goes gone q) made
made_ended d made true true q are = none_made made d.origin (λ o. AreBootsOf o (boot_items d q) (boots_of q) made) are
made_ended d made true false q are = are
made_ended d made false gone q are = are

pub made_on : (d e : Device) (exit : Exit) (made : List Prepared) → DeviceAfterBoot d exit e → AreStageBoots d made → AreStageBoots e made
made_on d e exit made t are = subst (λ (x : Device). AreStageBoots x made) (sym (turned_is d e exit t)) (by d.pending are)
  where
    by : (o : Option Pending) → AreStageBoots (pends d o) made → AreStageBoots (turned exit (pends d o)) made
    by None a = tt
    by (Some q) a = made_ended d made (goes_on exit) (has_gone_back (one_ended (begun q))) (begun q) a

abbrev left_by : Bool → ℕ → ℕ → ℕ
left_by failed all ended = if failed then 0 else 1 + (all - ended)

abbrev left_in : Pending → ℕ
left_in q = left_by q.boot_failed (length (boots_of q)) q.ended

one_less : (failed : Bool) (all ended : ℕ) → failed ≡ false → ended < all → left_by failed all (ended + 1) < left_by failed all ended
one_less failed all ended is lt = rw is (omega (arith, lt))

none_less : (failed : Bool) (all ended : ℕ) → failed ≡ false → ended < all → left_by failed 0 (ended + 1) < left_by failed all ended
none_less failed all ended is lt = rw is (omega (arith, lt))

no_more : (failed : Bool) (all ended : ℕ) → failed ≡ false → 0 < left_by failed all ended
no_more failed all ended is = rw is (omega arith)

fewer_ended : (goes gone : Bool) (q : Pending) → q.boot_failed ≡ false → q.ended < length (boots_of q) → left_in (ended_so goes gone q) < left_in q
fewer_ended true true q failed lt = none_less q.boot_failed (length (boots_of q)) q.ended failed lt
fewer_ended true false q failed lt = one_less q.boot_failed (length (boots_of q)) q.ended failed lt
fewer_ended false gone q failed lt = no_more q.boot_failed (length (boots_of q)) q.ended failed

pub fewer : (d e : Device) (exit : Exit) → DeviceAfterBoot d exit e → steps_left e < steps_left d
fewer d e exit t =
    let n = next_in d t.1.0 t.1.1 in
    subst (λ (x : Device). steps_left x < steps_left d) (sym (turned_is d e exit t))
    (by d.pending n.q n.pending n.failed (slice_get_within (boots_of n.q) n.q.ended t.1.0 n.next))
  where
    by : (o : Option Pending) (q : Pending) → o ≡ Some q → q.boot_failed ≡ false → q.ended < length (boots_of q) →
        steps_left (turned exit (pends d o)) < steps_left (pends d o)
    by None q same failed lt = absurd cc
    by (Some p) q same failed lt =
        let is : p ≡ q = cc in
        subst (λ (x : Pending). left_in (boot_ended exit (begun x)) < left_in x) (sym is)
        (fewer_ended (goes_on exit) (has_gone_back (one_ended (begun q))) (begun q) failed lt)
